-- What a command is answered: its messages were handed to the session, and of the replies to them those to the command were made.
use Rattle.std.proofs.Common.{◌≡◌, ◌≢◌, ℕ, ◌+◌, ◌≤◌, ◌^◌, Bool, true, false, if◌then◌else◌, List, [], ◌∷◌, ◌++◌, inl, Option, Some, None, Result, Ok, Err, OnOk, OnErr, refl, sym, ap, subst, ◌∙◌, append-nil, length, length-append, take, arith}
use Rattle.std.specs.List.{AllByRecursion}
use Rattle.pg_messages.specs.Fields.{count32}
use Rattle.pg_messages.specs.declared.frontend.PgWireFrontendMessage.{PgWireFrontendMessage}
use Rattle.pg_messages.specs.declared.backend.PgWireBackendMessage.{PgWireBackendMessage}
use Rattle.pg_messages.specs.declared.backend.PgWireBackendMessage.TheVariants as server
use Rattle.pg_messages.specs.Frames.{IsFrame, IsUnfinished}
use Rattle.pg_messages.specs.Replies.{is_one_byte, reply_type, reply_body, reply_bytes, replies_bytes}
use Rattle.pg_client.specs.declared.desk.DeskCall.{DeskCall}
use Rattle.pg_client.specs.declared.desk.DeskCall.TheVariants as desk
use Rattle.pg_client.specs.declared.ends.EndKind.{EndKind}
use Rattle.pg_client.specs.declared.ends.EndKind.TheVariants as end
use Rattle.pg_client.specs.Answer.{Answer, Table, Next, Stops, answers_of, conversation, BeginsWith}
use Rattle.conversation_runs.specs.Messages.{next_of}
use Rattle.conversation_runs.specs.Session.{SessionValue, ChangesUnsent}
use Rattle.conversation_runs.specs.Streams.{GrowsBy, GrowsByFront}
use Rattle.conversation_runs.specs.Steps.{IsServed, IsCutOff, IsStopped, WasFed, Stands}
use Rattle.conversation_runs.proofs.Flowing.{Flows-sent, Flows-wait, cut_at_once}
use Rattle.conversation_runs.proofs.Stepping.{serves_flow, cut_served}
use Rattle.cursor_commands.specs.declared.command.CursorCommand.{CursorCommand}
use Rattle.cursor_commands.specs.Cursors.{Replies, messages_of, replies_of}
use Rattle.cursor_commands.specs.Rewriting.{FitsLen, Becomes}
use Rattle.cursor_table.specs.CursorTable.{cursor_table, asked_command}
use Rattle.cursor_session.specs.Asking.{AreAnswered, AreCutOff, AreStopped}
use Rattle.cursor_session.specs.Fronts.{SendsReplies, SendsFront, told_by}
use Rattle.cursor_session.proofs.Alike.{by_table}
use Rattle.cursor_session.proofs.Rows.{one_command}

-- ---- the lengths of replies within 2 GiB

body_of_one : (m : PgWireBackendMessage) → is_one_byte m ≡ true → reply_body m ≡ []
body_of_one (server.SslResponse m) one = refl
body_of_one (server.GssEncResponse m) one = refl
body_of_one _ one = absurd (let e = one in cc)

fits_by : (m : PgWireBackendMessage) (one : Bool) → is_one_byte m ≡ one → length (reply_bytes m) ≤ 2 ^ 31 → FitsLen m
fits_by m true one le = omega (arith, ap length (body_of_one m one))
fits_by m false one le =
    let n = 4 + length (reply_body m) in
    let len : length (reply_bytes m) ≡ length (reply_type m ∷ (count32 n ++ reply_body m)) =
    ap (λ b. length (reply_type m ∷ (if b then [] else count32 n ++ reply_body m))) one in
    omega (arith, le, len, length-append (count32 n) (reply_body m))

pub fits_all : (replies : Replies) → length (replies_bytes replies) ≤ 2 ^ 31 → AllByRecursion FitsLen replies
fits_all [] le = tt
fits_all (m ∷ replies) le =
    let both = length-append (reply_bytes m) (replies_bytes replies) in
    (fits_by m (is_one_byte m) refl (omega (arith, le, both)), fits_all replies (omega (arith, le, both)))

-- ---- the replies that are made and sent

-- what waits was made of the replies that waited
made_of : (command : CursorCommand) (old new : List ℕ) → length old ≤ 2 ^ 31 → Becomes (replies_of command) old new
    → (replies : Replies) → old ≡ replies_bytes replies → new ≡ replies_bytes (replies_of command replies)
made_of command old new le becomes replies e = becomes replies (fits_all replies (subst (λ l. length l ≤ 2 ^ 31) e le)) e

-- what waits in the end was made of what waited
pub becomes_by : (command : CursorCommand) (old told mid behind bytes : List ℕ) (kept : ℕ) → told ≡ old → bytes ≡ behind
    → Becomes (replies_of command) told (take kept told ++ behind) → mid ≡ take kept old ++ bytes → Becomes (replies_of command) old mid
becomes_by command old told mid behind bytes kept same copy becomes put =
    subst (λ l. Becomes (replies_of command) old l) (sym (put ∙ ap (λ l. take kept old ++ l) copy))
    (subst (λ l. Becomes (replies_of command) l (take kept l ++ behind)) same becomes)

pub sends_on_ok : {A E : Type 0} (r : Result A E) (command : CursorCommand) (old new : List ℕ) (w v : Option (List ℕ))
    → length old ≤ 2 ^ 31 → Becomes (replies_of command) old new → OnOk r (GrowsBy w v new) → OnOk r (SendsReplies command old w v)
sends_on_ok (Ok u) command old new w v le becomes grown = λ replies e.
    subst (λ l. GrowsBy w v l) (made_of command old new le becomes replies e) grown
sends_on_ok (Err e) command old new w v le becomes grown = tt

pub sends_on_err : {A E : Type 0} (r : Result A E) (command : CursorCommand) (old new : List ℕ) (w v : Option (List ℕ))
    → length old ≤ 2 ^ 31 → Becomes (replies_of command) old new → OnErr r (GrowsByFront w v new) → OnErr r (SendsFront command old w v)
sends_on_err (Ok u) command old new w v le becomes grown = tt
sends_on_err (Err e) command old new w v le becomes grown = λ replies e.
    subst (λ l. GrowsByFront w v l) (made_of command old new le becomes replies e) grown

pub sends_none : (command : CursorCommand) (old : List ℕ) (w : Option (List ℕ)) → SendsFront command old w w
sends_none command old w replies e = cut_at_once w (replies_bytes (replies_of command replies))

pub changes_then : {H S : Type 0} (a b c : SessionValue H S) → ChangesUnsent a b → ChangesUnsent b c → ChangesUnsent a c
changes_then a b c x y = record {
  state = y.state ∙ x.state;
  handlers = y.handlers ∙ x.handlers;
  rest = y.rest ∙ x.rest;
  opened = y.opened ∙ x.opened;
}

-- ---- the answer to the command

-- the answer to a command by that to its messages
abbrev row_of : {T : Type 0} → CursorCommand → Answer T → Answer T
row_of command a = record { replies = replies_of command a.replies; calls = a.calls; next = a.next }

pub short_of_none : (awaiting : Bool) → IsUnfinished awaiting []
short_of_none true = inl (omega arith)
short_of_none false = inl (omega arith)

-- where the conversation stands behind the messages
stands_told : {T : Type 0} (awaits : T → Bool) (kind : Option EndKind) (t : T) → kind ≢ Some end.InputEnd
    → Stands awaits (next_of kind t) t [] (told_by kind)
stands_told awaits None t apart = (refl, short_of_none (awaits t))
stands_told awaits (Some kind) t apart = (λ e. apart (ap Some e), λ more. refl)

module _ {T : Type 0} (ready awaits : T → Bool) (table : Table T) (s : T) (is_ready : ready s ≡ true) (is_typed : awaits s ≡ false)
    (command : CursorCommand) (frame : List ℕ) (m : PgWireFrontendMessage) (carries : IsFrame false frame m)
    (asked : asked_command m ≡ Some command) (w : Option (List ℕ)) (k l : List DeskCall) where
  -- the command was answered, and the replies to it wait
  command_served : (o : List ℕ) (next : Next T) → (x : AreAnswered table s (messages_of command) [] o k l next)
      → IsServed (by_table awaits (cursor_table ready table)) s frame [] next w w [] (replies_bytes (replies_of command x.replies)) k l
  command_served o next x =
      let bytes = replies_bytes (replies_of command x.replies) in
      record {
        bytes = bytes;
        called = x.made;
        fed = λ more. record {
          messages = m ∷ [];
          replies = replies_of command x.replies;
          division = (frame, more, refl, subst (λ a. IsFrame a frame m) (sym is_typed) carries, refl);
          answered = one_command table ready (answers_of x.made) s m command is_ready asked ∙ ap (λ a. row_of command a) x.answered;
          replied = refl;
        };
        flows = Flows-wait w [] bytes bytes refl;
        grown = x.grown;
      }

  -- all of the replies were sent
  pub exchanged : (v : Option (List ℕ)) (o : List ℕ) (kind : Option EndKind) (t : T)
      → AreAnswered table s (messages_of command) [] o k l (next_of kind t) → kind ≢ Some end.InputEnd → SendsReplies command o w v
      → WasFed (by_table awaits (cursor_table ready table)) s frame t [] w v [] k l (Ok (told_by kind))
  exchanged v o kind t x apart sends =
      let bytes = replies_bytes (replies_of command x.replies) in (
        next_of kind t,
        serves_flow (by_table awaits (cursor_table ready table)) v [] (command_served o (next_of kind t) x)
            (Flows-sent w v bytes [] (sends x.replies x.replied) refl),
        stands_told awaits kind t apart,
      )

  -- the sending was cut off
  pub exchange_cut : (v : Option (List ℕ)) (o : List ℕ) (next : Next T) → AreAnswered table s (messages_of command) [] o k l next
      → SendsFront command o w v
      → IsCutOff (by_table awaits (cursor_table ready table)) s frame w v [] k l
  exchange_cut v o next x sends =
      cut_served (by_table awaits (cursor_table ready table)) v (command_served o next x) (sends x.replies x.replied)

  -- the answer to the command was cut off, and none of it was sent
  pub command_cut : AreCutOff table s (messages_of command) k l
      → IsCutOff (by_table awaits (cursor_table ready table)) s frame w w [] k l
  command_cut x =
      let given = row_of command (conversation table (answers_of x.made) s (messages_of command)) in
      record {
        messages = m ∷ [];
        rest = [];
        made = x.made;
        given = given;
        division = (frame, [], sym (append-nil frame), subst (λ a. IsFrame a frame m) (sym is_typed) carries, refl);
        answered = one_command table ready (answers_of x.made) s m command is_ready asked;
        cut = cut_at_once w ([] ++ replies_bytes given.replies);
        front = x.front;
        grown = x.grown;
      }

  -- the answer to the command stops at a question, and none of it was sent
  pub command_stopped : AreStopped table s (messages_of command) k l
      → IsStopped (by_table awaits (cursor_table ready table)) s frame w w [] k l
  command_stopped x = record {
    messages = m ∷ [];
    rest = [];
    made = x.made;
    replies = replies_of command x.replies;
    division = (frame, [], sym (append-nil frame), subst (λ a. IsFrame a frame m) (sym is_typed) carries, refl);
    answered = one_command table ready (answers_of x.made) s m command is_ready asked ∙ ap (λ a. row_of command a) x.answered;
    asks = λ yes. subst (λ a. BeginsWith a.calls (x.made ++ desk.Ask yes ∷ []))
        (sym (one_command table ready (answers_of x.made ++ yes ∷ []) s m command is_ready asked)) (x.asks yes);
    cut = cut_at_once w ([] ++ replies_bytes (replies_of command x.replies));
    grown = x.grown;
  }
