-- Messages that are handed to a session in turn: what was answered so far, and what the messages that are left are answered.
use Rattle.std.proofs.Common.{◌≡◌, ◌≢◌, ℕ, ◌≤◌, Bool, true, false, List, [], ◌∷◌, ◌++◌, Option, Some, None, Result, Ok, Err, refl, sym, ap, subst, ◌∙◌, append-nil, append_assoc}
use Rattle.std.specs.List.{AllByRecursion}
use Rattle.std.proofs.Math.Seq.{drop-append_seam}
use Rattle.pg_messages.specs.declared.frontend.PgWireFrontendMessage.{PgWireFrontendMessage}
use Rattle.pg_messages.specs.declared.frontend.PgWireFrontendMessage.TheVariants as client
use Rattle.pg_messages.specs.declared.backend.PgWireBackendMessage.{PgWireBackendMessage}
use Rattle.pg_messages.specs.Frames.{IsFrame, awaits_startup_after}
use Rattle.pg_messages.specs.Replies.{replies_bytes}
use Rattle.pg_client.specs.declared.desk.DeskCall.{DeskCall}
use Rattle.pg_client.specs.declared.desk.DeskCall.TheVariants as desk
use Rattle.pg_client.specs.declared.ends.EndKind.{EndKind}
use Rattle.pg_client.specs.declared.ends.Turns.{Turns}
use Rattle.pg_client.specs.Answer.{Answer, Table, Next, Goes, Ends, Stops, BeginsWith, answers_of, left_by, conversation, continued, joined}
use Rattle.pg_client.specs.Desk.{DeskTold, GoesOn}
use Rattle.pg_client.specs.State.{State}
use Rattle.pg_client.proofs.Desks.{goes_on_none, goes_on_then}
use Rattle.conversation_table.specs.Handlers.{Handlers}
use Rattle.conversation_table.specs.Lawful.{IsMade, IsLawful}
use Rattle.conversation_table.specs.Questions.{questions_since}
use Rattle.conversation_table.specs.Table.{whole_table, awaits}
use Rattle.conversation_runs.specs.Messages.{IsGivenIn}
use Rattle.conversation_runs.specs.Session.{SessionValue}
use Rattle.conversation_runs.specs.Steps.{IsAnswered, IsCutAnswer, IsStoppedAnswer, IsResponse}
use Rattle.conversation_runs.specs.declared.ends.ServeError.{ServeError}
use Rattle.conversation_runs.specs.declared.ends.ServeError.TheVariants as serve
use Rattle.conversation_runs.proofs.Answering.{whole_lawful}
use Rattle.conversation_runs.proofs.Pieces.{answers_of-append}
use Rattle.conversation_runs.proofs.ReplyBytes.{replies_bytes-append}
use Rattle.conversation_runs.proofs.Spending as spending
use Rattle.cursor_commands.specs.Asking.{CanBeSent}
use Rattle.cursor_session.specs.Asking.{AreAnswered, AreCutOff, AreStopped, AreResponses}
use Rattle.cursor_session.proofs.Rows.{begins_then}

-- what was answered, and where the conversation goes on
abbrev pub going : {T : Type 0} → List PgWireBackendMessage → List DeskCall → T → Answer T
going replies made t = record { replies = replies; calls = made; next = Goes t }

abbrev answer_of : {T : Type 0} → List PgWireBackendMessage → List DeskCall → Next T → Answer T
answer_of replies made next = record { replies = replies; calls = made; next = next }

-- Whatever answers follow those of the calls that were made, messages are answered what was answered so far, and then what those are that
-- are left.
abbrev pub Joins : {T : Type 0} → Table T → T → List PgWireFrontendMessage → List PgWireBackendMessage → List DeskCall → T
    → List PgWireFrontendMessage → Type 0
Joins table s messages replies made t left = (more : List Bool)
    → conversation table (answers_of made ++ more) s messages ≡ joined (going replies made t) (conversation table more t left)

abbrev bytes_of : {T : Type 0} → Answer T → List ℕ
bytes_of a = replies_bytes a.replies

module _ {T : Type 0} (table : Table T) (waits : T → Bool) (lawful : IsLawful table waits) where
  -- a message behind which the conversation goes on, and then those that are left
  behind_goes : (t u : T) (m : PgWireFrontendMessage) (left : List PgWireFrontendMessage) (made : List DeskCall) (more : List Bool)
      → (table (answers_of made) t m).calls ≡ made → (table (answers_of made) t m).next ≡ Goes u
      → conversation table (answers_of made ++ more) t (m ∷ left) ≡ joined (table (answers_of made) t m) (conversation table more u left)
  behind_goes t u m left made more own goes =
      let mine = answers_of made in
      let g = table mine t m in
      let same : table (mine ++ more) t m ≡ g = lawful.same mine more t m (subst IsMade (sym goes) tt) in
      ap (λ x. continued x x.next (λ v. conversation table (left_by x.calls (mine ++ more)) v left)) same
      ∙ (ap (λ n. continued g n (λ v. conversation table (left_by g.calls (mine ++ more)) v left)) goes
      ∙ (ap (λ c. joined g (conversation table (left_by c (mine ++ more)) u left)) own
      ∙ ap (λ l. joined g (conversation table l u left)) (drop-append_seam mine more)))

  continued_begins : (g : Answer T) (n : Next T) (others : T → Answer T) → BeginsWith (continued g n others).calls g.calls
  continued_begins g (Goes u) others = ((others u).calls, refl)
  continued_begins g (Ends kind) others = ([], sym (append-nil g.calls))
  continued_begins g Stops others = ([], sym (append-nil g.calls))

  -- the calls for a message begin those for it and what follows it
  message_begins : (t : T) (m : PgWireFrontendMessage) (left : List PgWireFrontendMessage) (answers : List Bool)
      → BeginsWith (conversation table answers t (m ∷ left)).calls (table answers t m).calls
  message_begins t m left answers =
      let g = table answers t m in continued_begins g g.next (λ v. conversation table (left_by g.calls answers) v left)

  module _ (s t : T) (messages left : List PgWireFrontendMessage) (m : PgWireFrontendMessage) (replies : List PgWireBackendMessage)
      (made : List DeskCall) (joins : Joins table s messages replies made t (m ∷ left)) where
    -- under the answers of more calls
    split_at : (more : List DeskCall) → conversation table (answers_of (made ++ more)) s messages
        ≡ joined (going replies made t) (conversation table (answers_of more) t (m ∷ left))
    split_at more = ap (λ l. conversation table l s messages) (answers_of-append made more) ∙ joins (answers_of more)

    pub joins_next : (u : T) (more : List DeskCall) → (table (answers_of more) t m).calls ≡ more
        → (table (answers_of more) t m).next ≡ Goes u
        → Joins table s messages (replies ++ (table (answers_of more) t m).replies) (made ++ more) u left
    joins_next u more own goes answers =
        let mine = answers_of more in
        let g = table mine t m in
        let c = conversation table answers u left in
        let calls : made ++ (g.calls ++ c.calls) ≡ (made ++ more) ++ c.calls =
        ap (λ l. made ++ (l ++ c.calls)) own ∙ sym (append_assoc made more c.calls) in
        ap (λ l. conversation table l s messages) (ap (λ l. l ++ answers) (answers_of-append made more)
        ∙ append_assoc (answers_of made) mine answers)
        ∙ (joins (mine ++ answers) ∙ (ap (λ a. joined (going replies made t) a) (behind_goes t u m left more answers own goes)
        ∙ (λ i. answer_of (sym (append_assoc replies g.replies c.replies) i) (calls i) c.next)))

    pub joins_ends : (kind : EndKind) (more : List DeskCall) → (table (answers_of more) t m).calls ≡ more
        → (table (answers_of more) t m).next ≡ Ends kind
        → conversation table (answers_of (made ++ more)) s messages
        ≡ answer_of (replies ++ (table (answers_of more) t m).replies) (made ++ more) (Ends kind)
    joins_ends kind more own ends =
        let mine = answers_of more in
        let g = table mine t m in
        split_at more ∙ (ap (λ n. joined (going replies made t) (continued g n (λ v. conversation table (left_by g.calls mine) v left))) ends
        ∙ (λ i. answer_of (replies ++ g.replies) (made ++ own i) (ends i)))

    pub joins_cut : (k l n : List DeskCall) → l ≡ k ++ made → IsCutAnswer table t m l n → AreCutOff table s messages k n
    joins_cut k l n grown x =
        let c = conversation table (answers_of x.made) t (m ∷ left) in
        let g = table (answers_of x.made) t m in
        let all = begins_then c.calls g.calls x.made (message_begins t m left (answers_of x.made)) x.front in
        record {
          made = made ++ x.made;
          front = (
            all.0,
            ap (λ a. a.calls) (split_at x.made) ∙ (ap (λ l. made ++ l) all.1 ∙ sym (append_assoc made x.made all.0)),
          );
          grown = x.grown ∙ (ap (λ l. l ++ x.made) grown ∙ append_assoc k made x.made);
        }

    pub joins_stopped : (k l n : List DeskCall) → l ≡ k ++ made → IsStoppedAnswer table t m l n → AreStopped table s messages k n
    joins_stopped k l n grown x =
        let mine = answers_of x.made in
        let g = table mine t m in
        record {
          replies = replies ++ g.replies;
          made = made ++ x.made;
          answered = split_at x.made
              ∙ (ap (λ n. joined (going replies made t) (continued g n (λ v. conversation table (left_by g.calls mine) v left))) x.stops
              ∙ (λ i. answer_of (replies ++ g.replies) (made ++ x.own i) (x.stops i)));
          asks = λ yes.
              let under = mine ++ yes ∷ [] in
              let c = conversation table under t (m ∷ left) in
              let asked = table under t m in
              let all = begins_then c.calls asked.calls (x.made ++ desk.Ask yes ∷ []) (message_begins t m left under) (x.asks yes) in
              let split : conversation table (answers_of (made ++ x.made) ++ yes ∷ []) s messages ≡ joined (going replies made t) c =
              ap (λ l. conversation table l s messages) (ap (λ l. l ++ yes ∷ []) (answers_of-append made x.made)
              ∙ append_assoc (answers_of made) mine (yes ∷ [])) ∙ joins under in (
                all.0,
                ap (λ a. a.calls) split ∙ (ap (λ l. made ++ l) all.1
                    ∙ (sym (append_assoc made (x.made ++ desk.Ask yes ∷ []) all.0)
                    ∙ ap (λ l. l ++ all.0) (sym (append_assoc made x.made (desk.Ask yes ∷ []))))),
              );
          grown = x.grown ∙ (ap (λ l. l ++ x.made) grown ∙ append_assoc k made x.made);
        }

  pub joins_none : (s : T) (messages : List PgWireFrontendMessage) → Joins table s messages [] [] s messages
  joins_none s messages more = refl

  pub joins_all : (s t : T) (messages : List PgWireFrontendMessage) (replies : List PgWireBackendMessage) (made : List DeskCall)
      → Joins table s messages replies made t []
      → conversation table (answers_of made) s messages ≡ going replies made t
  joins_all s t messages replies made joins =
      ap (λ l. conversation table l s messages) (sym (append-nil (answers_of made)))
      ∙ (joins [] ∙ (λ i. answer_of (append-nil replies i) (append-nil made i) (Goes t)))

awaits_none : (m : PgWireFrontendMessage) → awaits_startup_after m false ≡ false
awaits_none (client.Startup m) = refl
awaits_none _ = refl

-- the replies that wait have grown by those to one more message
waits_more : (old mid new : List ℕ) (replies more : List PgWireBackendMessage) → mid ≡ old ++ replies_bytes replies
    → new ≡ mid ++ replies_bytes more → new ≡ old ++ replies_bytes (replies ++ more)
waits_more old mid new replies more p q =
    q ∙ (ap (λ l. l ++ replies_bytes more) p ∙ (append_assoc old (replies_bytes replies) (replies_bytes more)
    ∙ ap (λ l. old ++ l) (sym (replies_bytes-append replies more))))

calls_more : (k l n made more own : List DeskCall) → l ≡ k ++ made → n ≡ l ++ own → own ≡ more → n ≡ k ++ (made ++ more)
calls_more k l n made more own p q e = q ∙ ((λ i. p i ++ e i) ∙ append_assoc k made more)

-- Messages are handed to a session, and these are left.
pub record AreAsked {H S : Type 0} (told : H → Handlers S) (messages left : List PgWireFrontendMessage) (old now : SessionValue H S)
    (desk now_desk : DeskTold) (before after : Turns) : Type 0 where
  pub replies : List PgWireBackendMessage
  pub made : List DeskCall
  pub joins : Joins (whole_table (told old.handlers)) old.state messages replies made now.state left
  pub replied : now.unsent ≡ old.unsent ++ replies_bytes replies
  pub grown : now_desk.calls ≡ desk.calls ++ made
  pub opened : now.is_open ≡ true
  pub typed : awaits now.state ≡ false
  pub sent : AllByRecursion CanBeSent left
  pub handlers : now.handlers ≡ old.handlers
  pub rest : now.rest ≡ old.rest
  pub turns : after ≡ spending.spent_more before (questions_since desk.calls now_desk.calls)
  pub bounded : before.spent ≤ before.limit → after.spent ≤ after.limit
  pub registration : GoesOn desk now_desk

pub asked_none : {H S : Type 0} (told : H → Handlers S) (messages : List PgWireFrontendMessage) (old : SessionValue H S) (desk : DeskTold)
    (turns : Turns) → old.is_open ≡ true → awaits old.state ≡ false → AllByRecursion CanBeSent messages
    → AreAsked told messages messages old old desk desk turns turns
asked_none told messages old desk turns opened typed sent = record {
  replies = [];
  made = [];
  joins = joins_none (whole_table (told old.handlers)) awaits (whole_lawful (told old.handlers)) old.state messages;
  replied = sym (append-nil old.unsent);
  grown = sym (append-nil desk.calls);
  opened = opened;
  typed = typed;
  sent = sent;
  handlers = refl;
  rest = refl;
  turns = spending.no_turn turns desk.calls;
  bounded = λ within. within;
  registration = goes_on_none desk;
}

-- the next message can be handed to it
pub given_next : {H S : Type 0} (told : H → Handlers S) (messages left : List PgWireFrontendMessage) (m : PgWireFrontendMessage)
    (old now : SessionValue H S) (desk mid : DeskTold) (before turns : Turns) → AreAsked told messages (m ∷ left) old now desk mid before turns
    → IsGivenIn now.state m
given_next told messages left m old now desk mid before turns x =
    (x.sent.0.0, subst (λ b. IsFrame b x.sent.0.0 m) (sym x.typed) x.sent.0.1)

module _ {H S : Type 0} (told : H → Handlers S) (messages left : List PgWireFrontendMessage) (m : PgWireFrontendMessage)
    (old now new : SessionValue H S) (desk mid new_desk : DeskTold) (before turns after : Turns)
    (x : AreAsked told messages (m ∷ left) old now desk mid before turns) where
  tabled : (P : H → Type 0) → P now.handlers → P old.handlers
  tabled P p = subst P x.handlers p

  pub asked_next : IsResponse told m now new mid new_desk turns after (Ok None) → AreAsked told messages left old new desk new_desk before after
  asked_next y =
      let h = told old.handlers in
      let a = tabled (λ h. IsAnswered (whole_table (told h)) now.state m now.unsent new.unsent mid.calls new_desk.calls (Goes new.state)) y.answer in
      let g = whole_table h (answers_of a.made) now.state m in
      record {
        replies = x.replies ++ g.replies;
        made = x.made ++ a.made;
        joins = joins_next (whole_table h) awaits (whole_lawful h) old.state now.state messages left m x.replies x.made x.joins new.state
            a.made a.own a.carried.goes_on;
        replied = waits_more old.unsent now.unsent new.unsent x.replies g.replies x.replied a.carried.replied.bytes;
        grown = calls_more desk.calls mid.calls new_desk.calls x.made a.made g.calls x.grown a.carried.called a.own;
        opened = y.opened;
        typed = (whole_lawful h).follows (answers_of a.made) now.state new.state m a.carried.goes_on
            ∙ (ap (awaits_startup_after m) x.typed ∙ awaits_none m);
        sent = x.sent.1;
        handlers = y.handlers ∙ x.handlers;
        rest = y.rest ∙ x.rest;
        turns = spending.fed_then {A = Option EndKind} before turns after desk.calls mid.calls new_desk.calls x.made g.calls (Ok None) x.grown
            a.carried.called x.turns y.turns;
        bounded = λ within. y.bounded (x.bounded within);
        registration = goes_on_then desk mid new_desk x.registration y.registration;
      }

  pub asked_ends : (kind : EndKind) → IsResponse told m now new mid new_desk turns after (Ok (Some kind))
      → AreResponses told messages old new desk new_desk before after (Ok (Some kind))
  asked_ends kind y =
      let h = told old.handlers in
      let a = tabled (λ h. IsAnswered (whole_table (told h)) now.state m now.unsent new.unsent mid.calls new_desk.calls (Ends kind)) y.answer in
      let g = whole_table h (answers_of a.made) now.state m in
      record {
        answer = record {
          replies = x.replies ++ g.replies;
          made = x.made ++ a.made;
          answered = joins_ends (whole_table h) awaits (whole_lawful h) old.state now.state messages left m x.replies x.made x.joins kind
              a.made a.own a.carried.goes_on;
          replied = waits_more old.unsent now.unsent new.unsent x.replies g.replies x.replied a.carried.replied.bytes;
          grown = calls_more desk.calls mid.calls new_desk.calls x.made a.made g.calls x.grown a.carried.called a.own;
        };
        err = tt;
        stopped = λ is. absurd (let e = is in cc);
        only = tt;
        ends = y.ends;
        opened = y.opened;
        handlers = y.handlers ∙ x.handlers;
        rest = y.rest ∙ x.rest;
        turns = spending.fed_then {A = Option EndKind} before turns after desk.calls mid.calls new_desk.calls x.made g.calls (Ok (Some kind))
            x.grown a.carried.called x.turns y.turns;
        bounded = λ within. y.bounded (x.bounded within);
        registration = goes_on_then desk mid new_desk x.registration y.registration;
      }

  pub asked_fails : (e : ServeError) → IsResponse told m now new mid new_desk turns after (Err e)
      → AreResponses told messages old new desk new_desk before after (Err e)
  asked_fails e y =
      let h = told old.handlers in
      let cut = tabled (λ h. IsCutAnswer (whole_table (told h)) now.state m mid.calls new_desk.calls) y.err in
      record {
        answer = tt;
        err = joins_cut (whole_table h) awaits (whole_lawful h) old.state now.state messages left m x.replies x.made x.joins desk.calls
            mid.calls new_desk.calls x.grown cut;
        stopped = λ is. joins_stopped (whole_table h) awaits (whole_lawful h) old.state now.state messages left m x.replies x.made x.joins
            desk.calls mid.calls new_desk.calls x.grown
            (tabled (λ h. IsStoppedAnswer (whole_table (told h)) now.state m mid.calls new_desk.calls) (y.stopped is));
        only = y.only;
        ends = tt;
        opened = y.opened;
        handlers = y.handlers ∙ x.handlers;
        rest = y.rest ∙ x.rest;
        turns = spending.fed_then {A = Option EndKind} before turns after desk.calls mid.calls new_desk.calls x.made cut.made (Err e) x.grown
            cut.grown x.turns y.turns;
        bounded = λ within. y.bounded (x.bounded within);
        registration = goes_on_then desk mid new_desk x.registration y.registration;
      }

-- all messages were answered
pub asked_all : {H S : Type 0} (told : H → Handlers S) (messages : List PgWireFrontendMessage) (old now : SessionValue H S)
    (desk now_desk : DeskTold) (before after : Turns) → AreAsked told messages [] old now desk now_desk before after
    → AreResponses told messages old now desk now_desk before after (Ok None)
asked_all told messages old now desk now_desk before after x =
    let h = told old.handlers in
    record {
      answer = record {
        replies = x.replies;
        made = x.made;
        answered = joins_all (whole_table h) awaits (whole_lawful h) old.state now.state messages x.replies x.made x.joins;
        replied = x.replied;
        grown = x.grown;
      };
      err = tt;
      stopped = λ is. absurd (let e = is in cc);
      only = tt;
      ends = λ e. let k = e in cc;
      opened = x.opened;
      handlers = x.handlers;
      rest = x.rest;
      turns = x.turns;
      bounded = x.bounded;
      registration = x.registration;
    }
