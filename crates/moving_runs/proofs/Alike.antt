-- Where all sheets are the same, the conversation by the sheets is that by the whole table over the one.
use Rattle.std.proofs.Common.{◌≡◌, ℕ, Bool, List, [], ◌∷◌, ◌++◌, refl, ap, sym, subst, ◌∙◌}
use Rattle.pg_messages.specs.declared.frontend.PgWireFrontendMessage.{PgWireFrontendMessage}
use Rattle.pg_messages.specs.Frames.{DividesInto, awaits_startup_after}
use Rattle.pg_messages.specs.Replies.{replies_bytes}
use Rattle.pg_client.specs.declared.desk.DeskCall.{DeskCall}
use Rattle.pg_client.specs.declared.ends.EndKind.{EndKind}
use Rattle.pg_client.specs.declared.ends.EndKind.TheVariants as end
use Rattle.pg_client.specs.Answer.{Answer, Next, Goes, Ends, Stops, BeginsWith, answers_of, left_by, conversation, continued, joined}
use Rattle.pg_client.specs.State.{State}
use Rattle.conversation_table.specs.Handlers.{Handlers}
use Rattle.conversation_table.specs.Lawful.{IsMade}
use Rattle.conversation_table.specs.Table.{whole_table, awaits}
use Rattle.conversation_runs.specs.Run.{EndsWith, IsRun, IsCutRun}
use Rattle.conversation_runs.specs.Session.{whole_rules}
use Rattle.moving_runs.specs.Sheets.{Ahead, next_ahead, answer_ahead, sheet_table, awaits_ahead, sheet_rules}
use Rattle.moving_runs.specs.Meeting.{Meeting, WentOn, none, more, WereMet, going, last}
use Rattle.moving_runs.specs.Unchanging.{AreAll, TellsOnly}
use Rattle.moving_runs.proofs.Lawful.{plain_next, plain, plain_ahead}

are_all-append : {S : Type 0} (only : Handlers S) (sheets behind : List (Handlers S)) → AreAll only sheets → AreAll only behind
    → AreAll only (sheets ++ behind)
are_all-append only [] behind x y = y
are_all-append only (h ∷ sheets) behind x y = (x.0, are_all-append only sheets behind x.1 y)

module _ {W S : Type 0} (Meets : Meeting W S) (only : Handlers S) (tells : TellsOnly Meets only) where
  went_alike : (w v : W) (s t : State S) (messages : List PgWireFrontendMessage) (sheets : List (Handlers S)) (calls : List DeskCall)
      → WentOn Meets w s messages sheets calls v t → AreAll only sheets
  went_alike _ _ _ _ _ _ _ (none w s) = tt
  went_alike _ _ _ _ _ _ _ (more w u v s t r m h made messages sheets calls met own goes x) =
      (tells w u s m h met, went_alike u v t r messages sheets calls x)

  pub met_alike : (w v : W) (s : State S) (messages : List PgWireFrontendMessage) (sheets : List (Handlers S)) (calls : List DeskCall)
      → WereMet Meets w s messages sheets calls v → AreAll only sheets
  met_alike _ _ _ _ _ _ (going w v s t messages sheets calls x) = went_alike w v s t messages sheets calls x
  met_alike _ _ _ _ _ _ (last w u v s t messages sheets calls m h made x met front) =
      are_all-append only sheets (h ∷ []) (went_alike w u s t messages sheets calls x) (tells u v t m h met, tt)

-- ---- a conversation that came to an end or goes on

plain_answer : {S : Type 0} (sheets : List (Handlers S)) (a : Answer (State S)) → a ≡ plain (answer_ahead sheets a)
plain_answer sheets a = λ i. record { replies = a.replies; calls = a.calls; next = sym (plain_ahead sheets a.next) i }

alike_by_next : {S : Type 0} (sheets : List (Handlers S)) (a : Answer (State S)) (n : Next (State S)) (f : State S → Answer (State S))
    (g : Ahead S → Answer (Ahead S))
    → ((t : State S) → let at : Ahead S = record { sheets = sheets; state = t } in IsMade (g at).next → f t ≡ plain (g at))
    → IsMade (continued (answer_ahead sheets a) (next_ahead sheets n) g).next
    → continued a n f ≡ plain (continued (answer_ahead sheets a) (next_ahead sheets n) g)
alike_by_next sheets a (Goes t) f g same made = ap (joined a) (same t made)
alike_by_next sheets a (Ends kind) f g same made = plain_answer sheets a
alike_by_next sheets a Stops f g same made = plain_answer sheets a

module _ {S : Type 0} (only : Handlers S) where
  -- the conversation by sheets
  abbrev pub by_sheets : List Bool → List (Handlers S) → State S → List PgWireFrontendMessage → Answer (Ahead S)
  by_sheets answers sheets s messages = conversation sheet_table answers (record { sheets = sheets; state = s }) messages

  pub alike : (answers : List Bool) (sheets : List (Handlers S)) (s : State S) (messages : List PgWireFrontendMessage)
      → AreAll only sheets → IsMade (by_sheets answers sheets s messages).next
      → conversation (whole_table only) answers s messages ≡ plain (by_sheets answers sheets s messages)
  alike answers sheets s [] all made = refl
  alike answers [] s (m ∷ messages) all made = absurd made
  alike answers (h ∷ sheets) s (m ∷ messages) all made =
      subst (λ x. IsMade (by_sheets answers (x ∷ sheets) s (m ∷ messages)).next
      → conversation (whole_table only) answers s (m ∷ messages) ≡ plain (by_sheets answers (x ∷ sheets) s (m ∷ messages))) (sym all.0)
      (λ made.
      let a = whole_table only answers s m in
      alike_by_next sheets a a.next (λ t. conversation (whole_table only) (left_by a.calls answers) t messages)
      (λ at. conversation sheet_table (left_by a.calls answers) at messages)
      (λ t made. alike (left_by a.calls answers) sheets t messages all.1 made) made) made

  -- ---- a conversation that was cut off

  -- the messages for which there is a sheet
  abbrev pub with_sheets : List (Handlers S) → List PgWireFrontendMessage → List PgWireFrontendMessage
  with_sheets [] messages = []
  with_sheets (h ∷ sheets) [] = []
  with_sheets (h ∷ sheets) (m ∷ messages) = m ∷ with_sheets sheets messages

  pub divides_front : (awaiting : Bool) (text : List ℕ) (sheets : List (Handlers S)) (messages : List PgWireFrontendMessage) (rest : List ℕ)
      → DividesInto awaiting text messages rest → (left : List ℕ) × DividesInto awaiting text (with_sheets sheets messages) left
  divides_front awaiting text [] messages rest d = (text, refl)
  divides_front awaiting text (h ∷ sheets) [] rest d = (text, refl)
  divides_front awaiting text (h ∷ sheets) (m ∷ messages) rest d =
      let others = divides_front (awaits_startup_after m awaiting) d.1 sheets messages rest d.4 in
      (others.0, (d.0, d.1, d.2, d.3, others.1))

  -- the same replies and the same calls
  pub record SaysTheSame (a : Answer (State S)) (b : Answer (Ahead S)) : Type 0 where
    pub replies : a.replies ≡ b.replies
    pub calls : a.calls ≡ b.calls

  says_by_next : (sheets : List (Handlers S)) (a : Answer (State S)) (n : Next (State S)) (f : State S → Answer (State S))
      (g : Ahead S → Answer (Ahead S)) → ((t : State S) → SaysTheSame (f t) (g (record { sheets = sheets; state = t })))
      → SaysTheSame (continued a n f) (continued (answer_ahead sheets a) (next_ahead sheets n) g)
  says_by_next sheets a (Goes t) f g same = record {
    replies = ap (λ x. a.replies ++ x) (same t).replies;
    calls = ap (λ x. a.calls ++ x) (same t).calls;
  }
  says_by_next sheets a (Ends kind) f g same = record { replies = refl; calls = refl }
  says_by_next sheets a Stops f g same = record { replies = refl; calls = refl }

  pub alike_front : (answers : List Bool) (sheets : List (Handlers S)) (s : State S) (messages : List PgWireFrontendMessage)
      → AreAll only sheets
      → SaysTheSame (conversation (whole_table only) answers s (with_sheets sheets messages)) (by_sheets answers sheets s messages)
  alike_front answers [] s [] all = record { replies = refl; calls = refl }
  alike_front answers [] s (m ∷ messages) all = record { replies = refl; calls = refl }
  alike_front answers (h ∷ sheets) s [] all = record { replies = refl; calls = refl }
  alike_front answers (h ∷ sheets) s (m ∷ messages) all =
      subst (λ x. SaysTheSame (conversation (whole_table only) answers s (m ∷ with_sheets sheets messages))
      (by_sheets answers (x ∷ sheets) s (m ∷ messages))) (sym all.0)
      (let a = whole_table only answers s m in
      says_by_next sheets a a.next (λ t. conversation (whole_table only) (left_by a.calls answers) t (with_sheets sheets messages))
      (λ at. conversation sheet_table (left_by a.calls answers) at messages)
      (λ t. alike_front (left_by a.calls answers) sheets t messages all.1))

  -- ---- runs

  made_by_end : (next : Next (Ahead S)) (rest : List ℕ) (kind : EndKind) → EndsWith awaits_ahead next rest kind → IsMade next
  made_by_end (Goes at) rest kind x = tt
  made_by_end (Ends e) rest kind x = tt
  made_by_end Stops rest kind x = x

  plain_end : (next : Next (Ahead S)) (rest : List ℕ) (kind : EndKind) → EndsWith awaits_ahead next rest kind
      → EndsWith awaits (plain_next next) rest kind
  plain_end (Goes at) rest end.BadFrame x = x
  plain_end (Goes at) rest end.InputEnd x = x
  plain_end (Goes at) rest end.Terminate x = x
  plain_end (Goes at) rest end.Fatal x = x
  plain_end (Goes at) rest end.CancelServed x = x
  plain_end (Ends e) rest kind x = x
  plain_end Stops rest kind x = x

  pub run_alike : (s : State S) (text bytes : List ℕ) (sheets : List (Handlers S)) (calls : List DeskCall) (kind : EndKind)
      → AreAll only sheets → IsRun sheet_rules (record { sheets = sheets; state = s }) text bytes calls kind
      → IsRun (whole_rules only) s text bytes calls kind
  run_alike s text bytes sheets calls kind all x = record {
    rest = x.rest;
    next = plain_next x.next;
    fed = record {
      messages = x.fed.messages;
      replies = x.fed.replies;
      division = x.fed.division;
      answered = alike (answers_of calls) sheets s x.fed.messages all
          (subst IsMade (sym (ap (λ a. a.next) x.fed.answered)) (made_by_end x.next x.rest kind x.ended))
          ∙ ap plain x.fed.answered;
      replied = x.fed.replied;
    };
    ended = plain_end x.next x.rest kind x.ended;
  }

  pub cut_run_alike : (s : State S) (text bytes : List ℕ) (sheets : List (Handlers S)) (calls : List DeskCall)
      → AreAll only sheets → IsCutRun sheet_rules (record { sheets = sheets; state = s }) text bytes calls
      → IsCutRun (whole_rules only) s text bytes calls
  cut_run_alike s text bytes sheets calls all x =
      let front = with_sheets sheets x.messages in
      let divided = divides_front (awaits s) text sheets x.messages x.rest x.division in
      let same = alike_front (answers_of calls) sheets s x.messages all in
      record {
        messages = front;
        rest = divided.0;
        given = conversation (whole_table only) (answers_of calls) s front;
        division = divided.1;
        answered = refl;
        replied = subst (λ r. BeginsWith (replies_bytes r) bytes) (ap (λ a. a.replies) x.answered ∙ sym same.replies) x.replied;
        called = subst (λ k. BeginsWith k calls) (ap (λ a. a.calls) x.answered ∙ sym same.calls) x.called;
      }
