-- What went by the whole table went by the core table, where the client speaks as that does.
use Rattle.std.proofs.Common.{◌≡◌, ◌∙◌, ◌++◌, [], ◌∷◌, true, Bool, List, ℕ, ℤ, Option, Some, None, Result, Ok, Err, refl, sym, ap, subst, inl, inr}
use Rattle.pg_messages.specs.declared.frontend.PgWireFrontendMessage.{PgWireFrontendMessage}
use Rattle.pg_messages.specs.declared.backend.PgWireBackendMessage.{PgWireBackendMessage}
use Rattle.pg_messages.specs.Frames.{IsBad, IsUnfinished}
use Rattle.pg_messages.specs.Replies.{replies_bytes}
use Rattle.pg_client.specs.declared.desk.DeskCall.{DeskCall}
use Rattle.pg_client.specs.declared.ends.EndKind.{EndKind}
use Rattle.pg_client.specs.declared.ends.EndKind.TheVariants as end
use Rattle.pg_client.specs.Answer.{Answer, Next, Goes, Ends, Stops, BeginsWith, answers_of, conversation}
use Rattle.pg_client.specs.State.{State, first_state}
use Rattle.conversation_table.specs.Table.{awaits}
use Rattle.conversation_runs.specs.declared.ends.ServeError.{ServeError}
use Rattle.conversation_runs.specs.declared.ends.ServeError.TheVariants as fault
use Rattle.conversation_runs.specs.Run.{Rules, IsRun, IsCutRun, EndsWith}
use Rattle.conversation_runs.specs.Session.{whole_rules}
use Rattle.pg_engine.specs.Serving.{IsStoppedRun}
use Rattle.relation_tables.specs.declared.Relation.{Relation}
use Rattle.relation_tables.specs.declared.RelationStatement.{RelationStatement}
use Rattle.relation_tables.specs.CoreTable.{CoreState, core_awaits, first_core_state}
use Rattle.relation_tables.specs.Premises.{IsCoreConversation, AreAlike, IsSameNext}
use Rattle.relation_tables.specs.RelationHandler.{relation_handlers}
use Rattle.relation_tables.specs.Relations.{HaveEvenRows}
use Rattle.relation_tables.proofs.CoreConversations.{core_conversations_alike}
use Rattle.relation_serving.specs.Serving.{core_rules, setting_of, SpeaksCore, WentByWhole, WentByCore, WentByTables}
use Rattle.pg_messages.proofs.OneReading.{division_kept}
use Rattle.relation_handlers.specs.Tables.{HoldIntervals}
use Rattle.relation_serving.proofs.ShownCells.{shown_in}

-- a front of what the client says
speaks_front : (taken more : List ℕ) → SpeaksCore (taken ++ more) → SpeaksCore taken
speaks_front taken more speaks messages rest divided = speaks messages (rest ++ more) (division_kept messages true taken rest more divided)

answer_is : {T : Type 0} (a : Answer T) (replies : List PgWireBackendMessage) (calls : List DeskCall) → a.replies ≡ replies
    → a.calls ≡ calls
    → a ≡ record { replies = replies; calls = calls; next = a.next }
answer_is a replies calls r c = rw (sym r) (rw (sym c) refl)

stops : (a : Next (State RelationStatement)) (b : Next CoreState) → a ≡ Stops → IsSameNext awaits core_awaits a b → b ≡ Stops
stops Stops Stops e same = refl
stops Stops (Goes c) e same = absurd same
stops Stops (Ends kind) e same = absurd same
stops (Goes s) b e same = absurd (let f : ⊥ = cc in f)
stops (Ends kind) b e same = absurd (let f : ⊥ = cc in f)

ends_with : (a : Next (State RelationStatement)) (b : Next CoreState) (rest : List ℕ) (kind : EndKind) → IsSameNext awaits core_awaits a b
    → EndsWith awaits a rest kind → EndsWith core_awaits b rest kind
ends_with (Ends k) (Ends l) rest kind same ended = sym same ∙ ended
ends_with (Goes s) (Goes c) rest end.BadFrame same ended = subst (λ b. IsBad b rest) same ended
ends_with (Goes s) (Goes c) rest end.InputEnd same ended = subst (λ b. IsUnfinished b rest) same ended
ends_with (Goes s) (Goes c) rest _ same ended = absurd ended
ends_with Stops Stops rest kind same ended = absurd ended
ends_with _ _ rest kind same ended = absurd same

module _ (relations : List Relation) (registration : ℤ × List ℕ) (within : HoldIntervals relations) (even : HaveEvenRows relations) where
  abbrev whole : Rules (State RelationStatement)
  whole = whole_rules (relation_handlers relations)

  abbrev core : Rules CoreState
  core = core_rules (setting_of relations registration)

  abbrev first : State RelationStatement
  first = first_state registration.0 registration.1

  abbrev whole_answer : List Bool → List PgWireFrontendMessage → Answer (State RelationStatement)
  whole_answer answers messages = conversation whole.table answers first messages

  abbrev core_answer : List Bool → List PgWireFrontendMessage → Answer CoreState
  core_answer answers messages = conversation core.table answers first_core_state messages

  alike : (answers : List Bool) (messages : List PgWireFrontendMessage) → IsCoreConversation messages
      → AreAlike awaits core_awaits (whole_answer answers messages) (core_answer answers messages)
  alike answers messages is = core_conversations_alike (setting_of relations registration) even answers messages is

  run : (text bytes : List ℕ) (calls : List DeskCall) (kind : EndKind) → SpeaksCore text → IsRun whole first text bytes calls kind
      → IsRun core first_core_state text bytes calls kind
  run text bytes calls kind speaks x =
      let messages = x.fed.messages in
      let same = alike (answers_of calls) messages (speaks messages x.rest x.fed.division) in
      record {
        rest = x.rest;
        next = (core_answer (answers_of calls) messages).next;
        fed = record {
          messages = messages;
          replies = x.fed.replies;
          division = x.fed.division;
          answered = answer_is (core_answer (answers_of calls) messages) x.fed.replies calls
              (sym same.replies ∙ ap (λ a. a.replies) x.fed.answered) (sym same.calls ∙ ap (λ a. a.calls) x.fed.answered);
          replied = x.fed.replied;
        };
        ended = ends_with x.next (core_answer (answers_of calls) messages).next x.rest kind
            (subst (λ n. IsSameNext awaits core_awaits n (core_answer (answers_of calls) messages).next) (ap (λ a. a.next) x.fed.answered)
            same.next)
            x.ended;
      }

  cut : (text bytes : List ℕ) (calls : List DeskCall) → SpeaksCore text → IsCutRun whole first text bytes calls
      → IsCutRun core first_core_state text bytes calls
  cut text bytes calls speaks x =
      let messages = x.messages in
      let same = alike (answers_of calls) messages (speaks messages x.rest x.division) in
      record {
        messages = messages;
        rest = x.rest;
        given = core_answer (answers_of calls) messages;
        division = x.division;
        answered = refl;
        replied = subst (λ replies. BeginsWith (replies_bytes replies) bytes) (ap (λ a. a.replies) x.answered ∙ same.replies) x.replied;
        called = subst (λ made. BeginsWith made calls) (ap (λ a. a.calls) x.answered ∙ same.calls) x.called;
      }

  stopped : (text bytes : List ℕ) (calls : List DeskCall) → SpeaksCore text → IsStoppedRun whole first text bytes calls
      → IsStoppedRun core first_core_state text bytes calls
  stopped text bytes calls speaks x =
      let messages = x.messages in
      let same = alike (answers_of calls) messages (speaks messages x.rest x.division) in
      let given = core_answer (answers_of calls) messages in
      let is = answer_is given x.replies calls (sym same.replies ∙ ap (λ a. a.replies) x.answered) (sym same.calls
      ∙ ap (λ a. a.calls) x.answered) in
      let last = stops (whole_answer (answers_of calls) messages).next given.next (ap (λ a. a.next) x.answered) same.next in
      record {
        messages = messages;
        rest = x.rest;
        replies = x.replies;
        division = x.division;
        answered = is ∙ ap (λ next. record { replies = x.replies; calls = calls; next = next }) last;
        asks = λ yes.
            let next = alike (answers_of calls ++ yes ∷ []) messages (speaks messages x.rest x.division) in
            ((x.asks yes).0, sym next.calls ∙ (x.asks yes).1);
        replied = x.replied;
      }

  -- a run over bytes that were taken from what the client says
  taken_in : (bytes taken : List ℕ) (new_left : Option (List ℕ)) → SpeaksCore bytes
      → (rest : List ℕ) × (bytes ≡ taken ++ rest) × (new_left ≡ Some rest) → SpeaksCore taken
  taken_in bytes taken new_left speaks t = speaks_front taken t.0 (subst SpeaksCore t.1 speaks)

  went : (answer : Result EndKind ServeError) (bytes : List ℕ) (new_left old new : Option (List ℕ)) (calls : List DeskCall)
      → SpeaksCore bytes
      → WentByWhole relations registration answer (Some bytes) new_left old new calls
      → WentByCore relations registration answer (Some bytes) new_left old new calls
  went (Ok kind) bytes new_left old new calls speaks (text, is, (replies, grown, x)) =
      (text, is, (replies, grown, run text replies calls kind (subst SpeaksCore (sym is) speaks) x))
  went (Err fault.ReadFault) bytes new_left old new calls speaks (taken, t, (replies, grown, x)) =
      (taken, t, (replies, grown, run taken replies calls end.InputEnd (taken_in bytes taken new_left speaks t) x))
  went (Err fault.TurnLimit) bytes new_left old new calls speaks (inl (taken, t, (replies, grown, x))) =
      inl (taken, t, (replies, grown, run taken replies calls end.InputEnd (taken_in bytes taken new_left speaks t) x))
  went (Err fault.TurnLimit) bytes new_left old new calls speaks (inr (taken, t, (front, grown, x))) =
      inr (taken, t, (front, grown, stopped taken front calls (taken_in bytes taken new_left speaks t) x))
  went (Err fault.WriteFault) bytes new_left old new calls speaks (taken, t, (front, grown, x)) =
      (taken, t, (front, grown, cut taken front calls (taken_in bytes taken new_left speaks t) x))
  went (Err fault.NoMemory) bytes new_left old new calls speaks (taken, t, (front, grown, x)) =
      (taken, t, (front, grown, cut taken front calls (taken_in bytes taken new_left speaks t) x))

  pub went_by_tables : (answer : Result EndKind ServeError) (left new_left old new : Option (List ℕ)) (calls : List DeskCall)
      → WentByWhole relations registration answer left new_left old new calls
      → WentByTables relations registration answer left new_left old new calls
  went_by_tables answer None new_left old new calls x = record {
    whole = x;
    core = tt;
    cells = shown_in relations registration within even answer None new_left old new calls x;
  }
  went_by_tables answer (Some bytes) new_left old new calls x = record {
    whole = x;
    core = λ speaks. went answer bytes new_left old new calls speaks x;
    cells = shown_in relations registration within even answer (Some bytes) new_left old new calls x;
  }
