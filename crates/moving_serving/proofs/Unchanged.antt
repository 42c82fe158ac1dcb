-- Where all sheets are the same one, a client is served as by the whole table over it.
use Rattle.std.proofs.Common.{◌≡◌, inl, inr, ℕ, Bool, true, List, [], ◌∷◌, ◌++◌, Option, Result, Ok, Err, IfOk, length, refl, ap, sym, subst, ◌∙◌, append_assoc, length-append, arith}
use Rattle.std.proofs.Math.Seq.{drop-append_seam}
use Rattle.pg_messages.specs.declared.frontend.PgWireFrontendMessage.{PgWireFrontendMessage}
use Rattle.pg_client.specs.declared.desk.DeskCall.{DeskCall}
use Rattle.pg_client.specs.declared.desk.DeskCall.TheVariants as desk
use Rattle.pg_client.specs.declared.ends.EndKind.{EndKind}
use Rattle.pg_client.specs.declared.ends.EndKind.TheVariants as end
use Rattle.pg_client.specs.Answer.{BeginsWith, Next, Goes, Ends, Stops, answers_of, left_by, conversation, continued, joined}
use Rattle.pg_client.specs.State.{State}
use Rattle.conversation_table.specs.Handlers.{Handlers}
use Rattle.conversation_table.specs.Lawful.{IsLawful, IsMade}
use Rattle.conversation_table.specs.Table.{whole_table, awaits}
use Rattle.conversation_runs.specs.declared.ends.ServeError.{ServeError}
use Rattle.conversation_runs.specs.declared.ends.ServeError.TheVariants as fault
use Rattle.conversation_runs.specs.Run.{Rules}
use Rattle.conversation_runs.specs.Session.{whole_rules}
use Rattle.conversation_runs.proofs.Answering.{whole_lawful}
use Rattle.pg_engine.specs.Around.{Around, Serves}
use Rattle.pg_engine.specs.Serving.{EndsAtLast, IsRunOverTaken, IsStoppedRun, WentSo}
use Rattle.moving_runs.specs.Sheets.{sheet_rules}
use Rattle.moving_runs.specs.Steps.{ahead}
use Rattle.moving_runs.specs.Unchanging.{AreAll}
use Rattle.moving_runs.proofs.Alike.{cut_run_alike, run_alike, with_sheets, divides_front, alike_front}

-- ---- further answers change nothing where none was missing

left_with_more : (calls : List DeskCall) (answers more : List Bool) → answers ≡ answers_of calls ++ left_by calls answers
    → left_by calls (answers ++ more) ≡ left_by calls answers ++ more
left_with_more calls answers more e =
    ap (λ xs. left_by calls (xs ++ more)) e ∙ ap (λ xs. left_by calls xs) (append_assoc (answers_of calls) (left_by calls answers) more)
    ∙ drop-append_seam (answers_of calls) (left_by calls answers ++ more)

module _ {T : Type 0} (rules : Rules T) (lawful : IsLawful rules.table rules.awaits) where
  conversation_same : (answers more : List Bool) (s : T) (messages : List PgWireFrontendMessage)
      → IsMade (conversation rules.table answers s messages).next
      → conversation rules.table (answers ++ more) s messages ≡ conversation rules.table answers s messages
  conversation_same answers more s [] made = refl
  conversation_same answers more s (m ∷ messages) made =
      by_next (rules.table answers s m).next refl made
      (λ t. conversation_same (left_by (rules.table answers s m).calls answers) more t messages)
    where
      by_next : (n : Next T) → (rules.table answers s m).next ≡ n
          → IsMade (continued (rules.table answers s m) n (λ t. conversation rules.table (left_by (rules.table answers s m).calls answers) t
          messages)).next
          → ((t : T) → IsMade (conversation rules.table (left_by (rules.table answers s m).calls answers) t messages).next
          → conversation rules.table (left_by (rules.table answers s m).calls answers ++ more) t messages
          ≡ conversation rules.table (left_by (rules.table answers s m).calls answers) t messages)
          → continued (rules.table (answers ++ more) s m) (rules.table (answers ++ more) s m).next
          (λ t. conversation rules.table (left_by (rules.table (answers ++ more) s m).calls (answers ++ more)) t messages)
          ≡ continued (rules.table answers s m) n (λ t. conversation rules.table (left_by (rules.table answers s m).calls answers) t messages)
      by_next (Goes u) n made ih =
          let g = rules.table answers s m in
          let same : rules.table (answers ++ more) s m ≡ g = lawful.same answers more s m (subst IsMade (sym n) tt) in
          ap (λ x. continued x x.next (λ t. conversation rules.table (left_by x.calls (answers ++ more)) t messages)) same
          ∙ ap (λ y. continued g y (λ t. conversation rules.table (left_by g.calls (answers ++ more)) t messages)) n
          ∙ ap (λ xs. joined g (conversation rules.table xs u messages)) (left_with_more g.calls answers more (lawful.taken answers s m))
          ∙ ap (λ x. joined g x) (ih u made)
      by_next (Ends kind) n made ih =
          let g = rules.table answers s m in
          let same : rules.table (answers ++ more) s m ≡ g = lawful.same answers more s m (subst IsMade (sym n) tt) in
          ap (λ x. continued x x.next (λ t. conversation rules.table (left_by x.calls (answers ++ more)) t messages)) same
          ∙ ap (λ y. continued g y (λ t. conversation rules.table (left_by g.calls (answers ++ more)) t messages)) n
      by_next Stops n made ih = absurd (subst IsMade n made)

-- ---- a run that stops at a question

one_more_asked : (calls others : List DeskCall) (told : Bool) → calls ≡ (calls ++ desk.Ask told ∷ []) ++ others → ⊥
one_more_asked calls others told e =
    let whole = ap length e in
    let parts = length-append (calls ++ desk.Ask told ∷ []) others in
    let front = length-append calls (desk.Ask told ∷ []) in
    absurd (omega (arith, whole, parts, front))

module _ {S : Type 0} (only : Handlers S) (sheets : List (Handlers S)) (all : AreAll only sheets) where
  stopped_next : (s : State S) (messages : List PgWireFrontendMessage) (calls : List DeskCall) (next : Next (State S))
      → (conversation (whole_table only) (answers_of calls) s (with_sheets only sheets messages)).next ≡ next
      → (conversation (whole_table only) (answers_of calls) s (with_sheets only sheets messages)).calls ≡ calls
      → BeginsWith (conversation (whole_table only) (answers_of calls ++ true ∷ []) s (with_sheets only sheets messages)).calls
      (calls ++ desk.Ask true ∷ []) → next ≡ Stops
  stopped_next s messages calls (Goes t) is own asks =
      let same = conversation_same (whole_rules only) (whole_lawful only) (answers_of calls) (true ∷ []) s (with_sheets only sheets messages)
      (subst IsMade (sym is) tt) in
      absurd (one_more_asked calls asks.0 true (sym own ∙ sym (ap (λ a. a.calls) same) ∙ asks.1))
  stopped_next s messages calls (Ends kind) is own asks =
      let same = conversation_same (whole_rules only) (whole_lawful only) (answers_of calls) (true ∷ []) s (with_sheets only sheets messages)
      (subst IsMade (sym is) tt) in
      absurd (one_more_asked calls asks.0 true (sym own ∙ sym (ap (λ a. a.calls) same) ∙ asks.1))
  stopped_next s messages calls Stops is own asks = refl

  stopped_run_alike : (s : State S) (text bytes : List ℕ) (calls : List DeskCall)
      → IsStoppedRun sheet_rules (ahead sheets s) text bytes calls → IsStoppedRun (whole_rules only) s text bytes calls
  stopped_run_alike s text bytes calls x =
      let front = with_sheets only sheets x.messages in
      let divided = divides_front only (awaits s) text sheets x.messages x.rest x.division in
      let same = alike_front only (answers_of calls) sheets s x.messages all in
      let given = conversation (whole_table only) (answers_of calls) s front in
      let replies : given.replies ≡ x.replies = same.replies ∙ ap (λ a. a.replies) x.answered in
      let own : given.calls ≡ calls = same.calls ∙ ap (λ a. a.calls) x.answered in
      let asks : (told : Bool) → BeginsWith (conversation (whole_table only) (answers_of calls ++ told ∷ []) s front).calls
      (calls ++ desk.Ask told ∷ []) = λ told. subst (λ k. BeginsWith k (calls ++ desk.Ask told ∷ []))
      (sym (alike_front only (answers_of calls ++ told ∷ []) sheets s x.messages all).calls) (x.asks told) in
      let stops = stopped_next s x.messages calls given.next refl own (asks true) in
      record {
        messages = front;
        rest = divided.0;
        replies = x.replies;
        division = divided.1;
        answered = λ i. record { replies = replies i; calls = own i; next = stops i };
        asks = asks;
        replied = x.replied;
      }

  -- ---- all that the client is owed

  went_alike : (s : State S) (result : Result EndKind ServeError) (left new_left old new : Option (List ℕ)) (calls : List DeskCall)
      → WentSo sheet_rules (ahead sheets s) result left new_left old new calls
      → WentSo (whole_rules only) s result left new_left old new calls
  went_alike s (Ok kind) left new_left old new calls x =
      (x.0, x.1, (x.2.0, x.2.1, run_alike only s x.0 x.2.0 sheets calls kind all x.2.2))
  went_alike s (Err fault.ReadFault) left new_left old new calls x =
      (x.0, x.1, (x.2.0, x.2.1, run_alike only s x.0 x.2.0 sheets calls end.InputEnd all x.2.2))
  went_alike s (Err fault.TurnLimit) left new_left old new calls (inl x) =
      inl (x.0, x.1, (x.2.0, x.2.1, run_alike only s x.0 x.2.0 sheets calls end.InputEnd all x.2.2))
  went_alike s (Err fault.TurnLimit) left new_left old new calls (inr x) =
      inr (x.0, x.1, (x.2.0, x.2.1, stopped_run_alike s x.0 x.2.0 calls x.2.2))
  went_alike s (Err fault.WriteFault) left new_left old new calls x =
      (x.0, x.1, (x.2.0, x.2.1, cut_run_alike only s x.0 x.2.0 sheets calls all x.2.2))
  went_alike s (Err fault.NoMemory) left new_left old new calls x =
      (x.0, x.1, (x.2.0, x.2.1, cut_run_alike only s x.0 x.2.0 sheets calls all x.2.2))

  last_alike : (s : State S) (result : Result EndKind ServeError) (left new_left : Option (List ℕ))
      → IfOk result (EndsAtLast sheet_rules (ahead sheets s) left new_left) → IfOk result (EndsAtLast (whole_rules only) s left new_left)
  last_alike s (Ok kind) left new_left x =
      (x.0, x.1, x.2, (x.3.0, x.3.1, run_alike only s x.0 x.3.0 sheets x.3.1 end.InputEnd all x.3.2), x.4)
  last_alike s (Err e) left new_left x = tt

  taken_alike : (s : State S) (result : Result EndKind ServeError) (left new_left old new : Option (List ℕ)) (calls new_calls : List DeskCall)
      → IfOk result (IsRunOverTaken sheet_rules (ahead sheets s) left new_left old new calls new_calls)
      → IfOk result (IsRunOverTaken (whole_rules only) s left new_left old new calls new_calls)
  taken_alike s (Ok kind) left new_left old new calls new_calls x =
      (x.0, x.1, (x.2.0, x.2.1, (x.2.2.0, x.2.2.1, run_alike only s x.0 x.2.2.0 sheets x.2.0 kind all x.2.2.2)))
  taken_alike s (Err e) left new_left old new calls new_calls x = tt

  pub serves_alike : (first : State S) (turns : ℕ) (result : Result EndKind ServeError) (before after : Around)
      → Serves sheet_rules (ahead sheets first) turns result before after → Serves (whole_rules only) first turns result before after
  serves_alike first turns result before after x = record {
    went = (x.went.0, x.went.1, went_alike first result before.left after.left before.written after.written x.went.0 x.went.2);
    cause = x.cause;
    last = last_alike first result before.left after.left x.last;
    taken = taken_alike first result before.left after.left before.written after.written before.desk.calls after.desk.calls x.taken;
    calm = x.calm;
    never_falls = x.never_falls;
    reads = x.reads;
    registration = x.registration;
    source = x.source;
    sink = x.sink;
  }
