-- What orders come to among those of all clients.
use Rattle.std.proofs.Common.{◌≡◌, ◌≢◌, Bool, true, false, ◌&&◌, ◌||◌, cond, int_eq, ℕ, List, [], ◌∷◌, ◌++◌, Option, Some, None, Result, Ok, Err, if◌then◌else◌, refl, ap, sym, ◌∙◌, subst}
use Rattle.std.specs.Prelude.{find, option_to_list}
use Rattle.std.specs.List.{list_any}
use Rattle.std.specs.Cmp.Lexicographic.{nat_list_eq_equiv}
use Rattle.std.proofs.lemmas.Cmp.{int_eq_equiv}
use Rattle.std.proofs.lemmas.List.{append-nil}
use Rattle.std.proofs.lemmas.Option.{none-some}
use mathlib.Core.List.{IsPrefix}
use Rattle.pg_interval.specs.declared.pg_interval.Interval.{Interval}
use Rattle.pg_messages.specs.declared.frontend.PgWireFrontendMessage.{PgWireFrontendMessage}
use Rattle.pg_results.specs.declared.error.PgWireError.{PgWireError}
use Rattle.pg_client.specs.State.{State}
use Rattle.conversation_table.specs.Handlers.{Handlers}
use Rattle.asked_queries.specs.Asking.{asked}
use Rattle.shift_table.specs.Shifts.{IsTimetable, canceled, found, is_shift, shifts_of, stands_at}
use Rattle.shift_table.specs.Spans.{span_of}
use Rattle.shift_table.specs.declared.shift.Shift.{Shift}
use Rattle.shift_table.proofs.Timetables.{IsTimetable-nil}
use Rattle.shift_orders.specs.Orders.{and_then}
use Rattle.shift_orders.specs.declared.order.ShiftOrder.{ShiftOrder}
use Rattle.shift_orders.specs.declared.order.ShiftOrder.TheVariants as order
use Rattle.shift_orders.specs.declared.statement.ShiftStatement.{ShiftStatement}
use Rattle.shift_transactions.specs.Doing.{Done, Open, canceling, committed, committed_by, done, done_after_error, done_on, leaves, stepped, stepped_alone, stepped_within}
use Rattle.shift_transactions.specs.Steps.{changed, done_in_turn, ok_or_else, tried}
use Rattle.shift_transactions.specs.declared.step.Step.{Step}
use Rattle.shift_transactions.specs.declared.step.Step.TheVariants.{Book, Cancel}
use Rattle.shift_transactions.specs.declared.outcome.Outcome.{Outcome}
use Rattle.shift_transactions.specs.declared.outcome.Outcome.TheVariants.{Began, Booked, Canceled, Committed, Refused, RolledBack, Shown}
use Rattle.shift_transactions.specs.declared.outcome.Refusal.{Refusal}
use Rattle.shift_transactions.specs.declared.outcome.Refusal.TheVariants.{Changed, UnknownShift}
use Rattle.shift_transactions.proofs.Changes.{IsTimetable-changed}
use Rattle.shift_sheets.specs.Sheets.{shift_sheet}
use Rattle.shared_worlds.specs.Sharing.{Known, MeetsShared, met_behind}
use Rattle.shared_worlds.specs.Worlds.{IsLegal, Met, place_from, place_of}
use Rattle.schedule.specs.Laws.{AddsStep, BooksLast, BooksWithin, CancelsLast, CancelsWithin, ChangesLast, ChangesNothing, CommitsLast, HasOrdered, KeepsTransaction, KnownShifts}
use Rattle.schedule.specs.World.{has_failed, met_by, met_done, ordered, schedule}

-- ---- no two shifts clash

timetable_from : (t : List Shift) (history : List (List Step)) → IsTimetable t → IsTimetable (place_from changed t history)
timetable_from t [] h = h
timetable_from t (c ∷ history) h = timetable_from (changed t c) history (IsTimetable-changed t c h)

pub no_clash : (history : List (List Step)) → IsLegal schedule history → IsTimetable (place_of schedule history)
no_clash history legal = timetable_from [] history IsTimetable-nil

-- ---- what meeting an order comes to

-- what a client knows and is told then is what an order comes to, behind these changes
pub record ComesTo (v : KnownShifts) (h : Handlers ShiftStatement) (before : List (List Step)) (d : Done) : Type 0 where
  pub seen : v.seen ≡ before ++ option_to_list d.change
  pub own : v.own ≡ d.transaction
  pub tells : h ≡ shift_sheet (Ok d.outcome)

-- the changes that come before the client's own
abbrev pub before_in : (w v : KnownShifts) (s : State ShiftStatement) (m : PgWireFrontendMessage) (h : Handlers ShiftStatement) (o : ShiftOrder)
    → HasOrdered w v s m h o → List (List Step)
before_in w v s m h o given = w.seen ++ given.met.others

pub comes_to : (w v : KnownShifts) (s : State ShiftStatement) (m : PgWireFrontendMessage) (h : Handlers ShiftStatement) (o : ShiftOrder)
    (own : Option Open) (given : HasOrdered w v s m h o) → w.own ≡ own
    → ComesTo v h (before_in w v s m h o given) (done_on (place_of schedule (before_in w v s m h o given)) own o)
comes_to w v s m h o own given has =
    let before = w.seen ++ given.met.others in
    let t = place_of schedule before in
    let is : met_behind schedule before w.own s m ≡ met_done (done_on t own o) =
    ap (λ own. met_behind schedule before own s m) has
    ∙ (ap (λ failed. met_by t own failed (ordered failed (asked s m))) given.none_failed
    ∙ ap (met_by t own false) given.asks)
    in
    record {
      seen = given.met.seen ∙ ap (λ (d : Met (List Step) (Option Open) ShiftStatement). before ++ option_to_list d.change) is;
      own = given.met.own ∙ ap (λ (d : Met (List Step) (Option Open) ShiftStatement). d.own) is;
      tells = given.met.tells ∙ ap (λ (d : Met (List Step) (Option Open) ShiftStatement). d.told) is;
    }

-- where there is no change, no more is seen than the changes before
pub unchanged : (v : KnownShifts) (before : List (List Step)) (change : Option (List Step)) → change ≡ None
    → v.seen ≡ before ++ option_to_list change → v.seen ≡ before
unchanged v before change none seen = seen ∙ (ap (λ c. before ++ option_to_list c) none ∙ append-nil before)

pub nothing : (v : KnownShifts) (h : Handlers ShiftStatement) (before : List (List Step)) (own : Option Open) (told : Outcome)
    → ComesTo v h before (leaves own told) → ChangesNothing before v.seen h told
nothing v h before own told c = record { same = unchanged v before None refl c.seen; tells = c.tells }

-- ---- changes that come last

place_more : (t : List Shift) (log : List (List Step)) (c : List Step) → place_from changed t (log ++ c ∷ []) ≡ changed (place_from changed t log) c
place_more t [] c = refl
place_more t (x ∷ log) c = place_more (changed t x) log c

-- steps that can be done are a change that leads to what they come to
pub place_behind : (before now : List (List Step)) (steps : List Step) (left : List Shift) → done_in_turn (place_of schedule before) steps ≡ Ok left
    → now ≡ before ++ steps ∷ [] → place_of schedule now ≡ left
place_behind before now steps left can last =
    ap (place_of schedule) last ∙ (place_more [] before steps ∙ ap (λ r. ok_or_else r (place_of schedule before)) can)

one_step : (t : List Shift) (step : Step) (left : List Shift) → tried t step ≡ Ok left → done_in_turn t (step ∷ []) ≡ Ok left
one_step t step left can = ap (λ r. and_then r (λ behind. done_in_turn behind [])) can

booked_last : (v : KnownShifts) (h : Handlers ShiftStatement) (before : List (List Step)) (shift : Shift) (r : Result (List Shift) Refusal)
    → tried (place_of schedule before) (Book shift) ≡ r → ComesTo v h before (stepped_alone (Book shift) r) → BooksLast shift r before v.seen h
booked_last v h before shift (Ok left) can c = record {
  last = c.seen;
  leaves = place_behind before v.seen (Book shift ∷ []) left (one_step (place_of schedule before) (Book shift) left can) c.seen;
  tells = c.tells;
}
booked_last v h before shift (Err why) can c = nothing v h before None (Refused why) c

-- ---- a shift that is found

is_itself : (s : Shift) → is_shift s s ≡ true
is_itself s =
    let named = nat_list_eq_equiv.refl s.name in
    let starts = int_eq_equiv.refl (span_of s.start) in
    let lasts = int_eq_equiv.refl (span_of s.length) in
    ap (λ b. (b && int_eq (span_of s.start) (span_of s.start)) && int_eq (span_of s.length) (span_of s.length)) named
    ∙ (ap (λ b. b && int_eq (span_of s.length) (span_of s.length)) starts ∙ lasts)

or_true : (b : Bool) → (b || true) ≡ true
or_true true = refl
or_true false = refl

at_head : (b : Bool) (x s : Shift) (t : List Shift) (r : Option Shift) → (r ≡ Some s → list_any (is_shift s) t ≡ true)
    → cond b (Some x) r ≡ Some s → (is_shift s x || list_any (is_shift s) t) ≡ true
at_head true x s t r later e =
    let same : s ≡ x = cc (e) in
    ap (λ b. b || list_any (is_shift s) t) (ap (is_shift s) (sym same) ∙ is_itself s)
at_head false x s t r later e = ap (λ b. is_shift s x || b) (later e) ∙ or_true (is_shift s x)

-- it stands in the table
finds : (p : Shift → Bool) (t : List Shift) (s : Shift) → find p t ≡ Some s → list_any (is_shift s) t ≡ true
finds p [] s e = absurd (none-some s e)
finds p (x ∷ t) s e = at_head (p x) x s t (find p t) (finds p t s) e

-- so it can be canceled
pub can_cancel : (t : List Shift) (name : List ℕ) (start : Interval) (s : Shift) → found t name start ≡ Some s
    → tried t (Cancel s) ≡ Ok (canceled t s.name s.start)
can_cancel t name start s is =
    ap (λ b. if b then Ok (canceled t s.name s.start) else Err UnknownShift) (finds (stands_at name start) t s is)

canceled_last : (v : KnownShifts) (h : Handlers ShiftStatement) (before : List (List Step)) (name : List ℕ) (start : Interval)
    (shift : Option Shift) → found (place_of schedule before) name start ≡ shift
    → ComesTo v h before (canceling (place_of schedule before) None shift) → CancelsLast shift before v.seen h
canceled_last v h before name start None is c = nothing v h before None (Refused UnknownShift) c
canceled_last v h before name start (Some s) is c =
    let t = place_of schedule before in
    let can = can_cancel t name start s is in
    let does : ComesTo v h before (stepped_alone (Cancel s) (Ok (canceled t s.name s.start))) =
    subst (λ (r : Result (List Shift) Refusal). ComesTo v h before (stepped_alone (Cancel s) r)) can c
    in
    record {
      last = does.seen;
      leaves = place_behind before v.seen (Cancel s ∷ []) (canceled t s.name s.start) (one_step t (Cancel s) (canceled t s.name s.start) can)
          does.seen;
      tells = does.tells;
    }

-- ---- outside of a transaction

pub books : (w v : KnownShifts) (s : State ShiftStatement) (m : PgWireFrontendMessage) (h : Handlers ShiftStatement) (shift : Shift)
    → HasOrdered w v s m h (order.Book shift) → w.own ≡ None
    → (before : List (List Step)) × IsPrefix w.seen before
    × BooksLast shift (tried (place_of schedule before) (Book shift)) before v.seen h
books w v s m h shift given none =
    let before = w.seen ++ given.met.others in (
      before,
      (given.met.others, refl),
      booked_last v h before shift (tried (place_of schedule before) (Book shift)) refl
          (comes_to w v s m h (order.Book shift) None given none),
    )

pub cancels : (w v : KnownShifts) (s : State ShiftStatement) (m : PgWireFrontendMessage) (h : Handlers ShiftStatement) (name : List ℕ)
    (start : Interval) → HasOrdered w v s m h (order.Cancel name start) → w.own ≡ None
    → (before : List (List Step)) × IsPrefix w.seen before × CancelsLast (found (place_of schedule before) name start) before v.seen h
cancels w v s m h name start given none =
    let before = w.seen ++ given.met.others in (
      before,
      (given.met.others, refl),
      canceled_last v h before name start (found (place_of schedule before) name start) refl
          (comes_to w v s m h (order.Cancel name start) None given none),
    )

-- what is shown of the shifts behind all changes before is shown of those behind all that is seen
shown : (w v : KnownShifts) (h : Handlers ShiftStatement) (others : List (List Step)) (f : List Shift → List Shift)
    → ComesTo v h (w.seen ++ others) (leaves None (Shown (f (place_of schedule (w.seen ++ others)))))
    → IsPrefix w.seen v.seen × (h ≡ shift_sheet (Ok (Shown (f (place_of schedule v.seen)))))
shown w v h others f c =
    let same = unchanged v (w.seen ++ others) None refl c.seen in
    ((others, sym same), c.tells ∙ ap (λ log. shift_sheet (Ok (Shown (f (place_of schedule log))))) (sym same))

pub shows : (w v : KnownShifts) (s : State ShiftStatement) (m : PgWireFrontendMessage) (h : Handlers ShiftStatement)
    → HasOrdered w v s m h order.Shifts → w.own ≡ None
    → IsPrefix w.seen v.seen × (h ≡ shift_sheet (Ok (Shown (place_of schedule v.seen))))
shows w v s m h given none = shown w v h given.met.others (λ t. t) (comes_to w v s m h order.Shifts None given none)

pub shows_of : (w v : KnownShifts) (s : State ShiftStatement) (m : PgWireFrontendMessage) (h : Handlers ShiftStatement) (name : List ℕ)
    → HasOrdered w v s m h (order.ShiftsOf name) → w.own ≡ None
    → IsPrefix w.seen v.seen × (h ≡ shift_sheet (Ok (Shown (shifts_of (place_of schedule v.seen) name))))
shows_of w v s m h name given none =
    shown w v h given.met.others (λ t. shifts_of t name) (comes_to w v s m h (order.ShiftsOf name) None given none)

alone_opens_none : (step : Step) (r : Result (List Shift) Refusal) → (stepped_alone step r).transaction ≡ None
alone_opens_none step (Ok left) = refl
alone_opens_none step (Err why) = refl

canceling_opens_none : (t : List Shift) (shift : Option Shift) → (canceling t None shift).transaction ≡ None
canceling_opens_none t None = refl
canceling_opens_none t (Some s) = alone_opens_none (Cancel s) (tried t (Cancel s))

done_opens_none : (t : List Shift) (o : ShiftOrder) → o ≢ order.Begin → (done_on t None o).transaction ≡ None
done_opens_none t (order.Book s) other = alone_opens_none (Book s) (tried t (Book s))
done_opens_none t (order.Cancel name start) other = canceling_opens_none t (found t name start)
done_opens_none t order.Shifts other = refl
done_opens_none t (order.ShiftsOf name) other = refl
done_opens_none t order.Begin other = absurd (other refl)
done_opens_none t order.Commit other = refl
done_opens_none t order.Rollback other = refl

pub opens_none : (w v : KnownShifts) (s : State ShiftStatement) (m : PgWireFrontendMessage) (h : Handlers ShiftStatement) (o : ShiftOrder)
    → HasOrdered w v s m h o → o ≢ order.Begin → w.own ≡ None → v.own ≡ None
opens_none w v s m h o given other none =
    (comes_to w v s m h o None given none).own ∙ done_opens_none (place_of schedule (before_in w v s m h o given)) o other
