-- What orders come to: which outcomes they have, and which of these leave all as it was.
use Rattle.std.proofs.Common.{◌≡◌, Bool, true, false, List, [], ◌∷◌, Option, Some, None, Result, Ok, Err, OnErr, refl, ap, subst, sym, ◌∙◌}
use Rattle.shift_table.specs.Shifts.{found}
use Rattle.shift_table.specs.declared.shift.Shift.{Shift}
use Rattle.shift_orders.specs.declared.order.ShiftOrder.{ShiftOrder}
use Rattle.shift_orders.specs.declared.order.ShiftOrder.TheVariants as order
use Rattle.shift_transactions.specs.Doing.{Done, Open, canceling, committed, committed_by, done, done_on, leaves, seen, stepped, stepped_alone, stepped_within}
use Rattle.shift_transactions.specs.Steps.{done_in_turn, tried}
use Rattle.shift_transactions.specs.declared.step.Step.{Step}
use Rattle.shift_transactions.specs.declared.step.Step.TheVariants.{Book, Cancel}
use Rattle.shift_transactions.specs.declared.outcome.Outcome.{Outcome}
use Rattle.shift_transactions.specs.declared.outcome.Refusal.{Refusal}
use Rattle.shift_sheets.specs.Orders.{Fits, LeavesAll, answer_of}
use Rattle.shift_sheets.specs.declared.answer.Answer.{Answer}
use Rattle.shift_sheets.specs.declared.answer.Answer.TheVariants as answer

-- ---- what leaves all as it was

abbrev pub KeepsAll : Option Open → Done → Type 0
KeepsAll x d = LeavesAll d.outcome → d ≡ leaves x d.outcome

alone_keeps : (step : Step) (r : Result (List Shift) Refusal) → KeepsAll None (stepped_alone step r)
alone_keeps (Book s) (Ok behind) e = absurd e
alone_keeps (Cancel s) (Ok behind) e = absurd e
alone_keeps step (Err why) e = refl

within_keeps : (x : Open) (step : Step) (r : Result (List Shift) Refusal) → KeepsAll (Some x) (stepped_within x step r)
within_keeps x (Book s) (Ok behind) e = absurd e
within_keeps x (Cancel s) (Ok behind) e = absurd e
within_keeps x step (Err why) e = refl

stepped_keeps : (t : List Shift) (x : Option Open) (step : Step) → KeepsAll x (stepped t x step)
stepped_keeps t None step = alone_keeps step (tried t step)
stepped_keeps t (Some x) step = within_keeps x step (tried x.table step)

canceling_keeps : (t : List Shift) (x : Option Open) (s : Option Shift) → KeepsAll x (canceling t x s)
canceling_keeps t x None e = refl
canceling_keeps t x (Some s) e = stepped_keeps t x (Cancel s) e

committed_keeps : (x : Option Open) (steps : List Step) (r : Result (List Shift) Refusal) → KeepsAll x (committed_by steps r)
committed_keeps x [] r e = absurd e
committed_keeps x (step ∷ steps) (Ok behind) e = absurd e
committed_keeps x (step ∷ steps) (Err why) e = absurd e

commit_keeps : (t : List Shift) (x : Option Open) → KeepsAll x (committed t x)
commit_keeps t None e = absurd e
commit_keeps t (Some x) e = committed_keeps (Some x) x.steps (done_in_turn t x.steps) e

done_on_keeps : (t : List Shift) (x : Option Open) (o : ShiftOrder) → KeepsAll x (done_on t x o)
done_on_keeps t x (order.Book s) e = stepped_keeps t x (Book s) e
done_on_keeps t x (order.Cancel name start) e = canceling_keeps t x (found (seen t x) name start) e
done_on_keeps t x order.Shifts e = refl
done_on_keeps t x (order.ShiftsOf name) e = refl
done_on_keeps t x order.Begin e = absurd e
done_on_keeps t x order.Commit e = commit_keeps t x e
done_on_keeps t x order.Rollback e = absurd e

after_error_keeps : (t : List Shift) (x : Option Open) (o : ShiftOrder) → KeepsAll x (done true t x o)
after_error_keeps t x (order.Book s) e = refl
after_error_keeps t x (order.Cancel name start) e = refl
after_error_keeps t x order.Shifts e = refl
after_error_keeps t x (order.ShiftsOf name) e = refl
after_error_keeps t x order.Begin e = refl
after_error_keeps t x order.Commit e = absurd e
after_error_keeps t x order.Rollback e = absurd e

done_keeps : (failed : Bool) (t : List Shift) (x : Option Open) (o : ShiftOrder) → KeepsAll x (done failed t x o)
done_keeps true t x o = after_error_keeps t x o
done_keeps false t x o = done_on_keeps t x o

-- so there is no change, and the transaction is as it was
pub nothing_done : (failed : Bool) (t : List Shift) (x y : Option Open) (o : ShiftOrder) (change : Option (List Step)) (outcome : Outcome)
    → record { change = change; transaction = y; outcome = outcome } ≡ done failed t x o → LeavesAll outcome → (change ≡ None) × (y ≡ x)
nothing_done failed t x y o change outcome e s =
    let all = e ∙ done_keeps failed t x o (subst LeavesAll (ap (λ (d : Done). d.outcome) e) s) in
    (ap (λ (d : Done). d.change) all, ap (λ (d : Done). d.transaction) all)

-- ---- the outcome of an order that is done is what its sheet says

booked_fits : (s : Shift) (r : Result (List Shift) Refusal) → Fits answer.Booked (stepped_alone (Book s) r).outcome
booked_fits s (Ok behind) = refl
booked_fits s (Err why) = tt

booked_within_fits : (x : Open) (s : Shift) (r : Result (List Shift) Refusal) → Fits answer.Booked (stepped_within x (Book s) r).outcome
booked_within_fits x s (Ok behind) = refl
booked_within_fits x s (Err why) = tt

book_fits : (t : List Shift) (x : Option Open) (s : Shift) → Fits answer.Booked (stepped t x (Book s)).outcome
book_fits t None s = booked_fits s (tried t (Book s))
book_fits t (Some x) s = booked_within_fits x s (tried x.table (Book s))

canceled_fits : (s : Shift) (r : Result (List Shift) Refusal) → Fits answer.Canceled (stepped_alone (Cancel s) r).outcome
canceled_fits s (Ok behind) = refl
canceled_fits s (Err why) = tt

canceled_within_fits : (x : Open) (s : Shift) (r : Result (List Shift) Refusal) → Fits answer.Canceled (stepped_within x (Cancel s) r).outcome
canceled_within_fits x s (Ok behind) = refl
canceled_within_fits x s (Err why) = tt

cancel_fits : (t : List Shift) (x : Option Open) (s : Option Shift) → Fits answer.Canceled (canceling t x s).outcome
cancel_fits t x None = tt
cancel_fits t None (Some s) = canceled_fits s (tried t (Cancel s))
cancel_fits t (Some x) (Some s) = canceled_within_fits x s (tried x.table (Cancel s))

committed_fits : (steps : List Step) (r : Result (List Shift) Refusal) → Fits answer.Committed (committed_by steps r).outcome
committed_fits [] r = refl
committed_fits (step ∷ steps) (Ok behind) = refl
committed_fits (step ∷ steps) (Err why) = tt

commit_fits : (t : List Shift) (x : Option Open) → Fits answer.Committed (committed t x).outcome
commit_fits t None = refl
commit_fits t (Some x) = committed_fits x.steps (done_in_turn t x.steps)

done_fits : (failed : Bool) (t : List Shift) (x : Option Open) (o : ShiftOrder) → Fits (answer_of failed o) (done failed t x o).outcome
done_fits true t x (order.Book s) = tt
done_fits true t x (order.Cancel name start) = tt
done_fits true t x order.Shifts = tt
done_fits true t x (order.ShiftsOf name) = tt
done_fits true t x order.Begin = tt
done_fits true t x order.Commit = refl
done_fits true t x order.Rollback = refl
done_fits false t x (order.Book s) = book_fits t x s
done_fits false t x (order.Cancel name start) = cancel_fits t x (found (seen t x) name start)
done_fits false t x order.Shifts = tt
done_fits false t x (order.ShiftsOf name) = tt
done_fits false t x order.Begin = refl
done_fits false t x order.Commit = commit_fits t x
done_fits false t x order.Rollback = refl

pub outcome_fits : (failed : Bool) (t : List Shift) (x y : Option Open) (o : ShiftOrder) (change : Option (List Step)) (outcome : Outcome)
    (a : Answer) → a ≡ answer_of failed o → record { change = change; transaction = y; outcome = outcome } ≡ done failed t x o → Fits a outcome
outcome_fits failed t x y o change outcome a is e =
    subst (λ b. Fits b outcome) (sym is) (subst (Fits (answer_of failed o)) (sym (ap (λ (d : Done). d.outcome) e)) (done_fits failed t x o))

pub on_err_always : {T E P : Type 0} (r : Result T E) → P → OnErr r P
on_err_always (Ok x) p = tt
on_err_always (Err e) p = p
