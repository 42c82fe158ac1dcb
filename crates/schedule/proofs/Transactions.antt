-- What orders come to within a transaction, and what it comes to at its end.
use Rattle.std.proofs.Common.{◌≡◌, true, false, ℕ, List, [], ◌∷◌, ◌++◌, Option, Some, None, Result, Ok, Err, refl, ap, sym, ◌∙◌, subst}
use Rattle.std.specs.Prelude.{option_to_list}
use mathlib.Core.List.{IsPrefix}
use Rattle.pg_interval.specs.declared.pg_interval.Interval.{Interval}
use Rattle.pg_messages.specs.declared.frontend.PgWireFrontendMessage.{PgWireFrontendMessage}
use Rattle.pg_results.specs.declared.error.PgWireError.{PgWireError}
use Rattle.pg_client.specs.State.{State}
use Rattle.conversation_table.specs.Handlers.{Handlers}
use Rattle.asked_queries.specs.Asking.{asked}
use Rattle.shift_table.specs.Shifts.{canceled, found, shifts_of}
use Rattle.shift_table.specs.declared.shift.Shift.{Shift}
use Rattle.shift_orders.specs.declared.order.ShiftOrder.{ShiftOrder}
use Rattle.shift_orders.specs.declared.order.ShiftOrder.TheVariants as order
use Rattle.shift_orders.specs.declared.statement.ShiftStatement.{ShiftStatement}
use Rattle.shift_transactions.specs.Doing.{Open, canceling, committed_by, done, done_after_error, done_on, leaves, stepped_within}
use Rattle.shift_transactions.specs.Steps.{done_in_turn, tried}
use Rattle.shift_transactions.specs.declared.step.Step.{Step}
use Rattle.shift_transactions.specs.declared.step.Step.TheVariants.{Book, Cancel}
use Rattle.shift_transactions.specs.declared.outcome.Outcome.{Outcome}
use Rattle.shift_transactions.specs.declared.outcome.Outcome.TheVariants.{Began, Canceled, Committed, Refused, RolledBack, Shown}
use Rattle.shift_transactions.specs.declared.outcome.Refusal.{Refusal}
use Rattle.shift_transactions.specs.declared.outcome.Refusal.TheVariants.{Changed, UnknownShift}
use Rattle.shift_sheets.specs.Sheets.{shift_sheet}
use Rattle.shared_worlds.specs.Sharing.{MeetsShared}
use Rattle.shared_worlds.specs.Worlds.{Met, place_of}
use Rattle.schedule.specs.Laws.{BooksWithin, CancelsWithin, CommitsLast, HasOrdered, KeepsTransaction, KnownShifts, may_change}
use Rattle.schedule.specs.World.{has_failed, met_by, ordered, schedule}
use Rattle.schedule.proofs.Ordering.{ComesTo, before_in, can_cancel, comes_to, nothing, place_behind, unchanged}

-- ---- nothing of what clients share is changed

within_keeps : (x : Open) (step : Step) (r : Result (List Shift) Refusal) → (stepped_within x step r).change ≡ None
within_keeps x step (Ok left) = refl
within_keeps x step (Err why) = refl

canceling_keeps : (t : List Shift) (x : Open) (shift : Option Shift) → (canceling t (Some x) shift).change ≡ None
canceling_keeps t x None = refl
canceling_keeps t x (Some s) = within_keeps x (Cancel s) (tried x.table (Cancel s))

done_keeps : (t : List Shift) (own : Option Open) (o : ShiftOrder) → may_change own o ≡ false → (done_on t own o).change ≡ None
done_keeps t None (order.Book s) never = cc (never)
done_keeps t None (order.Cancel name start) never = cc (never)
done_keeps t None order.Shifts never = refl
done_keeps t None (order.ShiftsOf name) never = refl
done_keeps t None order.Begin never = refl
done_keeps t None order.Commit never = refl
done_keeps t None order.Rollback never = refl
done_keeps t (Some x) (order.Book s) never = within_keeps x (Book s) (tried x.table (Book s))
done_keeps t (Some x) (order.Cancel name start) never = canceling_keeps t x (found x.table name start)
done_keeps t (Some x) order.Shifts never = refl
done_keeps t (Some x) (order.ShiftsOf name) never = refl
done_keeps t (Some x) order.Begin never = refl
done_keeps t (Some x) order.Commit never = cc (never)
done_keeps t (Some x) order.Rollback never = refl

pub keeps : (w v : KnownShifts) (s : State ShiftStatement) (m : PgWireFrontendMessage) (h : Handlers ShiftStatement) (o : ShiftOrder)
    (given : HasOrdered w v s m h o) → may_change w.own o ≡ false → v.seen ≡ w.seen ++ given.met.others
keeps w v s m h o given never =
    let before = w.seen ++ given.met.others in
    unchanged v before (done_on (place_of schedule before) w.own o).change (done_keeps (place_of schedule before) w.own o never)
    (comes_to w v s m h o w.own given refl).seen

after_error_keeps : (own : Option Open) (o : ShiftOrder) → (done_after_error own o).change ≡ None
after_error_keeps own (order.Book s) = refl
after_error_keeps own (order.Cancel name start) = refl
after_error_keeps own order.Shifts = refl
after_error_keeps own (order.ShiftsOf name) = refl
after_error_keeps own order.Begin = refl
after_error_keeps own order.Commit = refl
after_error_keeps own order.Rollback = refl

failed_keeps : (t : List Shift) (own : Option Open) (asked : Option (Result ShiftOrder PgWireError)) → (met_by t own true asked).change ≡ None
failed_keeps t own None = refl
failed_keeps t own (Some (Err e)) = refl
failed_keeps t own (Some (Ok o)) = after_error_keeps own o

pub failed : (w v : KnownShifts) (s : State ShiftStatement) (m : PgWireFrontendMessage) (h : Handlers ShiftStatement)
    (met : MeetsShared schedule w s m h v) → has_failed s.info.status ≡ true → v.seen ≡ w.seen ++ met.others
failed w v s m h met has =
    let before = w.seen ++ met.others in
    let t = place_of schedule before in
    unchanged v before (met_by t w.own (has_failed s.info.status) (ordered (has_failed s.info.status) (asked s m))).change
    (ap (λ b. (met_by t w.own b (ordered b (asked s m))).change) has ∙ failed_keeps t w.own (ordered true (asked s m))) met.seen

-- ---- its end

committed_last : (v : KnownShifts) (h : Handlers ShiftStatement) (before : List (List Step)) (steps : List Step) (r : Result (List Shift) Refusal)
    → done_in_turn (place_of schedule before) steps ≡ r → ComesTo v h before (committed_by steps r) → CommitsLast steps r before v.seen h
committed_last v h before [] r can c = nothing v h before None Committed c
committed_last v h before (step ∷ steps) (Ok left) can c =
    record { last = c.seen; leaves = place_behind before v.seen (step ∷ steps) left can c.seen; tells = c.tells }
committed_last v h before (step ∷ steps) (Err why) can c = nothing v h before None (Refused Changed) c

ends : (steps : List Step) (r : Result (List Shift) Refusal) → (committed_by steps r).transaction ≡ None
ends [] r = refl
ends (step ∷ steps) (Ok left) = refl
ends (step ∷ steps) (Err why) = refl

pub commits : (w v : KnownShifts) (s : State ShiftStatement) (m : PgWireFrontendMessage) (h : Handlers ShiftStatement) (x : Open)
    → HasOrdered w v s m h order.Commit → w.own ≡ Some x
    → (before : List (List Step)) × IsPrefix w.seen before × (v.own ≡ None)
    × CommitsLast x.steps (done_in_turn (place_of schedule before) x.steps) before v.seen h
commits w v s m h x given has =
    let before = w.seen ++ given.met.others in
    let c = comes_to w v s m h order.Commit (Some x) given has in
    let r = done_in_turn (place_of schedule before) x.steps in
    (before, (given.met.others, refl), c.own ∙ ends x.steps r, committed_last v h before x.steps r refl c)

pub rolls_back : (w v : KnownShifts) (s : State ShiftStatement) (m : PgWireFrontendMessage) (h : Handlers ShiftStatement) (x : Open)
    → HasOrdered w v s m h order.Rollback → w.own ≡ Some x → (v.own ≡ None) × (h ≡ shift_sheet (Ok RolledBack))
rolls_back w v s m h x given has = let c = comes_to w v s m h order.Rollback (Some x) given has in (c.own, c.tells)

-- ---- what it has for itself

pub begins : (w v : KnownShifts) (s : State ShiftStatement) (m : PgWireFrontendMessage) (h : Handlers ShiftStatement)
    → HasOrdered w v s m h order.Begin → w.own ≡ None
    → IsPrefix w.seen v.seen × (v.own ≡ Some (record { table = place_of schedule v.seen; steps = [] })) × (h ≡ shift_sheet (Ok Began))
begins w v s m h given none =
    let before = w.seen ++ given.met.others in
    let c = comes_to w v s m h order.Begin None given none in
    let same = unchanged v before None refl c.seen in
    let opened_at : List (List Step) → Option Open = λ log. Some (record { table = place_of schedule log; steps = [] }) in
    ((given.met.others, sym same), c.own ∙ ap opened_at (sym same), c.tells)

kept : (v : KnownShifts) (h : Handlers ShiftStatement) (before : List (List Step)) (x : Open) (told : Outcome)
    → ComesTo v h before (leaves (Some x) told) → KeepsTransaction x v.own h told
kept v h before x told c = record { same = c.own; tells = c.tells }

pub begins_again : (w v : KnownShifts) (s : State ShiftStatement) (m : PgWireFrontendMessage) (h : Handlers ShiftStatement) (x : Open)
    → HasOrdered w v s m h order.Begin → w.own ≡ Some x → KeepsTransaction x v.own h Began
begins_again w v s m h x given has =
    kept v h (before_in w v s m h order.Begin given) x Began (comes_to w v s m h order.Begin (Some x) given has)

booked_within : (v : KnownShifts) (h : Handlers ShiftStatement) (before : List (List Step)) (x : Open) (shift : Shift)
    (r : Result (List Shift) Refusal) → ComesTo v h before (stepped_within x (Book shift) r) → BooksWithin x shift r v.own h
booked_within v h before x shift (Ok left) c = record { last = c.own; tells = c.tells }
booked_within v h before x shift (Err why) c = kept v h before x (Refused why) c

pub books_within : (w v : KnownShifts) (s : State ShiftStatement) (m : PgWireFrontendMessage) (h : Handlers ShiftStatement) (x : Open)
    (shift : Shift) → HasOrdered w v s m h (order.Book shift) → w.own ≡ Some x → BooksWithin x shift (tried x.table (Book shift)) v.own h
books_within w v s m h x shift given has =
    booked_within v h (before_in w v s m h (order.Book shift) given) x shift (tried x.table (Book shift))
    (comes_to w v s m h (order.Book shift) (Some x) given has)

canceled_within : (v : KnownShifts) (h : Handlers ShiftStatement) (before : List (List Step)) (x : Open) (name : List ℕ) (start : Interval)
    (shift : Option Shift) → found x.table name start ≡ shift
    → ComesTo v h before (canceling (place_of schedule before) (Some x) shift) → CancelsWithin x shift v.own h
canceled_within v h before x name start None is c = kept v h before x (Refused UnknownShift) c
canceled_within v h before x name start (Some s) is c =
    let does : ComesTo v h before (stepped_within x (Cancel s) (Ok (canceled x.table s.name s.start))) =
    subst (λ (r : Result (List Shift) Refusal). ComesTo v h before (stepped_within x (Cancel s) r)) (can_cancel x.table name start s is) c
    in
    record { last = does.own; tells = does.tells }

pub cancels_within : (w v : KnownShifts) (s : State ShiftStatement) (m : PgWireFrontendMessage) (h : Handlers ShiftStatement) (x : Open)
    (name : List ℕ) (start : Interval) → HasOrdered w v s m h (order.Cancel name start) → w.own ≡ Some x
    → CancelsWithin x (found x.table name start) v.own h
cancels_within w v s m h x name start given has =
    canceled_within v h (before_in w v s m h (order.Cancel name start) given) x name start (found x.table name start) refl
    (comes_to w v s m h (order.Cancel name start) (Some x) given has)

pub shows_within : (w v : KnownShifts) (s : State ShiftStatement) (m : PgWireFrontendMessage) (h : Handlers ShiftStatement) (x : Open)
    → HasOrdered w v s m h order.Shifts → w.own ≡ Some x → KeepsTransaction x v.own h (Shown x.table)
shows_within w v s m h x given has =
    kept v h (before_in w v s m h order.Shifts given) x (Shown x.table) (comes_to w v s m h order.Shifts (Some x) given has)

pub shows_of_within : (w v : KnownShifts) (s : State ShiftStatement) (m : PgWireFrontendMessage) (h : Handlers ShiftStatement) (x : Open)
    (name : List ℕ) → HasOrdered w v s m h (order.ShiftsOf name) → w.own ≡ Some x
    → KeepsTransaction x v.own h (Shown (shifts_of x.table name))
shows_of_within w v s m h x name given has =
    kept v h (before_in w v s m h (order.ShiftsOf name) given) x (Shown (shifts_of x.table name))
    (comes_to w v s m h (order.ShiftsOf name) (Some x) given has)
