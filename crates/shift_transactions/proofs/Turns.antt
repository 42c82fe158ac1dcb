-- A step that is tried.
use Rattle.std.proofs.Common.{◌≡◌, List, Option, Some, Result, Ok, Err, sym, ◌∙◌, ap}
use Rattle.std.proofs.lemmas.Option.{none-some}
use Rattle.shift_table.specs.declared.shift.Shift.{Shift}
use Rattle.shift_transactions.specs.declared.outcome.Refusal.{Refusal}
use Rattle.shift_transactions.specs.Trying.{after}

-- a refusal leaves the table
pub refused : (t new : List Shift) (r : Result (List Shift) Refusal) (why : Option Refusal) (refusal : Refusal)
    → (new, why) ≡ after t r → why ≡ Some refusal → new ≡ t
refused t new (Ok behind) why refusal e s =
    absurd (none-some refusal (sym (ap (λ (p : List Shift × Option Refusal). p.1) e) ∙ s))
refused t new (Err f) why refusal e s = ap (λ (p : List Shift × Option Refusal). p.0) e
