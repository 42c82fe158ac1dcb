-- Page: the rows that one Execute sends (protocol: Extended Query, Execute with a limit of rows).
use Rattle.std.specs.Prelude.{ℕ, ℤ, pos, negsuc, Bool, true, false, List, [], ◌∷◌, Option, Some, None, Result, Ok, Err, ◌≡◌, ◌≤◌, ◌⊎◌, ◌++◌, ◌&&◌, ◌+◌, ◌-◌, ◌^◌, map, min, nat_le, if◌then◌else◌, length, take, drop, unsigned_abs}
use Rattle.pg_results.specs.declared.error.PgWireError.{PgWireError}
use Rattle.pg_results.specs.declared.error.PgWireError.TheVariants.{NoMemory}

-- whether this many rows reach a limit, which is at least 1
abbrev pub is_reached : ℤ → ℕ → Bool
is_reached (pos limit) rows = nat_le 1 limit && nat_le limit rows
is_reached (negsuc n) rows = false

pub record Page (A : Type 0) : Type 0 where
  pub rows : List A
  pub suspended : Bool

-- Page of the rows to come: as many as the limit, suspended, where the rows reach it; else all of them, complete.
abbrev pub page : {A : Type 0} → ℤ → List A → Page A
page limit rows = if is_reached limit (length rows)
    then (record { rows = take (unsigned_abs limit) rows; suspended = true })
    else (record { rows = rows; suspended = false })

-- Rows delivered since a portal was started: those before a page, and those of it. The number saturates at the greatest
-- u64.
abbrev pub delivered_after : ℕ → ℕ → ℕ
delivered_after before rows = min (before + rows) (2 ^ 64 - 1)

-- ---- over items, which are rows or errors

abbrev pub before_error : {A : Type 0} → List (Result A PgWireError) → List A
before_error [] = []
before_error (Ok item ∷ items) = item ∷ before_error items
before_error (Err e ∷ items) = []

-- the first error, and the items after it
abbrev pub first_error : {A : Type 0} → List (Result A PgWireError) → Option (PgWireError × List (Result A PgWireError))
first_error [] = None
first_error (Ok item ∷ items) = first_error items
first_error (Err e ∷ items) = Some (e, items)

-- how a page over items ends: at its limit, at the end of the items, or at an error; each with the items that are left
pub data PageEnd (A : Type 0) : Type 0 where
  AtLimit : List (Result A PgWireError) → PageEnd A
  AtEnd : PageEnd A
  AtError : PgWireError → List (Result A PgWireError) → PageEnd A

pub record ItemPage (A : Type 0) : Type 0 where
  pub rows : List A
  pub ending : PageEnd A

-- the page of these rows, which stand before an error or before the end; an error drops them
abbrev pub ended_page : {A : Type 0} → List A → Option (PgWireError × List (Result A PgWireError)) → ItemPage A
ended_page rows None = record { rows = rows; ending = AtEnd }
ended_page rows (Some e) = record { rows = []; ending = AtError e.0 e.1 }

-- Page over items: the page of the rows before the first error. Where they don't reach the limit, the error is met.
abbrev pub item_page : {A : Type 0} → ℤ → List (Result A PgWireError) → ItemPage A
item_page limit items =
    let p = page limit (before_error items) in
    if p.suspended then (record { rows = p.rows; ending = AtLimit (drop (length p.rows) items) }) else ended_page p.rows (first_error items)

-- ---- a page that was delivered

-- How a page ended: suspended at its limit with these items left, or complete with none left. A page that met an error
-- isn't delivered.
abbrev pub EndsPage : {A : Type 0} → PageEnd A → Bool → List (Result A PgWireError) → Type 0
EndsPage (AtLimit items) suspended left = (suspended ≡ true) × (left ≡ items)
EndsPage AtEnd suspended left = (suspended ≡ false) × (left ≡ [])
EndsPage (AtError error items) suspended left = ⊥

-- A page was cut short after these rows: by an error that stood there, or because memory ran out, and then one more row
-- may be lost.
abbrev pub CutsPage : {A : Type 0} → ℤ → List (Result A PgWireError) → List A → PgWireError → List (Result A PgWireError) → Type 0
CutsPage {A} limit old rows error left =
    ((error ≡ NoMemory) × ((lost : List A) × (length lost ≤ 1) × (old ≡ map Ok (rows ++ lost) ++ left)))
    ⊎ (((item_page limit old).ending ≡ AtError error left) × (old ≡ map Ok rows ++ Err error ∷ left))
