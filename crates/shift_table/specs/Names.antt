-- Which texts are names of shifts.
use Rattle.std.specs.Prelude.{ℕ, ◌<◌, ◌≤◌, ◌≡◌, false, ◌||◌, List, length, Option, Some, None, nat_lt, ◌==◌, if◌then◌else◌}
use Rattle.std.specs.List.{list_any}
use Rattle.shift_table.specs.declared.name.NameError.{NameError}
use Rattle.shift_table.specs.declared.name.NameError.TheVariants.{Length, ZeroByte}

-- a name has 1 to 63 bytes, and none is zero
pub record IsShiftName (text : List ℕ) : Type 0 where
  pub some : 0 < length text
  pub short : length text ≤ 63
  pub nonzero : list_any (λ byte. byte == 0) text ≡ false

-- why a text is no name, or None where it is one
abbrev pub name_fault : List ℕ → Option NameError
name_fault text =
    if length text == 0 || nat_lt 63 (length text) then Some Length
    else if list_any (λ byte. byte == 0) text then Some ZeroByte
    else None
