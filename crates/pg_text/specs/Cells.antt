-- What a value writes into a cell, and what is read from one.
use Rattle.std.specs.Prelude.{◌≡◌, ◌≤◌, ◌⊎◌, ◌++◌, ℕ, Bool, true, false, List, [], length, Option, None, Some, Result, Ok, Err, OnOk, OnErr}
use Rattle.pg_types.specs.declared.error.CellError.{CellError}
use Rattle.pg_types.specs.declared.error.CellError.TheVariants.{NoMemory, WrongType}
use Rattle.pg_text.specs.declared.to_sql.IsNull.{IsNull}
use Rattle.pg_text.specs.declared.to_sql.IsNull.TheVariants.{Yes, No}

-- the bytes of a cell, None for a null, or why there is no cell
abbrev pub Cell : Type 0
Cell = Result (Option (List ℕ)) CellError

abbrev pub null_of : Option (List ℕ) → IsNull
null_of None = Yes
null_of (Some bytes) = No

-- a null has no bytes
abbrev pub bytes_of : Option (List ℕ) → List ℕ
bytes_of None = []
bytes_of (Some bytes) = bytes

-- the answer for this cell, or NoMemory
abbrev pub IsAnswer : Cell → Result IsNull CellError → Type 0
IsAnswer (Ok cell) result = (result ≡ Ok (null_of cell)) ⊎ (result ≡ Err NoMemory)
IsAnswer (Err error) result = (result ≡ Err error) ⊎ (result ≡ Err NoMemory)

-- there is a cell, and P holds of it
abbrev pub AtCell : Cell → (Option (List ℕ) → Type 0) → Type 0
AtCell (Ok cell) P = P cell
AtCell (Err error) P = ⊥

-- a row of 32,767 cells of this length is less than 1 GiB
abbrev pub IsShort : Option (List ℕ) → Type 0
IsShort cell = length (bytes_of cell) ≤ 32000

-- What a call writes for a cell: the cell's bytes, at most 32,000, and nothing after an error.
pub record WritesCell (told : Cell) (result : Result IsNull CellError) (before after : List ℕ) : Type 0 where
  pub appended : OnOk result (AtCell told (λ cell. after ≡ before ++ bytes_of cell))
  pub short : OnOk result (AtCell told IsShort)
  pub unchanged : OnErr result (after ≡ before)

-- the cell where the type is accepted
abbrev pub checked : Bool → Cell → Cell
checked true cell = cell
checked false cell = Err WrongType

-- a value that may be absent
abbrev pub cell_if_some : {T : Type 0} → (T → Cell) → Option T → Cell
cell_if_some cell None = Ok None
cell_if_some cell (Some x) = cell x

abbrev pub some_of : {T : Type 0} → Result T CellError → Result (Option T) CellError
some_of (Ok x) = Ok (Some x)
some_of (Err e) = Err e

-- the empty input is None
abbrev pub read_if_some : {T : Type 0} → (List ℕ → Result T CellError) → List ℕ → Result (Option T) CellError
read_if_some read [] = Ok None
read_if_some read input = some_of (read input)

-- The result is the one that was told. A value takes no memory. In place of an error NoMemory may come.
abbrev pub IsRead : {T : Type 0} → Result T CellError → Result T CellError → Type 0
IsRead (Ok x) result = result ≡ Ok x
IsRead (Err e) result = (result ≡ Err e) ⊎ (result ≡ Err NoMemory)
