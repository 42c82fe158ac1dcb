-- Values that are appended one after another, up to the first refusal.
use Rattle.std.proofs.Common.{ℕ, ◌++◌, List, Result, Ok, Err, drop, map}
use Rattle.std.specs.List.{concat, zip}
use Rattle.pg_results.specs.declared.error.PgWireError.{PgWireError}
use Rattle.relation_tables.specs.RelationHandler.{all_or_error}

abbrev pub Values : Type 0
Values = Result (List (List ℕ)) PgWireError

-- the bytes so far, and the values behind them
abbrev pub finish : List ℕ → Values → Result (List ℕ) PgWireError
finish old (Ok values) = Ok (old ++ concat values)
finish old (Err e) = Err e

-- the values of two lists together, from an index on
abbrev pub from : {X Y : Type 0} → (X × Y → Result (List ℕ) PgWireError) → List X → List Y → ℕ → Values
from g xs ys i = all_or_error (map g (zip (drop i xs) (drop i ys)))
