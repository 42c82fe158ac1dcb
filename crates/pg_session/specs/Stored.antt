-- What is stored stays good where the parser does.
use Rattle.std.specs.Prelude.{◌≡◌}
use Rattle.pg_results.specs.Told.{ParserTold}

-- Both parsers give the same statements, with the same columns. So what is stored under one is good under the other.
pub record StoresAlike {S : Type 0} (one other : ParserTold S) : Type 0 where
  pub gives : other.gives ≡ one.gives
  pub columns : other.columns ≡ one.columns
