-- The parser whose statement is the query's text.
use Rattle.std.specs.Prelude.{ℕ, true, List, [], Some, Ok}
use Rattle.pg_results.specs.Told.{ParserTold}

abbrev pub noop_told : ParserTold (List ℕ)
noop_told = record { gives = λ _. true; parse = λ _ sql _. Ok (Some sql); parameter_types = λ _. Ok []; columns = λ _ _. Ok [] }
