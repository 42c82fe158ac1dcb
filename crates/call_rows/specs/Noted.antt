-- What the answers tell that note their calls.
use Rattle.std.specs.Prelude.{Bool, [], Ok, is_some}
use Rattle.row_handlers.specs.Answers.{AnswersTold}

-- A statement is whether its query is an extended one. Each is answered by no row of no column.
abbrev pub noted_answers : AnswersTold Bool
noted_answers = record {
  parse = λ query types. Ok (is_some types);
  parameter_types = λ s. [];
  columns = λ s formats. [];
  rows = λ s parameters parameter_format formats. Ok [];
}
