use Rattle.std.proofs.Common.{◌≡◌, ◌++◌, drop, map}
use Rattle.pg_results.specs.declared.format.Format.TheVariants as format
use Rattle.pg_results.specs.Responses.{told_responses}
use Rattle.sample_handlers.specs.Told.{data_left, response_of}
use Rattle.sample_handlers.proofs.answer.responses.Given as goal

abbrev pub invariant-loop-statement : goal.invariant-loop-statement
invariant-loop-statement l = record {
  whole : told_responses (λ rows. rows) (λ c. data_left c.left) l.all
      ++ map (response_of format.UnifiedText) (drop l.statement-index l.statements)
      ≡ map (response_of format.UnifiedText) l.statements;
}
