use Rattle.std.proofs.Common.{inr, refl, Err}
use Rattle.conversation_runs.specs.declared.ends.ServeError.TheVariants.{NoMemory}
use Rattle.relation_server.specs.declared.outcome.Outcome.TheVariants.{Conversation}
use Rattle.relation_server.proofs.places.serve_standard.Goals as goal

-- there was no memory for the registry
pub returns-in_default-clause-ran : goal.returns-in_default-clause-ran
returns-in_default-clause-ran g c = record {
  outcome = Conversation (Err NoMemory);
  came = inr (refl, refl);
  told = c.report.ensures.reported;
}
