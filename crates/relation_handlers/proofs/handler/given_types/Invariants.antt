use Rattle.std.proofs.Common.{◌≡◌, ◌++◌, drop}
use Rattle.relation_tables.specs.RelationHandler.{given_types}
use Rattle.relation_handlers.proofs.handler.given_types.Given as goal

abbrev pub invariant-loop-given : goal.invariant-loop-given
invariant-loop-given l = record { whole : l.all ++ given_types (drop l.given-index l.types) ≡ given_types l.types }
