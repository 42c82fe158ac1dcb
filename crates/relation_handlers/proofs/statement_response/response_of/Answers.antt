use Rattle.relation_handlers.proofs.statement_response.response_of.Goals as goal

pub returns-in_ok-rows-in-Relation-clause-sendable : goal.returns-in_ok-rows-in-Relation-clause-sendable
returns-in_ok-rows-in-Relation-clause-sendable g c = rw c.in-Relation.is c.in_ok-rows-in-Relation.ensures.sendable
