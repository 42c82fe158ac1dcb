use Rattle.sample_handlers.proofs.rows.push_first.Goals as goal

pub returns-in-Text-clause-ok : goal.returns-in-Text-clause-ok
returns-in-Text-clause-ok c = rw c.in-Text.is c.push_row.ensures.ok

pub returns-in-Binary-clause-ok : goal.returns-in-Binary-clause-ok
returns-in-Binary-clause-ok c = rw c.in-Binary.is c.push_row-in-Binary.ensures.ok
