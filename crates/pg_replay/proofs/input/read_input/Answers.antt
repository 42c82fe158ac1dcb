use Rattle.pg_replay.proofs.input.read_input.Goals as goal

pub returns-clause-whole : goal.returns-clause-whole
returns-clause-whole g c = c.read_by.ensures.whole

pub returns-clause-within : goal.returns-clause-within
returns-clause-within g c = c.read_by.ensures.within

pub returns-clause-cause : goal.returns-clause-cause
returns-clause-cause g c = c.read_by.ensures.cause

pub returns-clause-never_falls : goal.returns-clause-never_falls
returns-clause-never_falls g c = c.read_by.ensures.never_falls
