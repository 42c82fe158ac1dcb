use Rattle.sample_handlers.proofs.answer.response.Goals as goal

pub returns-in-Long : goal.returns-in-Long
returns-in-Long c = rw c.in-Long.is c.long.ensures
