use Rattle.relation_server.proofs.spawner.ConnectionJobThreadJob.run_whole.Goals as goal

pub returns : goal.returns
returns g c = record { answer = _; new_left = _; new = _; after = _; note = _; conversed = c.run.ensures.conversed }
