use Rattle.std.proofs.Common.{inr}
use Rattle.pg_replay.proofs.running.verify_recording.Goals as goal

pub returns-in-Ok-clause-told : goal.returns-in-Ok-clause-told
returns-in-Ok-clause-told g c = inr (
  c.in-Ok.verdict,
  record { same = c.in-Ok.ensures.same; replayed = c.in-Ok.ensures.exists; one = c.in-Ok.ensures.verdict },
  c.write_verdict.ensures.written,
)
