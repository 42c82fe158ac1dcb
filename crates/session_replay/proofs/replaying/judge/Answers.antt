use Rattle.std.proofs.Common.{subst}
use Rattle.session_replay.specs.Verdicts.{DiffersAt}
use Rattle.session_replay.proofs.Judging.{inside}
use Rattle.session_replay.proofs.replaying.judge.Goals as goal

pub returns-in-Some-clause-spent : goal.returns-in-Some-clause-spent
returns-in-Some-clause-spent c = λ limit.
    let differs = subst (λ told. DiffersAt c.args.calls.now told c.in-Some.place) c.as_slice.ensures c.in-Some.ensures.some in
    (differs, inside c.args.calls.now c.args.recording.now.calls c.in-Some.place differs (c.requires limit))
