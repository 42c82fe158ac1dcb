use Rattle.std.proofs.Common.{[], ◌∷◌, ◌++◌, ap, sym, ◌∙◌, append-nil}
use Rattle.pg_client.specs.Answer.{answers_of}
use Rattle.session_replay.proofs.Telling.{answers_further, tells_none, tells_one}
use Rattle.session_replay.proofs.replaying.answers_of.Goals as goal
use Rattle.session_replay.proofs.replaying.answers_of.Goals.{in-Start, in-Start-2, in-Ask+in_ok-push-in-Ask}

pub loop-call-preserved : goal.loop-call-preserved
loop-call-preserved c =
    let call = c.call-item.result in
    let more = answers_further c.args.calls.now c.loop-call.call-index call c.loop-call-test.true c.call-item.is in
    let so_far = c.loop-call.invariant in
    elim c.match-call.branch [
      | in-Start w ↦ w.answers-is ∙ sym (append-nil c.loop-call.answers) ∙ ap (λ l. c.loop-call.answers ++ l)
          (sym (tells_none call w.in-Start.is)) ∙ ap (λ l. l ++ answers_of (call ∷ [])) so_far ∙ sym more
      | in-Start-2 w ↦ w.answers-is ∙ sym (append-nil c.loop-call.answers) ∙ ap (λ l. c.loop-call.answers ++ l)
          (sym (tells_none call w.in-Start.is)) ∙ ap (λ l. l ++ answers_of (call ∷ [])) so_far ∙ sym more
      | in-Ask+in_ok-push-in-Ask w ↦ w.answers-is ∙ w.in_ok-push-in-Ask.ensures.ok ∙ ap (λ l. c.loop-call.answers ++ l)
          (sym (tells_one call w.in-Ask.yes w.in-Ask.is)) ∙ ap (λ l. l ++ answers_of (call ∷ [])) so_far ∙ sym more
    ]
