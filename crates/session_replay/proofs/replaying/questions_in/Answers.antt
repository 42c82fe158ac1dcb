use Rattle.std.proofs.Common.{◌≡◌, [], ◌∷◌, ap, arith}
use Rattle.conversation_table.specs.Questions.{questions}
use Rattle.session_replay.proofs.Telling.{questions_further, asks_nothing}
use Rattle.session_replay.proofs.replaying.questions_in.Goals as goal
use Rattle.session_replay.proofs.replaying.questions_in.Goals.{in-Ask, in_default}

pub loop-call-preserved : goal.loop-call-preserved
loop-call-preserved c =
    let more = questions_further c.args.calls.now c.loop-call.call-index c.call-item.result c.loop-call-test.true c.call-item.is in
    let so_far = c.loop-call.invariant.so_far in
    let few = c.loop-call.invariant.few in
    elim c.match-call.branch [
      | in-Ask w ↦
          let here : questions (c.call-item.result ∷ []) ≡ 1 = ap (λ call. questions (call ∷ [])) w.in-Ask.is in
          record { so_far = omega (arith, more, here, so_far, w.questions-is); few = omega (arith, few, w.questions-is) }
      | in_default w ↦
          let here = asks_nothing c.call-item.result w.in_default.not-Ask in
          record { so_far = omega (arith, more, here, so_far, w.questions-is); few = omega (arith, few, w.questions-is) }
    ]
