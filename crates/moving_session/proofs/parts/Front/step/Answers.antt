use Rattle.std.proofs.Common.{◌≡◌, true, sym, subst}
use Rattle.pg_messages.specs.Frames.{IsFrame}
use Rattle.conversation_table.specs.Table.{awaits}
use Rattle.moving_runs.specs.Steps.{IsMetResponse, IsMetStep}
use Rattle.moving_runs.proofs.Answered.{step_met, step_unread}
use Rattle.moving_session.proofs.parts.Front.step.Goals as goal

pub answer-requires-clause-open : goal.answer-requires-clause-open
answer-requires-clause-open g c = subst (λ i. (g.C.MetSession.seen i).is_open ≡ true) (sym c.next_message.ensures.same) c.requires

pub answer-requires-clause-given : goal.answer-requires-clause-given
answer-requires-clause-given g c =
    let found = c.in-Ok.ensures.found in (
      found.0,
      subst (λ i. IsFrame (awaits (g.C.MetSession.seen i).state) found.0 c.in-Ok.message) (sym c.next_message.ensures.same) found.2,
    )

pub returns-in-Ok : goal.returns-in-Ok
returns-in-Ok g c =
    let meets = g.C.MetSession.meets in
    let old = g.C.MetSession.seen c.args.self.now.inner in
    let new = g.C.MetSession.seen c.answer.new.self in
    let text = c.args.self.now.rest.items in
    let rest = c.next_message.new.self.rest.items in
    let desk = g.D.CancelDesk.told c.args.desk.now in
    let new_desk = g.D.CancelDesk.told c.answer.new.desk in
    let before = c.args.turns.now in
    let after = c.answer.new.turns in
    let found = c.in-Ok.ensures.found in
    let response = subst (λ i. IsMetResponse meets c.in-Ok.message (g.C.MetSession.seen i) new desk new_desk before after c.answer.result)
    c.next_message.ensures.same c.answer.ensures in
    subst (λ step. IsMetStep meets old new text rest desk new_desk before after step) (sym c.told_end.ensures)
    (step_met meets old new text found.0 rest c.in-Ok.message desk new_desk before after found.1 found.2 c.answer.result response)

pub returns-in-Err : goal.returns-in-Err
returns-in-Err g c =
    let meets = g.C.MetSession.meets in
    let old = g.C.MetSession.seen c.args.self.now.inner in
    let text = c.args.self.now.rest.items in
    let rest = c.next_message.new.self.rest.items in
    let desk = g.D.CancelDesk.told c.args.desk.now in
    let turns = c.args.turns.now in
    subst (λ i. IsMetStep meets old (g.C.MetSession.seen i) text rest desk desk turns turns c.in-Err.told) (sym c.next_message.ensures.same)
    (step_unread meets old text rest desk turns c.in-Err.told c.in-Err.ensures.kept c.requires c.in-Err.ensures.unread)
