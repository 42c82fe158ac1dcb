use Rattle.std.proofs.Common.{refl, subst}
use Rattle.pg_client.specs.Ends.{IsAnswerableError}
use Rattle.conversation_runs.specs.Messages.{scope_for}
use Rattle.conversation_runs.proofs.Failing.{failed_by_told}
use Rattle.pg_session.proofs.session.Session.fail.Goals as goal

pub returns-in-TurnLimit-clause-failed : goal.returns-in-TurnLimit-clause-failed
returns-in-TurnLimit-clause-failed g c = rw c.in-TurnLimit.is refl

pub returns-in-Wire-clause-failed : goal.returns-in-Wire-clause-failed
returns-in-Wire-clause-failed g c =
    rw c.in-Wire.is (failed_by_told c.in-Wire.error (scope_for c.args.wait_for_sync) c.args.self.now.state c.tell.new.self.state
    c.args.self.now.unsent c.tell.new.self.unsent c.tell.result c.tell.ensures.known c.tell.ensures.replied c.tell.ensures.next
    c.tell.ensures.only)

pub tell-requires-clause-answerable : goal.tell-requires-clause-answerable
tell-requires-clause-answerable g c = subst IsAnswerableError c.in-Wire.is c.requires.answerable

pub returns-in-Wire-clause-behind : goal.returns-in-Wire-clause-behind
returns-in-Wire-clause-behind g c = c.tell.ensures.behind
