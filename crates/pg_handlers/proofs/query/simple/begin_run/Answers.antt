use Rattle.std.proofs.Common.{inl, refl, sym, subst}
use Rattle.conversation_table.specs.Good.{AreSendable}
use Rattle.conversation_table.specs.Handlers.{told_all}
use Rattle.conversation_table.specs.Questions.{Passed}
use Rattle.conversation_table.proofs.Asking.{verdict_at}
use Rattle.pg_replies.proofs.Sent.{kept_as}
use Rattle.pg_handlers.proofs.Waiting.{asked_nothing, passed_at_once, polled_once, waits_in_vain, waits_none}
use Rattle.pg_handlers.proofs.query.simple.begin_run.Goals as goal

pub answer_waited-requires-clause-sendable : goal.answer_waited-requires-clause-sendable
answer_waited-requires-clause-sendable g c =
    let polled = rw c.in-Ok-Ready.field-0-is at c.in-Ok-Ready.ensures in
    subst (λ out. AreSendable (told_all g.R.RowSource.items g.C.CopySource.items out)) (sym polled.1) c.requires.sendable

pub returns-in-Ok-Ready : goal.returns-in-Ok-Ready
returns-in-Ok-Ready g c =
    let told = g.Q.QueryState.told c.args.query in
    let polled = rw c.in-Ok-Ready.field-0-is at c.in-Ok-Ready.ensures in
    let a = c.answer_waited.ensures in
    record {
      ran = λ calls. (
        Passed,
        passed_at_once told calls c.requires.unspent polled.0,
        a.ran Passed told.outcome (refl, polled.1),
      );
      errors = a.errors;
      kept = a.kept;
      calm = λ desk turns. a.told desk desk turns turns (waits_none _ desk turns);
      unready = tt;
      same = tt;
    }

pub returns-in-Ok-Unready : goal.returns-in-Ok-Unready
returns-in-Ok-Unready g c =
    let polled = rw c.in-Ok-Unready.field-0-is at c.in-Ok-Unready.ensures in
    record {
      ran = tt;
      errors = tt;
      kept = tt;
      calm = tt;
      unready = polled_once (g.Q.QueryState.told c.args.query) (g.Q.QueryState.told c.poll.new.self) c.requires.unspent polled.0 polled.1;
      same = refl;
    }

pub returns-in-Err : goal.returns-in-Err
returns-in-Err g c =
    let told = g.Q.QueryState.told c.args.query in
    let out = c.args.client.now.outbox in
    let is = c.from.ensures in
    record {
      ran = λ calls. (verdict_at told.owes, asked_nothing told calls c.requires.unspent, rw is (inl refl));
      errors = rw is (inl refl);
      kept = record { info = refl; kept = kept_as out out refl; store = refl; metadata = refl };
      calm = λ desk turns. rw is (waits_in_vain desk turns);
      unready = tt;
      same = tt;
    }
