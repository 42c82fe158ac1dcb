use Rattle.conversation_table.specs.Good.{IsSendableOutcome}
use Rattle.conversation_table.specs.Handlers.{told_one}
use Rattle.pg_handlers.proofs.Waiting.{verdict_err, verdict_ok}
use Rattle.pg_handlers.proofs.query.run.finish_unstarted.Goals as goal

pub answer_waited-requires-clause-sendable : goal.answer_waited-requires-clause-sendable
answer_waited-requires-clause-sendable g c =
    let x = c.wait_for-waited.ensures in
    verdict_ok (g.Q.QueryState.told c.args.query).outcome x.asked.0
    (λ out. IsSendableOutcome (told_one g.St.Rows.RowSource.items g.C.CopySource.items out)) c.wait_for-waited.result x.asked.2
    c.requires.sendable

pub answer_waited-requires-clause-answerable : goal.answer_waited-requires-clause-answerable
answer_waited-requires-clause-answerable g c =
    let x = c.wait_for-waited.ensures in
    verdict_err (g.Q.QueryState.told c.args.query).outcome x.asked.0 c.wait_for-waited.result x.asked.2

pub returns : goal.returns
returns g c =
    let told = g.D.CancelDesk.told in
    let x = c.wait_for-waited.ensures in let a = c.answer_waited.ensures in
    record {
      ran = λ p q. (
        x.asked.0,
        x.asked.1,
        a.ran p q x.asked.0 (g.Q.QueryState.told c.args.query).outcome x.asked.2,
      );
      errors = a.errors;
      kept = a.kept;
      good = a.good;
      waited = a.told (told c.args.desk.now) (told c.wait_for-waited.new.desk) c.args.turns.now c.wait_for-waited.new.turns x.waited;
    }
