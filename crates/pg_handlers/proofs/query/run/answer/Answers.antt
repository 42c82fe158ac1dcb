use Rattle.std.proofs.Common.{rules, ◌≡◌, false, sym, subst}
use Rattle.std.specs.Prelude.{IfErr, OnOk}
use Rattle.pg_results.specs.Responses.{told_response}
use Rattle.pg_client.specs.Effect.{Done, IsEffect, IsRefusedEffect}
use Rattle.conversation_table.specs.Executing.{has_rows}
use Rattle.pg_client.specs.State.{state_of}
use Rattle.conversation_table.proofs.Lends.{good_responded}
use Rattle.conversation_table.proofs.Starting.{executed_plain, left_same}
use Rattle.pg_handlers.proofs.query.run.answer.Goals as goal

pub returns-in_default : goal.returns-in_default
returns-in_default g c =
    let maps = g.St.PortalStore.maps in let s = state_of maps c.args.client.now in let m = c.args.message in
    let r = told_response g.St.Rows.RowSource.items g.C.CopySource.items c.args.response in
    let s' = state_of maps c.respond.new.client in
    let plain : has_rows r ≡ false = search rules in
    record {
      ok = λ p e. subst (λ effect. OnOk c.respond.result (IsEffect effect c.args.client.now.outbox c.respond.new.client.outbox (Done s')))
          (sym (executed_plain s m p r plain)) c.respond.ensures.ok;
      refused = λ p e. subst (λ effect. IfErr c.respond.result (IsRefusedEffect effect c.args.client.now.outbox
          c.respond.new.client.outbox s')) (sym (executed_plain s m p r plain)) c.respond.ensures.refused;
      answerable = c.respond.ensures.answerable;
      kept = record {
        info = c.respond.ensures.info;
        left = left_same maps c.respond.result c.args.client.now.store c.respond.new.client.store m.name c.respond.ensures.left;
        kept = c.respond.ensures.kept;
      };
      good = λ parser good. good_responded parser s good s'.info (maps c.respond.new.client.store) c.respond.ensures.metadata
          c.respond.ensures.store;
    }
