use Rattle.std.proofs.Common.{ap, subst}
use Rattle.std.specs.Arc.{arc_value}
use Rattle.std.proofs.lemmas.Result.{err_from_is_err_and}
use Rattle.pg_client.specs.Effect.{IsRefusedEffect}
use Rattle.conversation_table.specs.ExtendedRows.{bound_statement}
use Rattle.pg_client.specs.State.{state_of}
use Rattle.conversation_table.proofs.Binds.{few_refused}
use Rattle.pg_handlers.proofs.query.statements.bind_checked.Goals as goal

pub returns-in_err-checked-clause-refused : goal.returns-in_err-checked-clause-refused
returns-in_err-checked-clause-refused g c =
    let p = err_from_is_err_and c.from_residual.result c.from_residual.ensures.1 in
    let s = state_of g.St.PortalStore.maps c.args.client.now in
    let e = c.in_err-checked.field-0.0 in
    let out = c.args.client.now.outbox in
    rw (p.1, p.2) (subst (λ parser. IsRefusedEffect (bound_statement parser s c.args.message (arc_value c.args.statement)) out out s e)
    (ap g.Q.QueryParser.told c.deref.ensures)
    (few_refused (g.Q.QueryParser.told c.deref.result.now) s c.args.message (arc_value c.args.statement) c.deref-2.result.now
    c.len-codes.result e out c.deref-2.ensures c.len-codes.ensures c.in_err-checked.ensures.refused))
