use Rattle.std.proofs.Common.{◌++◌, ◌∙◌, ap, sym, arith}
use Rattle.std.proofs.lemmas.List.{append-nil}
use Rattle.relation_tables.specs.RelationHandler.{given_types}
use Rattle.relation_handlers.proofs.ColumnLemmas.{drop_none}
use Rattle.relation_handlers.proofs.ResponseLemmas.{sendable_types}
use Rattle.relation_handlers.proofs.handler.given_types.Goals as goal

pub returns-clause-encodable : goal.returns-clause-encodable
returns-clause-encodable c =
    let types = c.args.types.now in
    let all = c.loop-given.all in
    let same = sym (append-nil all) ∙ ap (λ l. all ++ given_types l) (sym (drop_none types c.loop-given.given-index (omega arith)))
    ∙ c.loop-given.invariant.whole in
    rw same (sendable_types types c.requires)
