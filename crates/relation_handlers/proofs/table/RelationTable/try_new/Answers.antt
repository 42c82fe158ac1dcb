use Rattle.std.proofs.lemmas.Result.{err_from_is_err_and}
use Rattle.relation_handlers.proofs.table.RelationTable.try_new.Goals as goal

pub returns : goal.returns
returns c = record { ok = c.in_ok-named.ensures.ok; valid = c.in_ok-named.ensures.valid; refused = tt }

pub returns-in_err-named : goal.returns-in_err-named
returns-in_err-named c =
    let p = err_from_is_err_and c.from_residual.result c.from_residual.ensures.1 in
    rw (p.1, p.2) (record { ok = tt; valid = tt; refused = c.in_err-named.ensures.refused })

pub returns-in_err-style_name : goal.returns-in_err-style_name
returns-in_err-style_name c =
    let p = err_from_is_err_and c.from_residual-in_err-style_name.result c.from_residual-in_err-style_name.ensures.1 in
    rw (p.1, p.2) (record { ok = tt; valid = tt; refused = tt })

pub returns-in_err-options : goal.returns-in_err-options
returns-in_err-options c =
    let p = err_from_is_err_and c.from_residual-in_err-options.result c.from_residual-in_err-options.ensures.1 in
    rw (p.1, p.2) (record { ok = tt; valid = tt; refused = tt })
