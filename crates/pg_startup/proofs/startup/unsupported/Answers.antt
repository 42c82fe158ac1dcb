use Rattle.std.proofs.Common.{◌∙◌, sym, subst, arith}
use Rattle.pg_results.specs.Rows.{IsTellable}
use Rattle.pg_results.specs.declared.error.PgWireError.TheVariants as wire
use Rattle.pg_startup.proofs.Starting.{tellable_unsupported, is_unsupported}
use Rattle.pg_startup.proofs.startup.unsupported.Goals as goal

pub returns-clause-tellable : goal.returns-clause-tellable
returns-clause-tellable c =
    let is = is_unsupported c.new.result c.args.code (c.new.ensures.severity ∙ c.in_ok-copy_of.ensures)
    (c.new.ensures.code ∙ c.in_ok-copy_of-2.ensures) (c.new.ensures.message ∙ c.in_ok-text.ensures) in
    subst (λ info. IsTellable (wire.UserError info)) (sym is) (tellable_unsupported c.args.code (omega arith))
