use Rattle.std.proofs.Common.{◌≡◌, ◌++◌, ◌∙◌, append_assoc, codes}
use Rattle.std.proofs.lemmas.Result.{IfOk-weaker}
use Rattle.pg_results.specs.Errors.{error, info_of}
use Rattle.pg_results.specs.declared.error.PgWireError.TheVariants.{StatementNotFound}
use Rattle.pg_results.proofs.error.statement_not_found.Goals as goal

pub returns : goal.returns
returns c =
    let name = c.args.name.now in
    IfOk-weaker c.error_of_parts.result (λ info. info
    ≡ error (codes "26000") (codes "prepared statement \"" ++ name ++ codes "\" does not exist"))
    (λ info. info ≡ info_of (StatementNotFound name)) (λ info e. e ∙ simp append_assoc) c.error_of_parts.ensures
