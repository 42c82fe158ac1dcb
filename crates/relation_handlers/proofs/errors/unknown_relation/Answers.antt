use Rattle.std.proofs.Common.{◌≡◌, ◌++◌, ◌∙◌, append_assoc, codes}
use Rattle.std.proofs.lemmas.Result.{IfOk-weaker}
use Rattle.pg_results.specs.Errors.{error}
use Rattle.relation_tables.specs.Errors.{unknown_relation}
use Rattle.relation_handlers.proofs.errors.unknown_relation.Goals as goal

pub returns : goal.returns
returns c =
    let name = c.args.name.now in
    IfOk-weaker c.error_of_parts.result (λ info. info ≡ error (codes "42P01") (codes "relation \"" ++ name ++ codes "\" does not exist"))
    (λ info. info ≡ unknown_relation name) (λ info e. e ∙ simp append_assoc) c.error_of_parts.ensures
