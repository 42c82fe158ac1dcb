use Rattle.std.proofs.Common.{◌∙◌, append_assoc}
use Rattle.std.proofs.lemmas.Result.{IfOk-weaker}
use Rattle.pg_startup.proofs.startup.unsupported_text.Goals as goal

pub returns : goal.returns
returns c = IfOk-weaker c.copy_of.result _ _
    (λ t e. e ∙ c.as_str.ensures.value ∙ c.in_ok-text.ensures.ok ∙ simp append_assoc) c.copy_of.ensures
