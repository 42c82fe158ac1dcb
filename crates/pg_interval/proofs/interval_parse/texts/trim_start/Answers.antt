use Rattle.std.proofs.Common.{◌∙◌, ap, drop}
use Rattle.pg_interval.specs.Texts.{begins, is_whitespace}
use Rattle.pg_interval.proofs.ReadNumbers.{back_fails}
use Rattle.pg_interval.proofs.interval_parse.texts.trim_start.Goals as goal

pub returns-clause-solid : goal.returns-clause-solid
returns-clause-solid c = ap (begins is_whitespace) (c.split_at.ensures.back ∙ ap (λ n. drop n c.args.text.now) c.run_len.ensures.run)
    ∙ back_fails is_whitespace c.args.text.now
