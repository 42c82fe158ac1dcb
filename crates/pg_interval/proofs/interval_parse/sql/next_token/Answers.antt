use Rattle.std.proofs.Common.{◌∙◌, ap, sym}
use Rattle.pg_interval.specs.Texts.{begins, is_whitespace}
use Rattle.pg_interval.proofs.ReadFields.{next_is}
use Rattle.pg_interval.proofs.interval_parse.sql.next_token.Goals as goal

pub returns : goal.returns
returns c = next_is c.args.text.now c.cut.result.0.now c.cut.result.1.now (sym c.trim_start.ensures.rest
    ∙ c.cut.ensures.parts) c.cut.ensures.front c.cut.ensures.back (ap (begins is_whitespace) (sym c.trim_start.ensures.rest)
    ∙ c.trim_start.ensures.solid)
