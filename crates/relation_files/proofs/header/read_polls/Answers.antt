use Rattle.std.proofs.Common.{◌≡◌, true, ◌∙◌}
use Rattle.pg_interval.specs.Texts.{are_digits}
use Rattle.relation_files.proofs.Polls.{polls_of-digits}
use Rattle.relation_files.proofs.header.read_polls.Goals as goal

pub returns : goal.returns
returns c =
    let digits : are_digits c.args.field.now ≡ true = cc in
    c.ok.ensures.value ∙ polls_of-digits c.args.field.now c.parse.result digits c.parse.ensures.value.0
