-- There is one moment more than steps.
use Rattle.std.proofs.Common.{◌≡◌, ◌∙◌, ◌+◌, ap, length, arith}
use Rattle.rota_lines.proofs.LineLemmas.{one_more}
use Rattle.rota_report.proofs.comparing.write_comparison.Goals as goal

pub clashes-requires-clause-first_few : goal.clashes-requires-clause-first_few
clashes-requires-clause-first_few g c =
    let same = ap length c.as_slice.ensures in
    let more = one_more c.args.steps.now c.args.start c.in_ok-first.first c.in_ok-first.ensures.moments in
    omega (arith, same, more, c.requires.few)

pub clashes-requires-clause-second_few : goal.clashes-requires-clause-second_few
clashes-requires-clause-second_few g c =
    let same = ap length c.as_slice-2.ensures in
    let more = one_more c.args.others.now c.args.other c.in_ok-second.second c.in_ok-second.ensures.moments in
    omega (arith, same, more, c.requires.others_few)
