use Rattle.std.proofs.Common.{ℤ, pos, ◌-ℤ◌, ◌*ℤ◌, ap, ◌∙◌, rules}
use Rattle.std.proofs.lemmas.Int.{to_z-of_z}
use Rattle.std.specs.Prelude.{int_div}
use mir.Syntax.{w32, w128}
use mir.Val.{SFits}
use Rattle.pg_interval.specs.Duration.{whole_days}
use Rattle.pg_interval.proofs.integrations.duration.rest_in_microseconds.Goals as goal

pub returns : goal.returns
returns c =
    let days = c.from.result in
    let long : ℤ = days *ℤ pos 86400000000000 in
    let rest : ℤ = c.args.nanos -ℤ long in
    let a : SFits w128 days = search rules in
    let b : SFits w128 long = search rules in
    let d : SFits w128 rest = search rules in
    let e : SFits w128 (int_div rest (pos 1000)) = search rules in
    rw (to_z-of_z w128 c.args.nanos c.ranges.nanos, to_z-of_z w128 days a, to_z-of_z w128 long b, to_z-of_z w128 rest d, to_z-of_z w128 (int_div rest (pos 1000)) e)
    (ap (λ (d : ℤ). int_div (c.args.nanos -ℤ (d *ℤ pos 86400000000000)) (pos 1000)) (
    c.from.ensures ∙ to_z-of_z w32 c.whole_days.result (record { sfits = c.whole_days.type_inv }) ∙ c.whole_days.ensures
    ∙ ap whole_days (to_z-of_z w128 c.args.nanos c.ranges.nanos)
    ))
