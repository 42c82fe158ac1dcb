use Rattle.std.proofs.Common.{◌≡◌, ◌∙◌, sym, ap, rules}
use Rattle.pg_interval.specs.Cell.{IsInterval}
use Rattle.pg_interval.specs.NormalForm.{normal_form}
use Rattle.pg_interval.proofs.NormalFormLemmas.{fields_eq, same_from_fields_eq, fields_eq-same}
use Rattle.pg_interval.proofs.interval_norm.IntervalNorm.is_normal.Goals as goal

pub returns-in-Ok : goal.returns-in-Ok
unfolding fields_eq
returns-in-Ok c =
    let fits : IsInterval c.in-Ok.interval = record { months = search rules; days = search rules; microseconds = search rules } in (
      λ h. (c.in-Ok.interval, fits, sym c.from.ensures.form ∙ same_from_fields_eq _ _ (sym c.eq.ensures ∙ h)),
      λ n.
          let same = c.in-Ok.ensures.inverse n.0 n.1 (sym n.2) in
          let is : c.in-Ok.interval ≡ n.0 = cc in
          c.eq.ensures ∙ fields_eq-same c.from.result c.args.self.now (c.from.ensures.form ∙ ap normal_form is ∙ n.2),
    )
