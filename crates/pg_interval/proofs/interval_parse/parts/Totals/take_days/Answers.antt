use Rattle.std.proofs.Common.{◌∙◌, ap, sym, Some, ◌∷◌, []}
use Rattle.pg_interval.specs.Texts.{begins, is_minus, is_sign}
use Rattle.pg_interval.specs.Decimals.{Day}
use Rattle.pg_interval.specs.SqlText.{field_number, field_pair}
use Rattle.pg_interval.specs.Reader.{so_far}
use Rattle.pg_interval.specs.FieldReader.{answer, int_read}
use Rattle.pg_interval.proofs.ReadFields.{no_days, good_days, whole_step, one_step}
use Rattle.pg_interval.proofs.interval_parse.parts.Totals.take_days.Goals as goal

pub returns-then-begins_with_sign-clause-taken : goal.returns-then-begins_with_sign-clause-taken
returns-then-begins_with_sign-clause-taken c = sym
    (ap (answer (so_far c.args.self.now)) (no_days c.args.text.now (ap (begins is_sign) (sym c.without_sign-days.ensures.rest)
    ∙ sym c.begins_with_sign.ensures ∙ c.if-begins_with_sign.true)))

pub returns-clause-taken : goal.returns-clause-taken
returns-clause-taken c =
    let r = so_far c.args.self.now in
    let b = c.sign_of-minus.result in
    let d = c.without_sign-days.result.now in
    let good = good_days c.args.text.now (ap (begins is_sign) (sym c.without_sign-days.ensures.rest) ∙ sym c.begins_with_sign.ensures
    ∙ c.if-begins_with_sign.false) in
    one_step r (so_far c.take_whole.new.self) (field_pair b Day d)
    (whole_step (so_far c.take_whole.new.self) r Day (int_read c.field_number.result) (field_number b d) c.take_whole.ensures.sums
    c.field_number.ensures)
    ∙ ap (λ x. answer r (Some (field_pair x Day d ∷ []))) c.sign_of-minus.ensures
    ∙ ap (λ t. answer r (Some (field_pair (begins is_minus c.args.text.now) Day t ∷ []))) c.without_sign-days.ensures.rest
    ∙ sym (ap (answer r) good)
