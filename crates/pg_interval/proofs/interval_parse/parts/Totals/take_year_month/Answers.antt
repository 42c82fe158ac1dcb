use Rattle.std.proofs.Common.{◌∙◌, ◌∷◌, [], ap, sym, Some}
use Rattle.pg_interval.specs.Texts.{begins, is_minus}
use Rattle.pg_interval.specs.Decimals.{Year, Month}
use Rattle.pg_interval.specs.SqlText.{field_number, field_pair}
use Rattle.pg_interval.specs.Reader.{so_far}
use Rattle.pg_interval.specs.FieldReader.{answer, int_read}
use Rattle.pg_interval.proofs.ReadFields.{years_none, years_at, no_years, no_months, good_years, whole_step, two_steps}
use Rattle.pg_interval.proofs.interval_parse.parts.Totals.take_year_month.Goals as goal

pub returns-in_default-clause-taken : goal.returns-in_default-clause-taken
returns-in_default-clause-taken c = sym (ap (answer (so_far c.args.self.now))
    (years_none c.args.text.now c.cut.result.0.now c.cut.result.1.now (sym c.without_sign.ensures.rest
    ∙ c.cut.ensures.parts) c.cut.ensures.front c.cut.ensures.back c.in_default.ensures))

pub returns-then-begins_with_sign-clause-taken : goal.returns-then-begins_with_sign-clause-taken
returns-then-begins_with_sign-clause-taken c =
    let y = c.cut.result.0.now in
    let m = c.in-Some.months.now in
    let minus = begins is_minus c.args.text.now in
    let e = years_at c.args.text.now y m c.cut.result.1.now (sym c.without_sign.ensures.rest
    ∙ c.cut.ensures.parts) c.in-Some.ensures c.cut.ensures.front in
    sym (ap (answer (so_far c.args.self.now)) (e ∙ no_years minus y m (sym c.begins_with_sign.ensures ∙ c.if-begins_with_sign.true)))

pub returns-then-begins_with_sign-2-clause-taken : goal.returns-then-begins_with_sign-2-clause-taken
returns-then-begins_with_sign-2-clause-taken c =
    let y = c.cut.result.0.now in
    let m = c.in-Some.months.now in
    let minus = begins is_minus c.args.text.now in
    let e = years_at c.args.text.now y m c.cut.result.1.now (sym c.without_sign.ensures.rest
    ∙ c.cut.ensures.parts) c.in-Some.ensures c.cut.ensures.front in
    sym (ap (answer (so_far c.args.self.now)) (e ∙ no_months minus y m (sym c.begins_with_sign-2.ensures ∙ c.if-begins_with_sign-2.true)))

pub returns-clause-taken : goal.returns-clause-taken
returns-clause-taken c =
    let r = so_far c.args.self.now in
    let y = c.cut.result.0.now in
    let m = c.in-Some.months.now in
    let minus = begins is_minus c.args.text.now in
    let e = years_at c.args.text.now y m c.cut.result.1.now (sym c.without_sign.ensures.rest
    ∙ c.cut.ensures.parts) c.in-Some.ensures c.cut.ensures.front in
    let good = good_years minus y m (sym c.begins_with_sign.ensures ∙ c.if-begins_with_sign.false) (sym c.begins_with_sign-2.ensures
    ∙ c.if-begins_with_sign-2.false) in
    let b = c.sign_of-minus.result in
    let first = whole_step (so_far c.take_whole.new.self) r Year (int_read c.field_number.result) (field_number b y)
    c.take_whole.ensures.sums c.field_number.ensures in
    let second = whole_step (so_far c.take_whole-2.new.self) (so_far c.take_whole.new.self) Month (int_read c.field_number-2.result)
    (field_number b m) c.take_whole-2.ensures.sums c.field_number-2.ensures in
    two_steps r (so_far c.take_whole.new.self) (so_far c.take_whole-2.new.self) (field_pair b Year y) (field_pair b Month m) first second
    ∙ ap (λ x. answer r (Some (field_pair x Year y ∷ field_pair x Month m ∷ []))) c.sign_of-minus.ensures
    ∙ sym (ap (answer r) (e ∙ good))
