use Rattle.std.proofs.Common.{◌∙◌, ap, sym}
use Rattle.pg_interval.specs.Texts.{is_colon}
use Rattle.pg_interval.specs.Decimals.{Hour}
use Rattle.pg_interval.specs.SqlText.{field_number, field_pair}
use Rattle.pg_interval.specs.Reader.{so_far}
use Rattle.pg_interval.specs.FieldReader.{answer, int_read, minute_pairs}
use Rattle.pg_interval.proofs.ReadFields.{hours_alone, no_hours, good_hours, whole_step, then_pairs}
use Rattle.pg_interval.proofs.interval_parse.parts.Totals.take_time.Goals as goal
use Rattle.std.specs.List.{slice_split}

pub returns-in_default-clause-taken : goal.returns-in_default-clause-taken
returns-in_default-clause-taken c = sym (ap (answer (so_far c.args.self.now))
    (hours_alone c.args.minus c.args.text.now c.cut.result.0.now c.cut.result.1.now (sym c.without_sign.ensures.rest
    ∙ c.cut.ensures.parts) c.cut.ensures.front c.cut.ensures.back c.in_default.ensures))

pub returns-then-begins_with_sign-clause-taken : goal.returns-then-begins_with_sign-clause-taken
returns-then-begins_with_sign-clause-taken c = sym
    (ap (answer (so_far c.args.self.now)) (no_hours c.args.minus c.args.text.now c.cut.result.0.now c.cut.result.1.now c.in-Some.rest.now
    (sym c.without_sign.ensures.rest ∙ c.cut.ensures.parts) c.in-Some.ensures c.cut.ensures.front (sym c.begins_with_sign.ensures
    ∙ c.if-begins_with_sign.true)))

pub returns-clause-taken : goal.returns-clause-taken
returns-clause-taken c =
    let r = so_far c.args.self.now in
    let b = c.args.minus in
    let h = c.cut.result.0.now in
    let t = c.in-Some.rest.now in
    let first = whole_step (so_far c.take_whole.new.self) r Hour (int_read c.field_number.result) (field_number b h)
    c.take_whole.ensures.sums c.field_number.ensures in
    c.take_minutes.ensures.taken
    ∙ then_pairs r (so_far c.take_whole.new.self) (field_pair b Hour h) (minute_pairs b (slice_split is_colon t)) first
    ∙ sym (ap (answer r) (good_hours b c.args.text.now h c.cut.result.1.now t (sym c.without_sign.ensures.rest
    ∙ c.cut.ensures.parts) c.in-Some.ensures c.cut.ensures.front (sym c.begins_with_sign.ensures ∙ c.if-begins_with_sign.false)))
