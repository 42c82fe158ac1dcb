use Rattle.std.proofs.Common.{◌∙◌, ap, sym}
use Rattle.pg_interval.specs.Decimals.{Second}
use Rattle.pg_interval.specs.SqlText.{field_number, field_pair, fraction_pair}
use Rattle.pg_interval.specs.Reader.{so_far}
use Rattle.pg_interval.specs.FieldReader.{answer, fraction_number, int_read}
use Rattle.pg_interval.proofs.ReadFields.{seconds_no, seconds_whole, seconds_points, seconds_long, seconds_good, whole_step, one_step, two_steps}
use Rattle.pg_interval.proofs.interval_parse.parts.Totals.take_seconds.Goals as goal

pub returns-then-begins_with_sign-clause-taken : goal.returns-then-begins_with_sign-clause-taken
returns-then-begins_with_sign-clause-taken c = sym
    (ap (answer (so_far c.args.self.now)) (seconds_no c.args.minus c.args.text.now c.cut.result.0.now c.cut.result.1.now c.cut.ensures.parts
    c.cut.ensures.front c.cut.ensures.back (sym c.begins_with_sign.ensures ∙ c.if-begins_with_sign.true)))

pub returns-in_default-clause-taken : goal.returns-in_default-clause-taken
returns-in_default-clause-taken c =
    let r = so_far c.args.self.now in
    let b = c.args.minus in
    let s = c.cut.result.0.now in
    one_step r (so_far c.take_whole.new.self) (field_pair b Second s)
    (whole_step (so_far c.take_whole.new.self) r Second (int_read c.field_number.result) (field_number b s) c.take_whole.ensures.sums
    c.field_number.ensures)
    ∙ sym (ap (answer r) (seconds_whole b c.args.text.now s c.cut.result.1.now c.cut.ensures.parts c.cut.ensures.front c.cut.ensures.back
    c.in_default.ensures (sym c.begins_with_sign.ensures ∙ c.if-begins_with_sign.false)))

pub returns-then-run_len-fraction-clause-taken : goal.returns-then-run_len-fraction-clause-taken
returns-then-run_len-fraction-clause-taken c = sym
    (ap (answer (so_far c.args.self.now)) (seconds_points c.args.minus c.args.text.now c.cut.result.0.now c.cut.result.1.now
    c.in-Some.fraction.now c.run_len.result c.cut.ensures.parts c.in-Some.ensures c.cut.ensures.front c.run_len.ensures.run
    c.if-run_len-fraction.true))

pub returns-then-fraction-gt6-clause-taken : goal.returns-then-fraction-gt6-clause-taken
returns-then-fraction-gt6-clause-taken c = sym (ap (answer (so_far c.args.self.now))
    (seconds_long c.args.minus c.args.text.now c.cut.result.0.now c.cut.result.1.now c.in-Some.fraction.now c.run_len.result
    c.cut.ensures.parts c.in-Some.ensures c.cut.ensures.front c.run_len.ensures.run c.run_len.ensures.within c.if-run_len-fraction.false
    c.if-fraction-gt6.true))

pub returns-clause-taken : goal.returns-clause-taken
returns-clause-taken c =
    let r = so_far c.args.self.now in
    let b = c.args.minus in
    let s = c.cut.result.0.now in
    let f = c.in-Some.fraction.now in
    let first = whole_step (so_far c.take_whole-2.new.self) r Second (int_read c.field_number-2.result) (field_number b s)
    c.take_whole-2.ensures.sums c.field_number-2.ensures in
    let second = whole_step (so_far c.take_whole-3.new.self) (so_far c.take_whole-2.new.self) Second (int_read c.fraction_number.result)
    (fraction_number b f) c.take_whole-3.ensures.sums c.fraction_number.ensures in
    two_steps r (so_far c.take_whole-2.new.self) (so_far c.take_whole-3.new.self) (field_pair b Second s) (fraction_pair b f) first second
    ∙ sym (ap (answer r) (seconds_good b c.args.text.now s c.cut.result.1.now f c.run_len.result c.cut.ensures.parts c.in-Some.ensures
    c.cut.ensures.front c.run_len.ensures.run c.run_len.ensures.within c.if-run_len-fraction.false c.if-fraction-gt6.false
    (sym c.begins_with_sign.ensures ∙ c.if-begins_with_sign.false)))
