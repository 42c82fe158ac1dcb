use Rattle.std.proofs.Common.{◌∙◌, ap, sym}
use Rattle.pg_interval.specs.Texts.{is_point}
use Rattle.pg_interval.specs.Decimals.{Minute}
use Rattle.pg_interval.specs.SqlText.{field_number, field_pair, second_pairs}
use Rattle.pg_interval.specs.Reader.{so_far}
use Rattle.pg_interval.specs.FieldReader.{answer, int_read}
use Rattle.pg_interval.proofs.ReadFields.{minutes_no, minutes_alone, minutes_colons, minutes_seconds, whole_step, one_step, then_pairs}
use Rattle.pg_interval.proofs.interval_parse.parts.Totals.take_minutes.Goals as goal
use Rattle.std.specs.List.{slice_split}

pub returns-then-begins_with_sign-clause-taken : goal.returns-then-begins_with_sign-clause-taken
returns-then-begins_with_sign-clause-taken c = sym
    (ap (answer (so_far c.args.self.now)) (minutes_no c.args.minus c.args.text.now c.cut.result.0.now c.cut.result.1.now c.cut.ensures.parts
    c.cut.ensures.front c.cut.ensures.back (sym c.begins_with_sign.ensures ∙ c.if-begins_with_sign.true)))

pub returns-in_default-clause-taken : goal.returns-in_default-clause-taken
returns-in_default-clause-taken c =
    let r = so_far c.args.self.now in
    let b = c.args.minus in
    let m = c.cut.result.0.now in
    one_step r (so_far c.take_whole.new.self) (field_pair b Minute m)
    (whole_step (so_far c.take_whole.new.self) r Minute (int_read c.field_number.result) (field_number b m) c.take_whole.ensures.sums
    c.field_number.ensures)
    ∙ sym (ap (answer r) (minutes_alone b c.args.text.now m c.cut.result.1.now c.cut.ensures.parts c.cut.ensures.front c.cut.ensures.back
    c.in_default.ensures (sym c.begins_with_sign.ensures ∙ c.if-begins_with_sign.false)))

pub returns-then-run_len-seconds-clause-taken : goal.returns-then-run_len-seconds-clause-taken
returns-then-run_len-seconds-clause-taken c = sym
    (ap (answer (so_far c.args.self.now)) (minutes_colons c.args.minus c.args.text.now c.cut.result.0.now c.cut.result.1.now
    c.in-Some.seconds.now c.run_len.result c.cut.ensures.parts c.in-Some.ensures c.cut.ensures.front c.run_len.ensures.run
    c.if-run_len-seconds.true))

pub returns-clause-taken : goal.returns-clause-taken
returns-clause-taken c =
    let r = so_far c.args.self.now in
    let b = c.args.minus in
    let m = c.cut.result.0.now in
    let s = c.in-Some.seconds.now in
    let first = whole_step (so_far c.take_whole-2.new.self) r Minute (int_read c.field_number-2.result) (field_number b m)
    c.take_whole-2.ensures.sums c.field_number-2.ensures in
    c.take_seconds.ensures.taken
    ∙ then_pairs r (so_far c.take_whole-2.new.self) (field_pair b Minute m) (second_pairs b (slice_split is_point s)) first
    ∙ sym (ap (answer r) (minutes_seconds b c.args.text.now m c.cut.result.1.now s c.run_len.result c.cut.ensures.parts c.in-Some.ensures
    c.cut.ensures.front c.run_len.ensures.run c.run_len.ensures.within c.if-run_len-seconds.false (sym c.begins_with_sign.ensures
    ∙ c.if-begins_with_sign.false)))
