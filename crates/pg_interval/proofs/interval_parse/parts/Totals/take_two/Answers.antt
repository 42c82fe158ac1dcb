use Rattle.std.proofs.Common.{◌∙◌, ap, sym}
use Rattle.std.specs.Prelude.{if◌then◌else◌}
use Rattle.pg_interval.specs.Texts.{begins, is_minus, is_sign}
use Rattle.pg_interval.specs.SqlText.{day_pairs, sql_time_pairs}
use Rattle.pg_interval.specs.Reader.{so_far}
use Rattle.pg_interval.specs.FieldReader.{answer}
use Rattle.pg_interval.proofs.ReadFields.{two_answers, on_none, on_some}
use Rattle.pg_interval.proofs.interval_parse.parts.Totals.take_two.Goals as goal

pub returns-then-not-take_days-clause-taken : goal.returns-then-not-take_days-clause-taken
returns-then-not-take_days-clause-taken c =
    let r = so_far c.args.self.now in
    let a = c.args.first.now in
    let b = c.args.second.now in
    on_none c.take_days.result (so_far c.take_days.new.self) (answer r (day_pairs a))
    (λ q. answer q (sql_time_pairs (begins is_minus (if begins is_sign b then b else a)) b)) c.if-not-take_days.true
    c.take_days.ensures.taken
    ∙ sym (two_answers r a b)

pub returns-clause-taken : goal.returns-clause-taken
returns-clause-taken c =
    let r = so_far c.args.self.now in
    let a = c.args.first.now in
    let b = c.args.second.now in
    c.take_time.ensures.taken
    ∙ ap (λ m. answer (so_far c.take_days.new.self) (sql_time_pairs m b)) c.sign_of_two.ensures
    ∙ on_some c.take_days.result (so_far c.take_days.new.self) (answer r (day_pairs a))
    (λ q. answer q (sql_time_pairs (begins is_minus (if begins is_sign b then b else a)) b)) c.if-not-take_days.false
    c.take_days.ensures.taken
    ∙ sym (two_answers r a b)
