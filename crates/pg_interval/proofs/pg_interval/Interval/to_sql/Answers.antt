use Rattle.std.proofs.Common.{◌≡◌, refl, subst}
use Rattle.std.specs.Prelude.{string_bytes, IfOk}
use Rattle.pg_interval.specs.Printed.{printed, sql_text, IsPrintedOnlyFor}
use Rattle.pg_interval.specs.Reading.{SqlStandard, StandsForOnly}
use Rattle.pg_interval.proofs.SqlReads.{sql_stands}
use Rattle.pg_interval.proofs.Stands.{stands_from, distinct_from, carried}
use Rattle.pg_interval.proofs.pg_interval.Interval.to_sql.Goals as goal

pub returns-clause-printed : goal.returns-clause-printed
returns-clause-printed c =
    subst (λ n. IfOk c.into_sql.result (λ text. string_bytes text ≡ sql_text n)) c.in_normal_form.ensures.form c.into_sql.ensures.printed

pub returns-clause-stands : goal.returns-clause-stands
returns-clause-stands c =
    let i = c.args.self.now in
    carried string_bytes (λ t. StandsForOnly SqlStandard t i) (printed SqlStandard i) _ (returns-clause-printed c)
    (stands_from SqlStandard (printed SqlStandard i) i (sql_stands i c.in_normal_form.ensures.within) refl)

pub returns-clause-distinct : goal.returns-clause-distinct
returns-clause-distinct c =
    let i = c.args.self.now in
    carried string_bytes (λ t. IsPrintedOnlyFor SqlStandard t i) (printed SqlStandard i) _ (returns-clause-printed c)
    (distinct_from SqlStandard (printed SqlStandard i) i sql_stands c.in_normal_form.ensures.within refl)
