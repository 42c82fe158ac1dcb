use Rattle.std.proofs.Common.{◌≡◌, refl, subst}
use Rattle.std.specs.Prelude.{string_bytes, IfOk}
use Rattle.pg_interval.specs.Printed.{printed, verbose_text, IsPrintedOnlyFor}
use Rattle.pg_interval.specs.Reading.{PostgresVerbose, StandsForOnly}
use Rattle.pg_interval.proofs.VerboseReads.{verbose_stands}
use Rattle.pg_interval.proofs.Stands.{stands_from, distinct_from, carried}
use Rattle.pg_interval.proofs.pg_interval.Interval.to_postgres_verbose.Goals as goal

pub returns-clause-printed : goal.returns-clause-printed
returns-clause-printed c =
    subst (λ n. IfOk c.into_postgres_verbose.result (λ text. string_bytes text ≡ verbose_text n)) c.in_normal_form.ensures.form
    c.into_postgres_verbose.ensures.printed

pub returns-clause-stands : goal.returns-clause-stands
returns-clause-stands c =
    let i = c.args.self.now in
    carried string_bytes (λ t. StandsForOnly PostgresVerbose t i) (printed PostgresVerbose i) _ (returns-clause-printed c)
    (stands_from PostgresVerbose (printed PostgresVerbose i) i (verbose_stands i c.in_normal_form.ensures.within) refl)

pub returns-clause-distinct : goal.returns-clause-distinct
returns-clause-distinct c =
    let i = c.args.self.now in
    carried string_bytes (λ t. IsPrintedOnlyFor PostgresVerbose t i) (printed PostgresVerbose i) _ (returns-clause-printed c)
    (distinct_from PostgresVerbose (printed PostgresVerbose i) i verbose_stands c.in_normal_form.ensures.within refl)
