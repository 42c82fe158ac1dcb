use Rattle.std.proofs.Common.{◌≡◌, subst}
use Rattle.std.specs.Prelude.{string_bytes, IfOk}
use Rattle.pg_interval.specs.Printed.{printed, IsPrintedOnlyFor}
use Rattle.pg_interval.specs.Reading.{Postgres, StandsForOnly}
use Rattle.pg_interval.proofs.Stands.{carried}
use Rattle.pg_interval.proofs.pg_interval.Interval.to_postgres.Goals as goal

pub returns-clause-printed : goal.returns-clause-printed
returns-clause-printed c =
    subst (λ t. IfOk c.to_string.result (λ text. string_bytes text ≡ t)) c.postgres_text.ensures.printed c.to_string.ensures

pub returns-clause-stands : goal.returns-clause-stands
returns-clause-stands c =
    let i = c.args.self.now in
    carried string_bytes (λ t. StandsForOnly Postgres t i) (printed Postgres i) _ (returns-clause-printed c)
    (subst (λ t. StandsForOnly Postgres t i) c.postgres_text.ensures.printed c.postgres_text.ensures.stands)

pub returns-clause-distinct : goal.returns-clause-distinct
returns-clause-distinct c =
    let i = c.args.self.now in
    carried string_bytes (λ t. IsPrintedOnlyFor Postgres t i) (printed Postgres i) _ (returns-clause-printed c)
    (subst (λ t. IsPrintedOnlyFor Postgres t i) c.postgres_text.ensures.printed c.postgres_text.ensures.distinct)
