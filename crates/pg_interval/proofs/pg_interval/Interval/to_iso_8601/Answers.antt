use Rattle.std.proofs.Common.{◌≡◌, refl, subst}
use Rattle.std.specs.Prelude.{string_bytes, IfOk}
use Rattle.pg_interval.specs.Printed.{printed, iso_text, IsPrintedOnlyFor}
use Rattle.pg_interval.specs.Reading.{Iso8601, StandsForOnly}
use Rattle.pg_interval.proofs.IsoReads.{iso_stands}
use Rattle.pg_interval.proofs.Stands.{stands_from, distinct_from, carried}
use Rattle.pg_interval.proofs.pg_interval.Interval.to_iso_8601.Goals as goal

pub returns-clause-printed : goal.returns-clause-printed
returns-clause-printed c =
    subst (λ n. IfOk c.into_iso_8601.result (λ text. string_bytes text ≡ iso_text n)) c.in_normal_form.ensures.form
    c.into_iso_8601.ensures.printed

pub returns-clause-stands : goal.returns-clause-stands
returns-clause-stands c =
    let i = c.args.self.now in
    carried string_bytes (λ t. StandsForOnly Iso8601 t i) (printed Iso8601 i) _ (returns-clause-printed c)
    (stands_from Iso8601 (printed Iso8601 i) i (iso_stands i c.in_normal_form.ensures.within) refl)

pub returns-clause-distinct : goal.returns-clause-distinct
returns-clause-distinct c =
    let i = c.args.self.now in
    carried string_bytes (λ t. IsPrintedOnlyFor Iso8601 t i) (printed Iso8601 i) _ (returns-clause-printed c)
    (distinct_from Iso8601 (printed Iso8601 i) i iso_stands c.in_normal_form.ensures.within refl)
