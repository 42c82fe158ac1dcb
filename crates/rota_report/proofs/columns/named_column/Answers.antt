-- The relation and the column that were found.
use Rattle.std.proofs.Common.{◌≡◌, ◌∙◌, ◌+◌, ◌<◌, ap, sym, length, Some, bytes_eq, arith}
use Rattle.relation_handlers.proofs.TableLemmas.{IsSound-read}
use Rattle.rota_report.specs.Columns.{column_place}
use Rattle.rota_report.proofs.ColumnLemmas.{place_within, relation_read, column_found, column_missing}
use Rattle.rota_report.proofs.columns.named_column.Goals as goal

pub bounds-relations-place : goal.bounds-relations-place
bounds-relations-place c =
    let found = place_within (λ r. bytes_eq c.args.relation.now r.name) c.args.relations.now c.in-Some.place (sym c.in-Some.ensures) in
    omega (arith, found, ap length c.relations.ensures.relations)

pub returns-in_default-place_of_column-clause-refused : goal.returns-in_default-place_of_column-clause-refused
returns-in_default-place_of_column-clause-refused c =
    let found = place_within (λ r. bytes_eq c.args.relation.now r.name) c.args.relations.now c.in-Some.place (sym c.in-Some.ensures) in
    let r = c.index-relations-place.result in
    column_missing c.args.relations.now c.args.relation.now c.args.column.now c.in-Some.place r (sym c.in-Some.ensures)
    (relation_read c.args.relations.now c.relations.result.now c.in-Some.place r c.relations.ensures.relations found
    c.index-relations-place.is)
    (ap (λ columns. column_place columns c.args.column.now) (sym c.as_slice.ensures) ∙ sym c.place_of_column.ensures
    ∙ c.in_default-place_of_column.is)

pub intervals_at-requires-clause-even : goal.intervals_at-requires-clause-even
intervals_at-requires-clause-even c =
    let found = place_within (λ r. bytes_eq c.args.relation.now r.name) c.args.relations.now c.in-Some.place (sym c.in-Some.ensures) in
    let good = IsSound-read c.args.relations.now c.relations.result.now c.in-Some.place c.index-relations-place.result
    c.relations.ensures.relations
    c.relations.ensures.valid found c.index-relations-place.is in
    good.rows

pub intervals_at-requires-clause-within : goal.intervals_at-requires-clause-within
intervals_at-requires-clause-within c =
    let found = place_within (λ column. bytes_eq column c.args.column.now) c.as_slice.result.now c.in-Some-place_of_column.place
    (sym c.in-Some-place_of_column.ensures) in
    omega (arith, found, ap length c.as_slice.ensures)

pub returns-clause-found : goal.returns-clause-found
returns-clause-found c =
    let found = place_within (λ r. bytes_eq c.args.relation.now r.name) c.args.relations.now c.in-Some.place (sym c.in-Some.ensures) in
    let r = c.index-relations-place.result in
    column_found c.args.relations.now c.args.relation.now c.args.column.now c.in-Some.place r c.in-Some-place_of_column.place
    (sym c.in-Some.ensures)
    (relation_read c.args.relations.now c.relations.result.now c.in-Some.place r c.relations.ensures.relations found
    c.index-relations-place.is)
    (ap (λ columns. column_place columns c.args.column.now) (sym c.as_slice.ensures) ∙ sym c.in-Some-place_of_column.ensures)
    ∙ ap Some (sym c.in_ok-intervals_at.ensures)
