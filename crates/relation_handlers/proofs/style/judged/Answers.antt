use Rattle.std.proofs.Common.{◌≡◌, ◌∙◌, ap, ℕ, List, Option, Some, None, Result, Ok, Err, inl, inr}
use Rattle.pg_types.specs.declared.error.CellError.{CellError}
use Rattle.pg_types.specs.declared.error.CellError.TheVariants as cell
use Rattle.pg_text.specs.declared.format.interval_style.IntervalStyle.{IntervalStyle}
use Rattle.pg_text.specs.Cells.{IsRead}
use Rattle.pg_text.specs.Words.{or_invalid, interval_style_of}
use Rattle.pg_results.specs.declared.error.PgWireError.{PgWireError}
use Rattle.pg_results.specs.declared.error.PgWireError.TheVariants as wire
use Rattle.relation_tables.specs.RelationHandler.{or_refused}
use Rattle.relation_handlers.proofs.style.judged.Goals as goal

read_style : (text : List ℕ) (o : Option IntervalStyle) (r : Result IntervalStyle CellError) (s : IntervalStyle)
    → IsRead (or_invalid text o) r → r ≡ Ok s → ◌≡◌ {A = Result IntervalStyle PgWireError} (Ok s) (or_refused text o)
read_style text (Some t) r s h e = cc
read_style text None r s (inl h) e = cc
read_style text None r s (inr h) e = cc

refused_text : (text refused : List ℕ) (o : Option IntervalStyle) (r : Result IntervalStyle CellError)
    → IsRead (or_invalid text o) r → r ≡ Err (cell.InvalidOptionValue refused)
    → (◌≡◌ {A = Result IntervalStyle PgWireError} (Err (wire.InvalidOptionValue refused)) (or_refused text o)) × (refused ≡ text)
refused_text text refused (Some t) r h e = (cc, cc)
refused_text text refused None r (inl h) e = (cc, cc)
refused_text text refused None r (inr h) e = (cc, cc)

pub returns-in-Ok-clause-told : goal.returns-in-Ok-clause-told
returns-in-Ok-clause-told c =
    let text = c.args.text.now in
    read_style text (interval_style_of text) c.try_from_text.result c.in-Ok.style c.try_from_text.ensures c.in-Ok.is

pub returns-in-Err-InvalidOptionValue-clause-told : goal.returns-in-Err-InvalidOptionValue-clause-told
returns-in-Err-InvalidOptionValue-clause-told c =
    let text = c.args.text.now in
    (refused_text text c.in-Err-InvalidOptionValue.refused (interval_style_of text) c.try_from_text.result c.try_from_text.ensures
    (c.in-Err-InvalidOptionValue.is ∙ ap Err c.in-Err-InvalidOptionValue.field-0-is)).0

pub returns-in-Err-InvalidOptionValue-clause-refused : goal.returns-in-Err-InvalidOptionValue-clause-refused
returns-in-Err-InvalidOptionValue-clause-refused c =
    let text = c.args.text.now in
    (refused_text text c.in-Err-InvalidOptionValue.refused (interval_style_of text) c.try_from_text.result c.try_from_text.ensures
    (c.in-Err-InvalidOptionValue.is ∙ ap Err c.in-Err-InvalidOptionValue.field-0-is)).1
