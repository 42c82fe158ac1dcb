use Rattle.std.proofs.Common.{Ok, Err, sym, ◌∙◌}
use Rattle.pg_text.specs.declared.format.interval_style.IntervalStyle.TheVariants as style
use Rattle.pg_results.specs.declared.error.PgWireError.TheVariants as wire
use Rattle.relation_handlers.proofs.RefusedRows.{refused_row, row_without_text}
use Rattle.relation_handlers.proofs.data_row.item_without_style.Goals as goal

pub returns-then-have_text-clause-item : goal.returns-then-have_text-clause-item
returns-then-have_text-clause-item c =
    rw c.in_ok-refusal.ensures (sym (refused_row (wire.InvalidOptionValue c.args.text.now) c.args.formats.now c.args.row.now c.requires.formats.same
    (sym c.have_text.ensures ∙ c.if-have_text.true)))

pub returns-clause-item : goal.returns-clause-item
returns-clause-item c =
    c.in_ok-write_row.ensures.item
    ∙ sym (row_without_text (Err (wire.InvalidOptionValue c.args.text.now)) (Ok style.Postgres) c.args.formats.now c.args.row.now
    (sym c.have_text.ensures ∙ c.if-have_text.false))
