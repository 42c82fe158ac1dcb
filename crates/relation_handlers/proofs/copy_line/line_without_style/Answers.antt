use Rattle.std.proofs.Common.{arith, sym}
use Rattle.pg_results.specs.declared.error.PgWireError.TheVariants as wire
use Rattle.relation_handlers.proofs.RefusedRows.{refused_line}
use Rattle.relation_handlers.proofs.copy_line.line_without_style.Goals as goal

pub returns-then-not-is_empty-clause-item : goal.returns-then-not-is_empty-clause-item
returns-then-not-is_empty-clause-item c =
    rw c.in_ok-refusal.ensures (sym (refused_line (wire.InvalidOptionValue c.args.text.now) c.args.row.now
    (grind (arith, c.is_empty.ensures, c.if-not-is_empty.true))))
