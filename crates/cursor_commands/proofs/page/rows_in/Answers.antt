use Rattle.std.proofs.Common.{arith}
use Rattle.cursor_commands.proofs.PageLemmas.{begins_at, more_rows}
use Rattle.cursor_commands.proofs.page.rows_in.Goals as goal

pub rows-preserved : goal.rows-preserved
rows-preserved c =
    let i = c.rows.invariant in
    let row = begins_at c.args.replies.now c.args.piece.now c.requires.piece.0 c.args.at c.rows.len c.args.left c.in-Some.row
    c.requires.piece.1 c.requires.left i.within c.in-Some.ensures in
    let most = c.in-Some.ensures.within in
    let some = row.some in
    let before = i.within in
    let few = i.few in
    record {
      within = omega (arith, most, before);
      few = omega (arith, few, some);
      rows = more_rows c.args.replies.now c.args.at c.rows.len c.rows.count c.in-Some.row i.rows row;
    }

pub rows-smaller : goal.rows-smaller
rows-smaller c =
    let i = c.rows.invariant in
    let row = begins_at c.args.replies.now c.args.piece.now c.requires.piece.0 c.args.at c.rows.len c.args.left c.in-Some.row
    c.requires.piece.1 c.requires.left i.within c.in-Some.ensures in
    let most = c.in-Some.ensures.within in
    let some = row.some in
    let before = i.within in
    omega (arith, most, some, before)
