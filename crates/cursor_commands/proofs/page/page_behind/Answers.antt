use Rattle.std.proofs.Common.{◌+◌, refl, arith}
use Rattle.std.proofs.lemmas.List.{length-drop}
use Rattle.cursor_commands.proofs.PageLemmas.{page_more}
use Rattle.cursor_commands.proofs.page.page_behind.Goals as goal

pub rows-preserved : goal.rows-preserved
rows-preserved c =
    let bytes = c.args.replies.now in
    let begins = c.in-Some.ensures in
    let i = c.rows.invariant in
    let long = length-drop c.rows.len bytes in
    let all = c.requires.all in
    let row = begins.within in
    let more = c.rows_at-more.ensures.within in
    let few = c.rows_at-more.ensures.few in
    let before = i.within in
    let rows = i.few in
    record {
      within = omega (arith, more, row, long, all, before);
      few = omega (arith, few, rows, begins.some);
      page = page_more bytes c.args.columns c.rows.len c.rows.rows c.in-Some.row c.rows_at-more.result.len c.rows_at-more.result.count
          (c.rows.len + (c.in-Some.row + c.rows_at-more.result.len)) (c.rows.rows + (1 + c.rows_at-more.result.count)) i.page begins
          c.rows_at-more.ensures.rows refl refl;
    }
