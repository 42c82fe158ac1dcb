use Rattle.std.proofs.Common.{sym, ◌∙◌}
use Rattle.cursor_commands.proofs.TagLemmas.{fetch_encodable}
use Rattle.cursor_commands.proofs.WriteLemmas.{fetch_told, tag_on_ok}
use Rattle.cursor_commands.proofs.rewrite.put_fetched.Goals as goal

pub put_complete-requires : goal.put_complete-requires
put_complete-requires c =
    fetch_encodable c.args.rows c.in_ok-into_command_complete.field-0.tag c.ranges.rows.fits
    (fetch_told c.args.rows c.in_ok-into_command_complete.field-0.tag c.in_ok-new.field-0 c.with_rows-tag.result c.in_ok-new.ensures
    c.with_rows-tag.ensures c.in_ok-into_command_complete.ensures)

pub returns-then-ends_rows : goal.returns-then-ends_rows
returns-then-ends_rows c =
    tag_on_ok c.args.rows c.args.reply.now c.args.out.now.items c.put_complete.new.out.items c.in_ok-into_command_complete.field-0.tag
    c.put_complete.result c.if-reply-eq110.false (sym c.ends_rows.ensures ∙ c.if-ends_rows.true)
    (fetch_told c.args.rows c.in_ok-into_command_complete.field-0.tag c.in_ok-new.field-0 c.with_rows-tag.result c.in_ok-new.ensures
    c.with_rows-tag.ensures c.in_ok-into_command_complete.ensures)
    c.put_complete.ensures
