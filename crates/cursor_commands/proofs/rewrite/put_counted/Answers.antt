use Rattle.std.proofs.Common.{codes}
use Rattle.cursor_commands.proofs.WriteLemmas.{done_on_ok, declare_told, close_told}
use Rattle.cursor_commands.proofs.rewrite.put_counted.Goals as goal

pub returns-in-Declare : goal.returns-in-Declare
returns-in-Declare c =
    done_on_ok c.args.command.now (codes "DECLARE CURSOR") c.args.replies.now c.args.out.now.items c.put_done.new.out.items c.args.rows
    c.put_done.result (λ replies. declare_told c.args.command.now _ _ c.args.rows replies c.in-Declare.is) c.put_done.ensures

pub returns-in-Close : goal.returns-in-Close
returns-in-Close c =
    done_on_ok c.args.command.now (codes "CLOSE CURSOR") c.args.replies.now c.args.out.now.items c.put_done-in-Close.new.out.items c.args.rows
    c.put_done-in-Close.result (λ replies. close_told c.args.command.now _ c.args.rows replies c.in-Close.is) c.put_done-in-Close.ensures
