use Rattle.cursor_commands.specs.Rewriting.{changed}
use Rattle.cursor_commands.proofs.ReplyLemmas.{some_left, none_left}
use Rattle.cursor_commands.proofs.WriteLemmas.{one_written, all_written}
use Rattle.cursor_commands.proofs.rewrite.put_changed.Goals as goal

pub loop-rest-preserved : goal.loop-rest-preserved
loop-rest-preserved c =
    one_written (changed c.args.change) c.args.replies.now c.loop-rest.rest.now c.split_at.result.0.now c.split_at.result.1.now
    c.reply_len.result c.args.out.now.items c.loop-rest.out.items c.put_reply.new.out.items c.loop-rest.invariant
    (some_left c.loop-rest.rest.now c.is_empty.result c.is_empty.ensures c.loop-rest-test.true) c.reply_len.ensures.reply
    c.split_at.ensures.front c.split_at.ensures.back c.in_ok-put_reply.ensures

pub returns : goal.returns
returns c =
    all_written (changed c.args.change) c.args.replies.now c.loop-rest.rest.now c.args.out.now.items c.loop-rest.out.items
    c.loop-rest.invariant (none_left c.loop-rest.rest.now c.is_empty.result c.is_empty.ensures c.loop-rest-test.false)
