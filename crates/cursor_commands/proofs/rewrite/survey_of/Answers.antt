use Rattle.std.proofs.Common.{arith}
use Rattle.cursor_commands.proofs.ReplyLemmas.{one_seen, all_seen, some_left, none_left}
use Rattle.cursor_commands.proofs.rewrite.survey_of.Goals as goal

pub loop-rest-preserved : goal.loop-rest-preserved
loop-rest-preserved c =
    let some = some_left c.loop-rest.rest.now c.is_empty.result c.is_empty.ensures c.loop-rest-test.true in (
      one_seen c.args.replies.now c.loop-rest.rest.now c.split_at.result.1.now c.reply_len.result c.loop-rest.survey.failed
          c.with_reply-survey.result.failed c.loop-rest.survey.rows c.with_reply-survey.result.rows c.loop-rest.invariant.0 some
          c.reply_len.ensures.reply c.with_reply-survey.ensures.failed c.with_reply-survey.ensures.rows c.split_at.ensures.back,
      grind (arith, c.loop-rest.invariant.1, c.reply_len.ensures.within.0, c.split_at.ensures.back_len, c.with_reply-survey.ensures.rows),
    )

pub returns-clause-survey : goal.returns-clause-survey
returns-clause-survey c =
    all_seen c.args.replies.now c.loop-rest.rest.now c.loop-rest.survey.failed c.loop-rest.survey.rows c.loop-rest.invariant.0
    (none_left c.loop-rest.rest.now c.is_empty.result c.is_empty.ensures c.loop-rest-test.false)
