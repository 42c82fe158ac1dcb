use Rattle.std.proofs.lemmas.Result.{err_from_is_err_and}
use Rattle.pg_handlers.proofs.query.respond.send_response.Goals as goal

pub returns-in_err-send_replies-clause-sent : goal.returns-in_err-send_replies-clause-sent
returns-in_err-send_replies-clause-sent g c =
    let p = err_from_is_err_and c.from_residual.result c.from_residual.ensures.1 in
    rw (p.1, p.2) (c.in_err-send_replies.ensures.sent c.args.status)

pub returns-clause-sent : goal.returns-clause-sent
returns-clause-sent g c = c.in_ok-send_replies.ensures.sent c.args.status

pub returns-clause-left : goal.returns-clause-left
returns-clause-left g c = c.left_by-left.ensures (c.in_ok-send_replies.ensures.sent c.args.status).0
