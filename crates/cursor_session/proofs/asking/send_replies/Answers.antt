use Rattle.std.proofs.Common.{◌≡◌, ℕ, ◌≤◌, ◌^◌, List, length, ap, sym, ◌∙◌, arith}
use Rattle.conversation_runs.proofs.Stepping.{on_err_always}
use Rattle.cursor_session.proofs.Exchanging.{becomes_by, sends_on_ok, sends_on_err, sends_none, changes_then}
use Rattle.cursor_session.proofs.asking.send_replies.Goals as goal

small : (told old : List ℕ) (len : ℕ) → told ≡ old → len ≡ length told → len ≤ 2147483648 → length old ≤ 2 ^ 31
small told old len same is le = let e = ap length same in omega (arith, e, is, le)

pub returns-then-len-gt-MOST_REPLIES-clause-err : goal.returns-then-len-gt-MOST_REPLIES-clause-err
returns-then-len-gt-MOST_REPLIES-clause-err g c =
    sends_none c.args.command.now (g.C.FrontedSession.seen c.args.inner.now).unsent (g.K.Sink.written c.args.sink.now)

pub returns-in_err-replies-clause-err : goal.returns-in_err-replies-clause-err
returns-in_err-replies-clause-err g c =
    on_err_always c.from_residual.result
    (sends_none c.args.command.now (g.C.FrontedSession.seen c.args.inner.now).unsent (g.K.Sink.written c.args.sink.now))

pub returns-in_err-replace_unsent-clause-err : goal.returns-in_err-replace_unsent-clause-err
returns-in_err-replace_unsent-clause-err g c =
    on_err_always c.from_residual-in_err-replace_unsent.result
    (sends_none c.args.command.now (g.C.FrontedSession.seen c.args.inner.now).unsent (g.K.Sink.written c.args.sink.now))

pub returns-clause-ok : goal.returns-clause-ok
returns-clause-ok g c =
    let old = (g.C.FrontedSession.seen c.args.inner.now).unsent in
    let mid = (g.C.FrontedSession.seen c.replace_unsent.new.self).unsent in
    let le : length old ≤ 2 ^ 31 = small c.unsent.result.now old c.len-len.result c.unsent.ensures c.len-len.ensures c.if-len-gt-MOST_REPLIES.false in
    let made = becomes_by c.args.command.now old c.unsent-2.result.now mid c.in_ok-replies.replies.behind.items c.as_slice.result.now
    c.in_ok-replies.replies.kept c.unsent-2.ensures c.as_slice.ensures c.in_ok-replies.ensures c.in_ok-replace_unsent.ensures.ok in
    sends_on_ok c.flush.result c.args.command.now old mid (g.K.Sink.written c.args.sink.now) (g.K.Sink.written c.flush.new.sink) le made
    c.flush.ensures.ok

pub returns-clause-err : goal.returns-clause-err
returns-clause-err g c =
    let old = (g.C.FrontedSession.seen c.args.inner.now).unsent in
    let mid = (g.C.FrontedSession.seen c.replace_unsent.new.self).unsent in
    let le : length old ≤ 2 ^ 31 = small c.unsent.result.now old c.len-len.result c.unsent.ensures c.len-len.ensures c.if-len-gt-MOST_REPLIES.false in
    let made = becomes_by c.args.command.now old c.unsent-2.result.now mid c.in_ok-replies.replies.behind.items c.as_slice.result.now
    c.in_ok-replies.replies.kept c.unsent-2.ensures c.as_slice.ensures c.in_ok-replies.ensures c.in_ok-replace_unsent.ensures.ok in
    sends_on_err c.flush.result c.args.command.now old mid (g.K.Sink.written c.args.sink.now) (g.K.Sink.written c.flush.new.sink) le made
    c.flush.ensures.err

pub returns-clause-same : goal.returns-clause-same
returns-clause-same g c =
    changes_then (g.C.FrontedSession.seen c.args.inner.now) (g.C.FrontedSession.seen c.replace_unsent.new.self)
    (g.C.FrontedSession.seen c.flush.new.self) c.replace_unsent.ensures.same c.flush.ensures.same
