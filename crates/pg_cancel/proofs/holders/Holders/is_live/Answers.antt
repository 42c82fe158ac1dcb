use Rattle.std.proofs.Common.{Some, None, FitsSigned, w32, rules}
use Rattle.std.proofs.lemmas.Bool.{false≢true}
use Rattle.pg_cancel.proofs.Noting.{live_by_holder, live_by_none, read_at}
use Rattle.pg_cancel.proofs.holders.Holders.is_live.Goals as goal

pub returns-in-Some : goal.returns-in-Some
returns-in-Some c =
    let m = c.args.self.now.by_pid in
    let pid = c.in-Register.held in
    let fits : FitsSigned w32 pid = search rules in
    let at = read_at m pid (Some c.in-Some.holder.now) fits c.in-Some.ensures.value in
    live_by_holder c.args.history.now m c.args.number _ pid _ c.in-Some.holder.now c.requires.legal c.requires.index c.in-Register.is at

pub returns-in-None : goal.returns-in-None
returns-in-None c =
    let m = c.args.self.now.by_pid in
    let pid = c.in-Register.held in
    let fits : FitsSigned w32 pid = search rules in
    let at = read_at m pid None fits c.in-None.ensures.value in (
      λ e. absurd (false≢true e),
      λ live. absurd (live_by_none c.args.history.now m c.args.number _ pid _ c.requires.index c.in-Register.is
          at live),
    )
