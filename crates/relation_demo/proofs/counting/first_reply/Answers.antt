use Rattle.std.proofs.Common.{◌≡◌, drop, ap, sym, ◌∙◌}
use Rattle.relation_demo.proofs.CountLemmas.{first_behind, TellsLength}
use Rattle.relation_demo.proofs.counting.first_reply.Goals as goal

pub returns-clause-first : goal.returns-clause-first
returns-clause-first c = λ m others e told.
    let rest = c.in_ok-kind.rest.now in
    let tells : TellsLength c.in_ok-kind.kind.now rest c.reply_len.result =
    record { alone = c.reply_len.ensures.alone; told = c.reply_len.ensures.told } in
    let h = first_behind c.in_ok-kind.kind.now rest c.reply_len.result m others tells told (sym c.in_ok-kind.ensures.cases.0 ∙ e) in
    let size : c.in_ok-len.len ≡ h.size = cc (c.in_ok-len.was, h.len_is) in
    (h.kind_is, c.split_at.ensures.back ∙ ap (λ n. drop n rest) size ∙ h.others_are)
