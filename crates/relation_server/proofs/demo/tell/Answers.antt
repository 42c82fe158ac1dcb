use Rattle.std.proofs.Common.{◌∙◌, ◌<◌, ◌^◌, length, ap, arith, subst}
use Rattle.relation_server.specs.Demo.{HasTold}
use Rattle.relation_server.specs.Program.{demo_lines}
use Rattle.relation_demo.proofs.CountLemmas.{told_by_length}
use Rattle.relation_server.proofs.demo.tell.Goals as goal

pub returns-in-Ok-clause-told : goal.returns-in-Ok-clause-told
returns-in-Ok-clause-told g c =
    λ messages is.
    let short : length c.args.replies.now < 2 ^ 32 = omega (arith, c.if-replies-gt-GREATEST_LENGTH.false) in
    let rows = c.count_rows-rows.ensures messages is (told_by_length messages (subst (λ b. length b < 2 ^ 32) is short)) in
    subst (λ l. HasTold c.write_lines.result l (g.K.Sink.written c.args.out.now) (g.K.Sink.written c.write_lines.new.out)
    (g.K.Sink.faults c.args.out.now) (g.K.Sink.faults c.write_lines.new.out))
    (c.as_str.ensures.value ∙ c.in-Ok.ensures ∙ ap (λ r. demo_lines c.args.relations r c.args.client (length c.args.replies.now)) rows)
    c.write_lines.ensures.told
