use Rattle.std.proofs.Common.{arith, ◌∙◌, sym}
use Rattle.std.proofs.lemmas.Option.{IfSome_then}
use Rattle.pg_messages.proofs.QueryLaws.{query_is_framed}
use Rattle.pg_messages.proofs.simplequery.query_text.Goals as goal

pub returns-clause-some : goal.returns-clause-some
returns-clause-some c =
    let header = c.in_ok-query_body.ensures.some in
    IfSome_then c.text_of_string.result c.text_of_string.ensures.some
    (λ text p. query_is_framed c.args.frame.now text.now (λ i. omega (arith, c.type_inv.frame i)) header.0 (sym header.1 ∙ p.0) p.1)
