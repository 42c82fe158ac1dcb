use Rattle.std.proofs.Common.{false, arith}
use Rattle.pg_messages.proofs.FrameLaws.{StandsIn, typed_in_front, typed_found, typed_bad}
use Rattle.pg_messages.proofs.typed.message_in.Goals as goal

pub returns-clause-found : goal.returns-clause-found
returns-clause-found g c =
    let bytes = c.args.bytes.now in
    let body = c.split_at-2.result.1.now in
    let h : StandsIn false bytes c.args.len g.M.TypedMessage.kind body = typed_in_front bytes c.args.len g.M.TypedMessage.kind
    c.split_at.result.0.now body c.requires.kind (record { told = c.requires.told; there = c.requires.there; good = c.requires.good })
    c.split_at.ensures.front c.split_at-2.ensures.back in
    typed_found g.M.TypedMessage.message bytes c.args.len g.M.TypedMessage.kind body (g.M.Field.field_at body)
    (g.met.M.TypedMessage.is_read body) h c.whole.result (λ i. omega (arith, c.type_inv.bytes i)) c.whole.ensures

pub returns-clause-bad : goal.returns-clause-bad
returns-clause-bad g c =
    let bytes = c.args.bytes.now in
    let body = c.split_at-2.result.1.now in
    let h : StandsIn false bytes c.args.len g.M.TypedMessage.kind body = typed_in_front bytes c.args.len g.M.TypedMessage.kind
    c.split_at.result.0.now body c.requires.kind (record { told = c.requires.told; there = c.requires.there; good = c.requires.good })
    c.split_at.ensures.front c.split_at-2.ensures.back in
    typed_bad g.M.TypedMessage.message bytes c.args.len g.M.TypedMessage.kind body (g.M.Field.field_at body)
    (g.met.M.TypedMessage.is_read body) h c.whole.result c.whole.ensures
