use Rattle.std.proofs.Common.{Err, ap, ◌∙◌, arith}
use Rattle.std.proofs.lemmas.List.{length-take}
use Rattle.relation_words.proofs.keys.KeyBytes.secret_key.Goals as goal

pub unreachable-requires : goal.unreachable-requires
unreachable-requires c =
    let bad = (c.try_new.ensures.bad_length c.in-Err-BadLength.field-0-0).0
    (c.in-Err-BadLength.is ∙ ap Err c.in-Err-BadLength.field-0-is) in
    let long = length-take c.self.inside.length c.self.inside.room in
    omega (arith, bad.0, bad.1, long, c.self.told)
