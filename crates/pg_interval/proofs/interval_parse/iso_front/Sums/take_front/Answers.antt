use Rattle.std.proofs.Common.{◌∙◌, ap, refl, ◌∷◌}
use Rattle.std.specs.Prelude.{Ok}
use Rattle.pg_interval.specs.ItemReader.{left}
use Rattle.pg_interval.specs.FrontReader.{left_of, sums_of}
use Rattle.pg_interval.proofs.ReadItems.{mark_first}
use Rattle.pg_interval.proofs.interval_parse.iso_front.Sums.take_front.Goals as goal

pub returns-clause-left : goal.returns-clause-left
returns-clause-left c =
    let s = c.args.self.now in
    let rest = c.in-Some.rest.now in
    ap (left_of s) c.in-Some.ensures ∙ ap (λ b. left b (Ok (sums_of s)) (84 ∷ rest)) c.if-self.false
    ∙ mark_first (Ok (sums_of s)) 84 rest refl
