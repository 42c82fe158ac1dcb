use Rattle.std.proofs.Common.{◌≡◌, Result, Ok, Err, IfOk, ap}
use Rattle.std.specs.Arc.{arc_value}
use Rattle.relation_tables.specs.RelationHandler.{told_parser}
use Rattle.relation_handlers.proofs.served.RefRelationTableServedRelations.parser.Goals as goal

-- what is told of what is shared is told of the same
told_alike : {A B C E : Type 0} (r : Result A E) (f : A → B) (g : B → C) (b : B) → IfOk r (λ a. f a ≡ b)
    → IfOk r (λ a. g (f a) ≡ g b)
told_alike (Ok a) f g b e = ap g e
told_alike (Err e) f g b x = tt

pub returns : goal.returns
returns c = told_alike c.share_named.result arc_value told_parser c.args.self.now.now c.share_named.ensures
