use Rattle.std.proofs.Common.{◌≡◌, ◌∷◌, [], ◌++◌, refl, ap, ◌∙◌}
use Rattle.pg_cancel.proofs.Turning.{begins_turn}
use Rattle.pg_cancel.proofs.manager.ConnectionManager.new.Goals as goal

pub new-requires-2 : goal.new-requires-2
new-requires-2 c =
    let one : c.push_reserved.new.self.items ≡ c.new.result ∷ [] =
    c.push_reserved.ensures.items ∙ ap (λ xs. xs ++ c.new.result ∷ []) c.in_ok-slots.ensures.items in
    begins_turn (0 ∷ []) c.push_reserved.new.self.items c.new.result refl one c.new.ensures
