use Rattle.std.proofs.Common.{◌≡◌, ◌∙◌, ℕ, List, [], ◌∷◌, ◌++◌, decimal, sym, append_assoc}
use Rattle.std.specs.Prelude.{codes}
use Rattle.relation_server.proofs.demo.lines.Goals as goal

-- the pieces of the text, joined from the back or from the front
pieces : (a b c d e f g h i : List ℕ)
    → a ++ (b ++ (c ++ (d ++ (e ++ (f ++ (g ++ (h ++ i))))))) ≡ (((((((a ++ b) ++ c) ++ d) ++ e) ++ f) ++ g) ++ h) ++ i
pieces a b c d e f g h i = sym (simp append_assoc)

pub returns : goal.returns
returns c = c.in_ok-lines.ensures.ok
    ∙ pieces (codes "relations ") (decimal c.args.relations) (10 ∷ codes "rows ") (decimal c.args.rows) (10 ∷ codes "in ")
    (decimal c.args.client) (10 ∷ codes "out ") (decimal c.args.replies) (10 ∷ [])
