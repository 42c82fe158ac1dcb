use Rattle.std.proofs.Common.{sym, ◌∙◌}
use Rattle.shared_history.proofs.Moves.{has_word, adds_allowed}
use Rattle.shared_history.proofs.writer.Writer.add.Goals as goal

pub compare_exchange_with-requires : goal.compare_exchange_with-requires
compare_exchange_with-requires g c =
    let book = c.book.invariant in
    let i = c.self.invariant in
    (i.0 ∙ sym book.0, has_word _ book.1, adds_allowed _ _ _ _ i.2)
