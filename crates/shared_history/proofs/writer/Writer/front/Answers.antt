use Rattle.std.proofs.Common.{sym, ◌∙◌}
use Rattle.shared_history.proofs.Moves.{has_word, splits}
use Rattle.shared_history.proofs.writer.Writer.front.Goals as goal

pub split_seat-requires : goal.split_seat-requires
split_seat-requires g c =
    let book = c.book.invariant in
    (c.self.invariant.0 ∙ sym book.0, has_word _ book.1, splits _ _)
