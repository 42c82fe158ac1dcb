use Rattle.std.proofs.Common.{sym, ◌∙◌}
use Rattle.shared_history.proofs.Moves.{has_word, joins, compare_allowed}
use Rattle.shared_history.proofs.front.Front.one_history.Goals as goal

pub join_seat-requires : goal.join_seat-requires
join_seat-requires g c =
    let book = c.book.invariant in
    let i = c.seat.invariant in
    (c.self.invariant.0 ∙ sym book.0, i.0 ∙ sym book.0, i.1, has_word _ book.1, joins _ _ _ _)

pub load-requires : goal.load-requires
load-requires g c =
    let book = c.book.invariant in
    (c.join_seat.ensures.0 ∙ (c.self.invariant.0 ∙ sym book.0), has_word _ book.1, compare_allowed _ _ _)
