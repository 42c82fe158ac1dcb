use Rattle.std.proofs.Common.{length, drop, ap, ◌∙◌, length-append, arith}
use Rattle.std.proofs.lemmas.List.{length-drop}
use Rattle.cursor_commands.proofs.PageLemmas.{copied_more}
use Rattle.cursor_commands.proofs.page.copy_from.Goals as goal

pub places-preserved : goal.places-preserved
places-preserved c =
    let bytes = c.args.replies.now in
    let piece = c.piece_at-piece.result.now in
    let front = c.piece_at-piece.ensures.piece in
    let long = length-drop c.places.place bytes in
    let both = ap length front.1 ∙ length-append piece front.0 in
    let i = c.places.invariant in
    let before = i.within in
    record {
      within = omega (arith, long, both, before);
      copied = copied_more bytes piece front.0 c.places.copy.items (drop c.args.at bytes) c.extend_from_slice.new.self.items c.places.place
          front.1 i.copied c.in_ok-extend_from_slice.ensures.ok;
    }
