-- A Query frame is its header, and a String behind it.
use Rattle.std.proofs.Common.{◌≡◌, ℕ, false, List, [], drop, sym, ap, subst, ◌∙◌, append-nil}
use Rattle.pg_messages.specs.declared.frontend.PgWireFrontendMessage.TheVariants as client
use Rattle.pg_messages.specs.declared.simplequery.Query.{Query}
use Rattle.pg_messages.specs.Fields.{string, IsText}
use Rattle.pg_messages.specs.Frames.{IsFrame, IsGoodHeader, told_len}
use Rattle.pg_messages.specs.QueryHeaders.{HasQueryHeader}
use Rattle.pg_messages.proofs.Laws.{IsBytes}
use Rattle.pg_messages.proofs.FrameLaws.{inside, outside}
use Rattle.pg_messages.proofs.OneReading.{front}

-- bytes with this header, and a String behind it
pub query_is_framed : (frame text : List ℕ) → IsBytes frame → HasQueryHeader frame → drop 5 frame ≡ string text → IsText text
    → IsFrame false frame (client.Query (record { query = text }))
query_is_framed frame text fits h e good =
    outside false frame (client.Query (record { query = text })) (record { told = h.told; good = h.good }) fits
    (h.kind, e, record { query = good })

-- the header of a Query frame
pub query_header : (frame : List ℕ) (m : Query) → IsFrame false frame (client.Query m) → HasQueryHeader frame
query_header frame m f =
    let x = front false frame [] (client.Query m) f in
    let carried = inside false frame (client.Query m) f in
    record {
      good = subst (IsGoodHeader false) (append-nil frame) x.good;
      kind = carried.0;
      told = sym (ap (told_len false) (append-nil frame)) ∙ x.told;
    }
