-- The header of a Query frame that is all of some bytes (protocol: Message Formats).
use Rattle.std.specs.Prelude.{ℕ, List, ◌≡◌, false, length, slice_index}
use Rattle.pg_messages.specs.Frames.{told_len, IsGoodHeader}

-- The header is good, has the type byte `Q`, and tells as many bytes as there are.
pub record HasQueryHeader (frame : List ℕ) : Type 0 where
  pub good : IsGoodHeader false frame
  pub kind : slice_index frame 0 ≡ 81
  pub told : told_len false frame ≡ length frame
