-- The text that a zero byte in front ends at once.
use Rattle.std.proofs.Common.{◌≡◌, ◌≤◌, ℕ, List, [], ◌∷◌, length, get_or, drop, Some, arith}
use Rattle.std.proofs.lemmas.Str.{IsUtf8-nil}
use Rattle.pg_messages.specs.Fields.{IsText}
use Rattle.pg_messages.specs.Reading.{string_at}
use Rattle.pg_messages.proofs.FieldLaws.{Reads-string}

none_is_text : IsText []
none_is_text = record { utf8 = IsUtf8-nil; no_zero = cc }

pub empty_text : (bytes : List ℕ) → 1 ≤ length bytes → get_or bytes 0 0 ≡ 0 → string_at bytes ≡ Some ([], drop 1 bytes)
empty_text [] there zero = absurd (omega (arith, there))
empty_text (x ∷ rest) there zero = rw zero (Reads-string.again [] rest none_is_text)
