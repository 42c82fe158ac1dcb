-- The word of a secret key.
use Rattle.std.specs.Prelude.{ℕ, ◌&&◌, nat_le, length, List, Option, None, if◌then◌else◌}
use Rattle.std.specs.Result.{result_ok}
use Rattle.hex.specs.Hex.{decode_of}

-- KEY: the bytes of an even number of hexadecimal digits of either case, 8 to 512 of them
abbrev pub key_of : List ℕ → Option (List ℕ)
key_of word = if nat_le 8 (length word) && nat_le (length word) 512 then result_ok (decode_of word) else None
