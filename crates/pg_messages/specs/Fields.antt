-- The data types that messages are made of (protocol: Message Data Types). Numbers are big-endian.
use Rattle.std.specs.Prelude.{ℕ, ℤ, List, [], ◌∷◌, ◌++◌, ◌≢◌}
use Rattle.std.specs.List.{AllByRecursion}
use Rattle.std.specs.Int.{w8, w16, w32, to_be_bytes, cast_unsigned}
use Rattle.std.specs.Str.{IsUtf8}

-- Int8 of a number with a sign, in two's complement
abbrev pub int8 : ℤ → List ℕ
int8 z = to_be_bytes w8 (cast_unsigned w8 z)

-- Int16 of a number with a sign, in two's complement
abbrev pub int16 : ℤ → List ℕ
int16 z = to_be_bytes w16 (cast_unsigned w16 z)

-- Int32 of a number with a sign, in two's complement
abbrev pub int32 : ℤ → List ℕ
int32 z = to_be_bytes w32 (cast_unsigned w32 z)

-- Int16 of a count
abbrev pub count16 : ℕ → List ℕ
count16 n = to_be_bytes w16 n

-- Int32 of a length, a code or an object identifier
abbrev pub count32 : ℕ → List ℕ
count32 n = to_be_bytes w32 n

-- String: the bytes of a text, and a zero byte after them
abbrev pub string : List ℕ → List ℕ
string text = text ++ 0 ∷ []

-- what a String can carry
pub record IsText (text : List ℕ) : Type 0 where
  pub utf8 : IsUtf8 text
  pub no_zero : AllByRecursion (λ byte. byte ≢ 0) text
