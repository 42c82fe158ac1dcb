-- How an outbox keeps its bytes. No public clause names these definitions: contracts see an outbox as its bytes.
use Rattle.std.specs.Prelude.{ℕ, List, ◌≡◌, ◌≤◌, length}
use Rattle.std.specs.List.{AllByRecursion, flat_map}
use Rattle.bytes.specs.Filled.{Filled}

-- the bytes of chunks, one chunk after another
abbrev pub chunk_bytes : List Filled → List ℕ
chunk_bytes chunks = flat_map (λ chunk. chunk.items) chunks

-- each of these chunks has 65,536 bytes
abbrev pub AreWhole : List Filled → Type 0
AreWhole chunks = AllByRecursion (λ chunk. length chunk.items ≡ 65536) chunks

-- Whole chunks of 65,536 bytes, and a last one that may be shorter. They are so few that the number of their bytes fits
-- in a usize.
pub record IsCut (chunks : List Filled) (rest : List ℕ) : Type 0 where
  pub whole : AreWhole chunks
  pub last : length rest ≤ 65536
  pub few : length chunks ≤ 4294967296
