-- A printed text has no tab, no newline and no backslash.
use Rattle.std.proofs.Common.{IsTrue, ℕ, List, [], ◌∷◌, arith}
use Rattle.pg_interval.specs.Cell.{IsInterval}
use Rattle.pg_interval.specs.Reading.{Style}
use Rattle.pg_interval.specs.declared.pg_interval.Interval.{Interval}
use Rattle.pg_interval.specs.Printed.{printed}
use Rattle.pg_interval.proofs.PrintedBytes.{is_printable, IsPrintable, printed_bytes}
use Rattle.cell_laws.specs.ShownCells.{is_plain, IsPlain}

plain : (byte : ℕ) → IsTrue (is_printable byte) → IsTrue (is_plain byte)
plain byte h = grind (arith, h)

plain_of : (text : List ℕ) → IsPrintable text → IsPlain text
plain_of [] h = tt
plain_of (byte ∷ text) h = (plain byte h.0, plain_of text h.1)

pub printed_plain : (style : Style) (i : Interval) → IsInterval i → IsPlain (printed style i)
printed_plain style i is = plain_of (printed style i) (printed_bytes style i is)
