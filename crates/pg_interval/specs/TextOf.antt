-- What is known of the text of an interval in one of PostgreSQL's four interval styles.
use Rattle.std.specs.Prelude.{◌≡◌, ℕ, ◌≤◌, List, length}
use Rattle.std.specs.Str.{IsUtf8}
use Rattle.pg_interval.specs.Printed.{printed, IsPrintedOnlyFor}
use Rattle.pg_interval.specs.Reading.{Style, StandsForOnly}
use Rattle.pg_interval.specs.declared.pg_interval.Interval.{Interval}

-- A printed text has these bytes. They are at most 96, and valid UTF-8.
pub record IsPrintedAs (told text : List ℕ) : Type 0 where
  pub printed : text ≡ told
  pub short : length text ≤ 96
  pub utf8 : IsUtf8 text

-- What the style prints, which is short. It stands for this interval and for no other, and no other prints as it does.
pub record IsTextOf (style : Style) (i : Interval) (text : List ℕ) : Type 0 where
  pub printed : text ≡ printed style i
  pub stands : StandsForOnly style text i
  pub distinct : IsPrintedOnlyFor style text i
  pub short : length text ≤ 96
  pub utf8 : IsUtf8 text
