-- The texts of moments: `YYYY-MM-DDTHH:MM:SS`, which is read, and `YYYY-MM-DD HH:MM:SS`, which is printed, with `.` and six digits of
-- microseconds where there are any.
use Rattle.std.specs.Prelude.{ℕ, ◌/◌, ◌%◌, ◌<◌, ◌≡◌, ◌≢◌, ◌==◌, if◌then◌else◌, List, [], ◌∷◌, ◌++◌, Result, Ok, Err}
use Rattle.pg_interval.specs.Printed.{last_digits}
use Rattle.rota_moments.specs.declared.moment.Moment.{Moment}
use Rattle.rota_moments.specs.declared.reading.MomentError.{MomentError}
use Rattle.rota_moments.specs.declared.reading.MomentError.TheVariants.{Shape, Field}
use Rattle.rota_moments.specs.Calendar.{CivilDate, date_of}
use Rattle.rota_moments.specs.Moments.{IsMoment}

-- a time of day, to the second
pub record Clock : Type 0 where
  pub hour : ℕ
  pub minute : ℕ
  pub second : ℕ

abbrev pub clock : ℕ → ℕ → ℕ → Clock
clock hour minute second = record { hour = hour; minute = minute; second = second }

-- the time of day `micro` microseconds after midnight
abbrev pub clock_of : ℕ → Clock
clock_of micro = clock (micro / 3600000000) (micro / 60000000 % 60) (micro / 1000000 % 60)

-- YYYY-MM-DD
abbrev pub date_text : CivilDate → List ℕ
date_text d = last_digits 4 d.year ++ 45 ∷ last_digits 2 d.month ++ 45 ∷ last_digits 2 d.day

-- HH:MM:SS
abbrev pub clock_text : Clock → List ℕ
clock_text c = last_digits 2 c.hour ++ 58 ∷ last_digits 2 c.minute ++ 58 ∷ last_digits 2 c.second

-- a date, `T`, and a time of day
abbrev pub civil_text : CivilDate → Clock → List ℕ
civil_text d c = date_text d ++ 84 ∷ clock_text c

-- `.` and the six digits of microseconds, unless there are none
abbrev pub fraction_text : ℕ → List ℕ
fraction_text micros = if micros == 0 then [] else 46 ∷ last_digits 6 micros

-- the text that is read as a moment without a part of a second
abbrev pub start_text : Moment → List ℕ
start_text m = civil_text (date_of m.day) (clock_of m.micro)

-- The text of a moment.
unfoldable pub moment_text : Moment → List ℕ
moment_text m = date_text (date_of m.day) ++ 32 ∷ clock_text (clock_of m.micro) ++ fraction_text (m.micro % 1000000)

-- the text has these six numbers, a year of four digits and five numbers of two, whether or not there are such a date and such a time
pub record HasForm (text : List ℕ) (d : CivilDate) (c : Clock) : Type 0 where
  pub year : d.year < 10000
  pub month : d.month < 100
  pub day : d.day < 100
  pub hour : c.hour < 100
  pub minute : c.minute < 100
  pub second : c.second < 100
  pub stands : text ≡ civil_text d c

-- What a text is read as: the moment whose text it is; or else it has another form (Shape), or the form but is the text of no moment of
-- the years 1 to 9999 (Field).
abbrev pub IsReading : List ℕ → Result Moment MomentError → Type 0
IsReading text (Ok m) = IsMoment m × (m.micro % 1000000 ≡ 0) × (text ≡ start_text m)
IsReading text (Err Shape) = (d : CivilDate) (c : Clock) → ¬ HasForm text d c
IsReading text (Err Field) = ((d : CivilDate) × ((c : Clock) × HasForm text d c)) × ((m : Moment) → IsMoment m → text ≢ start_text m)
