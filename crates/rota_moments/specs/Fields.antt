-- The six numbers of a text, as its reader takes them. No public contract cites it.
use Rattle.std.specs.Prelude.{ℕ, ◌+◌, ◌*◌, ◌-◌, ◌%◌, ◌≡◌, ◌≢◌, ◌&&◌, ◌==◌, ℤ, List, [], ◌∷◌, Option, Some, None, if◌then◌else◌}
use Rattle.std.specs.Char.{is_ascii_digit}
use Rattle.rota_moments.specs.declared.moment.Moment.{Moment}
use Rattle.rota_moments.specs.declared.reading.Fields.{Fields}
use Rattle.rota_moments.specs.Calendar.{CivilDate, civil_date, date_of}
use Rattle.rota_moments.specs.Moments.{IsDay, IsMoment}
use Rattle.rota_moments.specs.Texts.{Clock, clock, clock_of}

abbrev pub date_in : Fields → CivilDate
date_in f = civil_date f.year f.month f.day

abbrev pub clock_in : Fields → Clock
clock_in f = clock f.hour f.minute f.second

-- the number of two digits
abbrev pub pair_of : ℕ → ℕ → Option ℕ
pair_of a b = if is_ascii_digit a && is_ascii_digit b then Some (10 * (a - 48) + (b - 48)) else None

-- the numbers of all pairs of digits, the first two of which make the year
abbrev pub fields : Option ℕ → Option ℕ → Option ℕ → Option ℕ → Option ℕ → Option ℕ → Option ℕ → Option Fields
fields (Some century) (Some year) (Some month) (Some day) (Some hour) (Some minute) (Some second) =
    Some (record { year = 100 * century + year; month = month; day = day; hour = hour; minute = minute; second = second })
fields _ _ _ _ _ _ _ = None

abbrev pub fields_of : List ℕ → Option Fields
fields_of (a ∷ b ∷ c ∷ d ∷ p ∷ e ∷ f ∷ q ∷ g ∷ h ∷ t ∷ i ∷ j ∷ u ∷ k ∷ l ∷ v ∷ m ∷ n ∷ []) =
    if (p == 45) && (q == 45) && (t == 84) && (u == 58) && (v == 58)
    then fields (pair_of a b) (pair_of c d) (pair_of e f) (pair_of g h) (pair_of i j) (pair_of k l) (pair_of m n)
    else None
fields_of _ = None

-- the day of this date, if it is one of the years 1 to 9999
abbrev pub IsDayOf : CivilDate → Option ℤ → Type 0
IsDayOf date (Some day) = IsDay day × (date_of day ≡ date)
IsDayOf date None = (day : ℤ) → IsDay day → date_of day ≢ date

-- the moment of this date and time of day, if it is one
abbrev pub IsMomentOf : CivilDate → Clock → Option Moment → Type 0
IsMomentOf date time (Some m) = IsMoment m × (m.micro % 1000000 ≡ 0) × (date_of m.day ≡ date) × (clock_of m.micro ≡ time)
IsMomentOf date time None = (m : Moment) → IsMoment m → ¬ ((date_of m.day ≡ date) × (clock_of m.micro ≡ time))
