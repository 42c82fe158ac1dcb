-- The date of a day, and the day of a date.
use Rattle.std.proofs.Common.{◌≡◌, ℕ, Bool, true, false, true≢false, refl, sym, ap, subst, ◌∙◌, arith, ℤ, pos, Option, Some, None}
use Rattle.std.specs.Prelude.{if◌then◌else◌}
use Rattle.jiff_core.specs.declared.civil.date.Date.{Date}
use Rattle.jiff_core.specs.Calendar.{IsDate, days_from_civil}
use Rattle.jiff_core.specs.Date.{epoch_day, IsYmd}
use Rattle.jiff_core.proofs.SignedLemmas.{signed_arith}
use Rattle.rota_moments.specs.Calendar.{CivilDate, civil_date, date_of}
use Rattle.rota_moments.specs.Moments.{IsDay, is_day, day_if_any}
use Rattle.rota_moments.specs.Fields.{IsDayOf}
use Rattle.rota_moments.proofs.CalendarLemmas.{HasParts, IsDated, number-kit, day-dated, date-parts}
use Rattle.rota_moments.proofs.MomentLemmas.{day_test, day_holds}

pub parts_at : (d : Date) (day : ℤ) → epoch_day d ≡ day → IsDay day → HasParts d (date_of day)
parts_at d day e h = let P : ℤ → Type 0 = λ z. IsDay z → HasParts d (date_of z) in subst P e (date-parts d) h

same_date : (c : CivilDate) (y m d : ℕ) → c.year ≡ y → c.month ≡ m → c.day ≡ d → c ≡ civil_date y m d
same_date c y m d ey em ed = ap (λ k. civil_date k c.month c.day) ey ∙ ap (λ k. civil_date y k c.day) em ∙ ap (λ k. civil_date y m k) ed

pos_same : (a b : ℕ) → pos a ≡ pos b → a ≡ b
pos_same a b e = cc

dated_as : (day : ℤ) (y m d : ℕ) → IsDay day → date_of day ≡ civil_date y m d → IsDated day (civil_date y m d)
dated_as day y m d h e = subst (IsDated day) e (day-dated day h)

-- the day of the date with these numbers
number_as : (day : ℤ) (y m d : ℕ) → IsDay day → date_of day ≡ civil_date y m d → days_from_civil (pos y) m d ≡ day
number_as day y m d h e =
    let dated = dated_as day y m d h e in
    number-kit y m d dated.civil.year dated.civil.day.0 ∙ sym dated.number

-- it is a date of `jiff`
pub is_date : (day : ℤ) (y m d : ℕ) → IsDay day → date_of day ≡ civil_date y m d → IsDate (pos y) (pos m) (pos d)
is_date day y m d h e =
    let dated = dated_as day y m d h e in
    let year = dated.civil.year in
    let high = dated.high in
    let month = dated.civil.month in
    let first = dated.civil.day.0 in
    let last = dated.civil.day.1 in (
      (omega (arith, signed_arith), omega (arith, signed_arith)),
      (omega (arith, signed_arith), omega (arith, signed_arith)),
      (omega (arith, signed_arith), omega (arith, signed_arith, last)),
    )

decided : (a : Date) (b : Bool) (y m d : ℕ) → is_day (epoch_day a) ≡ b → IsYmd (pos y) (pos m) (pos d) a
    → IsDayOf (civil_date y m d) (if b then Some (epoch_day a) else None)
decided a true y m d e v =
    let h = day_test (epoch_day a) e in
    let parts = date-parts a h in (
      h,
      same_date (date_of (epoch_day a)) y m d
          (pos_same _ _ (sym parts.year ∙ v.0)) (sym parts.month ∙ pos_same _ _ v.1) (sym parts.day ∙ pos_same _ _ v.2),
    )
decided a false y m d e v = λ day h same.
    let number = number_as day y m d h same in
    let my : a.year ≡ pos y = v.0 in
    let mm : a.month ≡ m = pos_same _ _ v.1 in
    let md : a.day ≡ d = pos_same _ _ v.2 in
    let is : epoch_day a ≡ day = ap (λ z. days_from_civil z a.month a.day) my ∙ ap (λ k. days_from_civil (pos y) k a.day) mm
    ∙ ap (λ k. days_from_civil (pos y) m k) md ∙ number in
    true≢false (sym (day_holds (epoch_day a) (subst IsDay (sym is) h)) ∙ e)

-- the day of a date of `jiff`
pub day_of_date : (a : Date) (r : Option ℤ) (y m d : ℕ) → r ≡ day_if_any (epoch_day a) → IsYmd (pos y) (pos m) (pos d) a
    → IsDayOf (civil_date y m d) r
day_of_date a r y m d e v = subst (IsDayOf (civil_date y m d)) (sym e) (decided a _ y m d refl v)
