use Rattle.std.proofs.Common.{◌≡◌, ℕ, ◌≤◌, List, [], ◌∷◌, ◌++◌, ◌∙◌, ap, append_assoc, arith, ℤ, pos, w16, w32, to_z, of_z}
use lib.IntN.{nat_abs}
use lib.Utf8.{encode}
use Rattle.std.proofs.lemmas.Int.{ints}
use Rattle.std.proofs.lemmas.Result.{err_from_is_err_and, on_ok_weaker}
use Rattle.pg_interval.specs.Printed.{last_digits}
use Rattle.jiff_core.specs.declared.civil.date.Date.{Date}
use Rattle.jiff_core.specs.Date.{epoch_day}
use Rattle.jiff_core.proofs.CalendarLemmas.{days_in_month_bounds}
use Rattle.rota_moments.specs.Calendar.{CivilDate, date_of}
use Rattle.rota_moments.specs.Moments.{IsDay}
use Rattle.rota_moments.specs.Texts.{date_text}
use Rattle.rota_moments.proofs.CalendarLemmas.{day-dated}
use Rattle.rota_moments.proofs.DateLemmas.{parts_at}
use Rattle.rota_moments.proofs.moment.Moment.put_date.Goals as goal

day_passed : (z : ℤ) → IsDay z → to_z w32 (of_z w32 z) ≡ z
day_passed z h = omega (arith, ints)

-- a year as the u64 that is passed on
year_passed : (z : ℤ) (y : ℕ) → z ≡ pos y → y ≤ 9999 → nat_abs (to_z w16 (of_z w16 z)) ≡ y
year_passed z y e h = omega (arith, ints)

date_put : (day : ℤ) (yn mn dn : ℕ) (old a b c d all : List ℕ) → yn ≡ (date_of day).year
    → mn ≡ (date_of day).month → dn ≡ (date_of day).day → a ≡ old ++ last_digits 4 yn → b ≡ a ++ 45 ∷ []
    → c ≡ b ++ last_digits 2 mn → d ≡ c ++ 45 ∷ [] → all ≡ d ++ last_digits 2 dn → all ≡ old ++ date_text (date_of day)
date_put day yn mn dn old a b c d all ey em ed ea eb ec ee eall =
    rw (eall, ee, ec, eb, ea, ey, em, ed) (simp append_assoc)

-- a date of `jiff` that is the date of a day has its parts, and a year of four digits
record IsDateOf (date : Date) (d : CivilDate) : Type 0 where
  year : date.year ≡ pos d.year
  high : d.year ≤ 9999
  month : date.month ≡ d.month
  day : date.day ≡ d.day

date_found : (day passed : ℤ) (found date : Date) → IsDay day → passed ≡ day → epoch_day found ≡ passed → date ≡ found
    → IsDateOf date (date_of day)
date_found day passed found date h same e plain =
    let parts = parts_at found day (e ∙ same) h in
    record {
      year = ap (λ (d : Date). d.year) plain ∙ parts.year;
      high = (day-dated day h).high;
      month = ap (λ (d : Date). d.month) plain ∙ parts.month;
      day = ap (λ (d : Date). d.day) plain ∙ parts.day;
    }

pub date_at-requires : goal.date_at-requires
date_at-requires c = rw (day_passed c.args.self.now.day c.requires.0) c.requires.0

pub put_year-requires : goal.put_year-requires
put_year-requires c =
    let day = c.args.self.now.day in
    let e = date_found day _ c.date_at.result c.to_plain-date.result c.requires.0 (day_passed day c.requires.0) c.date_at.ensures
    c.to_plain-date.ensures in
    let y = year_passed c.to_plain-date.result.year _ e.year e.high in rw y (omega arith)

pub put_two-requires : goal.put_two-requires
put_two-requires c =
    let i = c.to_plain-date.result.month_in in rw c.from.ensures (omega arith)

pub put_two-requires-2 : goal.put_two-requires-2
put_two-requires-2 c =
    let d = c.to_plain-date.result in let i = d.day_in in let b = days_in_month_bounds d.year d.month in
    rw c.from-2.ensures (omega arith)

pub returns-in_err-put_year : goal.returns-in_err-put_year
returns-in_err-put_year c =
    let p = err_from_is_err_and c.from_residual.result c.from_residual.ensures.1 in rw p.1 tt

pub returns-in_err-push : goal.returns-in_err-push
returns-in_err-push c =
    let p = err_from_is_err_and c.from_residual-in_err-push.result c.from_residual-in_err-push.ensures.1 in rw p.1 tt

pub returns-in_err-put_two : goal.returns-in_err-put_two
returns-in_err-put_two c =
    let p = err_from_is_err_and c.from_residual-in_err-put_two.result c.from_residual-in_err-put_two.ensures.1 in rw p.1 tt

pub returns-in_err-push-2 : goal.returns-in_err-push-2
returns-in_err-push-2 c =
    let p = err_from_is_err_and c.from_residual-in_err-push-2.result c.from_residual-in_err-push-2.ensures.1 in rw p.1 tt

pub returns : goal.returns
unfolding encode
returns c =
    let day = c.args.self.now.day in
    let e = date_found day _ c.date_at.result c.to_plain-date.result c.requires.0 (day_passed day c.requires.0) c.date_at.ensures
    c.to_plain-date.ensures in
    on_ok_weaker c.put_two-2.result (λ last. date_put day _ _ _ _ _ _ _ _ _
    (year_passed c.to_plain-date.result.year _ e.year e.high) (c.from.ensures ∙ e.month) (c.from-2.ensures ∙ e.day)
    c.in_ok-put_year.ensures c.in_ok-push.ensures.bytes c.in_ok-put_two.ensures c.in_ok-push-2.ensures.bytes last) c.put_two-2.ensures

pub overflow_cast-date : goal.overflow_cast-date
overflow_cast-date c =
    let day = c.args.self.now.day in
    let e = date_found day _ c.date_at.result c.to_plain-date.result c.requires.0 (day_passed day c.requires.0) c.date_at.ensures
    c.to_plain-date.ensures in
    omega (arith, ints, e.year, e.high)
