-- The normal form adds up to the interval that it was made of, and its fields have one sign.
use Rattle.std.proofs.lemmas.Bool.{and_parts, and_from}
use Rattle.std.proofs.lemmas.Bool.Decides.{Decides-int_eq}
use Rattle.std.proofs.Common.{Bool, true, ◌&&◌, int_eq, subst, ◌≡◌, ℤ, pos, negsuc, ◌+ℤ◌, ◌*ℤ◌, ◌<◌, ◌^◌, ◌∙◌, ap, refl, [], ◌∷◌, FitsSigned, arith, inl, inr}
use Rattle.std.specs.Prelude.{int_div, int_rem}
use Rattle.std.specs.Int.{Width}
use Rattle.std.specs.Int.Signed.{mag, mag_rem}
use Rattle.std.proofs.lemmas.Int.{ints, quot-rem}
use mir.Val.{hbits}
use Rattle.pg_interval.specs.declared.pg_interval.Interval.{Interval}
use Rattle.pg_interval.specs.declared.interval_norm.IntervalNorm.{IntervalNorm}
use Rattle.pg_interval.specs.NormalForm.{normal_form, exact_total, HaveOneSign}

-- hours, minutes, seconds and microseconds add up to what they were made of
time_total : (u : ℤ) → ((((((int_div u (pos 3600000000) *ℤ pos 60) +ℤ int_rem (int_div u (pos 60000000)) (pos 60)) *ℤ pos 60) +ℤ int_rem
    (int_div u (pos 1000000)) (pos 60)) *ℤ pos 1000000) +ℤ int_rem u (pos 1000000)) ≡ u
time_total (pos a) = omega (arith, ints)
time_total (negsuc a) = omega (arith, ints)

-- a remainder fits where what was divided does
pub rem_fits : (w : Width) (z d : ℤ) → FitsSigned w z → FitsSigned w (int_rem z d)
rem_fits w z d fits = let small : mag z < 2 ^ hbits w = fits.sfits in record { sfits = omega (arith, mag_rem z d) }

pub exact_total-normal_form : (i : Interval) → exact_total (normal_form i) ≡ i
unfolding exact_total normal_form
exact_total-normal_form i =
    let months : ((int_div i.months (pos 12) *ℤ pos 12) +ℤ int_rem i.months (pos 12)) ≡ i.months = quot-rem i.months (pos 12) in
    let of_numbers : ℤ → ℤ → Interval = λ m u. record { months = m; days = i.days; microseconds = u } in
    ap (λ m. of_numbers m (exact_total (normal_form i)).microseconds) months ∙ ap (of_numbers i.months) (time_total i.microseconds)

time_signs : (u : ℤ) → HaveOneSign (int_div u (pos 3600000000) ∷ int_rem (int_div u (pos 60000000)) (pos 60)
    ∷ int_rem (int_div u (pos 1000000)) (pos 60) ∷ int_rem u (pos 1000000) ∷ [])
time_signs (pos a) = inl (search (arith, ints))
time_signs (negsuc a) = inr (search (arith, ints))

-- no two fields of a time have opposite signs
pub time_signs-normal_form : (i : Interval) → let n = normal_form i in HaveOneSign (n.hours ∷ n.minutes ∷ n.seconds ∷ n.microseconds ∷ [])
unfolding normal_form
time_signs-normal_form i = time_signs i.microseconds

-- what `==` computes
unfoldable pub fields_eq : IntervalNorm → IntervalNorm → Bool
fields_eq m n = int_eq m.years n.years && (int_eq m.months n.months
    && (int_eq m.days n.days && (int_eq m.hours n.hours
    && (int_eq m.minutes n.minutes && (int_eq m.seconds n.seconds && int_eq m.microseconds n.microseconds)))))

-- what it tells
pub same_from_fields_eq : (m n : IntervalNorm) → fields_eq m n ≡ true → m ≡ n
unfolding fields_eq
same_from_fields_eq m n h =
    let a = and_parts _ _ h in
    let b = and_parts _ _ a.1 in
    let c = and_parts _ _ b.1 in
    let d = and_parts _ _ c.1 in
    let e = and_parts _ _ d.1 in
    let f = and_parts _ _ e.1 in
    let years : m.years ≡ n.years = (Decides-int_eq _ _).0 a.0 in
    let months : m.months ≡ n.months = (Decides-int_eq _ _).0 b.0 in
    let days : m.days ≡ n.days = (Decides-int_eq _ _).0 c.0 in
    let hours : m.hours ≡ n.hours = (Decides-int_eq _ _).0 d.0 in
    let minutes : m.minutes ≡ n.minutes = (Decides-int_eq _ _).0 e.0 in
    let seconds : m.seconds ≡ n.seconds = (Decides-int_eq _ _).0 f.0 in
    let microseconds : m.microseconds ≡ n.microseconds = (Decides-int_eq _ _).0 f.1 in
    let of : ℤ → ℤ → ℤ → ℤ → ℤ → ℤ → ℤ → IntervalNorm =
    λ y o d h i s u. record { years = y; months = o; days = d; hours = h; minutes = i; seconds = s; microseconds = u } in
    ap (λ y. of y m.months m.days m.hours m.minutes m.seconds m.microseconds) years
    ∙ ap (λ o. of n.years o m.days m.hours m.minutes m.seconds m.microseconds) months
    ∙ ap (λ d. of n.years n.months d m.hours m.minutes m.seconds m.microseconds) days
    ∙ ap (λ h. of n.years n.months n.days h m.minutes m.seconds m.microseconds) hours
    ∙ ap (λ i. of n.years n.months n.days n.hours i m.seconds m.microseconds) minutes
    ∙ ap (λ s. of n.years n.months n.days n.hours n.minutes s m.microseconds) seconds
    ∙ ap (λ u. of n.years n.months n.days n.hours n.minutes n.seconds u) microseconds

pub fields_eq-same : (m n : IntervalNorm) → m ≡ n → fields_eq m n ≡ true
unfolding fields_eq
fields_eq-same m n same =
    let Same : IntervalNorm → Type 0 = λ k. fields_eq m k ≡ true in
    let itself : (z : ℤ) → int_eq z z ≡ true = λ z. (Decides-int_eq z z).1 refl in
    subst Same same (and_from _ _ (itself m.years)
    (and_from _ _ (itself m.months) (and_from _ _ (itself m.days)
    (and_from _ _ (itself m.hours) (and_from _ _ (itself m.minutes) (and_from _ _ (itself m.seconds) (itself m.microseconds)))))))
