use Rattle.std.proofs.Common.{◌≡◌, ◌∙◌, ◌&&◌, ℤ, Bool, true, false, refl, sym, subst}
use Rattle.std.specs.Ordering.{int_eq}
use Rattle.std.proofs.lemmas.Bool.Decides.{Decides-int_eq}
use Rattle.pg_interval.specs.declared.interval_norm.IntervalNorm.{IntervalNorm}
use Rattle.pg_interval_tests.proofs.normal_form_tests.IntervalNormCompared.is_equal.Goals as goal

both : (p q : Bool) → (p && q) ≡ true → (p ≡ true) × (q ≡ true)
both true q e = (refl, e)
both false q e = absurd cc

joined : (p q : Bool) → p ≡ true → q ≡ true → (p && q) ≡ true
joined true q e f = f
joined false q e f = absurd cc

same : (x y : ℤ) → int_eq x y ≡ true → x ≡ y
same x y e = (Decides-int_eq x y).0 e

itself : (x : ℤ) → int_eq x x ≡ true
itself x = (Decides-int_eq x x).1 refl

-- what `==` compares, field by field
abbrev compared : IntervalNorm → IntervalNorm → Bool
compared a b = int_eq a.years b.years && (int_eq a.months b.months && (int_eq a.days b.days && (int_eq a.hours b.hours
    && (int_eq a.minutes b.minutes && (int_eq a.seconds b.seconds && int_eq a.microseconds b.microseconds)))))

equal : (a b : IntervalNorm) → compared a b ≡ true → a ≡ b
equal a b e =
    let years = both _ _ e in let months = both _ _ years.1 in let days = both _ _ months.1 in let hours = both _ _ days.1 in
    let minutes = both _ _ hours.1 in let seconds = both _ _ minutes.1 in
    λ i. record {
      years = same a.years b.years years.0 i;
      months = same a.months b.months months.0 i;
      days = same a.days b.days days.0 i;
      hours = same a.hours b.hours hours.0 i;
      minutes = same a.minutes b.minutes minutes.0 i;
      seconds = same a.seconds b.seconds seconds.0 i;
      microseconds = same a.microseconds b.microseconds seconds.1 i;
    }

reflexive : (a : IntervalNorm) → compared a a ≡ true
reflexive a = joined _ _ (itself a.years) (joined _ _ (itself a.months) (joined _ _ (itself a.days) (joined _ _ (itself a.hours)
    (joined _ _ (itself a.minutes) (joined _ _ (itself a.seconds) (itself a.microseconds))))))

pub returns : goal.returns
returns c = (
  λ t. equal c.args.self.now c.args.other.now (sym c.eq.ensures ∙ t),
  λ e. c.eq.ensures ∙ subst (λ x. compared c.args.self.now x ≡ true) e (reflexive c.args.self.now),
)
