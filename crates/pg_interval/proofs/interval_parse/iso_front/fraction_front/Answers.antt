use Rattle.std.proofs.Common.{◌≡◌, ℕ, ◌+◌, List, ◌∷◌, ◌++◌, ◌∙◌, ap, length, length-append, arith}
use Rattle.pg_interval.specs.FrontReader.{IsFraction, IsNumberFront}
use Rattle.pg_interval.proofs.interval_parse.iso_front.fraction_front.Goals as goal

fraction_of : (text digits behind rest : List ℕ) (n : ℕ) → text ≡ 46 ∷ digits → IsNumberFront n digits behind
    → length digits ≡ length behind + 6 → behind ≡ 83 ∷ rest → IsFraction n text rest
fraction_of text digits behind rest n t w six s = record {
  digits = w.digits;
  are = w.are;
  value = w.value;
  small = w.small;
  six = omega (arith, ap length w.parts, length-append w.digits behind);
  parts = t ∙ ap (λ d. 46 ∷ d) (w.parts ∙ ap (λ r. w.digits ++ r) s);
}

pub returns : goal.returns
returns c =
    fraction_of c.args.text.now c.in-Some.digits.now c.in-Some-number_front.behind.now c.in-Some-after_byte.rest.now
    c.in-Some-number_front.fraction c.in-Some.ensures c.in-Some-number_front.ensures c.if-digits-behind.false
    c.in-Some-after_byte.ensures
