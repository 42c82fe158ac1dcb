-- Digits without the zeros at their end, the last of them first.
use Rattle.std.proofs.Common.{◌≡◌, ℕ, ◌<◌, ◌+◌, ◌/◌, ◌%◌, ◌^◌, Bool, true, false, ◌&&◌, List, [], ◌∷◌, ◌++◌, length, length-append, ap, ◌∙◌}
use Rattle.std.proofs.Common.{sym, refl, arith, add-one}
use Rattle.std.specs.Prelude.{if◌then◌else◌, ◌==◌}
use Rattle.std.specs.List.{list_all}
use Rattle.std.proofs.lemmas.Bool.Decides.{nat_tests}
use native.Mathlib.Nat.{pow-suc, div-div-eq-div-mul}
use Rattle.std.proofs.Math.Bool.{and-false}
use Rattle.pg_interval.specs.Printed.{without_last_zeros, kept_digit, last_digits, six_digits}

without_zeros : (ds : List ℕ) → list_all (λ d. d == 48) ds ≡ true → without_last_zeros ds ≡ []
unfolding without_last_zeros
without_zeros [] h = refl
without_zeros (d ∷ ds) h = rw h refl

without_more : (d : ℕ) (ds : List ℕ) → list_all (λ e. e == 48) (d ∷ ds) ≡ false → without_last_zeros (d ∷ ds) ≡ d ∷ without_last_zeros ds
unfolding without_last_zeros
without_more d ds h = ap (λ b. if b then [] else d ∷ without_last_zeros ds) h

-- some digit is kept unless all are zeros
some_kept : (ds : List ℕ) → list_all (λ e. e == 48) ds ≡ false → 0 < length (without_last_zeros ds)
some_kept [] h = cc
some_kept (d ∷ ds) h = rw (without_more d ds h) (omega arith)

zero_digit : (d : ℕ) → (d == 0) ≡ true → (48 + d == 48) ≡ true
zero_digit d h = grind (arith, nat_tests)

other_digit : (d : ℕ) → (d == 0) ≡ false → (48 + d == 48) ≡ false
other_digit d h = grind (arith, nat_tests)

not_zero : (n : ℕ) → (n ≡ 0 → ⊥) → (n == 0) ≡ false
not_zero n h = grind (arith, nat_tests)

same_place : (m n : ℕ) → (m == n) ≡ true → m ≡ n
same_place m n h = grind (arith, nat_tests)

other_place : (m n : ℕ) → (m == n) ≡ false → m ≡ n → ⊥
other_place m n h e = grind (arith, nat_tests)

-- by whether the digit is a zero, whether it comes first, and whether all behind it are zeros
kept_by : (d place end : ℕ) (ds rest : List ℕ) (zero first all : Bool) → (d == 0) ≡ zero → (place == end) ≡ first
    → list_all (λ e. e == 48) ds ≡ all → length (without_last_zeros ds ++ rest) + place ≡ length rest + end
    → (if zero && first then without_last_zeros ds ++ rest else (48 + d) ∷ (without_last_zeros ds ++ rest))
    ≡ without_last_zeros ((48 + d) ∷ ds) ++ rest
kept_by d place end ds rest true true true z f a long =
    let whole : list_all (λ e. e == 48) ((48 + d) ∷ ds) ≡ true = ap (λ b. b && list_all (λ e. e == 48) ds) (zero_digit d z) ∙ a in
    ap (λ t. t ++ rest) (without_zeros ds a ∙ sym (without_zeros ((48 + d) ∷ ds) whole))
kept_by d place end ds rest true true false z f a long =
    absurd (omega (arith, some_kept ds a, same_place place end f, length-append (without_last_zeros ds) rest))
kept_by d place end ds rest true false true z f a long =
    absurd (other_place place end f (omega (arith, ap length (without_zeros ds a), length-append (without_last_zeros ds) rest)))
kept_by d place end ds rest true false false z f a long =
    let whole : list_all (λ e. e == 48) ((48 + d) ∷ ds) ≡ false = ap (λ b. b && list_all (λ e. e == 48) ds) (zero_digit d z) ∙ a in
    ap (λ t. t ++ rest) (sym (without_more (48 + d) ds whole))
kept_by d place end ds rest false first all z f a long =
    let whole : list_all (λ e. e == 48) ((48 + d) ∷ ds) ≡ false = ap (λ b. b && list_all (λ e. e == 48) ds) (other_digit d z) in
    ap (λ t. t ++ rest) (sym (without_more (48 + d) ds whole))

-- one more digit in front
pub kept_more : (d place end : ℕ) (ds rest here put : List ℕ) → length here + place ≡ length rest + end
    → here ≡ without_last_zeros ds ++ rest → put ≡ kept_digit d (place == end) here → put ≡ without_last_zeros ((48 + d) ∷ ds) ++ rest
kept_more d place end ds rest here put long h e =
    e ∙ ap (kept_digit d (place == end)) h
    ∙ kept_by d place end ds rest (d == 0) (place == end) (list_all (λ e. e == 48) ds) refl refl refl (ap (λ t. length t + place) (sym h)
    ∙ long)

not_all : (xs : List ℕ) (d : ℕ) → (d == 48) ≡ false → list_all (λ e. e == 48) (xs ++ d ∷ []) ≡ false
not_all [] d h = ap (λ b. b && true) h
not_all (x ∷ xs) d h = ap (λ b. (x == 48) && b) (not_all xs d h) ∙ and-false (x == 48)

-- where the last digit is none, nothing is cut
pub last_kept : (xs : List ℕ) (d : ℕ) → (d == 48) ≡ false → without_last_zeros (xs ++ d ∷ []) ≡ xs ++ d ∷ []
unfolding without_last_zeros
last_kept [] d h = without_more d [] (ap (λ b. b && true) h)
last_kept (x ∷ xs) d h =
    without_more x (xs ++ d ∷ []) (ap (λ b. (x == 48) && b) (not_all xs d h) ∙ and-false (x == 48)) ∙ ap (λ t. x ∷ t) (last_kept xs d h)

other_last : (n : ℕ) → (n % 10 ≡ 0 → ⊥) → (48 + n / 1 % 10 == 48) ≡ false
other_last n h = let e : n / 1 ≡ n = omega arith in rw e (other_digit (n % 10) (not_zero (n % 10) h))

pub six_kept : (n : ℕ) → (n % 10 ≡ 0 → ⊥) → without_last_zeros (six_digits n) ≡ six_digits n
unfolding six_digits
six_kept n h =
    last_kept ((48 + n / 100000 % 10) ∷ (48 + n / 10000 % 10) ∷ (48 + n / 1000 % 10) ∷ (48 + n / 100 % 10) ∷ (48 + n / 10 % 10) ∷ [])
    (48 + n / 1 % 10) (other_last n h)

-- the loop that writes digit by digit: the digits that are left, and one more of them
pub digits_left : (n k left : ℕ) → left ≡ n / 10 ^ k → left / 10 ≡ n / 10 ^ (k + 1)
digits_left n k left e = rw (e, add-one, pow-suc 10 k) (div-div-eq-div-mul n (10 ^ k) 10)

pub digit_more : (n k left place end : ℕ) (rest here put : List ℕ) → left ≡ n / 10 ^ k → length here + place ≡ length rest + end
    → here ≡ without_last_zeros (last_digits k n) ++ rest → put ≡ kept_digit (left % 10) (place == end) here
    → put ≡ without_last_zeros (last_digits (k + 1) n) ++ rest
digit_more n k left place end rest here put e long h p =
    rw add-one (kept_more (n / 10 ^ k % 10) place end (last_digits k n) rest here put long h (p
    ∙ ap (λ m. kept_digit (m % 10) (place == end) here) e))
