-- The digits of a number as they are put, two and four at a time, and what stands behind a byte that isn't counted.
use Rattle.std.proofs.Common.{◌≡◌, ℕ, zero, suc, ◌+◌, ◌-◌, ◌*◌, ◌/◌, ◌%◌, ◌^◌, ◌<◌, ◌≤◌, Bool, true, false, ◌&&◌, T, eqb}
use Rattle.std.proofs.Common.{List, [], ◌∷◌, ◌++◌, length, get_or, take, drop, append-nil, append_assoc, length-append, ap, ◌∙◌, sym, refl, inl, inr, drop-cons, add-one}
use Rattle.std.proofs.Common.{arith, eq-zero-or-pos, eqb→eq}
use Rattle.std.specs.Prelude.{decimal, slice_range, if◌then◌else◌, nat_lt}
use Rattle.std.proofs.lemmas.Fmt.{decimal_digit, decimal_step}
use Rattle.std.proofs.Math.Seq.{drop-drop}
use lib.Ieee.Fits.{and_l, and_r}
use Rattle.pg_interval.specs.Printed.{last_digits, two_digits_of, six_digits}
use Rattle.pg_interval.specs.declared.interval_fmt.digits.TheConstants.{PAIRS}

-- a byte that isn't counted
pub behind_byte : (b : ℕ) (bytes rest : List ℕ) (place : ℕ) → drop place bytes ≡ b ∷ rest → drop (place + 1) bytes ≡ rest
behind_byte b bytes rest place h = sym (drop-drop 1 place bytes) ∙ ap (drop 1) h

-- ---- digits by pairs

abbrev are_pairs : ℕ → Bool
are_pairs zero = true
are_pairs (suc p) = (eqb (get_or PAIRS (p * 2) 0) (48 + p / 10) && eqb (get_or PAIRS (p * 2 + 1) 0) (48 + p % 10)) && are_pairs p

pairs_below : (n p : ℕ) → T (are_pairs n) → p < n → (get_or PAIRS (p * 2) 0 ≡ 48 + p / 10) × (get_or PAIRS (p * 2 + 1) 0 ≡ 48 + p % 10)
pairs_below zero p t h = absurd (omega arith)
pairs_below (suc n) p t h =
    elim (eq-zero-or-pos (n - p)) [
      | inl z ↦ let e : p ≡ n = omega arith in let a = and_l _ (are_pairs n) t in rw e (eqb→eq _ _ (and_l _ _ a), eqb→eq _ _ (and_r _ _ a))
      | inr g ↦ pairs_below n p (and_r _ (are_pairs n) t) (omega arith)
    ]

-- what the table has
pub pairs_at : (p : ℕ) → p < 100 → (get_or PAIRS (p * 2) 0 ≡ 48 + p / 10) × (get_or PAIRS (p * 2 + 1) 0 ≡ 48 + p % 10)
pairs_at p h = pairs_below 100 p tt h

two_at : (xs : List ℕ) (i a b : ℕ) → i + 2 ≤ length xs → get_or xs i 0 ≡ a → get_or xs (i + 1) 0 ≡ b → slice_range xs i (i + 2) ≡ a ∷ b ∷ []
two_at xs i a b h p q =
    let e : i + 2 - i ≡ 2 = omega arith in
    let second : get_or xs (suc i) 0 ≡ b = rw add-one at q in
    let front : drop i xs ≡ get_or xs i 0 ∷ drop (suc i) xs = drop-cons xs i 0 (omega arith) in
    let next : drop (suc i) xs ≡ get_or xs (suc i) 0 ∷ drop (suc (suc i)) xs = drop-cons xs (suc i) 0 (omega arith) in
    ap (λ n. take n (drop i xs)) e ∙ ap (take 2) (front ∙ ap (λ t. get_or xs i 0 ∷ t) next)
    ∙ ap (λ x. x ∷ get_or xs (suc i) 0 ∷ []) p ∙ ap (λ x. a ∷ x ∷ []) second

-- both digits, as they stand in the table
pub pair_slice : (p : ℕ) → p < 100 → slice_range PAIRS (p * 2) (p * 2 + 2) ≡ (48 + p / 10) ∷ (48 + p % 10) ∷ []
pair_slice p h =
    let pair = pairs_at p h in
    let long : length PAIRS ≡ 200 = refl in
    two_at PAIRS (p * 2) _ _ (omega arith) pair.0 pair.1

pub decimal_two : (n : ℕ) → 10 ≤ n → n < 100 → decimal n ≡ (48 + n / 10) ∷ (48 + n % 10) ∷ []
decimal_two n lo hi = rw (decimal_step n lo (omega arith), decimal_digit (n / 10) (omega arith)) refl

pub decimal_pair : (n : ℕ) → 100 ≤ n → n < 2 ^ 64 → decimal n ≡ decimal (n / 100) ++ (48 + n % 100 / 10) ∷ (48 + n % 100 % 10) ∷ []
decimal_pair n lo hi =
    let a : n / 10 / 10 ≡ n / 100 = omega arith in
    let b : n / 10 % 10 ≡ n % 100 / 10 = omega arith in
    let c : n % 10 ≡ n % 100 % 10 = omega arith in
    rw (decimal_step n (omega arith) hi, decimal_step (n / 10) (omega arith) (omega arith), append_assoc, a, b, ← c) refl

-- ---- four digits

pub four_by_pairs : (n : ℕ) (rest : List ℕ) → n < 10000
    → last_digits 4 n ++ rest ≡ (48 + n / 100 / 10) ∷ (48 + n / 100 % 10) ∷ (48 + n % 100 / 10) ∷ (48 + n % 100 % 10) ∷ rest
four_by_pairs n rest h =
    let a : n / 100 / 10 ≡ n / 1000 % 10 = omega arith in
    let b : n % 100 / 10 ≡ n / 10 % 10 = omega arith in
    let c : n % 100 % 10 ≡ n / 1 % 10 = omega arith in
    rw (a, b, c) refl

-- ---- numbers of one digit, of two, and of two more

pub one_digit : (n : ℕ) → n < 10 → decimal n ≡ (48 + n % 10) ∷ []
one_digit n h = let a : n % 10 ≡ n = omega arith in rw (decimal_digit n h, a) refl

pub length_one : (n : ℕ) → n < 10 → length (decimal n) ≡ 1
length_one n h = ap length (one_digit n h)

pub length_two : (n : ℕ) → 10 ≤ n → n < 100 → length (decimal n) ≡ 2
length_two n lo hi = ap length (decimal_two n lo hi)

pub length_by_pair : (n : ℕ) → 100 ≤ n → n < 2 ^ 64 → length (decimal n) ≡ length (decimal (n / 100)) + 2
length_by_pair n lo hi = ap length (decimal_pair n lo hi) ∙ length-append _ _

pub ruleset up_to_two = (one_digit, decimal_two, length_one, length_two)

pub ruleset pair_less = (decimal_pair, length_by_pair, append_assoc)

pub decimal_four : (n : ℕ) → 10000 ≤ n → n < 2 ^ 64 → decimal n ≡ decimal (n / 10000) ++ last_digits 4 (n % 10000)
decimal_four n lo hi =
    let a : n / 100 / 100 ≡ n / 10000 = omega arith in
    let b : n / 100 % 100 / 10 ≡ n % 10000 / 1000 % 10 = omega arith in
    let c : n / 100 % 100 % 10 ≡ n % 10000 / 100 % 10 = omega arith in
    let d : n % 100 / 10 ≡ n % 10000 / 10 % 10 = omega arith in
    let e : n % 100 % 10 ≡ n % 10000 / 1 % 10 = omega arith in
    rw (decimal_pair n (omega arith) hi, decimal_pair (n / 100) (omega arith) (omega arith), append_assoc, a, b, c, d, e) refl

pub length_by_four : (n : ℕ) → 10000 ≤ n → n < 2 ^ 64 → length (decimal n) ≡ length (decimal (n / 10000)) + 4
length_by_four n lo hi = ap length (decimal_four n lo hi) ∙ length-append _ _

-- both digits of a number below 100
pub two_digits : (n : ℕ) → n < 100 → two_digits_of n ≡ (48 + n / 10) ∷ (48 + n % 10) ∷ []
unfolding two_digits_of
two_digits n h =
    elim (nat_lt n 10) as (λ b. (b ≡ nat_lt n 10) → (if b then 48 ∷ decimal n else decimal n) ≡ (48 + n / 10) ∷ (48 + n % 10) ∷ []) [
      | true ↦ λ e. let small : n < 10 = grind arith in let q : n / 10 ≡ 0 = omega arith in let r : n % 10 ≡ n = omega arith in
          rw (decimal_digit n small, q, r) refl
      | false ↦ λ e. let large : 10 ≤ n = grind arith in rw (decimal_step n large (omega arith), decimal_digit (n / 10) (omega arith)) refl
    ] refl

-- six digits by three pairs
pub six_by_pairs : (n : ℕ) (rest : List ℕ) → n < 1000000
    → six_digits n ++ rest ≡ (48 + n / 100 / 100 / 10) ∷ (48 + n / 100 / 100 % 10) ∷ (48 + n / 100 % 100 / 10) ∷ (48 + n / 100 % 100 % 10)
    ∷ (48 + n % 100 / 10) ∷ (48 + n % 100 % 10) ∷ rest
unfolding six_digits
six_by_pairs n rest h =
    let a : n / 100 / 100 / 10 ≡ n / 100000 % 10 = omega arith in
    let f : n / 100 / 100 % 10 ≡ n / 10000 % 10 = omega arith in
    let b : n / 100 % 100 / 10 ≡ n / 1000 % 10 = omega arith in
    let c : n / 100 % 100 % 10 ≡ n / 100 % 10 = omega arith in
    let d : n % 100 / 10 ≡ n / 10 % 10 = omega arith in
    let e : n % 100 % 10 ≡ n / 1 % 10 = omega arith in
    rw (a, f, b, c, d, e) refl

-- behind the whole array nothing stands
pub whole_put : (text put rest : List ℕ) → put ≡ text ++ rest → rest ≡ [] → put ≡ text
whole_put text put rest h none = h ∙ ap (λ t. text ++ t) none ∙ append-nil text
