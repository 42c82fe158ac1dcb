-- A letter and a number in decimal are a good name, and another one for each number.
use Rattle.std.proofs.Common.{◌≡◌, ℕ, suc, ◌+◌, ◌%◌, ◌^◌, ◌<◌, ◌≤◌, ◌==◌, ◌≢◌, not, Bool, true, false, ◌++◌, length, codes, decimal, nat_le, refl, arith}
use Rattle.std.specs.List.{list_all}
use Rattle.std.specs.Str.{bytes_eq}
use Rattle.std.proofs.lemmas.Bool.Decides.{nat_tests}
use Rattle.std.proofs.lemmas.Fmt.{decimal_by_steps, length-decimal-le, decimal_injective}
use Rattle.std.proofs.lemmas.List.Folds.{list_all-append}
use Rattle.std.proofs.lemmas.Slice.Eq.{bytes_eq-Decides}
use Rattle.relation_tables.specs.Names.{is_foreign_to_names, is_name, is_column_name}

-- what holds of each digit holds of each byte of a number in decimal
all_digits : (p : ℕ → Bool) → ((d : ℕ) → d < 10 → p (48 + d) ≡ true) → (n : ℕ) → n < 2 ^ 64 → list_all p (decimal n) ≡ true
all_digits p each = decimal_by_steps (λ n ds. list_all p ds ≡ true) (λ d few. rw (each d few) refl)
    (λ n ds more front. rw list_all-append (rw (front, each (n % 10) (omega arith)) refl))

digit_is_good : (d : ℕ) → d < 10 → not (is_foreign_to_names (48 + d)) ≡ true
digit_is_good d few = grind (arith, nat_tests)

digit_is_not_zero : (d : ℕ) → d < 10 → not (48 + d == 0) ≡ true
digit_is_not_zero d few = grind (arith, nat_tests)

below_64 : (n : ℕ) → n < 10 ^ 5 → n < 2 ^ 64
below_64 n few = omega arith

at_most_five : (n : ℕ) → n < 10 ^ 5 → length (decimal n) ≤ 5
at_most_five n few = length-decimal-le 5 n (omega arith) few (below_64 n few)

pub relation_name_is_good : (n : ℕ) → n < 10 ^ 5 → is_name (codes "r" ++ decimal n) ≡ true
relation_name_is_good n few =
    let short = at_most_five n few in
    let most : nat_le (suc (length (decimal n))) 63 ≡ true = grind (arith, nat_tests) in
    let least : nat_le 1 (suc (length (decimal n))) ≡ true = grind (arith, nat_tests) in
    let digits = all_digits (λ byte. not (is_foreign_to_names byte)) digit_is_good n (below_64 n few) in
    rw (least, most, digits) refl

pub column_name_is_good : (n : ℕ) → n < 10 ^ 5 → is_column_name (codes "c" ++ decimal n) ≡ true
column_name_is_good n few =
    let short = at_most_five n few in
    let most : nat_le (suc (length (decimal n))) 63 ≡ true = grind (arith, nat_tests) in
    let digits = all_digits (λ byte. not (byte == 0)) digit_is_not_zero n (below_64 n few) in
    rw (most, digits) refl

not_true : (b : Bool) → (b ≡ true → ⊥) → b ≡ false
not_true true h = absurd (h refl)
not_true false h = refl

pub other_names : (m n : ℕ) → m < 10 ^ 5 → n < 10 ^ 5 → m ≢ n → bytes_eq (codes "r" ++ decimal m) (codes "r" ++ decimal n) ≡ false
other_names m n few_m few_n other = not_true (bytes_eq (codes "r" ++ decimal m) (codes "r" ++ decimal n))
    (λ same. let e = (bytes_eq-Decides (codes "r" ++ decimal m) (codes "r" ++ decimal n)).0 same in
    other (decimal_injective m n (below_64 m few_m) (below_64 n few_n) cc))
