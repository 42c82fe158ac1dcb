-- The order of places: by the name, then by the start.
use Rattle.std.proofs.Common.{◌≡◌, ◌⊎◌, ℕ, ℤ, ◌<ℤ◌, ◌≤ℤ◌, Bool, true, false, cond, List, int_lt, nat_cmp, int_cmp, is_lt, is_le, is_gt, Ordering, Less, Equal, Greater, refl, sym, ap, ◌∙◌, subst, inl, inr, arith}
use Rattle.std.specs.Ordering.{ordering_then}
use Rattle.std.specs.Cmp.{IsTotalOrder, then_total, on_total, int_cmp_total}
use Rattle.std.specs.Cmp.Lexicographic.{slice_cmp, nat_list_cmp_total}
use Rattle.std.proofs.lemmas.Cmp.{tied_itself}
use Rattle.std.proofs.lemmas.Int.{ints}
use Rattle.std.proofs.lemmas.Map.Lookups.{CmpEqualImpliesEq, exact_signed, exact_bytes}
use Rattle.shift_table.specs.declared.place.Place.{Place}

-- the order in which a table keeps its places
abbrev pub place_cmp : Place → Place → Ordering
place_cmp a b = ordering_then (slice_cmp nat_cmp a.name b.name) (int_cmp a.start b.start)

pub place_total : IsTotalOrder place_cmp
place_total = then_total (on_total (λ (p : Place). p.name) nat_list_cmp_total) (on_total (λ (p : Place). p.start) int_cmp_total)

same_place : (a b : Place) → a.name ≡ b.name → a.start ≡ b.start → a ≡ b
same_place a b name start =
    let with_name : List ℕ → Place = λ n. record { name = n; start = a.start } in
    let with_start : ℤ → Place = λ s. record { name = b.name; start = s } in
    ap with_name name ∙ ap with_start start

then_equal : (o p : Ordering) → ordering_then o p ≡ Equal → (o ≡ Equal) × (p ≡ Equal)
then_equal Less p e = cc
then_equal Equal p e = (refl, e)
then_equal Greater p e = cc

then_less : (o p : Ordering) → ordering_then o p ≡ Less → (o ≡ Less) ⊎ ((o ≡ Equal) × (p ≡ Less))
then_less Less p e = inl refl
then_less Equal p e = inr (refl, e)
then_less Greater p e = cc

pub place_exact : CmpEqualImpliesEq place_cmp
place_exact a b e =
    let parts = then_equal (slice_cmp nat_cmp a.name b.name) (int_cmp a.start b.start) e in
    same_place a b (exact_bytes a.name b.name parts.0) (exact_signed a.start b.start parts.1)

pub lt_from_test : (x y : ℤ) → int_lt x y ≡ true → x <ℤ y
lt_from_test x y e = grind (arith, ints)

pub test_from_lt : (x y : ℤ) → x <ℤ y → int_lt x y ≡ true
test_from_lt x y h = grind (arith, ints)

pub test_from_le : (x y : ℤ) → x ≤ℤ y → int_lt y x ≡ false
test_from_le x y h = grind (arith, ints)

pub le_from_test : (x y : ℤ) → int_lt y x ≡ false → x ≤ℤ y
le_from_test x y e = grind (arith, ints)

first_less : (b c : Bool) → cond b Less (cond c Greater Equal) ≡ Less → b ≡ true
first_less true c e = refl
first_less false true e = cc
first_less false false e = cc

int_less : (x y : ℤ) → int_cmp x y ≡ Less → x <ℤ y
int_less x y e = lt_from_test x y (first_less (int_lt x y) (int_lt y x) e)

less_int : (x y : ℤ) → x <ℤ y → int_cmp x y ≡ Less
less_int x y h = ap (λ b. cond b Less (cond (int_lt y x) Greater Equal)) (test_from_lt x y h)

-- what is below or the same isn't above
pub is_le_from_le : (x y : ℤ) → x ≤ℤ y → is_le (int_cmp x y) ≡ true
is_le_from_le x y h =
    ap (λ c. is_le (cond (int_lt x y) Less (cond c Greater Equal))) (test_from_le x y h)
    ∙ elim (int_lt x y) as (λ b. is_le (cond b Less (cond false Greater Equal)) ≡ true) [ true ↦ refl | false ↦ refl ]

pub not_lt_from_le : (x y : ℤ) → x ≤ℤ y → is_lt (int_cmp y x) ≡ false
not_lt_from_le x y h =
    ap (λ b. is_lt (cond b Less (cond (int_lt x y) Greater Equal))) (test_from_le x y h)
    ∙ elim (int_lt x y) as (λ b. is_lt (cond false Less (cond b Greater Equal)) ≡ false) [ true ↦ refl | false ↦ refl ]

not_gt_from_le : (x y : ℤ) → x ≤ℤ y → is_gt (int_cmp x y) ≡ false
not_gt_from_le x y h =
    ap (λ c. is_gt (cond (int_lt x y) Less (cond c Greater Equal))) (test_from_le x y h)
    ∙ elim (int_lt x y) as (λ b. is_gt (cond b Less (cond false Greater Equal)) ≡ false) [ true ↦ refl | false ↦ refl ]

pub same_names : (xs ys : List ℕ) → xs ≡ ys → slice_cmp nat_cmp xs ys ≡ Equal
same_names xs ys e = subst (λ zs. slice_cmp nat_cmp xs zs ≡ Equal) e (tied_itself nat_list_cmp_total xs)

pub less_from_parts : (a b : Place) → a.name ≡ b.name → a.start <ℤ b.start → place_cmp a b ≡ Less
less_from_parts a b name start =
    ap (λ o. ordering_then o (int_cmp a.start b.start)) (same_names a.name b.name name) ∙ less_int a.start b.start start

-- a place and a later one of its name, or itself
pub runs_forward : (a b : Place) → a.name ≡ b.name → a.start ≤ℤ b.start → is_gt (place_cmp a b) ≡ false
runs_forward a b name start =
    ap (λ o. is_gt (ordering_then o (int_cmp a.start b.start))) (same_names a.name b.name name) ∙ not_gt_from_le a.start b.start start

less_cases : (a b : Place) → place_cmp a b ≡ Less → (slice_cmp nat_cmp a.name b.name ≡ Less) ⊎ ((a.name ≡ b.name) × (a.start <ℤ b.start))
less_cases a b e = by (then_less (slice_cmp nat_cmp a.name b.name) (int_cmp a.start b.start) e)
  where
    by : (slice_cmp nat_cmp a.name b.name ≡ Less) ⊎ ((slice_cmp nat_cmp a.name b.name ≡ Equal) × (int_cmp a.start b.start ≡ Less))
        → (slice_cmp nat_cmp a.name b.name ≡ Less) ⊎ ((a.name ≡ b.name) × (a.start <ℤ b.start))
    by (inl l) = inl l
    by (inr p) = inr (exact_bytes a.name b.name p.0, int_less a.start b.start p.1)

not_both : (o : Ordering) → o ≡ Less → o ≡ Equal → ⊥
not_both o l e = cc

-- a place below one of its name starts before it
pub starts_below : (a b : Place) → place_cmp a b ≡ Less → a.name ≡ b.name → a.start <ℤ b.start
starts_below a b l n = by (less_cases a b l)
  where
    by : (slice_cmp nat_cmp a.name b.name ≡ Less) ⊎ ((a.name ≡ b.name) × (a.start <ℤ b.start)) → a.start <ℤ b.start
    by (inl p) = absurd (not_both (slice_cmp nat_cmp a.name b.name) p (same_names a.name b.name n))
    by (inr p) = p.1

-- where a is below b and b below c, and a and c have one name, b has it too
pub record IsBetween (a b c : Place) : Type 0 where
  pub name : a.name ≡ b.name
  pub after : a.start <ℤ b.start
  pub before : b.start <ℤ c.start

pub between_one_name : (a b c : Place) → place_cmp a b ≡ Less → place_cmp b c ≡ Less → c.name ≡ a.name → IsBetween a b c
between_one_name a b c l m n = by (less_cases a b l) (less_cases b c m)
  where
    by : (slice_cmp nat_cmp a.name b.name ≡ Less) ⊎ ((a.name ≡ b.name) × (a.start <ℤ b.start))
        → (slice_cmp nat_cmp b.name c.name ≡ Less) ⊎ ((b.name ≡ c.name) × (b.start <ℤ c.start)) → IsBetween a b c
    by (inl p) (inl q) =
        absurd (not_both (slice_cmp nat_cmp a.name c.name) (nat_list_cmp_total.trans a.name b.name c.name p q) (same_names a.name c.name (sym n)))
    by (inl p) (inr q) = absurd (not_both (slice_cmp nat_cmp a.name b.name) p (same_names a.name b.name (sym n ∙ sym q.0)))
    by (inr p) (inl q) = absurd (not_both (slice_cmp nat_cmp b.name c.name) q (same_names b.name c.name (sym p.0 ∙ sym n)))
    by (inr p) (inr q) = record { name = p.0; after = p.1; before = q.1 }
