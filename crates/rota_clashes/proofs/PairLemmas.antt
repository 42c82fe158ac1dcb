-- Pairs in order, each once.
use Rattle.std.proofs.Common.{◌≡◌, ℕ, ◌<◌, ◌⊎◌, ◌==◌, ◌&&◌, inl, inr, Bool, true, false, true≢false, List, [], ◌∷◌, refl, sym, ap, ◌∙◌, arith}
use Rattle.std.specs.List.{All, AllPairs, Contains, dedup, AllByRecursion}
use Rattle.std.specs.List.Sorted.{IsSorted, IsStrictlySortedBy}
use Rattle.std.specs.Cmp.{IsTotalOrder, IsEquivalence, and_equiv, on_equiv, then_total, on_total, nat_cmp_total, nat_eq_equiv, unsigned_ties}
use Rattle.std.specs.Ordering.{nat_cmp, ordering_then, eq_by_cmp}
use Rattle.std.specs.declared.cmp.Ordering.{Ordering}
use Rattle.std.specs.declared.cmp.Ordering.TheVariants.{Less, Equal, Greater}
use Rattle.std.proofs.lemmas.Bool.{cases_order}
use Rattle.std.proofs.lemmas.List.Elements.{All-nil, All-cons}
use Rattle.std.proofs.lemmas.List.Kept.{AllPairs-cons, Contains-dedup, IsStrictlySortedBy-dedup}
use Rattle.rota_clashes.specs.Clashes.{ComesBefore}

abbrev pub pair_cmp : ℕ × ℕ → ℕ × ℕ → Ordering
pair_cmp x y = ordering_then (nat_cmp x.0 y.0) (nat_cmp x.1 y.1)

abbrev pub pair_eq : ℕ × ℕ → ℕ × ℕ → Bool
pair_eq x y = (x.0 == y.0) && (x.1 == y.1)

pair_total : IsTotalOrder pair_cmp
pair_total = then_total (on_total (λ (t : ℕ × ℕ). t.0) nat_cmp_total) (on_total (λ (t : ℕ × ℕ). t.1) nat_cmp_total)

pair_equiv : IsEquivalence pair_eq
pair_equiv = and_equiv (on_equiv (λ (t : ℕ × ℕ). t.0) nat_eq_equiv) (on_equiv (λ (t : ℕ × ℕ). t.1) nat_eq_equiv)

nat_exact : (a b : ℕ) → (a == b) ≡ true → a ≡ b
nat_exact a b e = grind arith

and_first : (p q : Bool) → (p && q) ≡ true → p ≡ true
and_first true q e = refl
and_first false q e = e

and_second : (p q : Bool) → (p && q) ≡ true → q ≡ true
and_second true q e = e
and_second false q e = absurd (true≢false (sym e))

pair_exact : (x y : ℕ × ℕ) → pair_eq x y ≡ true → x ≡ y
pair_exact x y e =
    let a = nat_exact x.0 y.0 (and_first (x.0 == y.0) (x.1 == y.1) e) in
    let b = nat_exact x.1 y.1 (and_second (x.0 == y.0) (x.1 == y.1) e) in
    let pair : ℕ → ℕ → ℕ × ℕ = λ m n. (m, n) in
    ap (λ m. pair m x.1) a ∙ ap (λ n. pair y.0 n) b

pair_ties : (x y : ℕ × ℕ) → pair_eq x y ≡ eq_by_cmp pair_cmp x y
pair_ties x y = grind arith

less : (x y : ℕ × ℕ) → pair_cmp x y ≡ Less → ComesBefore x y
less x y e = grind arith

all_later : (x : ℕ × ℕ) (ys : List (ℕ × ℕ)) → AllByRecursion (λ y. pair_cmp x y ≡ Less) ys → All (ComesBefore x) ys
all_later x [] h = All-nil (ComesBefore x)
all_later x (y ∷ ys) h = All-cons (ComesBefore x) y ys (less x y h.0) (all_later x ys h.1)

in_order : (ps : List (ℕ × ℕ)) → IsStrictlySortedBy pair_cmp ps → AllPairs ComesBefore ps
unfolding IsStrictlySortedBy
in_order [] h = λ i j d lt within. absurd (omega arith)
in_order (p ∷ ps) h = AllPairs-cons ComesBefore p ps (all_later p ps h.0) (in_order ps h.1)

-- what is left of a sorted list without equal neighbours is in order, each once
pub distinct_in_order : (ps : List (ℕ × ℕ)) → IsSorted pair_cmp ps → AllPairs ComesBefore (dedup pair_eq ps)
distinct_in_order ps h = in_order (dedup pair_eq ps) (IsStrictlySortedBy-dedup pair_total pair_ties ps h)

-- and has all that was there
pub distinct_has : (ps : List (ℕ × ℕ)) (p : ℕ × ℕ) → Contains ps p → Contains (dedup pair_eq ps) p
distinct_has ps p h = Contains-dedup pair_equiv pair_exact ps p h
