-- What stands under a name after a change of a map.
use Rattle.std.proofs.Common.{◌≡◌, ◌∙◌, ◌⊎◌, inl, inr, ℕ, Bool, true, false, cond, List, None, refl, ap}
use Rattle.std.specs.Cmp.{eq_by_cmp_equiv}
use Rattle.std.specs.Cmp.Lexicographic.{slice_cmp, nat_list_cmp_total}
use Rattle.std.specs.Ordering.{nat_cmp, is_eq}
use Rattle.std.specs.Str.{bytes_eq}
use Rattle.std.specs.declared.cmp.Ordering.{Ordering}
use Rattle.std.specs.declared.cmp.Ordering.TheVariants.{Less, Equal, Greater}
use Rattle.std.specs.FinMap as fin
use Rattle.std.proofs.lemmas.Bool.Decides.{not_from_Decides}
use Rattle.std.proofs.lemmas.Slice.Eq.{bytes_eq-Decides}
use Rattle.named_entries.specs.Names.{NameMap}

pub get-removed : {X : Type 0} (m : NameMap X) (k : List ℕ) → fin.get (fin.remove m k) k ≡ None
get-removed m k = fin.get-remove nat_list_cmp_total m k k
    ∙ ap (λ b. cond b None (fin.get m k)) ((eq_by_cmp_equiv nat_list_cmp_total).refl k)

pub get-left : {X : Type 0} (m : NameMap X) (k q : List ℕ) → (q ≡ k → ⊥) → fin.get (fin.remove m k) q ≡ fin.get m q
get-left m k q ne = fin.get-remove nat_list_cmp_total m k q ∙ other (slice_cmp nat_cmp q k) refl
  where
    other : (r : Ordering) → slice_cmp nat_cmp q k ≡ r → cond (is_eq r) None (fin.get m q) ≡ fin.get m q
    other Less is = refl
    other Greater is = refl
    other Equal is = absurd (ne (fin.slice_cmp-IsAntisymmetric fin.nat_cmp-IsAntisymmetric q k is))

-- two names are one, or they aren't
pub one_or_two : (q k : List ℕ) → (q ≡ k) ⊎ (q ≡ k → ⊥)
one_or_two q k = by_test (bytes_eq q k) refl
  where
    by_test : (b : Bool) → bytes_eq q k ≡ b → (q ≡ k) ⊎ (q ≡ k → ⊥)
    by_test true e = inl ((bytes_eq-Decides q k).0 e)
    by_test false e = inr (not_from_Decides (bytes_eq q k) (bytes_eq-Decides q k) e)

pub is_same : (q : List ℕ) → bytes_eq q q ≡ true
is_same q = (bytes_eq-Decides q q).1 refl

pub are_two : (q k : List ℕ) → bytes_eq q k ≡ false → q ≡ k → ⊥
are_two q k e = not_from_Decides (bytes_eq q k) (bytes_eq-Decides q k) e
