-- A map of names whose entry under the empty name has a place of its own: what it answers, and what a change of either part makes of it.
use Rattle.std.proofs.Common.{◌≡◌, ℕ, Bool, true, false, cond, List, [], ◌∷◌, Option, Some, None, IsSome, OnSome, String, length, ◌==◌, ◌≤◌, ◌<◌, slice_get, slice_set, arith, refl, sym, ap, subst, ◌∙◌}
use Rattle.std.specs.Borrow.{MutBor}
use Rattle.std.specs.List.{IsItemAtMut}
use Rattle.std.specs.Option.{option_copied_mut}
use Rattle.std.specs.Cmp.Lexicographic.{slice_cmp, nat_list_cmp_total}
use Rattle.std.specs.Ordering.{nat_cmp, is_eq}
use Rattle.std.specs.String.{string_bytes, string_cmp}
use Rattle.std.specs.BTreeMap as tree
use Rattle.std.specs.FinMap as fin
use Rattle.named_entries.specs.Names.{NameMap, name_map, map_values}
use Rattle.named_entries.specs.Unnamed.{with_unnamed}
use Rattle.named_entries.proofs.NameMaps.{get-name_map, map_values-insert, name_map-insert, name_map-remove}

alike : {X : Type 0} {m n : NameMap X} → ((q : List ℕ) → fin.get m q ≡ fin.get n q) → m ≡ n
alike h = fin.same_map nat_list_cmp_total (fin.slice_cmp-IsAntisymmetric fin.nat_cmp-IsAntisymmetric) _ _ h

get-with_unnamed : {X : Type 0} (o : Option X) (m : NameMap X) (q : List ℕ)
    → fin.get (with_unnamed o m) q ≡ cond (is_eq (slice_cmp nat_cmp q [])) o (fin.get m q)
get-with_unnamed None m q = fin.get-remove nat_list_cmp_total m [] q
get-with_unnamed (Some x) m q = fin.get-insert nat_list_cmp_total m [] x q

pub get-unnamed : {X : Type 0} (o : Option X) (m : NameMap X) → fin.get (with_unnamed o m) [] ≡ o
get-unnamed o m = get-with_unnamed o m []

pub get-named : {X : Type 0} (o : Option X) (m : NameMap X) (k : ℕ) (ks : List ℕ)
    → fin.get (with_unnamed o m) (k ∷ ks) ≡ fin.get m (k ∷ ks)
get-named o m k ks = get-with_unnamed o m (k ∷ ks)

pub with_unnamed-insert : {X : Type 0} (o : Option X) (m : NameMap X) (x : X)
    → with_unnamed (Some x) m ≡ fin.insert (with_unnamed o m) [] x
with_unnamed-insert {X} o m x = alike (λ q. get-with_unnamed (Some x) m q ∙ at q
    ∙ sym (fin.get-insert nat_list_cmp_total (with_unnamed o m) [] x q))
  where
    at : (q : List ℕ) → cond (is_eq (slice_cmp nat_cmp q [])) (Some x) (fin.get m q)
        ≡ cond (is_eq (slice_cmp nat_cmp q [])) (Some x) (fin.get (with_unnamed o m) q)
    at [] = refl
    at (k ∷ ks) = sym (get-named o m k ks)

pub with_unnamed-remove : {X : Type 0} (o : Option X) (m : NameMap X)
    → with_unnamed None m ≡ fin.remove (with_unnamed o m) []
with_unnamed-remove {X} o m = alike (λ q. get-with_unnamed None m q ∙ at q
    ∙ sym (fin.get-remove nat_list_cmp_total (with_unnamed o m) [] q))
  where
    at : (q : List ℕ) → cond (is_eq (slice_cmp nat_cmp q [])) None (fin.get m q)
        ≡ cond (is_eq (slice_cmp nat_cmp q [])) None (fin.get (with_unnamed o m) q)
    at [] = refl
    at (k ∷ ks) = sym (get-named o m k ks)

pub with_named-insert : {X : Type 0} (o : Option X) (m : NameMap X) (k : ℕ) (ks : List ℕ) (x : X)
    → with_unnamed o (fin.insert m (k ∷ ks) x) ≡ fin.insert (with_unnamed o m) (k ∷ ks) x
with_named-insert {X} o m k ks x = alike (λ q. get-with_unnamed o (fin.insert m (k ∷ ks) x) q ∙ at q
    ∙ sym (fin.get-insert nat_list_cmp_total (with_unnamed o m) (k ∷ ks) x q))
  where
    at : (q : List ℕ) → cond (is_eq (slice_cmp nat_cmp q [])) o (fin.get (fin.insert m (k ∷ ks) x) q)
        ≡ cond (is_eq (slice_cmp nat_cmp q (k ∷ ks))) (Some x) (fin.get (with_unnamed o m) q)
    at [] = sym (get-unnamed o m)
    at (j ∷ js) = fin.get-insert nat_list_cmp_total m (k ∷ ks) x (j ∷ js)
        ∙ ap (cond (is_eq (slice_cmp nat_cmp (j ∷ js) (k ∷ ks))) (Some x)) (sym (get-named o m j js))

pub with_named-remove : {X : Type 0} (o : Option X) (m : NameMap X) (k : ℕ) (ks : List ℕ)
    → with_unnamed o (fin.remove m (k ∷ ks)) ≡ fin.remove (with_unnamed o m) (k ∷ ks)
with_named-remove {X} o m k ks = alike (λ q. get-with_unnamed o (fin.remove m (k ∷ ks)) q ∙ at q
    ∙ sym (fin.get-remove nat_list_cmp_total (with_unnamed o m) (k ∷ ks) q))
  where
    at : (q : List ℕ) → cond (is_eq (slice_cmp nat_cmp q [])) o (fin.get (fin.remove m (k ∷ ks)) q)
        ≡ cond (is_eq (slice_cmp nat_cmp q (k ∷ ks))) None (fin.get (with_unnamed o m) q)
    at [] = sym (get-unnamed o m)
    at (j ∷ js) = fin.get-remove nat_list_cmp_total m (k ∷ ks) (j ∷ js)
        ∙ ap (cond (is_eq (slice_cmp nat_cmp (j ∷ js) (k ∷ ks))) None) (sym (get-named o m j js))

-- ---- the calls of a map whose unnamed entry has a place of its own

pub with_unnamed-nothing : {A X : Type 0} (es : List (String A × X)) → es ≡ []
    → ◌≡◌ {A = NameMap X} (with_unnamed None (name_map es)) fin.empty
with_unnamed-nothing {A} {X} es e = alike (λ q. fin.get-remove nat_list_cmp_total (name_map es) [] q ∙ at es e q
    ∙ sym (fin.get-empty (slice_cmp nat_cmp) q))
  where
    at : (es : List (String A × X)) → es ≡ [] → (q : List ℕ)
        → cond (is_eq (slice_cmp nat_cmp q [])) None (fin.get (name_map es) q) ≡ None
    at [] e [] = refl
    at [] e (k ∷ ks) = get-name_map {A = A} {X = X} [] (k ∷ ks)
    at (x ∷ xs) e q = cc

pub none-left : {A X : Type 0} (xs : List X) (es : List (String A × X)) → xs ≡ [] → es ≡ []
    → ◌≡◌ {A = NameMap X} (with_unnamed (slice_get xs 0) (name_map es)) fin.empty
none-left [] es e f = with_unnamed-nothing es f
none-left (x ∷ xs) es e f = cc

pub no_item : {X : Type 0} (xs : List X) (n : ℕ) → length xs ≡ n → (n == 0) ≡ true → xs ≡ []
no_item [] n e t = refl
no_item (x ∷ xs) n e t = let f : (length (x ∷ xs) == 0) ≡ false = grind arith in cc

pub an_item : {X : Type 0} (xs : List X) (n : ℕ) → length xs ≡ n → (n == 0) ≡ false → IsSome (slice_get xs 0)
an_item [] n e t = cc
an_item (x ∷ xs) n e t = refl

pub replaced : {X : Type 0} (xs : List X) → IsSome (slice_get xs 0) → (y : X) → slice_get (slice_set xs 0 y) 0 ≡ Some y
replaced [] h y = cc
replaced (x ∷ xs) h y = refl

pub has_item : {X : Type 0} (xs : List X) → IsSome (slice_get xs 0) → 0 < length xs
has_item [] h = cc
has_item (x ∷ xs) h = grind arith

-- the first item, lent
pub lent-first : {X : Type 0} (xs : List X) (r : Option (MutBor X)) → IsItemAtMut xs 0 r → option_copied_mut r ≡ slice_get xs 0
lent-first [] None h = refl
lent-first [] (Some r) h = cc
lent-first (x ∷ xs) None h = let e : length (x ∷ xs) ≤ 0 = h.3 in let n : ⊥ = grind arith in absurd n
lent-first (x ∷ xs) (Some r) h = ap Some h.1

no_name : (name : List ℕ) (b : Bool) → b ≡ (length name == 0) → b ≡ true → name ≡ []
no_name [] b e t = refl
no_name (k ∷ ks) b e t = let f : (length (k ∷ ks) == 0) ≡ false = grind arith in cc

-- what a function makes of each entry, where one was put under the empty name
pub unnamed-insert : {X Y : Type 0} (f : X → Y) (m : NameMap X) (name : List ℕ) (x : X) → (length name == 0) ≡ true
    → map_values f (fin.insert m [] x) ≡ fin.insert (map_values f m) name (f x)
unnamed-insert f m name x t = map_values-insert f m [] x
    ∙ ap (λ k. fin.insert (map_values f m) k (f x)) (sym (no_name name (length name == 0) refl t))

named : (name : List ℕ) (b : Bool) → b ≡ (length name == 0) → b ≡ false → name ≡ [] → ⊥
named [] b e t n = cc
named (k ∷ ks) b e t n = cc

-- the name's own bytes, whether it is empty, and what the map is seen as
module _ {A X : Type 0} (o : Option X) (m : tree.BTreeMap (String A) X) (seen : NameMap X)
    (view_is : with_unnamed o (name_map m.entries) ≡ seen)
    (name : List ℕ) (b : Bool) (tested : b ≡ (length name == 0)) where
  pub get-then : b ≡ true → o ≡ fin.get seen name
  get-then t = sym (get-unnamed o (name_map m.entries))
      ∙ ap (fin.get (with_unnamed o (name_map m.entries))) (sym (no_name name b tested t))
      ∙ ap (λ s. fin.get s name) view_is

  pub get-else : b ≡ false → tree.get_by_text m name ≡ fin.get seen name
  get-else t = sym (get-name_map m.entries name) ∙ at name (named name b tested t) ∙ ap (λ s. fin.get s name) view_is
    where
      at : (k : List ℕ) → (k ≡ [] → ⊥) → fin.get (name_map m.entries) k ≡ fin.get (with_unnamed o (name_map m.entries)) k
      at [] n = absurd (n refl)
      at (k ∷ ks) n = sym (get-named o (name_map m.entries) k ks)

  pub insert-then : b ≡ true → (x : X) → with_unnamed (Some x) (name_map m.entries) ≡ fin.insert seen name x
  insert-then t x = with_unnamed-insert o (name_map m.entries) x ∙ ap (λ s. fin.insert s [] x) view_is
      ∙ ap (λ k. fin.insert seen k x) (sym (no_name name b tested t))

  pub insert-else : b ≡ false → (n : tree.BTreeMap (String A) X) (x : X)
      → tree.UpdatesBy string_cmp (λ k. slice_cmp nat_cmp name (string_bytes k)) m n (Some x)
      → with_unnamed o (name_map n.entries) ≡ fin.insert seen name x
  insert-else t n x h = ap (with_unnamed o) (name_map-insert name m n x h) ∙ at name (named name b tested t)
      ∙ ap (λ s. fin.insert s name x) view_is
    where
      at : (k : List ℕ) → (k ≡ [] → ⊥)
          → with_unnamed o (fin.insert (name_map m.entries) k x) ≡ fin.insert (with_unnamed o (name_map m.entries)) k x
      at [] n = absurd (n refl)
      at (k ∷ ks) n = with_named-insert o (name_map m.entries) k ks x

  pub written-then : b ≡ true → (xs : List X) (w : X) (r : Option (MutBor X)) → IsItemAtMut xs 0 r
      → OnSome r (with_unnamed (slice_get (slice_set xs 0 w) 0) (name_map m.entries) ≡ fin.insert seen name w)
  written-then t xs w None h = tt
  written-then t [] w (Some r) h = cc
  written-then t (x ∷ xs) w (Some r) h = insert-then t w

  pub remove-then : b ≡ true → with_unnamed None (name_map m.entries) ≡ fin.remove seen name
  remove-then t = with_unnamed-remove o (name_map m.entries) ∙ ap (λ s. fin.remove s []) view_is
      ∙ ap (fin.remove seen) (sym (no_name name b tested t))

  pub remove-else : b ≡ false → (n : tree.BTreeMap (String A) X)
      → tree.UpdatesBy string_cmp (λ k. slice_cmp nat_cmp name (string_bytes k)) m n None
      → with_unnamed o (name_map n.entries) ≡ fin.remove seen name
  remove-else t n h = ap (with_unnamed o) (name_map-remove name m n h) ∙ at name (named name b tested t)
      ∙ ap (λ s. fin.remove s name) view_is
    where
      at : (k : List ℕ) → (k ≡ [] → ⊥)
          → with_unnamed o (fin.remove (name_map m.entries) k) ≡ fin.remove (with_unnamed o (name_map m.entries)) k
      at [] n = absurd (n refl)
      at (k ∷ ks) n = with_named-remove o (name_map m.entries) k ks

  pub written-else : b ≡ false → (n : tree.BTreeMap (String A) X) (w : X) (r : Option (MutBor X))
      → option_copied_mut r ≡ tree.get_by_text m name
      → tree.WritesThrough string_cmp (λ k. slice_cmp nat_cmp name (string_bytes k)) m w n
      → OnSome r (with_unnamed o (name_map n.entries) ≡ fin.insert seen name w)
  written-else t n w None e h = tt
  written-else t n w (Some x) e h = insert-else t n w (h.3 (subst IsSome e refl))

-- where no entry stands under the empty name, there is none to remove
pub remove-nothing : {A X : Type 0} (xs : List X) (m : tree.BTreeMap (String A) X) (seen : NameMap X)
    → with_unnamed (slice_get xs 0) (name_map m.entries) ≡ seen → xs ≡ []
    → (name : List ℕ) (b : Bool) → b ≡ (length name == 0) → b ≡ true → seen ≡ fin.remove seen name
remove-nothing xs m seen view_is nothing name b tested t =
    sym view_is ∙ ap (λ l. with_unnamed (slice_get l 0) (name_map m.entries)) nothing
    ∙ remove-then (slice_get xs 0) m seen view_is name b tested t
