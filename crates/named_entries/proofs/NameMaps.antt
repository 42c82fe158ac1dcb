-- What a map of names answers, and what a change of a `BTreeMap` with `String` keys makes of it.
use Rattle.std.proofs.Common.{rules, ◌≡◌, ℕ, Bool, true, false, cond, List, [], ◌∷◌, map, Option, Some, None, IsSome, OnSome, String, refl, sym, ap, subst, ◌∙◌}
use Rattle.std.specs.Borrow.{MutBor}
use Rattle.std.specs.Option.{option_map, option_copied_mut}
use Rattle.std.specs.Cmp.{eq_by_cmp_equiv}
use Rattle.std.specs.Cmp.Lexicographic.{slice_cmp, nat_list_cmp_total}
use Rattle.std.specs.Ordering.{nat_cmp, is_eq}
use Rattle.std.specs.Str.{bytes_eq}
use Rattle.std.specs.String.{string_bytes, string_cmp}
use Rattle.std.specs.declared.cmp.Ordering.{Ordering}
use Rattle.std.specs.declared.cmp.Ordering.TheVariants.{Less, Equal, Greater}
use Rattle.std.specs.Map.{lookup}
use Rattle.std.specs.BTreeMap as tree
use Rattle.std.specs.FinMap as fin
use Rattle.std.proofs.lemmas.Map.Text.{is_eq-slice_cmp, btree_map_updates_text}
use Rattle.named_entries.specs.Names.{NameMap, name_map, map_values}

find_name : {A X : Type 0} (es : List (String A × X)) (q : List ℕ)
    → fin.find (slice_cmp nat_cmp) q (map (λ e. (string_bytes e.0, e.1)) es)
    ≡ lookup (tree.is_at (λ k. slice_cmp nat_cmp q (string_bytes k))) es
find_name [] q = refl
find_name (e ∷ es) q = ap (cond (is_eq (slice_cmp nat_cmp q (string_bytes e.0))) (Some e.1)) (find_name es q)

-- a look-up by bytes
pub get-name_map : {A X : Type 0} (es : List (String A × X)) (q : List ℕ)
    → fin.get (name_map es) q ≡ lookup (tree.is_at (λ k. slice_cmp nat_cmp q (string_bytes k))) es
get-name_map es q = fin.get-from_entries nat_list_cmp_total _ q ∙ find_name es q

same_name : (q k : List ℕ) → bytes_eq k q ≡ is_eq (slice_cmp nat_cmp q k)
same_name q k = sym (is_eq-slice_cmp k q) ∙ (eq_by_cmp_equiv nat_list_cmp_total).symm k q

updated : {A X : Type 0} (bs : List ℕ) (m n : tree.BTreeMap (String A) X) (w : Option X)
    → tree.UpdatesBy string_cmp (λ k. slice_cmp nat_cmp bs (string_bytes k)) m n w
    → (q : List ℕ) → fin.get (name_map n.entries) q ≡ cond (is_eq (slice_cmp nat_cmp q bs)) w (fin.get (name_map m.entries) q)
updated bs m n w h q = get-name_map n.entries q ∙ btree_map_updates_text bs m n w h q
    ∙ ap (λ b. cond b w (tree.get_by_text m q)) (same_name q bs)
    ∙ ap (λ o. cond (is_eq (slice_cmp nat_cmp q bs)) w o) (sym (get-name_map m.entries q))

-- to put an entry under a name in the one is to insert it into the other
pub name_map-insert : {A X : Type 0} (bs : List ℕ) (m n : tree.BTreeMap (String A) X) (v : X)
    → tree.UpdatesBy string_cmp (λ k. slice_cmp nat_cmp bs (string_bytes k)) m n (Some v)
    → name_map n.entries ≡ fin.insert (name_map m.entries) bs v
name_map-insert bs m n v h = fin.same_map nat_list_cmp_total (fin.slice_cmp-IsAntisymmetric fin.nat_cmp-IsAntisymmetric) _ _
    (λ q. updated bs m n (Some v) h q ∙ sym (fin.get-insert nat_list_cmp_total (name_map m.entries) bs v q))

-- and the same of a removal
pub name_map-remove : {A X : Type 0} (bs : List ℕ) (m n : tree.BTreeMap (String A) X)
    → tree.UpdatesBy string_cmp (λ k. slice_cmp nat_cmp bs (string_bytes k)) m n None
    → name_map n.entries ≡ fin.remove (name_map m.entries) bs
name_map-remove bs m n h = fin.same_map nat_list_cmp_total (fin.slice_cmp-IsAntisymmetric fin.nat_cmp-IsAntisymmetric) _ _
    (λ q. updated bs m n None h q ∙ sym (fin.get-remove nat_list_cmp_total (name_map m.entries) bs q))

-- what a borrow of the entry under a name leaves in its place
pub name_map-written : {A X : Type 0} (bs : List ℕ) (m n : tree.BTreeMap (String A) X) (w : X) (r : Option (MutBor X))
    → option_copied_mut r ≡ tree.get_by_text m bs
    → tree.WritesThrough string_cmp (λ k. slice_cmp nat_cmp bs (string_bytes k)) m w n
    → OnSome r (name_map n.entries ≡ fin.insert (name_map m.entries) bs w)
name_map-written bs m n w None e h = tt
name_map-written bs m n w (Some x) e h = name_map-insert bs m n w (h.3 (subst IsSome e refl))

option_map-cond : {X Y : Type 0} (f : X → Y) (b : Bool) (x y : Option X)
    → option_map f (cond b x y) ≡ cond b (option_map f x) (option_map f y)
option_map-cond f true x y = refl
option_map-cond f false x y = refl

find_mapped : {X Y : Type 0} (f : X → Y) (es : List (List ℕ × X)) (q : List ℕ)
    → fin.find (slice_cmp nat_cmp) q (map (λ e. (e.0, f e.1)) es) ≡ option_map f (fin.find (slice_cmp nat_cmp) q es)
find_mapped f [] q = refl
find_mapped f (e ∷ es) q = ap (cond (is_eq (slice_cmp nat_cmp q e.0)) (Some (f e.1))) (find_mapped f es q)
    ∙ sym (option_map-cond f (is_eq (slice_cmp nat_cmp q e.0)) (Some e.1) (fin.find (slice_cmp nat_cmp) q es))

-- what stands under a name, made into something else
pub get-map_values : {X Y : Type 0} (f : X → Y) (m : NameMap X) (q : List ℕ) → fin.get (map_values f m) q ≡ option_map f (fin.get m q)
get-map_values f m q = fin.get-from_entries nat_list_cmp_total _ q ∙ find_mapped f (fin.entries m) q
    ∙ ap (option_map f) (sym (fin.get-entries m q))

pub map_values-insert : {X Y : Type 0} (f : X → Y) (m : NameMap X) (k : List ℕ) (v : X)
    → map_values f (fin.insert m k v) ≡ fin.insert (map_values f m) k (f v)
map_values-insert f m k v = fin.same_map nat_list_cmp_total (fin.slice_cmp-IsAntisymmetric fin.nat_cmp-IsAntisymmetric) _ _
    (λ q. get-map_values f (fin.insert m k v) q ∙ ap (option_map f) (fin.get-insert nat_list_cmp_total m k v q)
    ∙ option_map-cond f (is_eq (slice_cmp nat_cmp q k)) (Some v) (fin.get m q)
    ∙ ap (cond (is_eq (slice_cmp nat_cmp q k)) (Some (f v))) (sym (get-map_values f m q))
    ∙ sym (fin.get-insert nat_list_cmp_total (map_values f m) k (f v) q))

-- an entry that stands there already changes nothing
pub insert-same : {X : Type 0} (m : NameMap X) (k : List ℕ) (v : X) → fin.get m k ≡ Some v → fin.insert m k v ≡ m
insert-same {X} m k v e = fin.same_map nat_list_cmp_total (fin.slice_cmp-IsAntisymmetric fin.nat_cmp-IsAntisymmetric) _ _
    (λ q. fin.get-insert nat_list_cmp_total m k v q ∙ same q (slice_cmp nat_cmp q k) refl)
  where
    same : (q : List ℕ) (r : Ordering) → slice_cmp nat_cmp q k ≡ r → cond (is_eq r) (Some v) (fin.get m q) ≡ fin.get m q
    same q Less is = refl
    same q Greater is = refl
    same q Equal is = sym e ∙ ap (fin.get m) (sym (fin.slice_cmp-IsAntisymmetric fin.nat_cmp-IsAntisymmetric q k is))

pub on_some : {A P : Type 0} (r : Option A) → P → OnSome r P
on_some None p = tt
on_some (Some x) p = p

pub at_some : {A P : Type 0} (r : Option A) (x : A) → r ≡ Some x → OnSome r P → P
at_some None x e h = search rules
at_some (Some y) x e h = h

pub map_values-remove : {X Y : Type 0} (f : X → Y) (m : NameMap X) (k : List ℕ)
    → map_values f (fin.remove m k) ≡ fin.remove (map_values f m) k
map_values-remove f m k = fin.same_map nat_list_cmp_total (fin.slice_cmp-IsAntisymmetric fin.nat_cmp-IsAntisymmetric) _ _
    (λ q. get-map_values f (fin.remove m k) q ∙ ap (option_map f) (fin.get-remove nat_list_cmp_total m k q)
    ∙ option_map-cond f (is_eq (slice_cmp nat_cmp q k)) None (fin.get m q)
    ∙ ap (cond (is_eq (slice_cmp nat_cmp q k)) None) (sym (get-map_values f m q))
    ∙ sym (fin.get-remove nat_list_cmp_total (map_values f m) k q))

pub map_values-empty : {X Y : Type 0} (f : X → Y) → map_values f fin.empty ≡ fin.empty
map_values-empty f = fin.same_map nat_list_cmp_total (fin.slice_cmp-IsAntisymmetric fin.nat_cmp-IsAntisymmetric) _ _
    (λ q. get-map_values f fin.empty q ∙ ap (option_map f) (fin.get-empty (slice_cmp nat_cmp) q)
    ∙ sym (fin.get-empty (slice_cmp nat_cmp) q))

pub get-put : {X : Type 0} (m : NameMap X) (k : List ℕ) (v : X) → fin.get (fin.insert m k v) k ≡ Some v
get-put m k v = fin.get-insert nat_list_cmp_total m k v k
    ∙ ap (λ b. cond b (Some v) (fin.get m k)) ((eq_by_cmp_equiv nat_list_cmp_total).refl k)

pub get-other : {X : Type 0} (m : NameMap X) (k : List ℕ) (v : X) (q : List ℕ) → (q ≡ k → ⊥) → fin.get (fin.insert m k v) q ≡ fin.get m q
get-other {X} m k v q ne = fin.get-insert nat_list_cmp_total m k v q ∙ other (slice_cmp nat_cmp q k) refl
  where
    other : (r : Ordering) → slice_cmp nat_cmp q k ≡ r → cond (is_eq r) (Some v) (fin.get m q) ≡ fin.get m q
    other Less is = refl
    other Greater is = refl
    other Equal is = absurd (ne (fin.slice_cmp-IsAntisymmetric fin.nat_cmp-IsAntisymmetric q k is))

-- ---- maps whose keys are texts of the protocol

find_key : {X : Type 0} (es : List (List ℕ × X)) (q : List ℕ)
    → fin.find (slice_cmp nat_cmp) q es ≡ lookup (tree.is_at (slice_cmp nat_cmp q)) es
find_key [] q = refl
find_key (e ∷ es) q = ap (cond (is_eq (slice_cmp nat_cmp q e.0)) (Some e.1)) (find_key es q)

pub get-key_map : {X : Type 0} (es : List (List ℕ × X)) (q : List ℕ)
    → fin.get {R = slice_cmp nat_cmp} (fin.from_entries es) q ≡ lookup (tree.is_at (slice_cmp nat_cmp q)) es
get-key_map es q = fin.get-from_entries nat_list_cmp_total es q ∙ find_key es q

pub key_map-insert : {X : Type 0} (k : List ℕ) (m n : tree.BTreeMap (List ℕ) X) (v : X)
    → tree.Updates (slice_cmp nat_cmp) m n k (Some v)
    → ◌≡◌ {A = NameMap X} (fin.from_entries n.entries) (fin.insert (fin.from_entries m.entries) k v)
key_map-insert k m n v h = fin.same_map nat_list_cmp_total (fin.slice_cmp-IsAntisymmetric fin.nat_cmp-IsAntisymmetric) _ _
    (λ q. get-key_map n.entries q ∙ h.0 q
    ∙ ap (λ b. cond b (Some v) (lookup (tree.is_at (slice_cmp nat_cmp q)) m.entries)) ((eq_by_cmp_equiv nat_list_cmp_total).symm k q)
    ∙ ap (cond (is_eq (slice_cmp nat_cmp q k)) (Some v)) (sym (get-key_map m.entries q))
    ∙ sym (fin.get-insert nat_list_cmp_total (fin.from_entries m.entries) k v q))
