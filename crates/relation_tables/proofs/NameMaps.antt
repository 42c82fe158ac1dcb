-- Two maps of names whose entries agree still do after the same is put or removed in both.
use Rattle.std.proofs.Common.{ℕ, Bool, true, false, cond, List, Option, Some, None}
use Rattle.std.specs.Cmp.Lexicographic.{slice_cmp, nat_list_cmp_total}
use Rattle.std.specs.Ordering.{nat_cmp, eq_by_cmp}
use Rattle.std.specs.FinMap as fin
use Rattle.pg_portal.specs.declared.store.Entry.{Entry}
use Rattle.pg_portal.specs.declared.store.Entry.TheVariants as entry
use Rattle.named_entries.specs.Names.{NameMap}

abbrev pub AgreeEntry : {A B : Type 0} → (A → B → Type 0) → Option (Entry A) → Option (Entry B) → Type 0
AgreeEntry R None None = Unit {0}
AgreeEntry R (Some entry.Empty) (Some entry.Empty) = Unit {0}
AgreeEntry R (Some (entry.Value a)) (Some (entry.Value b)) = R a b
AgreeEntry R _ _ = ⊥

abbrev pub AgreeNames : {A B : Type 0} → (A → B → Type 0) → NameMap (Entry A) → NameMap (Entry B) → Type 0
AgreeNames R f g = (name : List ℕ) → AgreeEntry R (fin.get f name) (fin.get g name)

either : {A B : Type 0} (R : A → B → Type 0) (b : Bool) (x x' : Option (Entry A)) (y y' : Option (Entry B)) → AgreeEntry R x y
    → AgreeEntry R x' y'
    → AgreeEntry R (cond b x x') (cond b y y')
either R true x x' y y' h h' = h
either R false x x' y y' h h' = h'

pub agree_with : {A B : Type 0} (R : A → B → Type 0) (f : NameMap (Entry A)) (g : NameMap (Entry B)) → AgreeNames R f g
    → (name : List ℕ) (a : Entry A) (b : Entry B) → AgreeEntry R (Some a) (Some b)
    → AgreeNames R (fin.insert f name a) (fin.insert g name b)
agree_with R f g h name a b e asked =
    rw (fin.get-insert nat_list_cmp_total f name a asked, fin.get-insert nat_list_cmp_total g name b asked)
    (either R (eq_by_cmp (slice_cmp nat_cmp) asked name) (Some a) (fin.get f asked) (Some b) (fin.get g asked) e (h asked))

pub agree_without : {A B : Type 0} (R : A → B → Type 0) (f : NameMap (Entry A)) (g : NameMap (Entry B)) → AgreeNames R f g
    → (name : List ℕ) → AgreeNames R (fin.remove f name) (fin.remove g name)
agree_without R f g h name asked =
    rw (fin.get-remove nat_list_cmp_total f name asked, fin.get-remove nat_list_cmp_total g name asked)
    (either R (eq_by_cmp (slice_cmp nat_cmp) asked name) None (fin.get f asked) None (fin.get g asked) tt (h asked))

pub agree_empty : {A B : Type 0} (R : A → B → Type 0) → AgreeNames R fin.empty fin.empty
agree_empty {A} {B} R name =
    rw (fin.get-empty {X = Entry A} (slice_cmp nat_cmp) name, fin.get-empty {X = Entry B} (slice_cmp nat_cmp) name) tt
