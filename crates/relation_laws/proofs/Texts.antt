-- When a query is blank, and when its text names nothing.
use Rattle.std.proofs.Common.{◌≡◌, ◌∙◌, ◌&&◌, ◌<◌, ◌+◌, ◌⊎◌, inl, inr, ℕ, zero, suc, Bool, true, false, cond, if◌then◌else◌, List, [], ◌∷◌, Option, Some, None, reverse, length, get_or, codes, bytes_eq, refl, sym, ap, arith}
use Rattle.std.proofs.lemmas.List.{reverse-append, length-reverse}
use Rattle.std.proofs.lemmas.List.Folds.{list_all-append}
use Rattle.std.proofs.lemmas.Slice.Eq.{bytes_eq-Decides}
use Rattle.std.specs.List.{Contains, position_from}
use Rattle.std.specs.Str.{str_eq_ignore_ascii_case}
use Rattle.pg_results.specs.Texts.{is_padding, is_blank}
use Rattle.relation_tables.specs.declared.Relation.{Relation}
use Rattle.relation_tables.specs.declared.RelationStatement.TheVariants as statement
use Rattle.relation_tables.specs.Queries.{trimmed, without_front_padding, without_end_padding}
use Rattle.relation_tables.specs.Relations.{place_of, relation_meaning, meaning_of}
use Rattle.relation_laws.specs.Causes.{IsRelationName, IsTransactionWord}

-- ---- blank queries

blank_is_nothing : (q : List ℕ) → is_blank q ≡ true → without_front_padding q ≡ []
blank_is_nothing [] e = refl
blank_is_nothing (byte ∷ bytes) e = by_test (is_padding byte) e (blank_is_nothing bytes)
  where
    by_test : (b : Bool) → (b && is_blank bytes) ≡ true → (is_blank bytes ≡ true → without_front_padding bytes ≡ [])
        → (if b then without_front_padding bytes else (byte ∷ bytes)) ≡ []
    by_test true e later = later e
    by_test false e later = cc

nothing_is_blank : (q : List ℕ) → without_front_padding q ≡ [] → is_blank q ≡ true
nothing_is_blank [] e = refl
nothing_is_blank (byte ∷ bytes) e = by_test (is_padding byte) e (nothing_is_blank bytes)
  where
    by_test : (b : Bool) → (if b then without_front_padding bytes else (byte ∷ bytes)) ≡ []
        → (without_front_padding bytes ≡ [] → is_blank bytes ≡ true) → (b && is_blank bytes) ≡ true
    by_test true e later = later e
    by_test false e later = cc

-- what is left begins with no padding
front_is_none : (q : List ℕ) → is_blank (without_front_padding q) ≡ true → without_front_padding q ≡ []
front_is_none [] e = refl
front_is_none (byte ∷ bytes) e = by_test (is_padding byte) refl e (front_is_none bytes)
  where
    by_test : (b : Bool) → is_padding byte ≡ b → is_blank (if b then without_front_padding bytes else (byte ∷ bytes)) ≡ true
        → (is_blank (without_front_padding bytes) ≡ true → without_front_padding bytes ≡ [])
        → (if b then without_front_padding bytes else (byte ∷ bytes)) ≡ []
    by_test true is e later = later e
    by_test false is e later = let no : (false && is_blank bytes) ≡ true = rw is at e in absurd (let f : ⊥ = cc in f)

swapped : (a b : Bool) → (a && (b && true)) ≡ (b && a)
swapped true true = refl
swapped true false = refl
swapped false true = refl
swapped false false = refl

blank_reversed : (q : List ℕ) → is_blank (reverse q) ≡ is_blank q
blank_reversed [] = refl
blank_reversed (byte ∷ bytes) = ap is_blank (reverse-append (byte ∷ []) bytes) ∙ list_all-append is_padding (reverse bytes) (byte ∷ [])
    ∙ ap (λ b. b && (is_padding byte && true)) (blank_reversed bytes) ∙ swapped (is_blank bytes) (is_padding byte)

reversed_is_nothing : (xs : List ℕ) → reverse xs ≡ [] → xs ≡ []
reversed_is_nothing [] e = refl
reversed_is_nothing (x ∷ xs) e = absurd (omega (arith, sym (length-reverse (x ∷ xs)) ∙ ap length e))

pub trimmed_blank : (q : List ℕ) → is_blank q ≡ true → trimmed q ≡ []
trimmed_blank q e = ap without_end_padding (blank_is_nothing q e)

pub blank_trimmed : (q : List ℕ) → trimmed q ≡ [] → is_blank q ≡ true
blank_trimmed q e =
    let f = without_front_padding q in
    let none : without_front_padding (reverse f) ≡ [] = reversed_is_nothing (without_front_padding (reverse f)) e in
    nothing_is_blank q (front_is_none q (sym (blank_reversed f) ∙ nothing_is_blank (reverse f) none))

pub not_blank : (q : List ℕ) → (trimmed q ≡ [] → ⊥) → is_blank q ≡ false
not_blank q ne = by_test (is_blank q) refl
  where
    by_test : (b : Bool) → is_blank q ≡ b → b ≡ false
    by_test true e = absurd (ne (trimmed_blank q e))
    by_test false e = refl

pub not_empty : (q : List ℕ) → is_blank q ≡ false → trimmed q ≡ [] → ⊥
not_empty q e none = let is = blank_trimmed q none in let f : ⊥ = cc in f

-- ---- names

is_same : (text : List ℕ) → bytes_eq text text ≡ true
is_same text = (bytes_eq-Decides text text).1 refl

no_place : (name : List ℕ) (from : ℕ) (relations : List Relation) → position_from (λ r. bytes_eq name r.name) from relations ≡ None
    → (k : ℕ) (r : Relation) → k < length relations → get_or relations k r ≡ r → r.name ≡ name → ⊥
no_place name from [] e k r inside is same = omega (arith, inside)
no_place name from (x ∷ relations) e k r inside is same =
    by_test (bytes_eq name x.name) refl e (λ e. no_place name (from + 1) relations e) k inside is
  where
    by_test : (b : Bool) → bytes_eq name x.name ≡ b
        → cond b (Some from) (position_from (λ r. bytes_eq name r.name) (from + 1) relations) ≡ None
        → (position_from (λ r. bytes_eq name r.name) (from + 1) relations ≡ None → (k : ℕ) (r : Relation) → k < length relations
        → get_or relations k r ≡ r → r.name ≡ name → ⊥)
        → (k : ℕ) → k < suc (length relations) → get_or (x ∷ relations) k r ≡ r → ⊥
    by_test true t e later k inside is = cc
    by_test false t e later zero inside is =
        let named : bytes_eq name x.name ≡ true = ap (bytes_eq name) (ap (λ (r : Relation). r.name) is ∙ same) ∙ is_same name in
        let f : ⊥ = cc in f
    by_test false t e later (suc k) inside is = later e k r (omega (arith, inside)) is same

pub no_relation : (relations : List Relation) (name : List ℕ) → place_of relations name ≡ None → IsRelationName relations name → ⊥
no_relation relations name e (r, at, same) = no_place name 0 relations e at.0 r at.1 at.2 same

place_named : (name : List ℕ) (from : ℕ) (relations : List Relation) (place : ℕ)
    → position_from (λ r. bytes_eq name r.name) from relations ≡ Some place
    → (r : Relation) × Contains relations r × (r.name ≡ name)
place_named name from [] place e = cc
place_named name from (x ∷ relations) place e =
    by_test (bytes_eq name x.name) refl e (λ e. place_named name (from + 1) relations place e)
  where
    by_test : (b : Bool) → bytes_eq name x.name ≡ b
        → cond b (Some from) (position_from (λ r. bytes_eq name r.name) (from + 1) relations) ≡ Some place
        → (position_from (λ r. bytes_eq name r.name) (from + 1) relations ≡ Some place
        → (r : Relation) × Contains relations r × (r.name ≡ name))
        → (r : Relation) × Contains (x ∷ relations) r × (r.name ≡ name)
    by_test true t e later = (x, (0, omega arith, refl), sym ((bytes_eq-Decides name x.name).0 t))
    by_test false t e later =
        let found = later e in
        (found.0, (suc found.1.0, omega (arith, found.1.1), found.1.2), found.2)

pub relation_named : (relations : List Relation) (name : List ℕ) (place : ℕ) → place_of relations name ≡ Some place
    → IsRelationName relations name
relation_named relations name place e = place_named name 0 relations place e

pub unnamed : (relations : List Relation) (name : List ℕ) → (IsRelationName relations name → ⊥) → place_of relations name ≡ None
unnamed relations name never = by_place (place_of relations name) refl
  where
    by_place : (x : Option ℕ) → place_of relations name ≡ x → x ≡ None
    by_place None e = refl
    by_place (Some place) e = absurd (never (relation_named relations name place e))

-- ---- meanings

pub no_meaning : (relations : List Relation) (text : List ℕ) → meaning_of relations text ≡ None
    → (IsTransactionWord text → ⊥) × (IsRelationName relations text → ⊥)
no_meaning relations text e =
    by_words (str_eq_ignore_ascii_case text (codes "BEGIN")) (str_eq_ignore_ascii_case text (codes "COMMIT")) refl refl e
  where
    no_word : (a b : Bool) → a ≡ false → b ≡ false → (a ≡ true) ⊎ (b ≡ true) → ⊥
    no_word a b e f (inl h) = let f : ⊥ = cc in f
    no_word a b e f (inr h) = let f : ⊥ = cc in f

    by_place : (x : Option ℕ) → place_of relations text ≡ x → relation_meaning x ≡ None → IsRelationName relations text → ⊥
    by_place None is e = no_relation relations text is
    by_place (Some place) is e = cc

    by_words : (a b : Bool) → str_eq_ignore_ascii_case text (codes "BEGIN") ≡ a → str_eq_ignore_ascii_case text (codes "COMMIT") ≡ b
        → (if a then Some statement.Begin else if b then Some statement.Commit else relation_meaning (place_of relations text)) ≡ None
        → (IsTransactionWord text → ⊥) × (IsRelationName relations text → ⊥)
    by_words true b i j e = cc
    by_words false true i j e = cc
    by_words false false i j e = (no_word _ _ i j, by_place (place_of relations text) refl e)

is_no : (b : Bool) → (b ≡ true → ⊥) → b ≡ false
is_no true never = absurd (never refl)
is_no false never = refl

pub means_nothing : (relations : List Relation) (text : List ℕ) → (IsTransactionWord text → ⊥) → (IsRelationName relations text → ⊥)
    → meaning_of relations text ≡ None
means_nothing relations text word name =
    rw (
      is_no (str_eq_ignore_ascii_case text (codes "BEGIN")) (λ e. word (inl e)),
      is_no (str_eq_ignore_ascii_case text (codes "COMMIT")) (λ e. word (inr e)),
      unnamed relations text name,
    )
    refl
