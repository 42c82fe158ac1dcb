-- Places of names, and refusals, as a list of relations grows.
use Rattle.std.proofs.Common.{◌≡◌, ℕ, zero, suc, ◌||◌, not, if◌then◌else◌, ◌+◌, ◌<◌, Bool, true, false, cond, List, [], ◌∷◌, ◌++◌, length, take, drop, get_or, Option, Some, None, refl, sym, ap, subst, ◌∙◌, arith, add-zero, zero-add}
use Rattle.std.specs.Option.{is_some}
use Rattle.std.specs.List.{position_from}
use Rattle.std.specs.Cmp.Lexicographic.{nat_list_cmp_total}
use Rattle.std.specs.Str.{bytes_eq}
use Rattle.std.specs.FinMap as map
use Rattle.std.proofs.lemmas.List.{drop_more, take_more, length-take-le}
use Rattle.std.proofs.lemmas.Map.Text.{is_eq-slice_cmp}
use Rattle.std.proofs.lemmas.Slice.Eq.{bytes_eq-Decides}
use Rattle.named_entries.specs.Names.{NameMap}
use Rattle.relation_tables.specs.declared.Relation.{Relation}
use Rattle.relation_handlers.specs.declared.table.TableError.{TableError}
use Rattle.relation_handlers.specs.declared.table.TableError.TheVariants.{BadName, BadColumn, RaggedRow}
use Rattle.relation_tables.specs.Relations.{are_even, place_of}
use Rattle.relation_tables.specs.Names.{is_name, are_columns}
use Rattle.relation_handlers.specs.Tables.{IsSound, IsValid, refusal_at, refusal_after, or_else}

-- a place in a list, or in what stands behind it
abbrev or_at : Option ℕ → Option ℕ → Option ℕ
or_at None later = later
or_at (Some i) later = Some i

or_at-cond : (b : Bool) (i : ℕ) (o later : Option ℕ) → cond b (Some i) (or_at o later) ≡ or_at (cond b (Some i) o) later
or_at-cond true i o later = refl
or_at-cond false i o later = refl

place-push : {X : Type 0} (t : X → Bool) (i : ℕ) (xs : List X) (x : X)
    → position_from t i (xs ++ x ∷ []) ≡ or_at (position_from t i xs) (cond (t x) (Some (i + length xs)) None)
place-push t i [] x = rw add-zero refl
place-push t i (y ∷ xs) x =
    ap (λ o. cond (t y) (Some i) o) (place-push t (i + 1) xs x)
    ∙ or_at-cond (t y) i (position_from t (i + 1) xs) (cond (t x) (Some (i + 1 + length xs)) None)
    ∙ ap (λ n. or_at (cond (t y) (Some i) (position_from t (i + 1) xs)) (cond (t x) (Some n) None))
    (let e : i + 1 + length xs ≡ i + length (y ∷ xs) = omega arith in e)

none_from_test : (o : Option ℕ) → is_some o ≡ false → o ≡ None
none_from_test None h = refl
none_from_test (Some i) h = cc

chosen : (b : Bool) (o : Option ℕ) (n : ℕ) → (b ≡ true → o ≡ None) → cond b (Some n) o ≡ or_at o (cond b (Some n) None)
chosen true o n h = rw (h refl) refl
chosen false None n h = refl
chosen false (Some i) n h = refl

-- a name in a list, or that of the relation behind it
place_of-push : (rs : List Relation) (r : Relation) (q : List ℕ)
    → place_of (rs ++ r ∷ []) q ≡ or_at (place_of rs q) (cond (bytes_eq q r.name) (Some (length rs)) None)
place_of-push rs r q = place-push (λ x. bytes_eq q x.name) 0 rs r
    ∙ ap (λ n. or_at (place_of rs q) (cond (bytes_eq q r.name) (Some n) None)) (zero-add (length rs))

-- an index that has each name at its place, and one name more
place_of-insert : (m : NameMap ℕ) (rs : List Relation) (r : Relation) → ((q : List ℕ) → map.get m q ≡ place_of rs q)
    → is_some (place_of rs r.name) ≡ false → (q : List ℕ) → map.get (map.insert m r.name (length rs)) q ≡ place_of (rs ++ r ∷ []) q
place_of-insert m rs r h new q =
    map.get-insert nat_list_cmp_total m r.name (length rs) q
    ∙ ap (λ b. cond b (Some (length rs)) (map.get m q)) (is_eq-slice_cmp q r.name)
    ∙ ap (λ o. cond (bytes_eq q r.name) (Some (length rs)) o) (h q)
    ∙ chosen (bytes_eq q r.name) (place_of rs q) (length rs)
    (λ e. ap (λ n. place_of rs n) ((bytes_eq-Decides q r.name).0 e) ∙ none_from_test (place_of rs r.name) new)
    ∙ sym (place_of-push rs r q)

module _ (rs : List Relation) (i : ℕ) (r : Relation) (is : r ≡ get_or rs i r) (within : i < length rs) where
  front : take (i + 1) rs ≡ take i rs ++ r ∷ []
  front = take_more rs i r within ∙ ap (λ x. take i rs ++ x ∷ []) (sym is)

  front_length : length (take i rs) ≡ i
  front_length = length-take-le i rs (omega arith)

  back : drop i rs ≡ r ∷ drop (i + 1) rs
  back = drop_more rs i r within ∙ ap (λ x. x ∷ drop (i + 1) rs) (sym is)

  -- the relation at i is judged after those before it
  pub refusal-step : (o : Option TableError) → o ≡ refusal_at i (is_some (place_of (take i rs) r.name)) r
      → refusal_after (take i rs) (drop i rs) ≡ or_else o (refusal_after (take (i + 1) rs) (drop (i + 1) rs))
  refusal-step o e =
      ap (λ xs. refusal_after (take i rs) xs) back
      ∙ ap (λ n. or_else (refusal_at n (is_some (place_of (take i rs) r.name)) r) (refusal_after (take i rs ++ r ∷ []) (drop (i + 1) rs)))
      front_length
      ∙ ap (λ p. or_else p (refusal_after (take i rs ++ r ∷ []) (drop (i + 1) rs))) (sym e)
      ∙ ap (λ xs. or_else o (refusal_after xs (drop (i + 1) rs))) (sym front)

  -- and its name goes into the index
  pub places-step : (m : NameMap ℕ) → ((q : List ℕ) → map.get m q ≡ place_of (take i rs) q)
      → is_some (place_of (take i rs) r.name) ≡ false → (q : List ℕ) → map.get (map.insert m r.name i) q ≡ place_of (take (i + 1) rs) q
  places-step m h new q =
      ap (λ n. map.get (map.insert m r.name n) q) (sym front_length)
      ∙ place_of-insert m (take i rs) r h new q
      ∙ ap (λ xs. place_of xs q) (sym front)

-- a relation that is refused for nothing has a new name
pub new_from_passed : (i : ℕ) (b : Bool) (r : Relation) → refusal_at i b r ≡ None → b ≡ false
new_from_passed i true r h = cc
new_from_passed i false r h = refl

passed : (a x y : Bool) (e f g : TableError) → (if a then Some e else if not x then Some f else if not y then Some g else None) ≡ None
    → (x ≡ true) × (y ≡ true)
passed true x y e f g h = (cc, cc)
passed false false y e f g h = (cc, cc)
passed false true false e f g h = (refl, cc)
passed false true true e f g h = (refl, refl)

IsSound-from_passed : (n : ℕ) (b : Bool) (r : Relation) → refusal_at n b r ≡ None → IsSound r
IsSound-from_passed n b r h =
    let p = passed (b || not (is_name r.name)) (are_columns r.columns) (are_even (length r.columns) r.rows) (BadName n) (BadColumn n)
    (RaggedRow n) h in
    record { columns = p.0; rows = p.1 }

neither : (o p : Option TableError) → or_else o p ≡ None → (o ≡ None) × (p ≡ None)
neither None p h = (refl, h)
neither (Some e) p h = (cc, cc)

-- each relation of a valid table is good
pub IsSound-at : (earlier rs : List Relation) → refusal_after earlier rs ≡ None → (i : ℕ) (d : Relation) → i < length rs
    → IsSound (get_or rs i d)
IsSound-at earlier [] h i d lt = absurd (let f : i < 0 = lt in omega arith)
IsSound-at earlier (r ∷ rs) h zero d lt =
    IsSound-from_passed (length earlier) (is_some (place_of earlier r.name)) r
    (neither (refusal_at (length earlier) (is_some (place_of earlier r.name)) r) (refusal_after (earlier ++ r ∷ []) rs) h).0
IsSound-at earlier (r ∷ rs) h (suc i) d lt =
    let later = (neither (refusal_at (length earlier) (is_some (place_of earlier r.name)) r) (refusal_after (earlier ++ r ∷ []) rs) h).1 in
    IsSound-at (earlier ++ r ∷ []) rs later i d (omega arith)

-- what is read at a place of a valid table
pub IsSound-read : (rs ts : List Relation) (place : ℕ) (r : Relation) → ts ≡ rs → IsValid rs → place < length rs → r ≡ get_or ts place r
    → IsSound r
IsSound-read rs ts place r same valid inside is =
    let good = IsSound-at [] rs valid place r inside in
    let e : r ≡ get_or rs place r = is ∙ ap (λ xs. get_or xs place r) same in
    subst (λ x. IsSound x) (sym e) good
