-- The relations of the load keep the rules of a table.
use Rattle.std.proofs.Common.{◌≡◌, ◌≢◌, ℕ, zero, suc, ◌+◌, ◌*◌, ◌%◌, ◌/◌, ◌^◌, ◌<◌, ◌≤◌, ◌==◌, ◌||◌, not, if◌then◌else◌, nat_le, Bool, true, false, List, [], ◌∷◌, ◌++◌, map, length, Some, None, refl, ap, sym, ◌∙◌, arith, eq-eqb, add-one}
use Rattle.std.specs.Option.{is_some}
use Rattle.std.specs.List.{AllByRecursion, list_all, position_from, range_with_len}
use Rattle.std.specs.Str.{bytes_eq}
use Rattle.std.proofs.lemmas.Bool.Decides.{nat_tests}
use Rattle.std.proofs.lemmas.Int.{ints}
use Rattle.std.proofs.lemmas.List.FromFn.{length-map-range_with_len, map-range_with_len_more}
use Rattle.pg_interval.specs.declared.pg_interval.Interval.{Interval}
use Rattle.pg_interval.specs.Cell.{IsInterval}
use Rattle.relation_tables.specs.declared.Relation.{Relation}
use Rattle.relation_tables.specs.Relations.{place_of, are_even}
use Rattle.relation_handlers.specs.declared.table.TableError.{TableError}
use Rattle.relation_handlers.specs.declared.table.TableError.TheVariants.{BadName, BadColumn, RaggedRow}
use Rattle.relation_tables.specs.Names.{is_name, is_column_name, are_columns}
use Rattle.relation_handlers.specs.Tables.{IsValid, HoldIntervals, IsRowWithin, AreRowsWithin, refusal_at, refusal_after, or_else}
use Rattle.relation_demo.specs.Draws.{step, after, draw}
use Rattle.relation_demo.specs.Load.{each_below, cell, row, rows, unready, width, height, draws, relation, relation_name, column_name, before, demo_relations}
use Rattle.relation_demo.proofs.DrawLemmas.{after-more, next_draw, each_below-more}
use Rattle.relation_demo.proofs.NameLemmas.{relation_name_is_good, column_name_is_good, other_names}

-- ---- what is made of each number

AllByRecursion-each : {X : Type 0} (P : X → Type 0) (f : ℕ → X) (a n : ℕ) → ((i : ℕ) → i < a + n → P (f i))
    → AllByRecursion P (map f (range_with_len a n))
AllByRecursion-each P f a zero each = tt
AllByRecursion-each P f a (suc n) each =
    (each a (omega arith), AllByRecursion-each P f (a + 1) n (λ i below. each i (omega arith)))

list_all-each : {X : Type 0} (p : X → Bool) (f : ℕ → X) (a n : ℕ) → ((i : ℕ) → i < a + n → p (f i) ≡ true)
    → list_all p (map f (range_with_len a n)) ≡ true
list_all-each p f a zero each = refl
list_all-each p f a (suc n) each =
    rw (each a (omega arith), list_all-each p f (a + 1) n (λ i below. each i (omega arith))) refl

no_place : {X : Type 0} (p : X → Bool) (f : ℕ → X) (place a n : ℕ) → ((i : ℕ) → i < a + n → p (f i) ≡ false)
    → position_from p place (map f (range_with_len a n)) ≡ None
no_place p f place a zero none = refl
no_place p f place a (suc n) none =
    rw (none a (omega arith)) (no_place p f (place + 1) (a + 1) n (λ i below. none i (omega arith)))

-- ---- draws

step-below : (x : ℕ) → step x / 2 ^ 33 < 2 ^ 31
unfolding step
step-below x = omega arith

draw-below : (x n : ℕ) → draw x n < 2 ^ 31
unfolding draw after
draw-below x n = rw add-one (step-below (after x n))

-- ---- one relation

few_columns : (x : ℕ) → width x ≤ 4
few_columns x = omega arith

columns_long : (x : ℕ) → length (each_below (width x) column_name) ≡ width x
columns_long x = length-map-range_with_len column_name 0 (width x)

columns_good : (x : ℕ) → are_columns (each_below (width x) column_name) ≡ true
columns_good x =
    let few : nat_le (length (each_below (width x) column_name)) 1600 ≡ true = grind (arith, nat_tests, columns_long x, few_columns x) in
    let names : list_all is_column_name (each_below (width x) column_name) ≡ true =
    list_all-each is_column_name column_name 0 (width x) (λ i below. column_name_is_good i (omega (arith, few_columns x))) in
    rw (few, names) refl

rows_even : (x : ℕ) (i : ℕ) → let r = relation x i in are_even (length r.columns) r.rows ≡ true
rows_even x i =
    list_all-each (λ cells. length cells == length (each_below (width x) column_name))
    (λ r. row (after (after x 3) (3 * width x * r)) (width x)) 0 (height x)
    (λ r below. eq-eqb _ _ (length-map-range_with_len (λ c. cell (after (after (after x 3) (3 * width x * r)) (3 * c))) 0 (width x)
    ∙ sym (columns_long x)))

-- ---- all relations

abbrev drawn : ℕ → ℕ → Relation
drawn seed i = relation (before seed i) i

is_new : (seed i : ℕ) → i < 10 ^ 5 → place_of (each_below i (drawn seed)) (relation_name i) ≡ None
is_new seed i few = no_place (λ r. bytes_eq (relation_name i) r.name) (drawn seed) 0 0 i
    (λ j below. let other : i ≢ j = omega arith in other_names i j few (omega arith) other)

passes : (taken name columns even : Bool) (e f g : TableError) → taken ≡ false → name ≡ true → columns ≡ true → even ≡ true
    → (if taken || not name then Some e else if not columns then Some f else if not even then Some g else None) ≡ None
passes taken name columns even e f g h i j k = rw (h, i, j, k) refl

none_refused : (seed a n : ℕ) → a + n ≤ 10000 → refusal_after (each_below a (drawn seed)) (map (drawn seed) (range_with_len a n)) ≡ None
none_refused seed a zero few = refl
none_refused seed a (suc n) few =
    let x = before seed a in
    let earlier = each_below a (drawn seed) in
    let later = map (drawn seed) (range_with_len (a + 1) n) in
    let place = length earlier in
    let first : refusal_at place (is_some (place_of earlier (relation_name a))) (drawn seed a) ≡ None =
    passes (is_some (place_of earlier (relation_name a))) (is_name (relation_name a)) (are_columns (drawn seed a).columns)
    (are_even (length (drawn seed a).columns) (drawn seed a).rows) (BadName place) (BadColumn place) (RaggedRow place)
    (ap is_some (is_new seed a (omega arith))) (relation_name_is_good a (omega arith)) (columns_good x) (rows_even x a) in
    let rest : refusal_after (earlier ++ drawn seed a ∷ []) later ≡ None =
    ap (λ e. refusal_after e later) (sym (map-range_with_len_more (drawn seed) 0 a a (omega arith)))
    ∙ none_refused seed (a + 1) n (omega arith) in
    ap (λ o. or_else o (refusal_after (earlier ++ drawn seed a ∷ []) later)) first ∙ rest

pub is_valid : (seed count : ℕ) → count ≤ 10000 → IsValid (demo_relations seed count)
unfolding demo_relations
is_valid seed count few = none_refused seed 0 count (omega arith)

-- as many as were asked for
pub how_many : (seed count : ℕ) → length (demo_relations seed count) ≡ count
unfolding demo_relations
how_many seed count = length-map-range_with_len (drawn seed) 0 count

-- ---- intervals and polls

cell_within : (x : ℕ) → IsInterval (cell x)
cell_within x = record {
  months = omega (arith, ints);
  days = omega (arith, ints);
  microseconds = omega (arith, ints, draw-below x 2);
}

row_within : (x width : ℕ) → IsRowWithin (row x width)
row_within x width = AllByRecursion-each IsInterval (λ c. cell (after x (3 * c))) 0 width (λ c below. cell_within (after x (3 * c)))

rows_within : (x width count : ℕ) → AreRowsWithin (rows x width count)
rows_within x width count =
    AllByRecursion-each IsRowWithin (λ r. row (after x (3 * width * r)) width) 0 count
    (λ r below. row_within (after x (3 * width * r)) width)

pub hold_intervals : (seed count : ℕ) → HoldIntervals (demo_relations seed count)
unfolding demo_relations
hold_intervals seed count = AllByRecursion-each (λ r. AreRowsWithin r.rows) (drawn seed) 0 count
    (λ i below. let x = before seed i in rows_within (after x 3) (width x) (height x))

pub few_polls : (seed count : ℕ) → AllByRecursion (λ r. r.unready ≤ 2) (demo_relations seed count)
unfolding demo_relations
few_polls seed count = AllByRecursion-each (λ r. r.unready ≤ 2) (drawn seed) 0 count (λ i below. omega arith)

-- ---- drawn one after another

pub cell_from : (x : ℕ) (i : Interval) → i.months ≡ (cell x).months → i.days ≡ (cell x).days → i.microseconds ≡ (cell x).microseconds
    → i ≡ cell x
cell_from x i months days microseconds = λ k. record { months = months k; days = days k; microseconds = microseconds k }

-- the first three draws of a relation: a remainder each, and the generator behind each
pub record Head (x owed wide high three : ℕ) : Type 0 where
  pub unready : owed ≡ unready x
  pub width : 1 + wide ≡ width x
  pub height : high ≡ height x
  pub rest : three ≡ after x 3

pub head_of : (x owed wide high one two three : ℕ) → owed ≡ draw x 0 % 3 → one ≡ after x 1 → wide ≡ draw one 0 % 4 → two ≡ after one 1
    → high ≡ draw two 0 % 20 → three ≡ after two 1 → Head x owed wide high three
head_of x owed wide high one two three owes first is_wide second is_high third =
    let both : two ≡ after x 2 = after-more x 1 1 2 one two first second (omega arith) in
    record {
      unready = owes;
      width = ap (λ n. 1 + n) is_wide ∙ ap (λ n. 1 + n % 4) (next_draw x 1 1 one first (omega arith));
      height = is_high ∙ ap (λ n. n % 20) (next_draw x 2 2 two both (omega arith));
      rest = after-more x 2 1 3 two three both third (omega arith);
    }

pub relation_from : (x i : ℕ) (name : List ℕ) (owed : ℕ) (columns : List (List ℕ)) (cells : List (List Interval)) → name ≡ relation_name i
    → owed ≡ unready x → columns ≡ each_below (width x) column_name → cells ≡ rows (after x 3) (width x) (height x)
    → record { name = name; unready = owed; columns = columns; rows = cells } ≡ relation x i
relation_from x i name owed columns cells e f g h = λ k. record { name = e k; unready = f k; columns = g k; rows = h k }

pub first_before : (seed : ℕ) → seed ≡ before seed 0
unfolding before
first_before seed = refl

pub next_before : (seed n x y : ℕ) → x ≡ before seed n → y ≡ after x (draws x) → y ≡ before seed (n + 1)
unfolding before
next_before seed n x y e f = rw add-one (f ∙ ap (λ w. after w (draws w)) e)

pub none_yet : (seed : ℕ) → [] ≡ demo_relations seed 0
unfolding demo_relations
none_yet seed = refl

pub next_relation : (seed n x : ℕ) (front all : List Relation) (r : Relation) → front ≡ demo_relations seed n → all ≡ front ++ r ∷ []
    → x ≡ before seed n
    → r ≡ relation x n → all ≡ demo_relations seed (n + 1)
unfolding demo_relations
next_relation seed n x front all r e grown f is = each_below-more (drawn seed) n front all r e grown (is ∙ ap (λ w. relation w n) f)
