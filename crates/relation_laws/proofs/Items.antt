-- Pages over items that a function makes of rows: an error is met exactly where one of the rows of the page is refused.
use Rattle.std.proofs.Common.{arith, ◌≡◌, ◌∙◌, ◌+◌, ◌-◌, ◌≤◌, ◌<◌, ◌⊎◌, inl, inr, ℕ, zero, suc, ℤ, pos, negsuc, Bool, true, false, if◌then◌else◌, List, [], ◌∷◌, Option, Some, None, Result, Ok, Err, map, length, take, drop, get_or, nat_le, refl, sym, ap, unsigned_abs}
use Rattle.std.specs.List.{Contains}
use Rattle.std.proofs.lemmas.Bool.Decides.{nat_tests}
use Rattle.std.proofs.lemmas.List.{length-map, length-drop, length-take-le, get_or-take, drop-map}
use Rattle.pg_interval.specs.declared.pg_interval.Interval.{Interval}
use Rattle.pg_results.specs.declared.error.PgWireError.{PgWireError}
use Rattle.pg_results.specs.Page.{Page, PageEnd, AtLimit, AtError, is_reached, page, ended_page, item_page, before_error, first_error}
use Rattle.relation_tables.proofs.ItemsAgree.{drop-further}
use Rattle.relation_laws.specs.Causes.{last_rows}

some_is : {A : Type 0} (x y : A) → Some x ≡ Some y → x ≡ y
some_is x y e = cc

limit_at : (limit : ℤ) (n m : ℕ) → is_reached limit n ≡ false → is_reached limit m ≡ true
    → (n < unsigned_abs limit) × (unsigned_abs limit ≤ m)
limit_at (pos l) n m never reached = (grind (arith, nat_tests), grind (arith, nat_tests))
limit_at (negsuc l) n m never reached = cc

limit_within : (limit : ℤ) (n m : ℕ) → is_reached limit n ≡ true → n ≤ m → (unsigned_abs limit ≤ n) × (is_reached limit m ≡ true)
limit_within (pos l) n m reached h = (grind (arith, nat_tests), grind (arith, nat_tests))
limit_within (negsuc l) n m reached h = cc

-- the rows of a page, by whether its limit is reached
abbrev page_rows : {R : Type 0} → Bool → ℤ → List R → List R
page_rows b limit rows =
    let p : Page _ = (if b then (record { rows = take (unsigned_abs limit) rows; suspended = true })
    else (record { rows = rows; suspended = false })) in
    p.rows

-- how a page over items ends, by whether its limit is reached
abbrev ending_by : {A : Type 0} → Bool → ℤ → List (Result A PgWireError) → PageEnd A
ending_by {A} b limit items =
    let rows = before_error items in
    let p : Page A = (if b then (record { rows = take (unsigned_abs limit) rows; suspended = true })
    else (record { rows = rows; suspended = false })) in
    (if p.suspended then (record { rows = p.rows; ending = AtLimit (drop (length p.rows) items) })
    else ended_page p.rows (first_error items)).ending

module _ {R A : Type 0} (f : R → Result A PgWireError) where
  -- the items
  abbrev made : List R → List (Result A PgWireError)
  made rows = map f rows

  -- so many items stand before the first error
  abbrev before : List R → ℕ
  before rows = length (before_error (made rows))

  before_within : (rows : List R) → before rows ≤ length rows
  before_within [] = omega arith
  before_within (row ∷ rows) = by_item (f row) (before_within rows)
    where
      by_item : (x : Result A PgWireError) → before rows ≤ length rows → length (before_error (x ∷ made rows)) ≤ suc (length rows)
      by_item (Ok a) h = omega (arith, h)
      by_item (Err e) h = omega arith

  -- the row of the first error
  first_row : (rows : List R) (e : PgWireError) (left : List (Result A PgWireError)) → first_error (made rows) ≡ Some (e, left)
      → (row : R) × (before rows < length rows) × (get_or rows (before rows) row ≡ row) × (f row ≡ Err e)
  first_row [] e left h = cc
  first_row (row ∷ rows) e left h = by_item (f row) refl h (first_row rows e left)
    where
      by_item : (x : Result A PgWireError) → f row ≡ x → first_error (x ∷ made rows) ≡ Some (e, left)
          → (first_error (made rows) ≡ Some (e, left)
          → (r : R) × (before rows < length rows) × (get_or rows (before rows) r ≡ r) × (f r ≡ Err e))
          → (r : R) × (length (before_error (x ∷ made rows)) < suc (length rows))
          × (get_or (row ∷ rows) (length (before_error (x ∷ made rows))) r ≡ r) × (f r ≡ Err e)
      by_item (Ok a) is h later = let found = later h in (found.0, omega (arith, found.1), found.2, found.3)
      by_item (Err w) is h later = let same : w ≡ e = ap (λ p. p.0) (some_is (w, made rows) (e, left) h) in
          (row, omega arith, refl, is ∙ ap Err same)

  -- where a row is refused, the first error stands at it or before it
  abbrev FirstAt : ℕ → List (Result A PgWireError) → Type 0
  FirstAt k items = (length (before_error items) ≤ k)
      × ((e : PgWireError) × (left : List (Result A PgWireError)) × (first_error items ≡ Some (e, left)))

  refused_at : (rows : List R) (k : ℕ) (row : R) (e : PgWireError) → k < length rows → get_or rows k row ≡ row → f row ≡ Err e
      → FirstAt k (made rows)
  refused_at [] k row e inside at is = absurd (omega (arith, inside))
  refused_at (x ∷ rows) zero row e inside at is = by_item (f x) (ap f at ∙ is)
    where
      by_item : (y : Result A PgWireError) → y ≡ Err e → FirstAt 0 (y ∷ made rows)
      by_item (Ok a) h = cc
      by_item (Err w) h = (omega arith, (w, made rows, refl))
  refused_at (x ∷ rows) (suc k) row e inside at is = by_item (f x) (refused_at rows k row e (omega (arith, inside)) at is)
    where
      by_item : (y : Result A PgWireError) → FirstAt k (made rows) → FirstAt (suc k) (y ∷ made rows)
      by_item (Ok a) h = (omega (arith, h.0), h.1)
      by_item (Err w) h = (omega arith, (w, made rows, refl))

  -- ---- all rows

  pub first_of_rows : (rows : List R) (e : PgWireError) (left : List (Result A PgWireError)) → first_error (made rows) ≡ Some (e, left)
      → (row : R) × Contains rows row × (f row ≡ Err e)
  first_of_rows rows e left h = let found = first_row rows e left h in (found.0, (before rows, found.1, found.2), found.3)

  pub rows_have_first : (rows : List R) (row : R) (e : PgWireError) → Contains rows row → f row ≡ Err e
      → (w : PgWireError) × (left : List (Result A PgWireError)) × (first_error (made rows) ≡ Some (w, left))
  rows_have_first rows row e at is = (refused_at rows at.0 row e at.1 at.2 is).1

  -- ---- a page

  in_page : (b : Bool) (limit : ℤ) (rows : List R) (row : R) → is_reached limit (length rows) ≡ b → is_reached limit (before rows) ≡ false
      → before rows < length rows → get_or rows (before rows) row ≡ row → Contains (page_rows b limit rows) row
  in_page true limit rows row e never inside at =
      let l = limit_at limit (before rows) (length rows) never e in
      let within : unsigned_abs limit ≤ length rows = l.1 in (
        before rows,
        omega (arith, l.0, length-take-le (unsigned_abs limit) rows within),
        get_or-take (unsigned_abs limit) rows (before rows) row l.0 ∙ at,
      )
  in_page false limit rows row e never inside at = (before rows, inside, at)

  ended : (b : Bool) (limit : ℤ) (rows : List R) (e : PgWireError) (left : List (Result A PgWireError))
      → is_reached limit (before rows) ≡ b → ending_by b limit (made rows) ≡ AtError e left
      → (is_reached limit (before rows) ≡ false) × (first_error (made rows) ≡ Some (e, left))
  ended true limit rows e left is h = cc
  ended false limit rows e left is h = by_first (first_error (made rows)) h
    where
      by_first : (x : Option (PgWireError × List (Result A PgWireError)))
          → (ended_page (before_error (made rows)) x).ending ≡ AtError e left
          → (is_reached limit (before rows) ≡ false) × (x ≡ Some (e, left))
      by_first None h = cc
      by_first (Some (w, others)) h =
          let same : w ≡ e = cc in
          let rest : others ≡ left = cc in
          (is, ap (λ (w : PgWireError). Some (w, others)) same ∙ ap (λ (l : List (Result A PgWireError)). Some (e, l)) rest)

  -- a page that meets an error meets it at one of its rows
  pub page_met : (limit : ℤ) (rows : List R) (e : PgWireError) (left : List (Result A PgWireError))
      → (item_page limit (made rows)).ending ≡ AtError e left
      → (row : R) × Contains (page limit rows).rows row × (f row ≡ Err e)
  page_met limit rows e left h =
      let met = ended (is_reached limit (before rows)) limit rows e left refl h in
      let found = first_row rows e left met.1 in
      (found.0, in_page (is_reached limit (length rows)) limit rows found.0 refl met.0 found.1 found.2, found.3)

  inside_page : (b : Bool) (limit : ℤ) (rows : List R) (row : R) → is_reached limit (length rows) ≡ b
      → (at : Contains (page_rows b limit rows) row)
      → (at.0 < length rows) × (get_or rows at.0 row ≡ row) × ((l : ℕ) → is_reached limit l ≡ true → l ≤ at.0 → ⊥)
  inside_page true limit rows row e at =
      let within : unsigned_abs limit ≤ length rows = (limit_within limit (length rows) (length rows) e (omega arith)).0 in
      let len = length-take-le (unsigned_abs limit) rows within in
      let less : at.0 < unsigned_abs limit = omega (arith, at.1, len) in (
        omega (arith, less, within),
        sym (get_or-take (unsigned_abs limit) rows at.0 row less) ∙ at.2,
        λ l reached below. let k = limit_within limit l l reached (omega arith) in omega (arith, k.0, less, below),
      )
  inside_page false limit rows row e at = (
    at.1,
    at.2,
    λ l reached below.
        let k = limit_within limit l (length rows) reached (omega (arith, at.1, below)) in let f : ⊥ = cc in f,
  )

  -- the rows of a page are among the rows
  pub page_within : (limit : ℤ) (rows : List R) (row : R) → Contains (page limit rows).rows row → Contains rows row
  page_within limit rows row at =
      let inside = inside_page (is_reached limit (length rows)) limit rows row refl at in (at.0, inside.0, inside.1)

  refused_ending : (b : Bool) (limit : ℤ) (rows : List R) → is_reached limit (before rows) ≡ b → (is_reached limit (before rows) ≡ true → ⊥)
      → (w : PgWireError) (left : List (Result A PgWireError)) → first_error (made rows) ≡ Some (w, left)
      → ending_by b limit (made rows) ≡ AtError w left
  refused_ending true limit rows is never w left h = absurd (never is)
  refused_ending false limit rows is never w left h = ap (λ x. (ended_page (before_error (made rows)) x).ending) h

  -- a page with a row that is refused meets an error
  pub page_meets : (limit : ℤ) (rows : List R) (row : R) (e : PgWireError) → Contains (page limit rows).rows row → f row ≡ Err e
      → (w : PgWireError) × (left : List (Result A PgWireError)) × ((item_page limit (made rows)).ending ≡ AtError w left)
  page_meets limit rows row e at is =
      let inside = inside_page (is_reached limit (length rows)) limit rows row refl at in
      let first = refused_at rows at.0 row e inside.0 inside.1 is in (
        first.1.0,
        first.1.1,
        refused_ending (is_reached limit (before rows)) limit rows refl (λ reached. inside.2 (before rows) reached first.0)
            first.1.0 first.1.1 first.1.2,
      )

-- ---- what a page leaves

module _ {A : Type 0} where
  behind_error : (items : List (Result A PgWireError)) (e : PgWireError) (left : List (Result A PgWireError))
      → first_error items ≡ Some (e, left)
      → (k : ℕ) × (left ≡ drop k items)
  behind_error [] e left h = cc
  behind_error (Ok a ∷ items) e left h = let found = behind_error items e left h in (suc found.0, found.1)
  behind_error (Err w ∷ items) e left h = let same : items ≡ left = ap (λ p. p.1) (some_is (w, items) (e, left) h) in (1, sym same)

  left_at_limit : (b : Bool) (limit : ℤ) (items left : List (Result A PgWireError)) → ending_by b limit items ≡ AtLimit left
      → (k : ℕ) × (left ≡ drop k items)
  left_at_limit true limit items left h =
      let k = length (take (unsigned_abs limit) (before_error items)) in
      let same : drop k items ≡ left = cc in (k, sym same)
  left_at_limit false limit items left h = by_first (first_error items) h
    where
      by_first : (x : Option (PgWireError × List (Result A PgWireError))) → (ended_page (before_error items) x).ending ≡ AtLimit left
          → (k : ℕ) × (left ≡ drop k items)
      by_first None h = cc
      by_first (Some w) h = cc

  left_at_error : (b : Bool) (limit : ℤ) (items : List (Result A PgWireError)) (e : PgWireError) (left : List (Result A PgWireError))
      → ending_by b limit items ≡ AtError e left → (k : ℕ) × (left ≡ drop k items)
  left_at_error true limit items e left h = cc
  left_at_error false limit items e left h = by_first (first_error items) refl h
    where
      by_first : (x : Option (PgWireError × List (Result A PgWireError))) → first_error items ≡ x
          → (ended_page (before_error items) x).ending ≡ AtError e left → (k : ℕ) × (left ≡ drop k items)
      by_first None is h = cc
      by_first (Some (w, others)) is h =
          let same : others ≡ left = cc in
          let found = behind_error items w others is in (found.0, sym same ∙ found.1)

  pub left_by_page : (limit : ℤ) (items left : List (Result A PgWireError)) → (item_page limit items).ending ≡ AtLimit left
      → (k : ℕ) × (left ≡ drop k items)
  left_by_page limit items left h = left_at_limit (is_reached limit (length (before_error items))) limit items left h

  pub left_by_error : (limit : ℤ) (items : List (Result A PgWireError)) (e : PgWireError) (left : List (Result A PgWireError))
      → (item_page limit items).ending ≡ AtError e left → (k : ℕ) × (left ≡ drop k items)
  left_by_error limit items e left h = left_at_error (is_reached limit (length (before_error items))) limit items e left h

-- ---- the last rows

past_end : {A : Type 0} (n : ℕ) (xs : List A) → length xs ≤ n → drop n xs ≡ []
past_end zero [] h = refl
past_end (suc n) [] h = refl
past_end zero (x ∷ xs) h = absurd (omega (arith, h))
past_end (suc n) (x ∷ xs) h = past_end n xs (omega (arith, h))

same_drop : {A : Type 0} (xs : List A) (a b : ℕ) → (a ≡ b) ⊎ ((length xs ≤ a) × (length xs ≤ b)) → drop a xs ≡ drop b xs
same_drop xs a b (inl e) = ap (λ n. drop n xs) e
same_drop xs a b (inr h) = past_end a xs h.0 ∙ sym (past_end b xs h.1)

drop_drop : {A : Type 0} (n k : ℕ) (xs : List A) → drop k (drop n xs) ≡ drop (n + k) xs
drop_drop n k xs = sym (drop-further n k xs)

-- where items are those of the last rows, so are the items that are left of them
pub still_last : {X : Type 0} (f : List Interval → X) (rows : List (List Interval)) (items : List X) (k : ℕ)
    → items ≡ map f (last_rows rows items) → drop k items ≡ map f (last_rows rows (drop k items))
still_last f rows items k h =
    let count : length items ≡ length (last_rows rows items) = ap length h ∙ length-map (last_rows rows items) f in
    let dropped : length (last_rows rows items) ≡ length rows - (length rows - length items) =
    length-drop (length rows - length items) rows in
    let left : length (drop k items) ≡ length items - k = length-drop k items in
    let within : length items ≤ length rows = omega (arith, count, dropped) in
    ap (drop k) h ∙ drop-map f k (last_rows rows items)
    ∙ ap (map f) (drop_drop (length rows - length items) k rows
    ∙ same_drop rows (length rows - length items + k) (length rows - length (drop k items)) (by_size within left (either k (length items))))
  where
    either : (k n : ℕ) → (k ≤ n) ⊎ (n ≤ k)
    either k n = by_test (nat_le k n) refl
      where
        by_test : (b : Bool) → nat_le k n ≡ b → (k ≤ n) ⊎ (n ≤ k)
        by_test true e = inl (grind (arith, nat_tests, e))
        by_test false e = inr (grind (arith, nat_tests, e))

    by_size : length items ≤ length rows → length (drop k items) ≡ length items - k → (k ≤ length items) ⊎ (length items ≤ k)
        → (length rows - length items + k ≡ length rows - length (drop k items))
        ⊎ ((length rows ≤ length rows - length items + k) × (length rows ≤ length rows - length (drop k items)))
    by_size within left (inl h) = inl (omega (arith, within, left, h))
    by_size within left (inr h) = inr (omega (arith, within, h), omega (arith, within, left, h))

-- all rows are the last rows of as many items
pub all_are_last : {X : Type 0} (f : List Interval → X) (rows : List (List Interval)) → last_rows rows (map f rows) ≡ rows
all_are_last f rows = let e : length rows - length (map f rows) ≡ 0 = omega (arith, length-map rows f) in ap (λ n. drop n rows) e
