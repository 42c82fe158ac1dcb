-- Two fetches of positive limits are one fetch of both.
use Rattle.std.proofs.Common.{arith, ◌≡◌, ◌++◌, ◌∙◌, ◌+◌, ◌≤◌, ◌<◌, ◌⊎◌, inl, inr, List, [], ◌∷◌, ℕ, pos, Bool, true, false, Ok, Err, IsOk, map, length, take, drop, refl, sym, ap, append_assoc, nat_le}
use Rattle.std.proofs.lemmas.Bool.Decides.{nat_tests}
use Rattle.std.proofs.lemmas.List.{length-append, length-take-le, map-append, append-nil, take-append-drop}
use Rattle.pg_messages.specs.declared.data.DataRow.{DataRow}
use Rattle.pg_results.specs.declared.error.PgWireError.{PgWireError}
use Rattle.pg_results.specs.Told.{with_items, ToldRows}
use Rattle.pg_portal.specs.Fetching.{Fetched, AreOneFetch, fetched, fetched_page}
use Rattle.pg_results.specs.Page.{AtLimit, AtEnd, AtError, delivered_after, is_reached, item_page, before_error}
use Rattle.pg_results.specs.Rows.{RowItem}
use Rattle.pg_portal.specs.Told.{Stage, Unstarted, Started, Ended}
use Rattle.pg_portal.proofs.Fetches.{ends_so}
use Rattle.pg_results.proofs.Paging.{page_at_limit, page_at_end, page_at_error}

-- what stands behind the rows before the first error
abbrev tail_of : List RowItem → List RowItem
tail_of [] = []
tail_of (Ok row ∷ items) = tail_of items
tail_of (Err error ∷ items) = Err error ∷ items

whole : (items : List RowItem) → items ≡ map Ok (before_error items) ++ tail_of items
whole [] = refl
whole (Ok row ∷ items) = ap (λ items. Ok row ∷ items) (whole items)
whole (Err error ∷ items) = refl

tail_is : (items : List RowItem) → (tail_of items ≡ [])
    ⊎ ((error : PgWireError) × (left : List RowItem) × (tail_of items ≡ Err error ∷ left))
tail_is [] = inl refl
tail_is (Ok row ∷ items) = tail_is items
tail_is (Err error ∷ items) = inr (error, items, refl)

reached_at : (a n : ℕ) → 1 ≤ a → n ≡ a → is_reached (pos a) n ≡ true
reached_at a n h e = grind (arith, nat_tests)

not_reached : (a n : ℕ) → n < a → is_reached (pos a) n ≡ false
not_reached a n h = grind (arith, nat_tests)

fetched_at_limit : (a : ℕ) (r : ToldRows) (d : ℕ) (x : List DataRow) (items : List RowItem) → 1 ≤ a → length x ≡ a
    → r.items ≡ map Ok x ++ items
    → fetched (pos a) (Started r d) ≡ fetched_page r d x (AtLimit items)
fetched_at_limit a r d x items h len e =
    ends_so (pos a) r d x (AtLimit items) (ap (item_page (pos a)) e
    ∙ page_at_limit (pos a) x items (reached_at a (length x) h len) (sym len))

fetched_at_end : (a : ℕ) (r : ToldRows) (d : ℕ) (x : List DataRow) → length x < a → r.items ≡ map Ok x ++ []
    → fetched (pos a) (Started r d) ≡ fetched_page r d x AtEnd
fetched_at_end a r d x h e = ends_so (pos a) r d x AtEnd (ap (item_page (pos a)) e
    ∙ page_at_end (pos a) x [] refl (not_reached a (length x) h))

fetched_at_error : (a : ℕ) (r : ToldRows) (d : ℕ) (x : List DataRow) (error : PgWireError) (left : List RowItem) → length x < a
    → r.items ≡ map Ok x ++ Err error ∷ left
    → fetched (pos a) (Started r d) ≡ fetched_page r d [] (AtError error left)
fetched_at_error a r d x error left h e =
    ends_so (pos a) r d [] (AtError error left) (ap (item_page (pos a)) e ∙ page_at_error (pos a) x error left (not_reached a (length x) h))

-- a fetch, and the next one where it leaves the portal, are one
abbrev IsOne : ℕ → Fetched → Fetched → Type 0
IsOne b first both = IsOk first.answer → IsOk (fetched (pos b) first.stage).answer → AreOneFetch first (fetched (pos b) first.stage) both

one_from : (b : ℕ) (first both F1 F2 F3 : Fetched) → first ≡ F1 → fetched (pos b) F1.stage ≡ F2 → both ≡ F3
    → (IsOk F1.answer → IsOk F2.answer → AreOneFetch F1 F2 F3) → IsOne b first both
one_from b first both F1 F2 F3 f1 f2 f3 h = rw (f1, f3) (rw f2 h)

module _ (a b : ℕ) (r : ToldRows) (d : ℕ) (ha : 1 ≤ a) (hb : 1 ≤ b) where
  joined : (x y : List DataRow) (t : List RowItem) → map Ok x ++ (map Ok y ++ t) ≡ map Ok (x ++ y) ++ t
  joined x y t = sym (ap (λ l. l ++ t) (map-append Ok x y) ∙ append_assoc (map Ok x) (map Ok y) t)

  sum_after : (x y : List DataRow) → delivered_after d (length (x ++ y)) ≡ delivered_after (delivered_after d (length x)) (length y)
  sum_after x y = grind (arith, length-append x y)

  both_full : (x y : List DataRow) (t : List RowItem) → length x ≡ a → length y ≡ b → r.items ≡ map Ok x ++ (map Ok y ++ t)
      → IsOne b (fetched (pos a) (Started r d)) (fetched (pos (a + b)) (Started r d))
  both_full x y t lx ly e =
      one_from b _ _ _ _ _ (fetched_at_limit a r d x (map Ok y ++ t) ha lx e)
      (fetched_at_limit b (with_items r (map Ok y ++ t)) (delivered_after d (length x)) y t hb ly refl)
      (fetched_at_limit (a + b) r d (x ++ y) t (omega arith) (omega (arith, length-append x y)) (e ∙ joined x y t))
      (λ p q. record { answered = refl; rows = refl; stage = ap (Started (with_items r t)) (sum_after x y) })

  second_ends : (x y : List DataRow) (t : List RowItem) → length x ≡ a → length y < b → r.items ≡ map Ok x ++ (map Ok y ++ t)
      → (t ≡ []) ⊎ ((error : PgWireError) × (left : List RowItem) × (t ≡ Err error ∷ left))
      → IsOne b (fetched (pos a) (Started r d)) (fetched (pos (a + b)) (Started r d))
  second_ends x y t lx ly e (inl none) =
      let at = e ∙ ap (λ t. map Ok x ++ (map Ok y ++ t)) none in
      one_from b _ _ _ _ _ (fetched_at_limit a r d x (map Ok y ++ []) ha lx at)
      (fetched_at_end b (with_items r (map Ok y ++ [])) (delivered_after d (length x)) y ly refl)
      (fetched_at_end (a + b) r d (x ++ y) (omega (arith, length-append x y)) (at ∙ joined x y []))
      (λ p q. record { answered = refl; rows = refl; stage = ap Ended (sum_after x y) })
  second_ends x y t lx ly e (inr met) =
      let at = e ∙ ap (λ t. map Ok x ++ (map Ok y ++ t)) met.2 in
      one_from b _ _ _ _ _ (fetched_at_limit a r d x (map Ok y ++ Err met.0 ∷ met.1) ha lx at)
      (fetched_at_error b (with_items r (map Ok y ++ Err met.0 ∷ met.1)) (delivered_after d (length x)) y met.0 met.1 ly refl)
      refl (λ p q. cc)

  first_ends : (x : List DataRow) (t : List RowItem) → length x < a → r.items ≡ map Ok x ++ t
      → (t ≡ []) ⊎ ((error : PgWireError) × (left : List RowItem) × (t ≡ Err error ∷ left))
      → IsOne b (fetched (pos a) (Started r d)) (fetched (pos (a + b)) (Started r d))
  first_ends x t lx e (inl none) =
      let at = e ∙ ap (λ t. map Ok x ++ t) none in
      one_from b _ _ _ _ _ (fetched_at_end a r d x lx at) refl (fetched_at_end (a + b) r d x (omega arith) at)
      (λ p q. record { answered = refl; rows = sym (append-nil x); stage = refl })
  first_ends x t lx e (inr met) =
      one_from b _ _ _ _ _ (fetched_at_error a r d x met.0 met.1 lx (e ∙ ap (λ t. map Ok x ++ t) met.2)) refl refl (λ p q. cc)

  parted : (n : ℕ) (rows : List DataRow) (t : List RowItem) → map Ok rows ++ t ≡ map Ok (take n rows) ++ (map Ok (drop n rows) ++ t)
  parted n rows t = ap (λ (l : List DataRow). map Ok l ++ t) (sym (take-append-drop n rows)) ∙ sym (joined (take n rows) (drop n rows) t)

  by_second : (rows : List DataRow) (t : List RowItem) → a ≤ length rows → r.items ≡ map Ok rows ++ t
      → (t ≡ []) ⊎ ((error : PgWireError) × (left : List RowItem) × (t ≡ Err error ∷ left))
      → (p : Bool) → nat_le b (length (drop a rows)) ≡ p → IsOne b (fetched (pos a) (Started r d)) (fetched (pos (a + b)) (Started r d))
  by_second rows t h e k true is =
      let more : b ≤ length (drop a rows) = grind (arith, nat_tests) in
      both_full (take a rows) (take b (drop a rows)) (map Ok (drop b (drop a rows)) ++ t) (length-take-le a rows h)
      (length-take-le b (drop a rows) more)
      (e ∙ parted a rows t ∙ ap (λ l. map Ok (take a rows) ++ l) (parted b (drop a rows) t))
  by_second rows t h e k false is =
      let less : length (drop a rows) < b = grind (arith, nat_tests) in
      second_ends (take a rows) (drop a rows) t (length-take-le a rows h) less (e ∙ parted a rows t) k

  by_first : (rows : List DataRow) (t : List RowItem) → r.items ≡ map Ok rows ++ t
      → (t ≡ []) ⊎ ((error : PgWireError) × (left : List RowItem) × (t ≡ Err error ∷ left))
      → (p : Bool) → nat_le a (length rows) ≡ p → IsOne b (fetched (pos a) (Started r d)) (fetched (pos (a + b)) (Started r d))
  by_first rows t e k true is =
      let enough : a ≤ length rows = grind (arith, nat_tests) in
      by_second rows t enough e k (nat_le b (length (drop a rows))) refl
  by_first rows t e k false is =
      let less : length rows < a = grind (arith, nat_tests) in
      first_ends rows t less e k

  started : IsOne b (fetched (pos a) (Started r d)) (fetched (pos (a + b)) (Started r d))
  started = by_first (before_error r.items) (tail_of r.items) (whole r.items) (tail_is r.items) (nat_le a (length (before_error r.items)))
      refl

pub one_fetch : (a b : ℕ) (stage : Stage) → 1 ≤ a → 1 ≤ b → IsOne b (fetched (pos a) stage) (fetched (pos (a + b)) stage)
one_fetch a b Unstarted ha hb = λ p q. cc
one_fetch a b (Started r d) ha hb = started a b r d ha hb
one_fetch a b (Ended d) ha hb = λ p q. record { answered = refl; rows = refl; stage = refl }
