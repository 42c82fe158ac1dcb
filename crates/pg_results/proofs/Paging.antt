-- A page over items, as it is taken item by item.
use Rattle.std.proofs.Common.{arith, ◌≡◌, ◌++◌, ◌≤◌, ◌+◌, List, [], ◌∷◌, ℕ, ℤ, pos, negsuc, Bool, true, false, Option, Some, None, Result, Ok, Err, map, length, take, drop, refl, sym, ap, ◌∙◌, append_assoc, if◌then◌else◌, unsigned_abs, to_z, of_z}
use mir.Val.{SFits}
use mir.Syntax.{w32}
use Rattle.std.proofs.lemmas.Bool.Decides.{nat_tests}
use Rattle.std.proofs.lemmas.Int.{to_z-of_z}
use Rattle.std.proofs.lemmas.List.{length-append, map-append, append-nil}
use Rattle.std.proofs.Math.Seq.{take-append_seam}
use Rattle.pg_results.specs.declared.error.PgWireError.{PgWireError}
use Rattle.pg_results.specs.Page.{ItemPage, AtLimit, AtEnd, AtError, is_reached, page, item_page, before_error, first_error, ended_page}

reached_later : (limit : ℤ) (m n : ℕ) → m ≤ n → is_reached limit m ≡ true → is_reached limit n ≡ true
reached_later (pos l) m n h e = grind (arith, nat_tests)
reached_later (negsuc l) m n h e = e

module _ {A : Type 0} where
  before_error-rows : (done : List A) (items : List (Result A PgWireError))
      → before_error (map Ok done ++ items) ≡ done ++ before_error items
  before_error-rows [] items = refl
  before_error-rows (row ∷ done) items = ap (λ rows. row ∷ rows) (before_error-rows done items)

  first_error-rows : (done : List A) (items : List (Result A PgWireError)) → first_error (map Ok done ++ items) ≡ first_error items
  first_error-rows [] items = refl
  first_error-rows (row ∷ done) items = first_error-rows done items

  -- the page over items, of the rows before the first error and of that error
  abbrev split_page : ℤ → List (Result A PgWireError) → List A → Option (PgWireError × List (Result A PgWireError)) → ItemPage A
  split_page limit items rows first =
      let p = page limit rows in
      if p.suspended then (record { rows = p.rows; ending = AtLimit (drop (length p.rows) items) }) else ended_page p.rows first

  split : (limit : ℤ) (items : List (Result A PgWireError)) (rows : List A) (first : Option (PgWireError × List (Result A PgWireError)))
      → before_error items ≡ rows → first_error items ≡ first → item_page limit items ≡ split_page limit items rows first
  split limit items rows first is was = rw (← is, ← was) refl

  suspended : (limit : ℤ) (items : List (Result A PgWireError)) (rows : List A) (first : Option (PgWireError × List (Result A PgWireError)))
      → is_reached limit (length rows) ≡ true
      → split_page limit items rows first ≡ record {
        rows = take (unsigned_abs limit) rows;
        ending = AtLimit (drop (length (take (unsigned_abs limit) rows)) items);
      }
  suspended limit items rows first e = rw e refl

  complete : (limit : ℤ) (items : List (Result A PgWireError)) (rows : List A) (first : Option (PgWireError × List (Result A PgWireError)))
      → is_reached limit (length rows) ≡ false → split_page limit items rows first ≡ ended_page rows first
  complete limit items rows first e = rw e refl

  dropped : (done : List A) (items : List (Result A PgWireError)) → drop (length done) (map Ok done ++ items) ≡ items
  dropped [] items = refl
  dropped (row ∷ done) items = dropped done items

  -- as many rows as the limit were taken
  pub page_at_limit : (limit : ℤ) (done : List A) (items : List (Result A PgWireError))
      → is_reached limit (length done) ≡ true → unsigned_abs limit ≡ length done
      → item_page limit (map Ok done ++ items) ≡ record { rows = done; ending = AtLimit items }
  page_at_limit limit done items e is =
      let rows = done ++ before_error items in
      let first = first_error items in
      split limit (map Ok done ++ items) rows first (before_error-rows done items) (first_error-rows done items)
      ∙ suspended limit (map Ok done ++ items) rows first (reached_later limit (length done) (length rows) (omega (
        arith,
        length-append done (before_error items),
      )) e)
      ∙ rw (is, take-append_seam done (before_error items)) (ap (λ left. record {
        rows = done;
        ending = AtLimit left;
      }) (dropped done items))

  -- the items ended before the limit
  pub page_at_end : (limit : ℤ) (done : List A) (items : List (Result A PgWireError)) → items ≡ []
      → is_reached limit (length done) ≡ false
      → item_page limit (map Ok done ++ items) ≡ record { rows = done; ending = AtEnd }
  page_at_end limit done items none e =
      rw none (split limit (map Ok done ++ []) done None (before_error-rows done [] ∙ append-nil done) (first_error-rows done [])
      ∙ complete limit (map Ok done ++ []) done None e)

  -- an error stood before the limit
  pub page_at_error : (limit : ℤ) (done : List A) (error : PgWireError) (items : List (Result A PgWireError))
      → is_reached limit (length done) ≡ false
      → item_page limit (map Ok done ++ Err error ∷ items) ≡ record { rows = []; ending = AtError error items }
  page_at_error limit done error items e =
      split limit (map Ok done ++ Err error ∷ items) done (Some (
        error,
        items,
      )) (before_error-rows done (Err error ∷ items) ∙ append-nil done) (first_error-rows done (Err error ∷ items))
      ∙ complete limit (map Ok done ++ Err error ∷ items) done (Some (error, items)) e

-- Rows were taken of the items, and the limit wasn't passed.
pub record GoesOn {A : Type 0} (limit : ℤ) (old : List (Result A PgWireError)) (done : List A) (items : List (Result A PgWireError)) : Type
    0 where
  pub taken : old ≡ map Ok done ++ items
  pub within : is_reached limit (length done) ≡ true → unsigned_abs limit ≡ length done

reached_now : (limit : ℤ) (n : ℕ) → is_reached limit n ≡ false → is_reached limit (n + 1) ≡ true → unsigned_abs limit ≡ n + 1
reached_now (pos l) n before after = grind (arith, nat_tests)
reached_now (negsuc l) n before after = cc

never_at_none : (limit : ℤ) → is_reached limit 0 ≡ true → unsigned_abs limit ≡ 0
never_at_none (pos l) e = grind (arith, nat_tests)
never_at_none (negsuc l) e = cc

pub begins : {A : Type 0} (limit : ℤ) (old : List (Result A PgWireError)) → GoesOn limit old [] old
begins limit old = record { taken = refl; within = never_at_none limit }

pub goes_on : {A : Type 0} (limit : ℤ) (old : List (Result A PgWireError)) (done : List A) (items left : List (Result A PgWireError))
    (row : A)
    → GoesOn limit old done items → is_reached limit (length done) ≡ false → items ≡ Ok row ∷ left
    → GoesOn limit old (done ++ row ∷ []) left
goes_on limit old done items left row h before is = record {
  taken = h.taken ∙ ap (λ items. map Ok done ++ items) is
      ∙ sym (ap (λ l. l ++ left) (map-append Ok done (row ∷ [])) ∙ append_assoc (map Ok done) (Ok row ∷ []) left);
  within = rw (length-append done (row ∷ [])) (λ after. reached_now limit (length done) before after);
}

-- what the test of a loop says, which passes its limit as 32 bits
pub test_is : (limit : ℤ) (m n : ℕ) (r b : Bool) → SFits w32 limit → r ≡ is_reached (to_z w32 (of_z w32 limit)) m → m ≡ n → r ≡ b
    → is_reached limit n ≡ b
test_is limit m n r b fits is len e =
    ap (λ (z : ℤ). is_reached z n) (sym (to_z-of_z w32 limit fits)) ∙ ap (is_reached (to_z w32 (of_z w32 limit))) (sym len) ∙ sym is ∙ e
