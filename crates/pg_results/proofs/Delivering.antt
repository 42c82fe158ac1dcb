-- A page, as it is delivered row by row.
use Rattle.std.proofs.Common.{arith, ◌≡◌, ◌++◌, ◌<◌, ◌+◌, ◌^◌, inl, inr, List, [], ◌∷◌, ℕ, ℤ, pos, negsuc, Bool, true, false, Ok, Err, map, length, refl, sym, ap, subst, ◌∙◌, append_assoc, append-nil, to_z, of_z}
use Rattle.std.proofs.lemmas.Bool.Decides.{nat_tests}
use Rattle.std.proofs.lemmas.List.{length-append, map-append}
use mir.Val.{SFits}
use mir.Syntax.{w32}
use Rattle.pg_messages.specs.declared.data.DataRow.{DataRow}
use Rattle.pg_results.specs.declared.error.PgWireError.{PgWireError}
use Rattle.pg_results.specs.declared.error.PgWireError.TheVariants.{NoMemory}
use Rattle.pg_results.specs.Page.{ItemPage, AtLimit, AtEnd, EndsPage, CutsPage, delivered_after, is_reached, item_page}
use Rattle.pg_results.specs.Rows.{RowItem}
use Rattle.pg_results.proofs.Paging.{GoesOn, begins, goes_on, page_at_limit, page_at_end, page_at_error, test_is}

-- The rows so far were taken of the items and received, and they were counted.
pub record IsDelivering {T : Type 0} (with_rows : T → List DataRow → T) (limit : ℤ) (old : List RowItem) (begun : T)
    (left : List RowItem) (now : T) (count : ℕ) : Type 0 where
  pub rows : List DataRow
  pub going : GoesOn limit old rows left
  pub received : now ≡ with_rows begun rows
  pub counted : count ≡ delivered_after 0 (length rows)

-- a page was delivered, and ended so
pub record HasEnded {T : Type 0} (with_rows : T → List DataRow → T) (page : ItemPage DataRow) (old : List RowItem) (begun : T)
    (before : ℕ) (suspended : Bool) (number : ℕ) (left : List RowItem) (now : T) : Type 0 where
  pub ended : EndsPage page.ending suspended left
  pub delivered : number ≡ delivered_after before (length page.rows)
  pub received : now ≡ with_rows begun page.rows
  pub taken : old ≡ map Ok page.rows ++ left

-- a limit is reached by a count that stands still exactly where the rows reach it
reached_so : (limit : ℤ) (n : ℕ) → SFits w32 limit → is_reached limit (delivered_after 0 n) ≡ is_reached limit n
reached_so (pos l) n fits = let h : l < 2 ^ 31 = fits.sfits in grind (arith, nat_tests)
reached_so (negsuc l) n fits = refl

counted_more : (count n m : ℕ) → count ≡ delivered_after 0 n → m ≡ delivered_after count 1 → m ≡ delivered_after 0 (n + 1)
counted_more count n m e f = grind arith

number_is : (before count n number : ℕ) → count ≡ delivered_after 0 n → number ≡ delivered_after before count
    → number ≡ delivered_after before n
number_is before count n number e f = grind arith

module _ {T : Type 0} (with_rows : T → List DataRow → T) (none : (t : T) → with_rows t [] ≡ t)
    (more : (t : T) (rows behind : List DataRow) → with_rows (with_rows t rows) behind ≡ with_rows t (rows ++ behind))
    (limit : ℤ) (fits : SFits w32 limit) (old : List RowItem) (begun : T) where
  pub delivering_begins : IsDelivering with_rows limit old begun old begun 0
  delivering_begins = record { rows = []; going = begins limit old; received = sym (none begun); counted = refl }

  module _ (left : List RowItem) (now : T) (count : ℕ) (p : IsDelivering with_rows limit old begun left now count)
      (b : Bool) (r : Bool) (is : r ≡ is_reached (to_z w32 (of_z w32 limit)) count) (was : r ≡ b) where
    test : is_reached limit (length p.rows) ≡ b
    test =
        sym (reached_so limit (length p.rows) fits) ∙ ap (is_reached limit) (sym p.counted)
        ∙ test_is limit count count r b fits is refl was

    ended_so : (page : ItemPage DataRow) → item_page limit old ≡ page → (before number : ℕ) → number ≡ delivered_after before count
        → (suspended : Bool) → EndsPage page.ending suspended left → page.rows ≡ p.rows
        → HasEnded with_rows (item_page limit old) old begun before suspended number left now
    ended_so page e before number counted suspended ends rows =
        subst (λ (page : ItemPage DataRow). HasEnded with_rows page old begun before suspended number left now) (sym e) (record {
          ended = ends;
          delivered = number_is before count (length p.rows) number p.counted counted
              ∙ ap (λ (l : List DataRow). delivered_after before (length l)) (sym rows);
          received = p.received ∙ ap (with_rows begun) (sym rows);
          taken = p.going.taken ∙ ap (λ (l : List DataRow). map Ok l ++ left) (sym rows);
        })

    pub ended_at_limit : b ≡ true → (before number : ℕ) → number ≡ delivered_after before count
        → HasEnded with_rows (item_page limit old) old begun before true number left now
    ended_at_limit at before number counted =
        ended_so (record { rows = p.rows; ending = AtLimit left })
        (ap (item_page limit) p.going.taken ∙ page_at_limit limit p.rows left (test ∙ at) (p.going.within (test ∙ at)))
        before number counted true (refl, refl) refl

    module _ (below : b ≡ false) where
      pub ended_at_end : (behind : List RowItem) → (left ≡ []) × (behind ≡ []) → (before number : ℕ) → number ≡ delivered_after before count
          → HasEnded with_rows (item_page limit old) old begun before false number behind now
      ended_at_end behind done before number counted =
          subst (λ (l : List RowItem). HasEnded with_rows (item_page limit old) old begun before false number l now) (done.0 ∙ sym done.1)
          (ended_so (record { rows = p.rows; ending = AtEnd })
          (ap (item_page limit) p.going.taken ∙ page_at_end limit p.rows left done.0 (test ∙ below))
          before number counted false (refl, done.0) refl)

      -- an error stood behind the rows
      pub cut_at_error : (error : PgWireError) (behind : List RowItem) → left ≡ Err error ∷ behind
          → (received : List DataRow) × CutsPage limit old received error behind × (now ≡ with_rows begun received)
      cut_at_error error behind is' =
          let taken = p.going.taken ∙ ap (λ l. map Ok p.rows ++ l) is' in (
            p.rows,
            inr (
              ap (λ (page : ItemPage DataRow). page.ending)
                  (ap (item_page limit) taken ∙ page_at_error limit p.rows error behind (test ∙ below)),
              taken,
            ),
            p.received,
          )

      -- no row was received: memory was wanting for one, or an error stood there
      pub cut_at_next : (error : PgWireError) (behind : List RowItem) (then : T) → CutsPage (pos 1) left [] error behind → then ≡ now
          → (received : List DataRow) × CutsPage limit old received error behind × (then ≡ with_rows begun received)
      cut_at_next error behind then (inl (want, (lost, few, is'))) same = (
        p.rows,
        inl (
          want,
          (
            lost,
            few,
            p.going.taken ∙ ap (λ l. map Ok p.rows ++ l) is'
                ∙ sym (ap (λ l. l ++ behind) (map-append Ok p.rows lost) ∙ append_assoc (map Ok p.rows) (map Ok lost) behind),
          ),
        ),
        same ∙ p.received,
      )
      cut_at_next error behind then (inr (at, is')) same =
          let cut = cut_at_error error behind is' in (cut.0, cut.1, same ∙ cut.2)

      -- the next row was received
      pub delivering_goes_on : (row : DataRow) (behind : List RowItem) (then : T) (next : ℕ) → left ≡ Ok row ∷ behind
          → then ≡ with_rows now (row ∷ []) → next ≡ delivered_after count 1
          → IsDelivering with_rows limit old begun behind then next
      delivering_goes_on row behind then next is' received counted = record {
        rows = p.rows ++ row ∷ [];
        going = goes_on limit old p.rows left behind row p.going (test ∙ below) is';
        received = received ∙ ap (λ t. with_rows t (row ∷ [])) p.received ∙ more begun p.rows (row ∷ []);
        counted = rw (length-append p.rows (row ∷ [])) (counted_more count (length p.rows) next p.counted counted);
      }

  -- memory was wanting before an item was taken
  pub cut_before : (left : List RowItem) (now : T) (count : ℕ) → IsDelivering with_rows limit old begun left now count
      → (error : PgWireError) (behind : List RowItem) → error ≡ NoMemory → behind ≡ left
      → (received : List DataRow) × CutsPage limit old received error behind × (now ≡ with_rows begun received)
  cut_before left now count p error behind want same = (
    p.rows,
    inl (want, ([], (omega arith), p.going.taken ∙ rw (append-nil p.rows) (ap (λ l. map Ok p.rows ++ l) (sym same)))),
    p.received,
  )

  -- memory was wanting for a row that was taken
  pub cut_behind : (left : List RowItem) (now : T) (count : ℕ) → IsDelivering with_rows limit old begun left now count
      → (error : PgWireError) (row : DataRow) (behind : List RowItem) (then : T) → error ≡ NoMemory → left ≡ Ok row ∷ behind → then ≡ now
      → (received : List DataRow) × CutsPage limit old received error behind × (then ≡ with_rows begun received)
  cut_behind left now count p error row behind then want is same = (
    p.rows,
    inl (
      want,
      (
        row ∷ [],
        (omega arith),
        p.going.taken ∙ ap (λ l. map Ok p.rows ++ l) is
            ∙ sym (ap (λ l. l ++ behind) (map-append Ok p.rows (row ∷ [])) ∙ append_assoc (map Ok p.rows) (Ok row ∷ []) behind),
      ),
    ),
    same ∙ p.received,
  )
