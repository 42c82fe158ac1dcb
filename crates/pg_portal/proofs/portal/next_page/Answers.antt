use Rattle.std.proofs.Common.{◌≡◌, ◌∙◌, ◌++◌, ℕ, ℤ, Bool, List, [], ◌∷◌, Ok, Err, inl, inr, length, map, refl, sym, ap}
use Rattle.std.proofs.lemmas.Int.{to_z-of_z}
use Rattle.std.proofs.lemmas.Result.{err_from_is_err_and, IfOk-from_err}
use Rattle.pg_messages.specs.declared.data.DataRow.{DataRow}
use Rattle.pg_results.specs.declared.error.PgWireError.{PgWireError}
use Rattle.pg_results.specs.Page.{PageEnd, AtLimit, AtEnd, AtError, CutsPage, EndsPage, delivered_after, item_page}
use Rattle.pg_results.specs.Rows.{RowItem}
use Rattle.pg_results.specs.Told.{ToldRows, told_rows, with_items}
use Rattle.pg_portal.specs.Fetching.{IsKept, IsRefusedPage, after_page, items_to_come, page_answer, stage_after}
use Rattle.pg_portal.specs.Told.{Started, Ended}
use Rattle.pg_portal.proofs.portal.next_page.Goals as goal

-- the page that was delivered
told_page : (old new : ToldRows) (delivered : ℕ) (rows : List DataRow) (ending : PageEnd DataRow) (got : List DataRow) (tag : List ℕ)
    (suspended : Bool) (number : ℕ) (left : List RowItem) → new ≡ with_items old left → EndsPage ending suspended left → got ≡ rows
    → tag ≡ old.command_tag → number ≡ delivered_after delivered (length rows) → old.items ≡ map Ok rows ++ left
    → (Ok (record { rows = got; command_tag = tag; suspended = suspended; delivered = number }) ≡ page_answer old delivered rows ending)
    × (after_page suspended new number ≡ stage_after old delivered rows ending)
    × (old.items ≡ map Ok got ++ items_to_come (after_page suspended new number))
told_page old new delivered rows (AtLimit items) got tag suspended number left is ends g t n taken =
    let so = ends.0 in
    let rest : new ≡ with_items old items = is ∙ ap (with_items old) ends.1 in (
      λ i. Ok (record { rows = g i; command_tag = t i; suspended = so i; delivered = n i }),
      ap (λ (s : Bool). after_page s new number) so ∙ (λ i. Started (rest i) (n i)),
      taken ∙ sym ((λ i. map Ok (g i) ++ items_to_come (after_page (so i) new number)) ∙ ap (λ (r : ToldRows). map Ok rows ++ r.items) is),
    )
told_page old new delivered rows AtEnd got tag suspended number left is ends g t n taken =
    let so = ends.0 in (
      λ i. Ok (record { rows = g i; command_tag = t i; suspended = so i; delivered = n i }),
      ap (λ (s : Bool). after_page s new number) so ∙ ap Ended n,
      taken ∙ ap (λ (l : List RowItem). map Ok rows ++ l) ends.1
          ∙ sym (λ i. map Ok (g i) ++ items_to_come (after_page (so i) new number)),
    )
told_page old new delivered rows (AtError e items) got tag suspended number left is ends g t n taken = absurd ends

-- the page that was cut short
refused_page : (limit : ℤ) (old new : ToldRows) (delivered : ℕ) (rows : List DataRow) (error : PgWireError) (left : List RowItem)
    → new ≡ with_items old left → CutsPage limit old.items rows error left → IsRefusedPage limit old delivered new error
refused_page limit old new delivered rows error left is (inl want) =
    inl (want.0, (new, (map Ok (rows ++ want.1.0), left, want.1.2, is), refl))
refused_page limit old new delivered rows error left is (inr met) =
    let page = item_page limit old.items in
    inr (
      sym (ap (page_answer old delivered page.rows) met.0),
      ap (λ (r : ToldRows). Started r delivered) is ∙ sym (ap (stage_after old delivered page.rows) met.0),
      (rows, met.1 ∙ ap (λ (r : ToldRows). map Ok rows ++ Err error ∷ r.items) (sym is)),
    )

kept : (old : ToldRows) (delivered : ℕ) → IsKept (Started old delivered) (Started old delivered)
kept old delivered = (old, ([], old.items, refl, refl), refl)

pub returns-in_err-command_tag : goal.returns-in_err-command_tag
returns-in_err-command_tag g c =
    let r = c.from_residual in
    let u = err_from_is_err_and r.result r.ensures.1 in
    let is = u.1 ∙ ap Err u.2 in
    record {
      page = IfOk-from_err r.result _ r.ensures.0;
      refusal = rw is (inl (refl, kept (told_rows g.R.RowSource.items c.args.response.now) c.args.delivered));
      own = rw is (inl refl);
    }

pub returns-in_err-page : goal.returns-in_err-page
returns-in_err-page g c =
    let r = c.from_residual-in_err-page in
    let u = err_from_is_err_and r.result r.ensures.1 in
    let fits = c.ranges.max_rows in
    let x = simp to_z-of_z at c.in_err-page.ensures.cut_short in
    record {
      page = IfOk-from_err r.result _ r.ensures.0;
      refusal = rw (u.1, u.2) (refused_page c.args.max_rows (told_rows g.R.RowSource.items c.args.response.now) _ c.args.delivered x.0
          c.in_err-page.field-0.0 (g.R.RowSource.items c.deliver_page.new.rows) refl x.1);
      own = rw (u.1, u.2) c.in_err-page.ensures.own;
    }

pub returns : goal.returns
returns g c =
    let fits = c.ranges.max_rows in
    let ends = simp to_z-of_z at c.in_ok-page.ensures.ended in
    let number = simp to_z-of_z at c.in_ok-page.ensures.delivered in
    let received = simp to_z-of_z at c.in_ok-page.ensures.received in
    let taken = simp to_z-of_z at c.in_ok-page.ensures.taken in
    let page = item_page c.args.max_rows (g.R.RowSource.items c.args.response.now.data_rows) in
    record {
      page = told_page (told_rows g.R.RowSource.items c.args.response.now) _ c.args.delivered page.rows page.ending
          c.deliver_page.new.receiver c.in_ok-command_tag.command_tag c.in_ok-page.page.suspended c.in_ok-page.page.delivered
          (g.R.RowSource.items c.deliver_page.new.rows) refl ends
          (received ∙ ap (λ (l : List DataRow). l ++ page.rows) c.new-rows.ensures) (c.in_ok-command_tag.ensures ∙ c.as_str.ensures)
          number taken;
      refusal = tt;
      own = tt;
    }
