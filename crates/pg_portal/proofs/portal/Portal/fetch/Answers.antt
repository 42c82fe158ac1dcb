use Rattle.std.proofs.Common.{◌≡◌, ◌∙◌, ◌++◌, ℕ, ℤ, Bool, Ok, Err, inl, inr, map, refl, sym, ap, subst}
use Rattle.std.specs.Prelude.{◌↔◌, Result}
use Rattle.std.proofs.lemmas.Int.{to_z-of_z}
use Rattle.std.proofs.lemmas.Result.{err_from_is_err_and}
use Rattle.pg_results.specs.declared.error.PgWireError.{PgWireError}
use Rattle.pg_results.specs.declared.error.PgWireError.TheVariants.{PortalNotStarted}
use Rattle.pg_results.specs.Told.{ToldRows, told_rows}
use Rattle.pg_portal.specs.declared.portal.FetchResult.{FetchResult}
use Rattle.pg_portal.specs.Fetching.{IsPage, IsRefusedFetch, IsRefusedPage, TakesInOrder, after_page, fetched, items_to_come, no_rows}
use Rattle.pg_portal.specs.Told.{Stage, Unstarted, Started, Ended, stage_in}
use Rattle.pg_portal.proofs.portal.Portal.fetch.Goals as goal

abbrev IsToldUnstarted : Result FetchResult PgWireError → Stage → Type 0
IsToldUnstarted answer s = (answer ≡ Err PortalNotStarted) ↔ (s ≡ Unstarted)

unstarted : (limit : ℤ) (s : Stage) → s ≡ Unstarted
    → IsRefusedFetch limit s s PortalNotStarted × TakesInOrder s s (Err PortalNotStarted) × IsToldUnstarted (Err PortalNotStarted) s
unstarted limit s is = (
  subst (λ (s : Stage). IsRefusedFetch limit s s PortalNotStarted) (sym is) (inr (refl, refl)),
  subst (λ (s : Stage). TakesInOrder s s (Err PortalNotStarted)) (sym is) tt,
  (λ _. is, λ _. refl),
)

finished : (limit : ℤ) (s : Stage) (d : ℕ) (page : FetchResult) → s ≡ Ended d → page ≡ no_rows d
    → (Ok page ≡ (fetched limit s).answer) × (s ≡ (fetched limit s).stage) × TakesInOrder s s (Ok page) × IsToldUnstarted (Ok page) s
finished limit s d page is told = (
  ap Ok told ∙ sym (ap (λ (s : Stage). (fetched limit s).answer) is),
  is ∙ sym (ap (λ (s : Stage). (fetched limit s).stage) is),
  subst (λ (s : Stage). TakesInOrder s s (Ok page)) (sym is) tt,
  (λ h. cc, λ h. cc),
)

paged : (limit : ℤ) (old new : ToldRows) (d : ℕ) (page : FetchResult) (s : Stage) (b : Bool) → page.suspended ≡ b → s ≡ Started old d
    → IsPage limit old d new page
    → (Ok page ≡ (fetched limit s).answer) × (after_page b new page.delivered ≡ (fetched limit s).stage)
    × TakesInOrder s (after_page b new page.delivered) (Ok page) × IsToldUnstarted (Ok page) s
paged limit old new d page s b so is p = (
  p.0 ∙ sym (ap (λ (s : Stage). (fetched limit s).answer) is),
  sym (ap (λ (b : Bool). after_page b new page.delivered) so) ∙ p.1 ∙ sym (ap (λ (s : Stage). (fetched limit s).stage) is),
  subst (λ (s : Stage). TakesInOrder s (after_page b new page.delivered) (Ok page)) (sym is)
      (λ _. p.2 ∙ ap (λ (b : Bool). map Ok page.rows ++ items_to_come (after_page b new page.delivered)) so),
  (λ h. cc, λ h. cc),
)

refused : (limit : ℤ) (old new : ToldRows) (d : ℕ) (e : PgWireError) (s : Stage) → s ≡ Started old d → IsRefusedPage limit old d new e
    → IsRefusedFetch limit s (Started new d) e × TakesInOrder s (Started new d) (Err e)
refused limit old new d e s is (inl want) = (
  subst (λ (s : Stage). IsRefusedFetch limit s (Started new d) e) (sym is) (inl want),
  subst (λ (s : Stage). TakesInOrder s (Started new d) (Err e)) (sym is) (λ other. absurd (other (ap Err want.0))),
)
refused limit old new d e s is (inr met) = (
  subst (λ (s : Stage). IsRefusedFetch limit s (Started new d) e) (sym is) (inr (met.0, met.1)),
  subst (λ (s : Stage). TakesInOrder s (Started new d) (Err e)) (sym is) (λ _. met.2),
)

pub returns-in-Initial : goal.returns-in-Initial
returns-in-Initial g c =
    let x = unstarted c.args.max_rows _ (ap (λ state. stage_in g.R.RowSource.items state c.args.self.now.delivered) c.in-Initial.is) in
    record { page = tt; stage = tt; refusal = x.0; taken = x.1; not_started = x.2; bound = refl }

pub returns-in-Finished : goal.returns-in-Finished
returns-in-Finished g c =
    let x = finished c.args.max_rows _ _ _ (ap (λ state. stage_in g.R.RowSource.items state c.args.self.now.delivered) c.in-Finished.is)
    c.in_ok-no_rows-in-Finished.ensures in
    record { page = x.0; stage = x.1; refusal = tt; taken = x.2; not_started = x.3; bound = refl }

pub returns-in_err-page-in-Suspended-clause-refusal : goal.returns-in_err-page-in-Suspended-clause-refusal
returns-in_err-page-in-Suspended-clause-refusal g c =
    let r = c.from_residual-in_err-page-in-Suspended in
    let u = err_from_is_err_and r.result r.ensures.1 in
    let fits = c.ranges.max_rows in
    let x = simp to_z-of_z at c.in_err-page-in-Suspended.ensures.refusal in
    rw (u.1, u.2) (refused c.args.max_rows (told_rows g.R.RowSource.items c.in-Suspended.response)
    (told_rows g.R.RowSource.items c.next_page.new.response) c.args.self.now.delivered c.in_err-page-in-Suspended.field-0.0 _
    (ap (λ state. stage_in g.R.RowSource.items state c.args.self.now.delivered) c.in-Suspended.is) x).0

pub returns-in_err-page-in-Suspended-clause-taken : goal.returns-in_err-page-in-Suspended-clause-taken
returns-in_err-page-in-Suspended-clause-taken g c =
    let r = c.from_residual-in_err-page-in-Suspended in
    let u = err_from_is_err_and r.result r.ensures.1 in
    let fits = c.ranges.max_rows in
    let x = simp to_z-of_z at c.in_err-page-in-Suspended.ensures.refusal in
    rw (u.1, u.2) (refused c.args.max_rows (told_rows g.R.RowSource.items c.in-Suspended.response)
    (told_rows g.R.RowSource.items c.next_page.new.response) c.args.self.now.delivered c.in_err-page-in-Suspended.field-0.0 _
    (ap (λ state. stage_in g.R.RowSource.items state c.args.self.now.delivered) c.in-Suspended.is) x).1

pub returns-then-page : goal.returns-then-page
returns-then-page g c =
    let fits = c.ranges.max_rows in
    let p = simp to_z-of_z at c.in_ok-page-in-Suspended.ensures.page in
    let x = paged c.args.max_rows (told_rows g.R.RowSource.items c.in-Suspended.response)
    (told_rows g.R.RowSource.items c.next_page.new.response) c.args.self.now.delivered c.in_ok-page-in-Suspended.page _ _ c.if-page.true
    (ap (λ state. stage_in g.R.RowSource.items state c.args.self.now.delivered) c.in-Suspended.is) p in
    record { page = x.0; stage = x.1; refusal = tt; taken = x.2; not_started = x.3; bound = refl }

pub returns : goal.returns
returns g c =
    let fits = c.ranges.max_rows in
    let p = simp to_z-of_z at c.in_ok-page-in-Suspended.ensures.page in
    let x = paged c.args.max_rows (told_rows g.R.RowSource.items c.in-Suspended.response)
    (told_rows g.R.RowSource.items c.next_page.new.response) c.args.self.now.delivered c.in_ok-page-in-Suspended.page _ _ c.if-page.false
    (ap (λ state. stage_in g.R.RowSource.items state c.args.self.now.delivered) c.in-Suspended.is) p in
    record { page = x.0; stage = x.1; refusal = tt; taken = x.2; not_started = x.3; bound = refl }
