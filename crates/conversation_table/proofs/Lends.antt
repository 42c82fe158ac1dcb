-- What an Execute makes of the table, where the store lends the portal of its name.
use Rattle.std.proofs.Common.{◌≡◌, ℕ, inl, inr, Bool, false, List, [], ◌∷◌, ◌++◌, Option, Some, None, Result, Ok, Err, length, refl, ap, sym, subst, ◌∙◌}
use Rattle.std.specs.Prelude.{IfErr, OnOk}
use Rattle.std.specs.FinMap as fin
use Rattle.pg_messages.specs.declared.data.DataRow.{DataRow}
use Rattle.pg_messages.specs.declared.extendedquery.Execute.{Execute}
use Rattle.pg_results.specs.declared.error.PgWireError.{PgWireError}
use Rattle.pg_results.specs.declared.client.ClientInfo.{ClientInfo}
use Rattle.pg_portal.specs.declared.store.Entry.{Entry}
use Rattle.pg_portal.specs.declared.store.Entry.TheVariants as entry
use Rattle.pg_portal.specs.Maps.{Maps, maps_with_portal}
use Rattle.pg_results.specs.Page.{PageEnd, AtLimit, AtEnd, AtError, delivered_after, item_page}
use Rattle.pg_portal.specs.Fetching.{stage_after}
use Rattle.pg_results.specs.Told.{ParserTold, ToldRows}
use Rattle.pg_portal.specs.Told.{BoundPortal, TablePortal, Stage, Unstarted, Started, Ended, value_under}
use Rattle.named_entries.proofs.NameMaps.{insert-same}
use Rattle.pg_client.specs.declared.desk.DeskCall.{DeskCall}
use Rattle.pg_client.specs.declared.desk.DeskCall.TheVariants as desk
use Rattle.pg_client.specs.declared.ends.SessionError.{SessionError}
use Rattle.pg_client.specs.declared.ends.SessionError.TheVariants as session
use Rattle.pg_client.specs.Effect.{Effect, Failed, Done, IsEffect, IsRow, IsCutRow, IsRefusedRow, IsRefusedEffect, silent}
use Rattle.conversation_table.specs.ExecuteRow.{at_stage, page_effect, fetched, fetched_nothing, executed_portal, executed_entry, executed_nothing, execute_polled, on_execute}
use Rattle.conversation_table.specs.Executing.{OnlyLosesUnnamed, HasComeTo, IsLeftBehind, is_unstarted, IsPageOf, page_result, response_page}
use Rattle.conversation_table.specs.Handlers.{ExtendedTold}
use Rattle.conversation_table.specs.Outcomes.{IsRunEnd}
use Rattle.conversation_table.specs.Questions.{Verdict, IsAsked}
use Rattle.conversation_table.specs.Good.{IsGoodState, IsGoodPortal, HasGoodTag}
use Rattle.pg_client.specs.State.{State, state_in, with_portal, without_portal}
use Rattle.conversation_table.proofs.Executes.{run_row, row_as, stopped_as, run_stopped, cut_as, refused_as, silent_row, silent_refused, cut_started, run_was, run_refused}
use Rattle.conversation_table.proofs.GoodStores.{good_parts, good_with_portal, good_without_portal, one_value}

-- the statements and portals of a state
abbrev pub maps_of : {S : Type 0} → State S → Maps S
maps_of s = record { statements = s.statements; portals = s.portals }

-- ---- the portal under a name

at_value : {T : Type 0} (o : Option (Entry T)) (p : T) → value_under o ≡ Some p → o ≡ Some (entry.Value p)
at_value None p e = cc
at_value (Some entry.Empty) p e = cc
at_value (Some (entry.Value x)) p e = let same : x ≡ p = cc in ap (λ y. Some (entry.Value y)) same

executed_at : {S : Type 0} (h : ExtendedTold S) (answers : List Bool) (s : State S) (m : Execute) (p : TablePortal S)
    (o : Option (Entry (TablePortal S)))
    → o ≡ Some (entry.Value p) → executed_entry h answers s m o ≡ executed_portal h answers s m p p.stage
executed_at h answers s m p o e = rw e refl

module _ {S : Type 0} (h : ExtendedTold S) (s : State S) (m : Execute) (p : TablePortal S) (found : value_under (fin.get s.portals m.name)
    ≡ Some p) where
  pub executes_portal : (answers : List Bool) → on_execute h answers s m ≡ executed_portal h answers s m p p.stage
  executes_portal answers = executed_at h answers s m p (fin.get s.portals m.name) (at_value (fin.get s.portals m.name) p found)

  -- a portal that isn't started runs its query
  pub runs_portal : p.stage ≡ Unstarted → (answers : List Bool)
      → on_execute h answers s m ≡ run_row (h.query s.info p.bound m.max_rows).owes
      (λ verdict. execute_polled s m p verdict (h.query s.info p.bound m.max_rows).outcome) answers
  runs_portal e answers = executes_portal answers ∙ ap (executed_portal h answers s m p) e

-- ---- a page

module _ {S : Type 0} (s : State S) (m : Execute) (p : TablePortal S) (out new_out : List ℕ) (stage : Stage) (s' : State S)
    (written : s' ≡ with_portal s m.name (entry.Value (at_stage p stage))) where
  written_at : (other : Stage) → stage ≡ other → with_portal s m.name (entry.Value (at_stage p other)) ≡ s'
  written_at other e = ap (λ (stage : Stage). with_portal s m.name (entry.Value (at_stage p stage))) (sym e) ∙ sym written

  page_ok : (r : ToldRows) (delivered : ℕ) (rows : List DataRow) (ending : PageEnd DataRow)
      → IsPageOf {A = Unit {0}} (response_page r delivered (record { rows = rows; ending = ending })) stage out new_out (Ok tt)
      → IsEffect (page_effect (with_portal s m.name (entry.Value (at_stage p (stage_after r delivered rows ending)))) r.command_tag
      (delivered_after delivered (length rows)) rows ending) out new_out (Done s')
  page_ok r d rows (AtLimit items) x = record { replied = x.2; came = ap Done (written_at (stage_after r d rows (AtLimit items)) x.1) }
  page_ok r d rows AtEnd x = record { replied = x.2; came = ap Done (written_at (stage_after r d rows AtEnd) x.1) }
  page_ok r d rows (AtError e items) x = cc

  failed_as : (t : State S) (d e : PgWireError) → t ≡ s' → d ≡ e → Failed t d ≡ Failed s' e
  failed_as t d e i j = rw (i, j) refl

  page_refused : (r : ToldRows) (delivered : ℕ) (rows : List DataRow) (ending : PageEnd DataRow) (e : PgWireError)
      → IsPageOf {A = Unit {0}} (response_page r delivered (record { rows = rows; ending = ending })) stage out new_out (Err e)
      → IsRefusedEffect (page_effect (with_portal s m.name (entry.Value (at_stage p (stage_after r delivered rows ending)))) r.command_tag
      (delivered_after delivered (length rows)) rows ending) out new_out s' e
  page_refused r dl rows ending e (inl none) = inl none
  page_refused r dl rows (AtLimit items) e (inr x) = cc
  page_refused r dl rows AtEnd e (inr x) = cc
  page_refused r dl rows (AtError d items) e (inr x) = inr (record {
    replied = x.2;
    came = failed_as (with_portal s m.name (entry.Value (at_stage p (stage_after r dl rows (AtError d items))))) d e
        (written_at (stage_after r dl rows (AtError d items)) x.1) (let same : d ≡ e = cc in same);
  })

  -- a page of a response
  pub fetched_ok : {A : Type 0} (r : ToldRows) (delivered : ℕ) (result : Result A PgWireError)
      → IsPageOf (response_page r delivered (item_page m.max_rows r.items)) stage out new_out result
      → OnOk result (IsEffect (fetched s m p r delivered) out new_out (Done s'))
  fetched_ok r d (Ok x) page = page_ok r d (item_page m.max_rows r.items).rows (item_page m.max_rows r.items).ending page
  fetched_ok r d (Err e) page = tt

  pub fetched_refused : {A : Type 0} (r : ToldRows) (delivered : ℕ) (result : Result A PgWireError)
      → IsPageOf (response_page r delivered (item_page m.max_rows r.items)) stage out new_out result
      → IfErr result (IsRefusedEffect (fetched s m p r delivered) out new_out s')
  fetched_refused r d (Ok x) page = tt
  fetched_refused r d (Err e) page = page_refused r d (item_page m.max_rows r.items).rows (item_page m.max_rows r.items).ending e page

  module _ (found : value_under (fin.get s.portals m.name) ≡ Some p) where
    same_if : stage ≡ p.stage → s' ≡ s
    same_if e = ((written ∙ ap (λ (stage : Stage). with_portal s m.name (entry.Value (at_stage p stage))) e)
        ∙ ap (λ portals. let t : State S = record { info = s.info; statements = s.statements; portals = portals } in t)
        (insert-same s.portals m.name (entry.Value p) (at_value (fin.get s.portals m.name) p found)))

    -- a page of a started portal
    pub started_ok : (h : ExtendedTold S) (calls : List DeskCall) (old : Stage) → p.stage ≡ old → is_unstarted old ≡ false
        → IsPageOf {A = Unit {0}} (page_result m.max_rows old) stage out new_out (Ok tt)
        → IsRow (λ answers. on_execute h answers s m) out new_out calls calls (Done s')
    started_ok h calls Unstarted is started x = cc
    started_ok h calls (Started r d) is started x =
        silent_row (λ answers. on_execute h answers s m) (fetched s m p r d) calls
        (λ answers. executes_portal h s m p found answers ∙ ap (executed_portal h answers s m p) is)
        (page_ok r d (item_page m.max_rows r.items).rows (item_page m.max_rows r.items).ending x)
    started_ok h calls (Ended d) is started x =
        silent_row (λ answers. on_execute h answers s m) (fetched_nothing s d) calls
        (λ answers. executes_portal h s m p found answers ∙ ap (executed_portal h answers s m p) is)
        (record { replied = x.2; came = ap Done (sym (same_if (x.1 ∙ sym is))) })

    pub started_refused : (h : ExtendedTold S) (calls : List DeskCall) (old : Stage) (e : PgWireError) → p.stage ≡ old
        → is_unstarted old ≡ false
        → IsPageOf {A = Unit {0}} (page_result m.max_rows old) stage out new_out (Err e)
        → IsRefusedRow (λ answers. on_execute h answers s m) out new_out calls calls s' (session.Wire e)
    started_refused h calls Unstarted e is started x = cc
    started_refused h calls (Started r d) e is started x =
        silent_refused (λ answers. on_execute h answers s m) (fetched s m p r d) calls e
        (λ answers. executes_portal h s m p found answers ∙ ap (executed_portal h answers s m p) is)
        (page_refused r d (item_page m.max_rows r.items).rows (item_page m.max_rows r.items).ending e x)
    started_refused h calls (Ended d) e is started (inl none) =
        silent_refused (λ answers. on_execute h answers s m) (fetched_nothing s d) calls e
        (λ answers. executes_portal h s m p found answers ∙ ap (executed_portal h answers s m p) is) (inl none)
    started_refused h calls (Ended d) e is started (inr x) = cc

-- where there is no portal to run
pub no_portal : {S : Type 0} (h : ExtendedTold S) (answers : List Bool) (s : State S) (m : Execute) (o : Option (Entry (TablePortal S)))
    → value_under o ≡ None
    → executed_entry h answers s m o ≡ silent (executed_nothing s m.name o)
no_portal h answers s m None e = refl
no_portal h answers s m (Some entry.Empty) e = refl
no_portal h answers s m (Some (entry.Value p)) e = cc

-- ---- what is written back

-- the state where a portal was written back
pub written_state : {S : Type 0} (info : ClientInfo) (old new : Maps S) (name shown : List ℕ) (p w : TablePortal S)
    → shown ≡ name → new ≡ maps_with_portal old shown (entry.Value w) → w.bound ≡ p.bound
    → state_in info new ≡ with_portal (state_in info old) name (entry.Value (at_stage p w.stage))
written_state {S} info old new name shown p w e f b =
    ap (state_in info) f ∙ ap (λ n. with_portal (state_in info old) n (entry.Value w)) e
    ∙ ap (λ (bound : BoundPortal S). with_portal (state_in info old) name (entry.Value (record { bound = bound; stage = w.stage }))) b

module _ {S : Type 0} (parser : ParserTold S) (s : State S) (good : IsGoodState parser s) where
  pub good_written : (name : List ℕ) (p : TablePortal S) (stage : Stage) (s' : State S) → value_under (fin.get s.portals name) ≡ Some p
      → s' ≡ with_portal s name (entry.Value (at_stage p stage)) → HasGoodTag stage → IsGoodState parser s'
  good_written name p stage s' found written tag =
      let before = good.portals name p found in
      subst (IsGoodState parser) (sym written)
      (good_with_portal parser s name (entry.Value (at_stage p stage))
      (one_value (IsGoodPortal parser) (at_stage p stage) (record {
        statement = before.statement;
        codes = before.codes;
        tag = tag;
      })) good)

  pub good_same : (s' : State S) → s' ≡ s → IsGoodState parser s'
  good_same s' e = subst (IsGoodState parser) (sym e) good

  pub good_responded : (info : ClientInfo) (new : Maps S) → info.metadata ≡ s.info.metadata → OnlyLosesUnnamed (maps_of s) new
      → IsGoodState parser (state_in info new)
  good_responded info new i (inl k) =
      good_parts parser s info new.statements new.portals i (ap (λ m. m.statements) k) (ap (λ m. m.portals) k) good
  good_responded info new i (inr k) =
      good_parts parser (without_portal s []) info new.statements new.portals i (ap (λ m. m.statements) k) (ap (λ m. m.portals) k)
      (good_without_portal parser s [] good)

-- ---- a portal that isn't started, as a row

module _ {S : Type 0} (h : ExtendedTold S) (s : State S) (m : Execute) (p : TablePortal S)
    (found : value_under (fin.get s.portals m.name) ≡ Some p)
    (fresh : p.stage ≡ Unstarted) (calls begun : List DeskCall) (starts : begun ≡ calls ++ desk.Start ∷ []) where
  abbrev effect_by : Verdict → Effect S
  effect_by verdict = execute_polled s m p verdict (h.query s.info p.bound m.max_rows).outcome

  -- memory was wanting before the first poll
  pub cut_begun : IsCutRow (λ answers. on_execute h answers s m) calls begun
  cut_begun = cut_as (λ answers. on_execute h answers s m) (run_row (h.query s.info p.bound m.max_rows).owes effect_by)
      (runs_portal h s m p found fresh)
      (cut_started (h.query s.info p.bound m.max_rows).owes effect_by calls begun starts)

  -- its query ran
  module _ {A : Type 0} (done : List DeskCall) (verdict : Verdict)
      (asked : IsAsked (h.query s.info p.bound m.max_rows).owes begun done verdict) (out new_out : List ℕ) (s' : State S) where
    pub ended_ok : (result : Result A SessionError)
        → IsRunEnd (execute_polled s m p verdict (h.query s.info p.bound m.max_rows).outcome) verdict out new_out s' result
        → OnOk result (IsRow (λ answers. on_execute h answers s m) out new_out calls done (Done s'))
    ended_ok (Ok x) ended = row_as (λ answers. on_execute h answers s m)
        (run_row (h.query s.info p.bound m.max_rows).owes effect_by) (runs_portal h s m p found fresh)
        (run_was (h.query s.info p.bound m.max_rows).owes effect_by calls begun starts done verdict asked ended)
    ended_ok (Err e) ended = tt

    pub ended_refused : (result : Result A SessionError)
        → IsRunEnd (execute_polled s m p verdict (h.query s.info p.bound m.max_rows).outcome) verdict out new_out s' result
        → IfErr result (IsRefusedRow (λ answers. on_execute h answers s m) out new_out calls done s')
    ended_refused (Ok x) ended = tt
    ended_refused (Err (session.Wire e)) ended = refused_as (λ answers. on_execute h answers s m)
        (run_row (h.query s.info p.bound m.max_rows).owes effect_by) out new_out calls done s' (session.Wire e)
        (runs_portal h s m p found fresh)
        (run_refused (h.query s.info p.bound m.max_rows).owes effect_by calls begun starts done verdict asked s' e ended)
    ended_refused (Err session.TurnLimit) ended = stopped_as (λ answers. on_execute h answers s m)
        (run_row (h.query s.info p.bound m.max_rows).owes effect_by) (runs_portal h s m p found fresh)
        (run_stopped (h.query s.info p.bound m.max_rows).owes effect_by calls begun starts done verdict asked ended.0 ended.1)

-- ---- a portal that was lent

-- The portal of this name was lent, and written back when it had come so far.
pub record IsLent {S : Type 0} (s : State S) (name : List ℕ) (p : TablePortal S) (stage : Stage) (s' : State S) : Type 0 where
  pub found : value_under (fin.get s.portals name) ≡ Some p
  pub written : s' ≡ with_portal s name (entry.Value (at_stage p stage))

pub lent : {S : Type 0} (info : ClientInfo) (old new : Maps S) (name shown : List ℕ) (p w : TablePortal S) → shown ≡ name
    → Some p ≡ value_under (fin.get old.portals shown) → new ≡ maps_with_portal old shown (entry.Value w) → w.bound ≡ p.bound
    → IsLent (state_in info old) name p w.stage (state_in info new)
lent info old new name shown p w e is f b = record {
  found = ap (λ n. value_under (fin.get old.portals n)) (sym e) ∙ sym is;
  written = written_state info old new name shown p w e f b;
}

-- what a refused Execute leaves: the portal may have come further
pub left_lent : {S : Type 0} (s s' : State S) (name : List ℕ) (p : TablePortal S) (stage : Stage) → IsLent s name p stage s'
    → HasComeTo p.stage stage → IsLeftBehind (maps_of s) name (maps_of s')
left_lent s s' name p stage l come = inr (p, stage, l.found, come, ap maps_of l.written)

-- a portal that isn't started may come anywhere
pub comes_from_unstarted : (old new : Stage) → old ≡ Unstarted → HasComeTo old new
comes_from_unstarted old new e = subst (λ (st : Stage). HasComeTo st new) (sym e) tt
