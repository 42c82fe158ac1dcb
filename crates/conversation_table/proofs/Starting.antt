-- A portal that isn't started: its first page, and a response without rows.
use Rattle.std.proofs.Common.{◌≡◌, ℕ, ℤ, false, inl, List, IfSome, Option, Some, None, Result, Ok, Err, refl, ap, sym, subst}
use Rattle.std.specs.Prelude.{IfErr, OnOk, OnErr}
use Rattle.std.specs.Option.{IsSomeAnd}
use Rattle.pg_messages.specs.declared.extendedquery.Execute.{Execute}
use Rattle.pg_results.specs.declared.error.PgWireError.{PgWireError}
use Rattle.pg_portal.specs.Maps.{Maps}
use Rattle.pg_results.specs.Page.{item_page}
use Rattle.pg_results.specs.Responses as response
use Rattle.pg_results.specs.Responses.{ToldResponse}
use Rattle.pg_results.specs.Told.{ParserTold, ToldRows}
use Rattle.pg_portal.specs.Told.{TablePortal, Stage, Started, Unstarted}
use Rattle.pg_client.specs.Effect.{Done, IsEffect, IsRefusedEffect}
use Rattle.conversation_table.specs.ExecuteRow.{executed, executed_without_rows, fetched}
use Rattle.conversation_table.specs.Executing.{HasUnstarted, IsLeftBehind, IsPageOf, has_rows, page_result, portal_under, response_page}
use Rattle.conversation_table.specs.Good.{HasGoodTag, IsGoodState}
use Rattle.pg_client.specs.State.{State}
use Rattle.conversation_table.proofs.Lends.{IsLent, comes_from_unstarted, fetched_ok, fetched_refused, good_written, left_lent, maps_of}

-- ---- the portal under the name

pub unstarted_under : {S : Type 0} (maps : Maps S) (name : List ℕ) (p : TablePortal S) → portal_under maps name ≡ Some p
    → p.stage ≡ Unstarted → HasUnstarted maps name
unstarted_under {S} maps name p found fresh =
    subst (λ (o : Option (TablePortal S)). IsSomeAnd o (λ (p : TablePortal S). p.stage ≡ Unstarted)) (sym found) fresh

pub fresh_under : {S : Type 0} (maps : Maps S) (name : List ℕ) (p : TablePortal S) → portal_under maps name ≡ Some p
    → HasUnstarted maps name → p.stage ≡ Unstarted
fresh_under {S} maps name p found has =
    subst (λ (o : Option (TablePortal S)). IsSomeAnd o (λ (p : TablePortal S). p.stage ≡ Unstarted)) found has

-- what holds of a portal, where there is one, and of each that there is
pub started_there : {X : Type 0} (A B : X → Type 0) (o : Option X) → IfSome o A → ((p : X) → o ≡ Some p → B p)
    → IfSome o (λ p. A p × B p)
started_there A B None a b = tt
started_there A B (Some p) a b = (a, b p refl)

pub on_err : {A E P : Type 0} (result : Result A E) → P → OnErr result P
on_err (Ok x) p = tt
on_err (Err e) p = p

-- ---- its first page

pub record IsFirstPage {S A : Type 0} (s s' : State S) (m : Execute) (r : ToldRows) (out new_out : List ℕ) (result : Result A PgWireError)
    : Type 0 where
  pub ok : (p : TablePortal S) → portal_under (maps_of s) m.name ≡ Some p
      → OnOk result (IsEffect (fetched s m p r 0) out new_out (Done s'))
  pub refused : (p : TablePortal S) → portal_under (maps_of s) m.name ≡ Some p
      → IfErr result (IsRefusedEffect (fetched s m p r 0) out new_out s')
  pub left : OnErr result (IsLeftBehind (maps_of s) m.name (maps_of s'))
  pub good : (parser : ParserTold S) → IsGoodState parser s → IsGoodState parser s'

pub first_page : {S A : Type 0} (s s' : State S) (m : Execute) (r : ToldRows) (out new_out : List ℕ) (result : Result A PgWireError)
    (p : TablePortal S) (stage : Stage) → IsLent s m.name p stage s' → HasUnstarted (maps_of s) m.name → HasGoodTag stage
    → (limit : ℤ) (old : Stage) → limit ≡ m.max_rows → old ≡ Started r 0
    → IsPageOf (page_result limit old) stage out new_out result → IsFirstPage s s' m r out new_out result
first_page {S} s s' m r out new_out result p stage l has tag limit old limit_is begun page =
    let first : IsPageOf (response_page r 0 (item_page m.max_rows r.items)) stage out new_out result =
    subst (λ (z : ℤ). IsPageOf (page_result z (Started r 0)) stage out new_out result) limit_is
    (subst (λ (st : Stage). IsPageOf (page_result limit st) stage out new_out result) begun page) in
    let one : (q : TablePortal S) → portal_under (maps_of s) m.name ≡ Some q → p ≡ q = λ q e. let f = l.found in cc in
    record {
      ok = λ q e. subst (λ (p : TablePortal S). OnOk result (IsEffect (fetched s m p r 0) out new_out (Done s'))) (one q e)
          (fetched_ok s m p out new_out stage s' l.written r 0 result first);
      refused = λ q e. subst (λ (p : TablePortal S). IfErr result (IsRefusedEffect (fetched s m p r 0) out new_out s')) (one q e)
          (fetched_refused s m p out new_out stage s' l.written r 0 result first);
      left = on_err result (left_lent s s' m.name p stage l
          (comes_from_unstarted p.stage stage (fresh_under (maps_of s) m.name p l.found has)));
      good = λ parser g. good_written parser s g m.name p stage s' l.found l.written tag;
    }

-- ---- another response

pub executed_plain : {S : Type 0} (s : State S) (m : Execute) (p : TablePortal S) (r : ToldResponse) → has_rows r ≡ false
    → executed s m p r ≡ executed_without_rows s r
executed_plain s m p (response.Query r) e = cc
executed_plain s m p _ e = refl

pub left_same : {S St A E : Type 0} (maps : St → Maps S) (result : Result A E) (old new : St) (name : List ℕ) → OnErr result (new ≡ old)
    → OnErr result (IsLeftBehind (maps old) name (maps new))
left_same maps (Ok x) old new name e = tt
left_same maps (Err x) old new name e = inl (ap maps e)
