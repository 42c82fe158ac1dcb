-- The state of a session that begins is good.
use Rattle.std.proofs.Common.{arith, ◌≡◌, ℕ, ℤ, List, [], ◌∷◌, length, Option, Some, None, refl, sym, ap, subst, ◌∙◌}
use Rattle.std.specs.List.{AllByRecursion}
use Rattle.std.specs.Cmp.Lexicographic.{slice_cmp}
use Rattle.std.specs.Ordering.{nat_cmp}
use Rattle.std.specs.FinMap as fin
use Rattle.named_entries.specs.Names.{NameMap}
use Rattle.pg_results.specs.declared.client.ClientInfo.{ClientInfo}
use Rattle.pg_results.specs.declared.stmt.StoredStatement.{StoredStatement}
use Rattle.pg_portal.specs.declared.store.Entry.{Entry}
use Rattle.pg_results.specs.Texts.{IsShortText}
use Rattle.pg_results.specs.Told.{ParserTold}
use Rattle.pg_portal.specs.Told.{TablePortal, value_under}
use Rattle.conversation_table.specs.Good.{IsGoodState}
use Rattle.pg_client.specs.State.{first_state}
use Rattle.conversation_table.proofs.GoodStores.{good_parts}

none_some : {X : Type 0} (x : X) → ◌≡◌ {A = Option X} None (Some x) → ⊥
none_some x e = cc

none_at : {X : Type 0} (q : List ℕ) (x : X) {P : Type 0} → value_under (let m : NameMap (Entry X) = fin.empty in fin.get m q) ≡ Some x → P
none_at {X} q x e = absurd (none_some x (sym (ap (λ (o : Option (Entry X)). value_under o) (fin.get-empty (slice_cmp nat_cmp) q)) ∙ e))

nil_of : {A : Type 0} (xs : List A) → length xs ≡ 0 → xs ≡ []
nil_of [] e = refl
nil_of (x ∷ xs) e = absurd (omega arith)

no_entries : {X : Type 0} → (let m : fin.FinMap (slice_cmp nat_cmp) X = fin.empty in fin.entries m) ≡ []
no_entries {X} = let m : fin.FinMap (slice_cmp nat_cmp) X = fin.empty in nil_of (fin.entries m) (sym (fin.len-entries m)
    ∙ fin.len-empty (slice_cmp nat_cmp) X)

good_first : {S : Type 0} (parser : ParserTold S) (pid : ℤ) (key : List ℕ) → IsGoodState parser (first_state pid key)
good_first parser pid key = record {
  statements = λ q x e. none_at q x e;
  portals = λ q x e. none_at q x e;
  metadata = subst
      (AllByRecursion (λ e. IsShortText e.0 × IsShortText e.1)) (sym no_entries) tt;
}

-- a session that begins, by the parts of its state
pub good_new : {S : Type 0} (parser : ParserTold S) (info : ClientInfo) (statements : NameMap (Entry (StoredStatement S)))
    (portals : NameMap (Entry (TablePortal S)))
    → info.metadata ≡ fin.empty → statements ≡ fin.empty → portals ≡ fin.empty
    → IsGoodState parser (record { info = info; statements = statements; portals = portals })
good_new parser info statements portals i j k = good_parts parser (first_state info.pid info.secret_key) info statements portals i j k
    (good_first parser info.pid info.secret_key)
