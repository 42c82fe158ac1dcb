-- A state stays good: what is put is good, and an empty entry, a removal and a change of info that keeps the metadata change no value.
use Rattle.std.proofs.Common.{◌≡◌, ◌==◌, ℕ, Bool, true, false, cond, if◌then◌else◌, List, Option, Some, None, Result, Ok, Err, sym, ap, subst, ◌∙◌}
use Rattle.std.specs.Cmp.Lexicographic.{slice_cmp, nat_list_cmp_total}
use Rattle.std.specs.Ordering.{nat_cmp, eq_by_cmp}
use Rattle.std.specs.FinMap as fin
use Rattle.pg_messages.specs.declared.extendedquery.Close.{Close}
use Rattle.pg_messages.specs.Frames.{statement_target, portal_target}
use Rattle.pg_portal.specs.Maps.{Maps, maps_without_statement, maps_without_portal}
use Rattle.named_entries.specs.Names.{NameMap}
use Rattle.pg_results.specs.declared.client.ClientInfo.{ClientInfo}
use Rattle.pg_results.specs.declared.stmt.StoredStatement.{StoredStatement}
use Rattle.pg_portal.specs.declared.store.Entry.{Entry}
use Rattle.pg_portal.specs.declared.store.Entry.TheVariants as entry
use Rattle.pg_results.specs.Clients.{HasShortMetadata}
use Rattle.std.specs.Option.{option_map}
use Rattle.std.specs.Prelude.{is_none, OnOk, OnErr}
use Rattle.pg_results.specs.Told.{ParserTold}
use Rattle.pg_portal.specs.Told.{TablePortal, entry_map, value_under, value_of}
use Rattle.conversation_table.specs.Good.{IsGoodStatement, IsGoodPortal, IsGoodState}
use Rattle.conversation_table.specs.ExtendedRows.{maps_after_close}
use Rattle.pg_client.specs.State.{State, state_in, with_statement, with_portal, without_statement, without_portal}

-- each value of a map has the property
abbrev pub Each : {X : Type 0} → (X → Type 0) → NameMap (Entry X) → Type 0
Each {X} P m = (q : List ℕ) (x : X) → value_under (fin.get m q) ≡ Some x → P x

pub each_after_insert : {X : Type 0} (P : X → Type 0) (m : NameMap (Entry X)) (k : List ℕ) (v : Entry X)
    → ((x : X) → value_of v ≡ Some x → P x) → Each P m
    → Each P (fin.insert m k v)
each_after_insert {X} P m k v pv each q x e = by_case (eq_by_cmp (slice_cmp nat_cmp) q k)
    (ap value_under (sym (fin.get-insert nat_list_cmp_total m k v q)) ∙ e)
  where
    by_case : (b : Bool) → value_under (cond b (Some v) (fin.get m q)) ≡ Some x → P x
    by_case true h = pv x h
    by_case false h = each q x h

pub each_after_remove : {X : Type 0} (P : X → Type 0) (m : NameMap (Entry X)) (k : List ℕ) → Each P m → Each P (fin.remove m k)
each_after_remove {X} P m k each q x e = by_case (eq_by_cmp (slice_cmp nat_cmp) q k)
    (ap value_under (sym (fin.get-remove nat_list_cmp_total m k q)) ∙ e)
  where
    by_case : (b : Bool) → value_under (cond b None (fin.get m q)) ≡ Some x → P x
    by_case true h = cc
    by_case false h = each q x h

-- nothing is the value of an empty entry
pub none_empty : {X : Type 0} (P : X → Type 0) (x : X) → value_of {T = X} entry.Empty ≡ Some x → P x
none_empty P x e = cc

pub one_value : {X : Type 0} (P : X → Type 0) (v : X) → P v → (x : X) → value_of (entry.Value v) ≡ Some x → P x
one_value P v p x e = let same : v ≡ x = cc in subst P same p

-- a state that has the same statements, portals and metadata as a good one, by the parts of the good one
pub good_parts : {S : Type 0} (parser : ParserTold S) (s : State S) (info : ClientInfo) (statements : NameMap (Entry (StoredStatement S)))
    (portals : NameMap (Entry (TablePortal S)))
    → info.metadata ≡ s.info.metadata → statements ≡ s.statements → portals ≡ s.portals → IsGoodState parser s
    → IsGoodState parser (record { info = info; statements = statements; portals = portals })
good_parts parser s info statements portals i j k good = record {
  statements = subst (Each (IsGoodStatement parser)) (sym j) good.statements;
  portals = subst (Each (IsGoodPortal parser)) (sym k) good.portals;
  metadata = subst (λ m. HasShortMetadata (record info { metadata = m })) (sym i) good.metadata;
}

pub good_with_statement : {S : Type 0} (parser : ParserTold S) (s : State S) (name : List ℕ) (e : Entry (StoredStatement S))
    → ((x : StoredStatement S) → value_of e ≡ Some x → IsGoodStatement parser x) → IsGoodState parser s
    → IsGoodState parser (with_statement s name e)
good_with_statement parser s name e p good = record {
  statements = each_after_insert (IsGoodStatement parser) s.statements name e p good.statements;
  portals = good.portals;
  metadata = good.metadata;
}

pub good_with_portal : {S : Type 0} (parser : ParserTold S) (s : State S) (name : List ℕ) (e : Entry (TablePortal S))
    → ((x : TablePortal S) → value_of e ≡ Some x → IsGoodPortal parser x) → IsGoodState parser s → IsGoodState parser (with_portal s name e)
good_with_portal parser s name e p good = record {
  statements = good.statements;
  portals = each_after_insert (IsGoodPortal parser) s.portals name e p good.portals;
  metadata = good.metadata;
}

pub good_with_empty_portal : {S : Type 0} (parser : ParserTold S) (s : State S) (name : List ℕ) → IsGoodState parser s
    → IsGoodState parser (with_portal s name entry.Empty)
good_with_empty_portal parser s name good = good_with_portal parser s name entry.Empty (none_empty (IsGoodPortal parser)) good

pub good_without_statement : {S : Type 0} (parser : ParserTold S) (s : State S) (name : List ℕ) → IsGoodState parser s
    → IsGoodState parser (without_statement s name)
good_without_statement parser s name good = record {
  statements = each_after_remove (IsGoodStatement parser) s.statements name good.statements;
  portals = good.portals;
  metadata = good.metadata;
}

pub good_without_portal : {S : Type 0} (parser : ParserTold S) (s : State S) (name : List ℕ) → IsGoodState parser s
    → IsGoodState parser (without_portal s name)
good_without_portal parser s name good = record {
  statements = good.statements;
  portals = each_after_remove (IsGoodPortal parser) s.portals name good.portals;
  metadata = good.metadata;
}

-- what Close leaves, whichever byte it names
pub good_closed : {S : Type 0} (parser : ParserTold S) (info : ClientInfo) (old new : Maps S) (m : Close) → new ≡ maps_after_close old m
    → IsGoodState parser (state_in info old) → IsGoodState parser (state_in info new)
good_closed {S} parser info old new m e good =
    subst (λ maps. IsGoodState parser (state_in info maps)) (sym e)
    (by_byte (m.target_type == statement_target) (m.target_type == portal_target))
  where
    by_byte : (is_statement is_portal : Bool)
        → IsGoodState parser (state_in info (if is_statement then maps_without_statement old m.name
        else if is_portal then maps_without_portal old m.name else old))
    by_byte true is_portal = good_without_statement parser (state_in info old) m.name good
    by_byte false true = good_without_portal parser (state_in info old) m.name good
    by_byte false false = good

-- what holds of the state where an entry was put, and where it is kept, holds behind the call
pub put_or_kept : {S A E : Type 0} (result : Result A E) (P : State S → Type 0) (old new put : State S) → OnOk result (new ≡ put)
    → OnErr result (new ≡ old) → P put → P old → P new
put_or_kept (Ok x) P old new put e kept there before = subst P (sym e) there
put_or_kept (Err x) P old new put e kept there before = subst P (sym kept) before

-- a name under which a store found an entry without a value
pub empty_under : {X Y : Type 0} (f : X → Y) (found : Option (Entry X)) (told : Option (Entry Y)) → option_map (entry_map f) found ≡ told
    → is_none found ≡ false → value_under told ≡ None → told ≡ Some entry.Empty
empty_under f None told e some none = cc
empty_under f (Some entry.Empty) told e some none = sym e
empty_under f (Some (entry.Value x)) told e some none = let value : value_under told ≡ Some (f x) = ap value_under (sym e) in cc
