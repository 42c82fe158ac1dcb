use Rattle.std.proofs.Common.{◌≡◌, ◌<◌, ◌+◌, ℕ, Bool, List, Option, Some, None, length, take, drop, ◌∙◌, sym, ap, refl, arith}
use Rattle.std.specs.Option.{is_some, option_copied}
use Rattle.std.specs.FinMap as map
use Rattle.std.specs.Borrow.{Bor}
use Rattle.named_entries.specs.Names.{NameMap}
use Rattle.relation_tables.specs.declared.Relation.{Relation}
use Rattle.relation_handlers.specs.declared.table.TableError.{TableError}
use Rattle.relation_handlers.specs.declared.table.TableError.TheVariants.{BadName, BadColumn, RaggedRow, NoMemory}
use Rattle.relation_tables.specs.Relations.{place_of}
use Rattle.relation_handlers.specs.Tables.{refusal_at, refusal, refusal_after, or_else, IsCause}
use Rattle.relation_handlers.proofs.TableLemmas.{refusal-step, places-step, new_from_passed}
use Rattle.relation_handlers.proofs.table.places_of.Goals as goal

is_some-copied : (o : Option (Bor ℕ)) → is_some (option_copied o) ≡ is_some o
is_some-copied None = refl
is_some-copied (Some x) = refl

-- whether a name is taken, as the index tells it
taken : (rs : List Relation) (m : NameMap ℕ) (name : List ℕ) (r : Relation) (o : Option (Bor ℕ)) (b : Bool)
    → ((q : List ℕ) → map.get m q ≡ place_of rs q) → name ≡ r.name → option_copied o ≡ map.get m name → b ≡ is_some o → b
    ≡ is_some (place_of rs r.name)
taken rs m name r o b h same got e = e ∙ sym (is_some-copied o) ∙ ap (λ p. is_some p) (got ∙ h name ∙ ap (λ q. place_of rs q) same)

judged : (i place : ℕ) (b is : Bool) (r : Relation) (o : Option TableError) → place ≡ i → b ≡ is → o ≡ refusal_at place b r → o
    ≡ refusal_at i is r
judged i place b is r o count same e = e ∙ ap (λ n. refusal_at n b r) count ∙ ap (λ t. refusal_at i t r) same

cause : (rs : List Relation) (e : TableError) → refusal rs ≡ Some e → IsCause rs e
cause rs NoMemory h = tt
cause rs (BadName i) h = h
cause rs (BadColumn i) h = h
cause rs (RaggedRow i) h = h

pub loop-relation-init : goal.loop-relation-init
loop-relation-init c = record {
  count = refl;
  places = λ q. ap (λ m. map.get m q) c.new-places.ensures ∙ map.get-empty _ q;
  refusal = refl;
}

pub loop-relation-preserved : goal.loop-relation-preserved
loop-relation-preserved c =
    let rs = c.args.relations.now in
    let i = c.loop-relation.relation-index in
    let r = c.relation-item.result in
    let within : i < length rs = omega arith in
    let is_taken = taken (take i rs) c.loop-relation.places c.as_str.result.now r c.get.result c.is_some-is_taken.result
    c.loop-relation.invariant.places c.as_str.ensures c.get.ensures c.is_some-is_taken.ensures in
    let verdict = judged i c.loop-relation.place c.is_some-is_taken.result (is_some (place_of (take i rs) r.name)) r c.judge.result
    c.loop-relation.invariant.count is_taken c.judge.ensures in
    let passed : c.judge.result ≡ None = c.in_default.is in
    let new = new_from_passed i (is_some (place_of (take i rs) r.name)) r (sym verdict ∙ passed) in
    record {
      count = omega arith;
      places = λ q. ap (λ m. map.get m q) c.in_ok-put.ensures.ok
          ∙ ap (λ n. map.get (map.insert c.loop-relation.places n c.loop-relation.place) q)
          (c.in_ok-copy_of.ensures ∙ c.as_str-in-loop-relation.ensures)
          ∙ ap (λ k. map.get (map.insert c.loop-relation.places r.name k) q) c.loop-relation.invariant.count
          ∙ places-step rs i r c.relation-item.is within c.loop-relation.places c.loop-relation.invariant.places new q;
      refusal = sym (refusal-step rs i r c.relation-item.is within c.judge.result verdict
          ∙ ap (λ o. or_else o (refusal_after (take (i + 1) rs) (drop (i + 1) rs))) passed)
          ∙ c.loop-relation.invariant.refusal;
    }

pub returns-in-Some-clause-refused : goal.returns-in-Some-clause-refused
returns-in-Some-clause-refused c =
    let rs = c.args.relations.now in
    let i = c.loop-relation.relation-index in
    let r = c.relation-item.result in
    let within : i < length rs = omega arith in
    let is_taken = taken (take i rs) c.loop-relation.places c.as_str.result.now r c.get.result c.is_some-is_taken.result
    c.loop-relation.invariant.places c.as_str.ensures c.get.ensures c.is_some-is_taken.ensures in
    let verdict = judged i c.loop-relation.place c.is_some-is_taken.result (is_some (place_of (take i rs) r.name)) r c.judge.result
    c.loop-relation.invariant.count is_taken c.judge.ensures in
    cause rs c.in-Some.error
    (sym c.loop-relation.invariant.refusal ∙ refusal-step rs i r c.relation-item.is within c.judge.result verdict
    ∙ ap (λ o. or_else o (refusal_after (take (i + 1) rs) (drop (i + 1) rs))) c.in-Some.is)
