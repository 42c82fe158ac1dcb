-- The numbers of a legal history, and what NEXT is answered behind it.
use Rattle.std.proofs.Common.{◌≡◌, ◌≢◌, ◌≤◌, ◌<◌, ◌+◌, ◌⊎◌, ◌==◌, ℕ, zero, suc, Bool, true, false, List, [], ◌∷◌, ◌++◌, length, Option, Some, None, cond, min, refl, ap, sym, ◌∙◌, subst, ⊎_elim, inl, inr, arith, ne_eqb, eq-eqb}
use Rattle.std.specs.Prelude.{slice_get, option_to_list}
use Rattle.std.proofs.lemmas.Bool.{cases_eq}
use mathlib.Core.List.{IsPrefix}
use Rattle.pg_messages.specs.declared.frontend.PgWireFrontendMessage.{PgWireFrontendMessage}
use Rattle.pg_results.specs.declared.client.PgWireConnectionState.TheVariants as phase
use Rattle.pg_client.specs.declared.desk.DeskCall.TheVariants.{Start}
use Rattle.pg_client.specs.Answer.{Goes}
use Rattle.pg_client.specs.State.{State}
use Rattle.conversation_table.specs.Handlers.{Handlers}
use Rattle.conversation_table.specs.Table.{whole_table}
use Rattle.conversation_runs.specs.Streams.{greatest_count}
use Rattle.counter.specs.Counter.{asks_next, counted, counter_sheet, next_query, number_replies}
use Rattle.counter.specs.declared.answers.CounterStatement.{CounterStatement}
use Rattle.counter.proofs.Counting.{tells}
use Rattle.shared_worlds.specs.Worlds.{AreMade, IsLegal, IsMade, place_from, place_of}
use Rattle.shared_worlds.specs.Sharing.{Known, MeetsShared}
use Rattle.shared_counter.specs.declared.world.Counted.{Counted}
use Rattle.shared_counter.specs.Counting.{change_of, shared_counter}

none_some : (c : Counted) → ◌≡◌ {A = Option Counted} None (Some c) → ⊥
none_some c e = cc (e)

-- what a change from p on is, if there is one
changed : (p n : ℕ) (c : Counted) → change_of p n ≡ Some c → (p ≢ n) × (c.number ≡ n)
changed p n c e = elim (cases_eq p n) [
  | inl same ↦ absurd (none_some c (sym (ap (λ b. cond b None (Some (record { number = n }))) (eq-eqb p n same)) ∙ e))
  | inr apart ↦ (
    apart,
    (let is : Some (record { number = n }) ≡ Some c = sym (ap (λ b. cond b None (Some (record { number = n }))) (ne_eqb p n apart)) ∙ e in cc (is)),
  )
]

one_more : (b : Bool) (p n : ℕ) → p ≤ greatest_count → p ≢ n → n ≡ cond b (min (p + 1) greatest_count) p → (n ≡ p + 1) × (n ≤ greatest_count)
one_more true p n most apart is = (omega (arith, is, apart, most), omega (arith, is, apart, most))
one_more false p n most apart is = absurd (apart (sym is))

-- a change that is made at p has the next number
next_number : (p : ℕ) (c : Counted) → p ≤ greatest_count → IsMade shared_counter p c → (c.number ≡ p + 1) × (c.number ≤ greatest_count)
next_number p c most made =
    let n = counted p made.state made.message in
    let is = changed p n c made.made in
    let more = one_more (asks_next made.state.info.state made.message) p n most is.0 refl in
    (is.1 ∙ more.0, subst (λ k. k ≤ greatest_count) (sym is.1) more.1)

numbers_from : (p : ℕ) (history : List Counted) → p ≤ greatest_count → AreMade shared_counter p history → (k : ℕ) (c : Counted)
    → slice_get history k ≡ Some c → c.number ≡ p + k + 1
numbers_from p [] most made k c at = absurd (none_some c at)
numbers_from p (x ∷ history) most made zero c at =
    let same : x ≡ c = cc (at) in
    let is = next_number p x most made.0 in omega (arith, ap (λ (y : Counted). y.number) same, is.0)
numbers_from p (x ∷ history) most made (suc k) c at =
    let is = next_number p x most made.0 in
    omega (arith, numbers_from x.number history is.1 made.1 k c at, is.0)

place_behind : (p : ℕ) (history : List Counted) → p ≤ greatest_count → AreMade shared_counter p history
    → place_from shared_counter.moved p history ≡ p + length history
place_behind p [] most made = omega arith
place_behind p (x ∷ history) most made =
    let is = next_number p x most made.0 in omega (arith, place_behind x.number history is.1 made.1, is.0)

-- what is made as far as a history goes is made as far as a beginning of it goes
made_before : (p : ℕ) (xs ys : List Counted) → AreMade shared_counter p (xs ++ ys) → AreMade shared_counter p xs
made_before p [] ys made = tt
made_before p (x ∷ xs) ys made = (made.0, made_before x.number xs ys made.1)

pub numbers : (history : List Counted) → IsLegal shared_counter history → (k : ℕ) (c : Counted) → slice_get history k ≡ Some c
    → c.number ≡ k + 1
numbers history legal k c at = omega (arith, numbers_from 0 history (omega arith) legal k c at)

none_more : (n : ℕ) → 0 + n ≡ n
none_more n = omega arith

below : (p : ℕ) → p < greatest_count → min (p + 1) greatest_count ≡ p + 1
below p less = omega (arith, less)

-- NEXT counts by one where a query is awaited
counts_one : (p : ℕ) (s : State CounterStatement) → s.info.state ≡ phase.ReadyForQuery → p < greatest_count → counted p s next_query ≡ p + 1
counts_one p s ready less = ap (λ x. cond (asks_next x next_query) (min (p + 1) greatest_count) p) ready ∙ below p less

-- a history of one change
abbrev one_counted : ℕ → List Counted
one_counted k = record { number = k } ∷ []

-- and that is one change
is_one_change : (p n : ℕ) → n ≡ p + 1 → option_to_list (change_of p n) ≡ record { number = p + 1 } ∷ []
is_one_change p n is =
    let apart : p ≢ n = omega (arith, is) in
    ap (λ b. option_to_list (cond b None (Some (record { number = n })))) (ne_eqb p n apart)
    ∙ ap one_counted is

pub tells_next : (w v : Known Counted (Unit {0})) (s : State CounterStatement) (h : Handlers CounterStatement) (answers : List Bool)
    → s.info.state ≡ phase.ReadyForQuery → MeetsShared shared_counter w s next_query h v → (before : List Counted)
    × IsPrefix w.seen before
    × (length before < greatest_count → (v.seen ≡ before ++ record { number = length before + 1 } ∷ [])
    × (whole_table h answers s next_query ≡ record {
      replies = number_replies (length before + 1) s.info.status;
      calls = Start ∷ [];
      next = Goes s;
    }))
tells_next w v s h answers ready met =
    let before = w.seen ++ met.others in
    let p = place_of shared_counter before in
    let more = option_to_list (change_of p (counted p s next_query)) in
    let legal : IsLegal shared_counter before = made_before 0 before more (subst (IsLegal shared_counter) met.seen met.legal) in
    let place : p ≡ length before = place_behind 0 before (omega arith) legal ∙ none_more (length before) in (
      before,
      (met.others, refl),
      λ less.
          let one : counted p s next_query ≡ p + 1 = counts_one p s ready (subst (λ k. k < greatest_count) (sym place) less) in (
            met.seen ∙ ap (λ l. before ++ l) (is_one_change p (counted p s next_query) one)
                ∙ ap (λ k. before ++ one_counted (k + 1)) place,
            subst (λ k. whole_table h answers s next_query ≡ record {
              replies = number_replies k s.info.status;
              calls = Start ∷ [];
              next = Goes s;
            }) (one ∙ ap (λ k. k + 1) place) (tells p (counted p s next_query) s h answers ready (record { counts = refl; tells = met.tells })),
          ),
    )
