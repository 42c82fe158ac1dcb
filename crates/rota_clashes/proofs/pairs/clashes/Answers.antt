-- The pairs are the clashes, in order once they are sorted.
use Rattle.std.proofs.Common.{◌≡◌, ◌∙◌, ◌⊎◌, ℕ, List, inl, inr, length, get_or}
use Rattle.std.specs.List.{All, AllPairs, Contains, dedup}
use Rattle.std.proofs.lemmas.List.Elements.{Contains-get_or}
use Rattle.std.proofs.lemmas.List.Filters.{dedup_is}
use Rattle.std.proofs.lemmas.List.Kept.{Contains-from_dedup}
use Rattle.std.proofs.lemmas.List.Sorted.{Contains-permutation, IsPermutation-sym}
use Rattle.rota_clashes.specs.Clashes.{AreClashes, Clash}
use Rattle.rota_clashes.specs.Shifts.{AreShifts}
use Rattle.rota_clashes.proofs.PairLemmas.{pair_eq, distinct_in_order, distinct_has}
use Rattle.rota_clashes.proofs.ShiftLemmas.{begun-clash, running-clash, clash-joined}
use Rattle.rota_clashes.proofs.pairs.clashes.Goals as goal

pub returns : goal.returns
returns c =
    let first = c.args.first.now in
    let second = c.args.second.now in
    let fs = c.as_slice.result.now in
    let ss = c.as_slice-2.result.now in
    let vf = c.requires.first_valid in
    let vs = c.requires.second_valid in
    let hf : AreShifts first fs = rw c.as_slice.ensures.value c.in_ok-first.ensures.shifts in
    let hs : AreShifts second ss = rw c.as_slice-2.ensures.value c.in_ok-second.ensures.shifts in
    let found = c.in_ok-pairs.pairs.items in
    let sorted = c.sort_unstable.new.self.items in
    let moved = c.sort_unstable.ensures.permutation in
    let is : c.from_vec.result ≡ dedup pair_eq sorted = c.from_vec.ensures ∙ dedup_is pair_eq _ _ c.dedup.ensures.filtered in
    let clash : (p : ℕ × ℕ) → Contains (dedup pair_eq sorted) p → Clash first second p.0 p.1 = λ p h.
    elim (c.in_ok-pairs.ensures.only p (Contains-permutation sorted found p (IsPermutation-sym found sorted moved)
    (Contains-from_dedup pair_eq sorted p h))) [
      | inl begun ↦ begun-clash first second fs ss vf vs hf hs p begun
      | inr running ↦ running-clash first second fs ss vf vs hf hs p running
    ] in
    let has : (p : ℕ × ℕ) → Contains found p → Contains (dedup pair_eq sorted) p =
    λ p h. distinct_has sorted p (Contains-permutation found sorted p moved h) in
    rw is (record {
      clash = λ k d h. clash (get_or (dedup pair_eq sorted) k d) (Contains-get_or (dedup pair_eq sorted) k d h);
      all = λ i j h. elim (clash-joined first second fs ss vf vs hf hs i j h) [
        | inl begun ↦ has (i, j) (c.in_ok-pairs.ensures.begun (i, j) begun)
        | inr running ↦ has (i, j) (c.in_ok-pairs.ensures.running (i, j) running)
      ];
      in_order = distinct_in_order sorted c.sort_unstable.ensures.sorted;
    })
