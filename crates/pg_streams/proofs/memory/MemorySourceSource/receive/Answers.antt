use Rattle.std.proofs.Common.{◌≡◌, ℕ, zero, suc, ◌+◌, ◌-◌, ◌≤◌, ◌<◌, Bool, false, List, [], ◌∷◌, Option, Some, None, Result, Ok, Err, min, length, take, drop, get_or, slice_get, MatchOption, option_map, Bor, cond, inl, inr, ⊎_elim, refl, sym, ap, subst, ◌∙◌, arith, length-drop}
use Rattle.std.specs.Prelude.{◌==◌, if◌then◌else◌}
use Rattle.std.specs.List.{list_any}
use Rattle.std.proofs.lemmas.List.{take_rest, drop-drop, nil_from_length}
use Rattle.std.proofs.lemmas.Option.{slice_get-get_or}
use Rattle.std.proofs.lemmas.Bool.Decides.{eqb_tells}
use Rattle.conversation_runs.specs.declared.streams.SourceFailed.{SourceFailed}
use Rattle.conversation_runs.specs.Streams.{GivesFront, HasRisen}
use Rattle.pg_streams.specs.Counts.{raised}
use Rattle.pg_streams.specs.Memory.{Tape, is_told_to_fail, most_of, received}
use Rattle.pg_streams.specs.contracts.memory.MemorySource.{the_view}
use Rattle.pg_streams.proofs.memory.MemorySourceSource.receive.Goals as goal

-- ---- what is known of a piece and its copy

most_some : (piece : Option ℕ) (room : ℕ) → 0 < room → 0 < most_of piece room
most_some None room h = h
most_some (Some piece) room h = omega (arith, h)

most_within : (piece : Option ℕ) (room : ℕ) → most_of piece room ≤ room
most_within None room = omega arith
most_within (Some piece) room = omega arith

copy_fits : (piece : Option ℕ) (room most n there : ℕ) → most ≡ most_of piece room → n ≡ min most there → n ≤ room
copy_fits piece room most n there m e = let w = most_within piece room in omega (arith, w, m, e)

gives_front : (s into : List ℕ) (p most n : ℕ) → 0 < most → n ≡ min most (length (take (length s - p) (drop p s)))
    → take n into ≡ take n (take (length s - p) (drop p s)) → GivesFront n into (drop p s) (Some (drop (p + n) s))
gives_front s into p most n some count front =
    let there : take (length s - p) (drop p s) ≡ drop p s = take_rest s p in
    let long : n ≡ min most (length (drop p s)) = count ∙ ap (λ l. min most (length l)) there in
    record {
      within = omega (arith, long);
      given = front ∙ ap (λ l. take n l) there;
      rest = ap Some (sym (drop-drop n p s));
      at_end = λ z. nil_from_length (drop p s) (omega (arith, long, some, z));
    }

stays_within : (s : List ℕ) (p most n : ℕ) → p ≤ length s → n ≡ min most (length (take (length s - p) (drop p s))) → p + n ≤ length s
stays_within s p most n within count =
    let long : n ≡ min most (length (drop p s)) = count ∙ ap (λ l. min most (length l)) (take_rest s p) in
    let left = length-drop p s in omega (arith, long, left, within)

past_end : (xs : List ℕ) (i : ℕ) → length xs ≤ i → slice_get xs i ≡ None
past_end [] i h = refl
past_end (x ∷ xs) zero h = absurd (omega arith)
past_end (x ∷ xs) (suc i) h = past_end xs i (omega (arith, h))

item_copied : {R : Type 0} (now : R → ℕ) (xs : List ℕ) (i : ℕ) (r : Option R)
    → MatchOption r (length xs ≤ i) (λ x. (i < length xs) × ((d : ℕ) → now x ≡ get_or xs i d)) → option_map now r ≡ slice_get xs i
item_copied now xs i None h = sym (past_end xs i h)
item_copied now xs i (Some x) h = ap Some (h.1 0) ∙ sym (slice_get-get_or xs i 0 h.0)

-- ---- what a call answers and counts

told_of : (fails s : List ℕ) (call : ℕ) (r b : Bool) → s ≡ fails → r ≡ list_any (λ y. y == call) s → r ≡ b
    → list_any (λ y. y == call) fails ≡ b
told_of fails s call r b e p q = ap (λ l. list_any (λ y. y == call) l) (sym e) ∙ sym p ∙ q

abbrev answered : Bool → ℕ → Result ℕ SourceFailed
answered fails n = if fails then Err (record {}) else Ok n

received_ok : (t : Tape) (room most n : ℕ) (piece : Option ℕ) → is_told_to_fail t ≡ false → piece ≡ slice_get t.pieces t.calls
    → most ≡ most_of piece room → n ≡ min most (length t.left) → Ok n ≡ received t room
received_ok t room most n piece told e m count =
    let is : n ≡ min (most_of (slice_get t.pieces t.calls) room) (length t.left) =
    count ∙ ap (λ k. min k (length t.left)) m ∙ ap (λ o. min (most_of o room) (length t.left)) e in
    ap (λ k. answered false k) is ∙ ap (λ b. answered b (min (most_of (slice_get t.pieces t.calls) room) (length t.left))) (sym told)

read_counts : (n r new : ℕ) → 0 < n → new ≡ min (r + 1) 18446744073709551615
    → new ≡ (if n == 0 then r else min (r + 1) 18446744073709551615)
read_counts n r new h e =
    ⊎_elim (λ t. let z = t.1 in absurd (omega (arith, z, h)))
    (λ t. e ∙ sym (ap (λ b. cond b r (min (r + 1) 18446744073709551615)) t.0)) (eqb_tells n 0)

end_counts_not : (n r : ℕ) → n ≤ 0 → r ≡ (if n == 0 then r else min (r + 1) 18446744073709551615)
end_counts_not n r h =
    ⊎_elim (λ t. sym (ap (λ b. cond b r (min (r + 1) 18446744073709551615)) t.0))
    (λ t. absurd (t.1 (let z : n ≡ 0 = omega (arith, h) in z))) (eqb_tells n 0)

not_fallen : (old new : ℕ) → new ≡ old → old ≤ new
not_fallen old new e = omega (arith, e)

raised_from : (old n new : ℕ) → n ≡ old → n < 18446744073709551616 → new ≡ min (n + 1) 18446744073709551615 → old ≤ new
raised_from old n new same below e = omega (arith, same, below, e)

has_risen : (old n new : ℕ) → n ≡ old → n < 18446744073709551616 → new ≡ min (n + 1) 18446744073709551615 → HasRisen old new
has_risen old n new same below e =
    ⊎_elim (λ t. inr (sym same ∙ t.1))
    (λ t. let d = t.1 in inl (let above : old < new = omega (arith, same, below, e, d) in above)) (eqb_tells n 18446744073709551615)

-- ---- the part of the bytes that is copied

pub copy_front-n-requires : goal.copy_front-n-requires
copy_front-n-requires c =
    subst (λ m. m ≤ length c.args.into.now) (sym c.most_given-most.ensures) (most_within c.copied-piece.result (length c.args.into.now))

pub slice_bounds-copy_front-start : goal.slice_bounds-copy_front-start
slice_bounds-copy_front-start c = subst (λ b. c.self.inside.position ≤ length b) (sym c.as_slice-3.ensures) c.self.invariant

pub slice_bounds-copy_front-count : goal.slice_bounds-copy_front-count
slice_bounds-copy_front-count c = subst (λ b. c.self.inside.position ≤ length b) (sym c.as_slice-3.ensures) c.self.invariant

pub invariant_of-self : goal.invariant_of-self
invariant_of-self c = c.self.invariant

pub invariant_of-self-then-n-gt0 : goal.invariant_of-self-then-n-gt0
invariant_of-self-then-n-gt0 c =
    subst (λ b. c.self.inside.position + c.copy_front-n.result ≤ length b) c.as_slice-3.ensures
    (stays_within c.as_slice-3.result.now c.self.inside.position c.most_given-most.result c.copy_front-n.result
    (subst (λ b. c.self.inside.position ≤ length b) (sym c.as_slice-3.ensures) c.self.invariant) c.copy_front-n.ensures.count)

pub invariant_of-self-else-n-gt0 : goal.invariant_of-self-else-n-gt0
invariant_of-self-else-n-gt0 c =
    subst (λ b. c.self.inside.position + c.copy_front-n.result ≤ length b) c.as_slice-3.ensures
    (stays_within c.as_slice-3.result.now c.self.inside.position c.most_given-most.result c.copy_front-n.result
    (subst (λ b. c.self.inside.position ≤ length b) (sym c.as_slice-3.ensures) c.self.invariant) c.copy_front-n.ensures.count)

-- ---- the call fails

pub returns-then-contains-clause-counted : goal.returns-then-contains-clause-counted
returns-then-contains-clause-counted c = record {
  fits = tt;
  counts = ap (λ (t : Tape). t.reads) c.self.view_is;
  faults = c.saturating_add-self-inside-then-contains.ensures ∙ ap (λ (t : Tape). raised t.faults) c.self.view_is;
  failed = has_risen c.args.self.now.faults c.self.inside.faults c.saturating_add-self-inside-then-contains.result
      (ap (λ (t : Tape). t.faults) c.self.view_is) c.self.ranges.1.1.1.1.1.1.0.1 c.saturating_add-self-inside-then-contains.ensures;
  calm = tt;
  never_falls = raised_from c.args.self.now.faults c.self.inside.faults c.saturating_add-self-inside-then-contains.result
      (ap (λ (t : Tape). t.faults) c.self.view_is) c.self.ranges.1.1.1.1.1.1.0.1 c.saturating_add-self-inside-then-contains.ensures;
}

pub returns-then-contains-clause-untouched : goal.returns-then-contains-clause-untouched
returns-then-contains-clause-untouched c = ap (λ (t : Tape). t.left) c.self.view_is

pub returns-then-contains-clause-next : goal.returns-then-contains-clause-next
returns-then-contains-clause-next c = record {
  pieces = ap (λ (t : Tape). t.pieces) c.self.view_is;
  fails = ap (λ (t : Tape). t.fails) c.self.view_is;
  calls = c.saturating_add-self-inside.ensures ∙ ap (λ (t : Tape). raised t.calls) c.self.view_is;
  faults = c.saturating_add-self-inside-then-contains.ensures ∙ ap (λ (t : Tape). raised t.faults) c.self.view_is;
}

-- ---- it gives bytes

pub returns-then-n-gt0-clause-answer : goal.returns-then-n-gt0-clause-answer
returns-then-n-gt0-clause-answer c =
    let told = told_of c.self.inside.fails c.as_slice.result.now c.self.inside.calls c.contains.result false c.as_slice.ensures
    c.contains.ensures.value c.if-contains.false in
    let item = item_copied (λ (x : Bor ℕ). x.now) c.as_slice-2.result.now c.self.inside.calls c.get.result c.get.ensures.lookup.3 in
    let piece : c.copied-piece.result ≡ slice_get c.self.inside.pieces c.self.inside.calls = c.copied-piece.ensures ∙ item
    ∙ ap (λ l. slice_get l c.self.inside.calls) c.as_slice-2.ensures in
    let p = c.self.inside.position in
    let count : c.copy_front-n.result ≡ min c.most_given-most.result (length (drop p c.self.inside.bytes)) = c.copy_front-n.ensures.count
    ∙ ap (λ l. min c.most_given-most.result (length l)) (take_rest c.as_slice-3.result.now p)
    ∙ ap (λ l. min c.most_given-most.result (length (drop p l))) c.as_slice-3.ensures in
    subst (λ (t : Tape). Ok c.copy_front-n.result ≡ received t (length c.args.into.now)) c.self.view_is
    (received_ok (the_view c.self.inside) (length c.args.into.now) c.most_given-most.result c.copy_front-n.result c.copied-piece.result
    told piece c.most_given-most.ensures count)

pub returns-then-n-gt0-clause-next : goal.returns-then-n-gt0-clause-next
returns-then-n-gt0-clause-next c = record {
  pieces = ap (λ (t : Tape). t.pieces) c.self.view_is;
  fails = ap (λ (t : Tape). t.fails) c.self.view_is;
  calls = c.saturating_add-self-inside.ensures ∙ ap (λ (t : Tape). raised t.calls) c.self.view_is;
  faults = ap (λ (t : Tape). t.faults) c.self.view_is;
}

pub returns-then-n-gt0-clause-counted : goal.returns-then-n-gt0-clause-counted
returns-then-n-gt0-clause-counted c = record {
  fits = copy_fits c.copied-piece.result (length c.args.into.now) c.most_given-most.result c.copy_front-n.result _ c.most_given-most.ensures
      c.copy_front-n.ensures.count;
  counts = read_counts c.copy_front-n.result c.self.inside.reads c.saturating_add-self-inside-then-n-gt0.result c.if-n-gt0.true
      c.saturating_add-self-inside-then-n-gt0.ensures
      ∙ ap (λ (t : Tape). if c.copy_front-n.result == 0 then t.reads else min (t.reads + 1) 18446744073709551615) c.self.view_is;
  faults = ap (λ (t : Tape). t.faults) c.self.view_is;
  failed = tt;
  calm = ap (λ (t : Tape). t.faults) c.self.view_is;
  never_falls = not_fallen c.args.self.now.faults c.self.inside.faults
      (ap (λ (t : Tape). t.faults) c.self.view_is);
}

pub returns-then-n-gt0-clause-bytes : goal.returns-then-n-gt0-clause-bytes
returns-then-n-gt0-clause-bytes c =
    let p = c.self.inside.position in
    let n = c.copy_front-n.result in
    let some = subst (λ m. 0 < m) (sym c.most_given-most.ensures)
    (most_some c.copied-piece.result (length c.args.into.now) c.requires) in
    let front = gives_front c.as_slice-3.result.now c.copy_front-n.new.into p c.most_given-most.result n some
    c.copy_front-n.ensures.count c.copy_front-n.ensures.front in
    subst (λ (t : Tape). GivesFront n c.copy_front-n.new.into t.left (Some (drop (p + n) c.self.inside.bytes))) c.self.view_is
    (subst (λ b. GivesFront n c.copy_front-n.new.into (drop p b) (Some (drop (p + n) b))) c.as_slice-3.ensures front)

-- ---- no byte is left

pub returns-else-n-gt0-clause-answer : goal.returns-else-n-gt0-clause-answer
returns-else-n-gt0-clause-answer c =
    let told = told_of c.self.inside.fails c.as_slice.result.now c.self.inside.calls c.contains.result false c.as_slice.ensures
    c.contains.ensures.value c.if-contains.false in
    let item = item_copied (λ (x : Bor ℕ). x.now) c.as_slice-2.result.now c.self.inside.calls c.get.result c.get.ensures.lookup.3 in
    let piece : c.copied-piece.result ≡ slice_get c.self.inside.pieces c.self.inside.calls = c.copied-piece.ensures ∙ item
    ∙ ap (λ l. slice_get l c.self.inside.calls) c.as_slice-2.ensures in
    let p = c.self.inside.position in
    let count : c.copy_front-n.result ≡ min c.most_given-most.result (length (drop p c.self.inside.bytes)) = c.copy_front-n.ensures.count
    ∙ ap (λ l. min c.most_given-most.result (length l)) (take_rest c.as_slice-3.result.now p)
    ∙ ap (λ l. min c.most_given-most.result (length (drop p l))) c.as_slice-3.ensures in
    subst (λ (t : Tape). Ok c.copy_front-n.result ≡ received t (length c.args.into.now)) c.self.view_is
    (received_ok (the_view c.self.inside) (length c.args.into.now) c.most_given-most.result c.copy_front-n.result c.copied-piece.result
    told piece c.most_given-most.ensures count)

pub returns-else-n-gt0-clause-next : goal.returns-else-n-gt0-clause-next
returns-else-n-gt0-clause-next c = record {
  pieces = ap (λ (t : Tape). t.pieces) c.self.view_is;
  fails = ap (λ (t : Tape). t.fails) c.self.view_is;
  calls = c.saturating_add-self-inside.ensures ∙ ap (λ (t : Tape). raised t.calls) c.self.view_is;
  faults = ap (λ (t : Tape). t.faults) c.self.view_is;
}

pub returns-else-n-gt0-clause-counted : goal.returns-else-n-gt0-clause-counted
returns-else-n-gt0-clause-counted c = record {
  fits = copy_fits c.copied-piece.result (length c.args.into.now) c.most_given-most.result c.copy_front-n.result _ c.most_given-most.ensures
      c.copy_front-n.ensures.count;
  counts = end_counts_not c.copy_front-n.result c.self.inside.reads c.if-n-gt0.false
      ∙ ap (λ (t : Tape). if c.copy_front-n.result == 0 then t.reads else min (t.reads + 1) 18446744073709551615) c.self.view_is;
  faults = ap (λ (t : Tape). t.faults) c.self.view_is;
  failed = tt;
  calm = ap (λ (t : Tape). t.faults) c.self.view_is;
  never_falls = not_fallen c.args.self.now.faults c.self.inside.faults
      (ap (λ (t : Tape). t.faults) c.self.view_is);
}

pub returns-else-n-gt0-clause-bytes : goal.returns-else-n-gt0-clause-bytes
returns-else-n-gt0-clause-bytes c =
    let p = c.self.inside.position in
    let n = c.copy_front-n.result in
    let some = subst (λ m. 0 < m) (sym c.most_given-most.ensures)
    (most_some c.copied-piece.result (length c.args.into.now) c.requires) in
    let front = gives_front c.as_slice-3.result.now c.copy_front-n.new.into p c.most_given-most.result n some
    c.copy_front-n.ensures.count c.copy_front-n.ensures.front in
    subst (λ (t : Tape). GivesFront n c.copy_front-n.new.into t.left (Some (drop (p + n) c.self.inside.bytes))) c.self.view_is
    (subst (λ b. GivesFront n c.copy_front-n.new.into (drop p b) (Some (drop (p + n) b))) c.as_slice-3.ensures front)
