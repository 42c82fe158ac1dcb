-- What was read grows by each piece, and is all that the input had to give once a read gives none.
use Rattle.std.proofs.Common.{◌≡◌, ◌++◌, ◌∙◌, ℕ, List, [], Bool, false, Option, Some, None, Result, Ok, Err, sym, ap, subst, take, drop, cond, append_assoc, is_ok, is_err, arith}
use Rattle.std.proofs.lemmas.List.{append-nil, take-append-drop}
use Rattle.std.specs.Prelude.{IfSome}
use Rattle.conversation_runs.specs.Streams.{GivesFront}
use Rattle.relation_files.specs.Files.{Gave, GaveAll}
use Rattle.pg_replay.proofs.input.read_by.Goals as goal

-- one more piece was given
gave_more : (left mid new : Option (List ℕ)) (n : ℕ) (into taken piece more : List ℕ) → Gave left mid taken
    → IfSome mid (λ bytes. GivesFront n into bytes new) → piece ≡ take n into → more ≡ taken ++ piece → Gave left new more
gave_more None mid new n into taken piece more gave given is grown = tt
gave_more (Some told) mid new n into taken piece more gave given is grown =
    let rest = gave.0 in
    let front : GivesFront n into rest new = subst (λ o. IfSome o (λ bytes. GivesFront n into bytes new)) gave.2 given in (
      drop n rest,
      gave.1 ∙ ap (λ l. taken ++ l) (sym (take-append-drop n rest)) ∙ sym (append_assoc taken (take n rest) (drop n rest))
          ∙ ap (λ l. (taken ++ l) ++ drop n rest) (sym front.given ∙ sym is) ∙ ap (λ l. l ++ drop n rest) (sym grown),
      front.rest,
    )

-- none was given, and none is left
gave_all : (left mid new : Option (List ℕ)) (n : ℕ) (into taken : List ℕ) → Gave left mid taken
    → IfSome mid (λ bytes. GivesFront n into bytes new) → n ≡ 0 → GaveAll left new taken
gave_all None mid new n into taken gave given none = tt
gave_all (Some told) mid new n into taken gave given none =
    let rest = gave.0 in
    let front : GivesFront n into rest new = subst (λ o. IfSome o (λ bytes. GivesFront n into bytes new)) gave.2 given in
    let end = front.at_end none in (
      gave.1 ∙ ap (λ l. taken ++ l) end ∙ append-nil taken,
      front.rest ∙ ap (λ k. Some (drop k rest)) none ∙ ap Some end,
    )

-- what a `Vec` has where it was extended
extended : {A E : Type 0} (result : Result A E) (failed : Bool) (old new piece : List ℕ) → failed ≡ is_err result → failed ≡ false
    → new ≡ cond (is_ok result) (old ++ piece) old → new ≡ old ++ piece
extended (Ok x) failed old new piece is fine new_is = new_is
extended (Err e) failed old new piece is fine new_is = absurd cc

pub reads-preserved : goal.reads-preserved
reads-preserved g c = record {
  gave = gave_more (g.S.Source.left c.args.input.now) (g.S.Source.left c.reads.input) (g.S.Source.left c.receive.new.self) c.in-Ok.n
      c.receive.new.into c.reads.text.items c.front_of.result.now c.extend_from_slice.new.self.items c.reads.invariant.gave
      c.in-Ok.ensures.bytes c.front_of.ensures
      (extended c.extend_from_slice.result c.is_err.result c.reads.text.items c.extend_from_slice.new.self.items c.front_of.result.now
      c.is_err.ensures.value c.if-is_err.false c.extend_from_slice.ensures.items);
  faults = omega (arith, c.reads.invariant.faults, c.receive.ensures.never_falls);
}

pub returns-then-n-eq0-clause-whole : goal.returns-then-n-eq0-clause-whole
returns-then-n-eq0-clause-whole g c =
    gave_all (g.S.Source.left c.args.input.now) (g.S.Source.left c.reads.input) (g.S.Source.left c.receive.new.self) c.in-Ok.n
    c.receive.new.into c.reads.text.items c.reads.invariant.gave c.in-Ok.ensures.bytes c.if-n-eq0.true

pub returns-clause-cause : goal.returns-clause-cause
returns-clause-cause g c = (c.reads.text.items, c.reads.invariant.gave, omega arith)
