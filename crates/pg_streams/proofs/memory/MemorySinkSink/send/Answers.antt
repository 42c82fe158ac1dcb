use Rattle.std.proofs.Common.{◌≡◌, ◌∙◌, ℕ, List, [], ◌++◌, Some, Result, Ok, Err, min, length, take, drop, find, ⊎_elim, refl, sym, ap, subst, arith, rules, append-nil, take-append-drop}
use Rattle.std.specs.Prelude.{◌==◌}
use Rattle.std.specs.Result.{OnErr}
use Rattle.std.proofs.lemmas.Bool.{cases_lt}
use Rattle.std.proofs.lemmas.List.{take_all, length-take}
use Rattle.conversation_runs.specs.declared.streams.SinkError.{SinkError}
use Rattle.conversation_runs.specs.declared.streams.SinkError.TheVariants.{Failed, NoMemory}
use Rattle.pg_streams.specs.Counts.{raised}
use Rattle.pg_streams.specs.Memory.{Drain, told_to_fail, TakesAsTold}
use Rattle.pg_streams.proofs.memory.MemorySinkSink.send.Goals as goal

-- want of memory is no fault of the sink
abbrev is_failed : Result (Unit {0}) SinkError → Type 0
is_failed (Ok done) = ⊥
is_failed (Err Failed) = Unit {0}
is_failed (Err NoMemory) = ⊥

on_error : (r : Result (Unit {0}) SinkError) (P : Type 0) → P → OnErr r P
on_error (Ok done) P p = tt
on_error (Err e) P p = p

-- the told bytes, at most all
take_min : (n m : ℕ) (bytes : List ℕ) → m ≡ min n (length bytes) → take m bytes ≡ take n bytes
take_min n m bytes e =
    ⊎_elim (λ h. ap (λ k. take k bytes) (let same : m ≡ n = omega (arith, h, e) in same))
    (λ h. take_all m bytes (omega (arith, h, e)) ∙ sym (take_all n bytes h)) (cases_lt n (length bytes))

min_long : (n m : ℕ) (bytes : List ℕ) → m ≡ min n (length bytes) → m ≡ length (take m bytes)
min_long n m bytes e = let long = length-take m bytes in omega (arith, long, e)

-- ---- the call is told to fail, and memory is wanting

pub returns-in_err-append-in-Some-clause-err : goal.returns-in_err-append-in-Some-clause-err
returns-in_err-append-in-Some-clause-err c =
    on_error c.from_residual-in_err-append-in-Some.result _ (
      [],
      (c.args.bytes.now, refl),
      ap Some
          (ap (λ (d : Drain). d.bytes) c.in_err-append-in-Some.ensures.err.1 ∙ ap (λ (d : Drain). d.bytes) c.self.view_is
          ∙ sym (append-nil c.args.self.now.bytes)),
    )

-- ---- the call is told to fail

pub returns-in_ok-append-in-Some-clause-err : goal.returns-in_ok-append-in-Some-clause-err
returns-in_ok-append-in-Some-clause-err c =
    let bytes = c.args.bytes.now in
    let taken : c.self-in-Some.inside.bytes.items ≡ c.args.self.now.bytes ++ take c.min.result bytes =
    ap (λ (d : Drain). d.bytes) (c.self-in-Some.view_is ∙ c.in_ok-append-in-Some.ensures.ok)
    ∙ ap (λ (d : Drain). d.bytes ++ take c.min.result bytes) c.self.view_is in
    (take c.min.result bytes, (drop c.min.result bytes, sym (take-append-drop c.min.result bytes)), ap (λ xs. Some xs) taken)

pub returns-in_ok-append-in-Some-clause-fails : goal.returns-in_ok-append-in-Some-clause-fails
returns-in_ok-append-in-Some-clause-fails c =
    ap (λ (d : Drain). d.fails) (c.self-in-Some.view_is ∙ c.in_ok-append-in-Some.ensures.ok) ∙ ap (λ (d : Drain). d.fails) c.self.view_is

pub returns-in_ok-append-in-Some-clause-calls : goal.returns-in_ok-append-in-Some-clause-calls
returns-in_ok-append-in-Some-clause-calls c =
    ap (λ (d : Drain). d.calls) (c.self-in-Some.view_is ∙ c.in_ok-append-in-Some.ensures.ok) ∙ c.saturating_add-self-inside.ensures
    ∙ ap (λ (d : Drain). raised d.calls) c.self.view_is

pub returns-in_ok-append-in-Some-clause-counted : goal.returns-in_ok-append-in-Some-clause-counted
returns-in_ok-append-in-Some-clause-counted c = record {
  faults = c.saturating_add-self-inside-in-Some.ensures
      ∙ ap (λ (d : Drain). raised d.faults) (c.self-in-Some.view_is ∙ c.in_ok-append-in-Some.ensures.ok)
      ∙ ap (λ (d : Drain). raised d.faults) c.self.view_is;
  failed = search rules;
  no_memory = λ q. absurd (subst is_failed q tt);
  calm = tt;
  never_falls = search rules;
}

pub returns-in_ok-append-in-Some-clause-taken : goal.returns-in_ok-append-in-Some-clause-taken
returns-in_ok-append-in-Some-clause-taken c =
    let told : Some (c.in-Some.field-0-0, c.in-Some.n) ≡ told_to_fail c.args.self.now = sym c.in-Some.is ∙ c.told_failure.ensures
    ∙ ap (λ l. find (λ (f : ℕ × ℕ). f.0 == c.self.inside.calls) l) c.as_slice.ensures
    ∙ ap (λ (d : Drain). told_to_fail d) c.self.view_is in
    let taken : c.self-in-Some.inside.bytes.items ≡ c.args.self.now.bytes ++ take c.in-Some.n c.args.bytes.now =
    ap (λ (d : Drain). d.bytes) (c.self-in-Some.view_is ∙ c.in_ok-append-in-Some.ensures.ok)
    ∙ ap (λ (d : Drain). d.bytes ++ take c.min.result c.args.bytes.now) c.self.view_is
    ∙ ap (λ l. c.args.self.now.bytes ++ l) (take_min c.in-Some.n c.min.result c.args.bytes.now c.min.ensures) in
    subst (λ o. TakesAsTold o (Err Failed) c.args.self.now.bytes c.self-in-Some.inside.bytes.items c.args.bytes.now) told taken

pub slice_bounds-append-end : goal.slice_bounds-append-end
slice_bounds-append-end c = min_long c.in-Some.n c.min.result c.args.bytes.now c.min.ensures
