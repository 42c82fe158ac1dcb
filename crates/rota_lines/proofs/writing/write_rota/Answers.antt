-- A line more.
use Rattle.std.proofs.Common.{◌≡◌, ◌∙◌, ℕ, List, ◌++◌, sym, ap, subst, drop, length, All, ◌≤◌, append_assoc, arith}
use Rattle.pg_interval.specs.declared.pg_interval.Interval.{Interval}
use Rattle.pg_text.specs.Words.{printed_style}
use Rattle.conversation_runs.specs.Streams.{GrowsByFront}
use Rattle.rota_lines.specs.Lines.{rota_text, lines_from, Stands}
use Rattle.std.proofs.lemmas.List.{take_all}
use Rattle.std.proofs.lemmas.List.Elements.{All-more}
use Rattle.rota_lines.proofs.LineLemmas.{lines_step, lines_end}
use Rattle.rota_lines.proofs.WritingLemmas.{front_more, cause_as, written_as, is_ok_with}
use Rattle.rota_lines.proofs.writing.write_rota.Goals as goal

pub loop-place-preserved : goal.loop-place-preserved
loop-place-preserved g c =
    let on = c.in-Ok.ensures.on in
    let before = c.loop-place.invariant in
    let first = g.K.Sink.written c.args.sink.now in
    let lines = before.0 in
    let next = lines_step (printed_style c.args.style) c.args.total.now c.args.steps.now c.args.moments.now c.loop-place.place _ _
    c.loop-place-test.true c.requires.one_more in (
      _,
      before.1 ∙ ap (λ l. lines ++ l) next ∙ sym (append_assoc lines _ _),
      on.0 first lines before.2,
      on.1 ∙ before.3,
      All-more (Stands (printed_style c.args.style)) c.args.steps.now c.loop-place.place _ c.loop-place-test.true before.4
          c.in-Ok.ensures.stands,
    )

pub returns-in-Err-clause-written : goal.returns-in-Err-clause-written
returns-in-Err-clause-written g c =
    let on = c.in-Err.ensures.on in
    let before = c.loop-place.invariant in
    let first = g.K.Sink.written c.args.sink.now in
    let new = g.K.Sink.written c.write_step.new.sink in
    let lines = before.0 in
    let next = lines_step (printed_style c.args.style) c.args.total.now c.args.steps.now c.args.moments.now c.loop-place.place _ _
    c.loop-place-test.true c.requires.one_more in
    let P : List ℕ → Type 0 = λ t. GrowsByFront first new t in (
      subst P (sym (before.1 ∙ ap (λ l. lines ++ l) next
          ∙ sym (append_assoc lines _ _))) (front_more first new _ _ (on.0 first lines before.2)),
      cause_as c.in-Err.error _ _ _ before.3 on.1,
    )

pub returns-clause-written : goal.returns-clause-written
returns-clause-written g c =
    let before = c.loop-place.invariant in
    let first = g.K.Sink.written c.args.sink.now in
    let lines = before.0 in
    let n : c.loop-place.place ≡ length c.args.steps.now = omega arith in
    let last = lines_end (printed_style c.args.style) c.args.total.now c.args.steps.now c.args.moments.now _ c.requires.one_more in
    let Q : ℕ → Type 0 = λ k. rota_text (printed_style c.args.style) c.args.steps.now c.args.moments.now c.args.total.now
    ≡ lines ++ lines_from (printed_style c.args.style) c.args.total.now k (drop k c.args.steps.now) (drop k c.args.moments.now) in
    written_as c.write_end.result _ _ _ _ _ _ _ (subst Q n before.1 ∙ ap (λ l. lines ++ l) last) before.3
    (c.write_end.ensures.written first lines before.2)

pub returns-clause-stand : goal.returns-clause-stand
returns-clause-stand g c =
    let n : length c.args.steps.now ≤ c.loop-place.place = omega arith in
    let P : List Interval → Type 0 = λ l. All (Stands (printed_style c.args.style)) l in
    is_ok_with c.write_end.result (subst P (take_all c.loop-place.place c.args.steps.now n) c.loop-place.invariant.4)
