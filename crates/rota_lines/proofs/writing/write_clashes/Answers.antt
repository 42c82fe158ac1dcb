-- A clash more.
use Rattle.std.proofs.Common.{◌∙◌, ◌+◌, ℕ, List, [], refl, sym, ap, subst, drop, take, string_bytes}
use Rattle.std.proofs.lemmas.List.{take_all}
use Rattle.conversation_runs.specs.Streams.{GrowsByFront}
use Rattle.rota_lines.specs.Lines.{clash_text}
use Rattle.rota_lines.specs.Writing.{IsOnItsWay}
use Rattle.rota_lines.proofs.LineLemmas.{clash_more, clash_split}
use Rattle.rota_lines.proofs.WritingLemmas.{at_first, front_more, cause_as, written_as}
use Rattle.rota_lines.proofs.writing.write_clashes.Goals as goal

pub loop-pair-preserved : goal.loop-pair-preserved
loop-pair-preserved g c =
    let on = c.in-Ok.ensures.on in
    let way = c.loop-pair.invariant in
    let first = g.K.Sink.written c.args.sink.now in
    let new = g.K.Sink.written c.write_clash.new.sink in
    let P : List ℕ → Type 0 = λ t. IsOnItsWay first new t (string_bytes c.write_clash.new.text) in (
      subst P (sym (clash_more c.args.pairs.now c.loop-pair.pair-index _ c.loop-pair-test.true))
          (on.0 first (clash_text (take c.loop-pair.pair-index c.args.pairs.now)) way.0),
      on.1 ∙ way.1,
    )

pub returns-in-Err : goal.returns-in-Err
returns-in-Err g c =
    let on = c.in-Err.ensures.on in
    let way = c.loop-pair.invariant in
    let first = g.K.Sink.written c.args.sink.now in
    let new = g.K.Sink.written c.write_clash.new.sink in
    let i = c.loop-pair.pair-index in
    let rest = clash_text (drop (i + 1) c.args.pairs.now) in
    let P : List ℕ → Type 0 = λ t. GrowsByFront first new t in record {
      written = (
        subst P (sym (clash_split c.args.pairs.now i _ c.loop-pair-test.true))
            (front_more first new _ rest (on.0 first (clash_text (take i c.args.pairs.now)) way.0)),
        cause_as c.in-Err.error _ _ _ way.1 on.1,
      );
    }

pub loop-pair-init : goal.loop-pair-init
loop-pair-init g c =
    let first = g.K.Sink.written c.args.sink.now in
    let P : List ℕ → Type 0 = λ t. IsOnItsWay first first [] t in
    (subst P (sym c.new-text.ensures.bytes) (at_first first), refl)

pub returns : goal.returns
returns g c =
    let way = c.loop-pair.invariant in
    let pairs = c.args.pairs.now in
    let i = c.loop-pair.pair-index in
    record {
      written = written_as c.write_rest.result (clash_text (take i pairs)) (clash_text pairs) _ _ _ _ _
          (ap clash_text (sym (take_all i pairs c.loop-pair-test.false))) way.1
          (c.write_rest.ensures.written (g.K.Sink.written c.args.sink.now) (clash_text (take i pairs)) way.0);
    }
