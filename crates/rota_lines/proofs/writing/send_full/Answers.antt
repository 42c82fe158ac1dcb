-- A text waits, or was sent.
use Rattle.std.proofs.Common.{List, ℕ, [], refl, sym, subst, append-nil, string_bytes}
use Rattle.conversation_runs.specs.Streams.{GrowsBy, GrowsByFront}
use Rattle.rota_lines.proofs.WritingLemmas.{waits_more, none_waits, front_sent, front_more, cause_of}
use Rattle.rota_lines.proofs.writing.send_full.Goals as goal

pub returns-then-len-lt-FULL : goal.returns-then-len-lt-FULL
returns-then-len-lt-FULL g c =
    let waiting = string_bytes c.args.text.now in record {
      on = (
        λ first text way.
            waits_more first (g.K.Sink.written c.args.sink.now) text waiting [] waiting way (sym (append-nil waiting)),
        refl,
      );
    }

pub returns-in-Ok : goal.returns-in-Ok
returns-in-Ok g c =
    let old = g.K.Sink.written c.args.sink.now in
    let new = g.K.Sink.written c.send.new.self in
    let P : List ℕ → Type 0 = λ t. GrowsBy old new t in record {
      on = (
        λ first text way.
            none_waits first old new text (string_bytes c.args.text.now) (string_bytes c.clear.new.self) way
            (subst P c.as_bytes.ensures.value c.in-Ok.ensures.ok) c.clear.ensures.bytes,
        c.in-Ok.ensures.calm,
      );
    }

pub returns-in-Err : goal.returns-in-Err
returns-in-Err g c =
    let old = g.K.Sink.written c.args.sink.now in
    let new = g.K.Sink.written c.send.new.self in
    let P : List ℕ → Type 0 = λ t. GrowsByFront old new t in record {
      on = (
        λ first text way.
            front_more first new text [] (front_sent first old new text (string_bytes c.args.text.now) way
            (subst P c.as_bytes.ensures.value c.in-Err.ensures.err)),
        cause_of c.in-Err.error _ _ c.in-Err.ensures.failed c.in-Err.ensures.no_memory c.in-Err.ensures.never_falls,
      );
    }
