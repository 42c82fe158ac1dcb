-- Each chunk goes behind what was sent before.
use Rattle.std.proofs.Common.{arith, length-drop, subst, ◌∙◌, ◌≡◌, ◌≤◌, ℕ, Result, Ok, Err, refl, ap}
use Rattle.std.specs.Result.{IsErrAnd}
use Rattle.conversation_runs.specs.declared.ends.ServeError.{ServeError}
use Rattle.conversation_runs.specs.declared.ends.ServeError.TheVariants as serve
use Rattle.conversation_runs.specs.declared.streams.SinkError.{SinkError}
use Rattle.conversation_runs.specs.declared.streams.SinkError.TheVariants as sink
use Rattle.conversation_runs.specs.Streams.{GrowsBy, GrowsByFront, HasFlushed, HasRisen, told_of_sink}
use Rattle.conversation_runs.proofs.Flowing.{Flows-none, Flows-chunk, Flows-then, all_sent, cut_in_chunk}
use Rattle.conversation_runs.proofs.Stepping.{on_err_always}
use Rattle.pg_session.proofs.session.feed.flush.Goals as goal

-- the cause of a flush's error is that of the sink's
flushed_err : {T : Type 0} (a b c : ℕ) (r : Result T ServeError) (s : SinkError) → IsErrAnd r (λ e. e ≡ told_of_sink s) → b ≡ a
    → (s ≡ sink.Failed → HasRisen b c) → b ≤ c → HasFlushed a c r
flushed_err a b c (Ok u) s told same failed rises = absurd told
flushed_err a b c (Err e) sink.Failed told same failed rises =
    let is : e ≡ serve.WriteFault = told in
    record {
      write_fault = λ fault. subst (λ n. HasRisen n c) same (failed refl);
      no_read_fault = λ fault. cc;
      no_turn_limit = λ fault. cc;
      never_falls = omega arith;
      calm = tt;
    }
flushed_err a b c (Err e) sink.NoMemory told same failed rises =
    let is : e ≡ serve.NoMemory = told in
    record {
      write_fault = λ fault. cc;
      no_read_fault = λ fault. cc;
      no_turn_limit = λ fault. cc;
      never_falls = omega arith;
      calm = tt;
    }

-- without an error the count stays
flushed_ok : {T : Type 0} (a b : ℕ) (x : T) → b ≡ a → HasFlushed a b (Ok x)
flushed_ok a b x same = record {
  write_fault = λ fault. cc;
  no_read_fault = λ fault. cc;
  no_turn_limit = λ fault. cc;
  never_falls = omega arith;
  calm = same;
}

pub chunks-init : goal.chunks-init
chunks-init g c = record { flows = Flows-none (g.K.Sink.written c.args.sink.now) c.args.outbox.now; faults = refl; origin = refl }

pub returns-in_err-send-clause-sink : goal.returns-in_err-send-clause-sink
returns-in_err-send-clause-sink g c = record {
  cause = flushed_err (g.K.Sink.faults c.args.sink.now) (g.K.Sink.faults c.chunks.sink) (g.K.Sink.faults c.send.new.self)
      c.from_residual.result c.in_err-send.field-0.0 c.from_residual.ensures.1 c.chunks.invariant.faults
      (λ is. c.in_err-send.ensures.failed (ap Err is)) c.in_err-send.ensures.never_falls;
  sink = c.in_err-send.ensures.origin ∙ c.chunks.invariant.origin;
}

pub returns-in_err-send-clause-err : goal.returns-in_err-send-clause-err
returns-in_err-send-clause-err g c =
    let cut = subst (λ l. GrowsByFront (g.K.Sink.written c.chunks.sink) (g.K.Sink.written c.send.new.self) l) c.in-Some.ensures.front
    c.in_err-send.ensures.err in
    on_err_always c.from_residual.result (cut_in_chunk (g.K.Sink.written c.send.new.self) 65536 c.chunks.invariant.flows cut)

pub chunks-smaller : goal.chunks-smaller
chunks-smaller g c = rw c.drop_front.ensures (omega (arith, length-drop 65536 c.chunks.outbox, c.in-Some.ensures.some))

pub chunks-preserved : goal.chunks-preserved
chunks-preserved g c =
    let grown = subst (λ l. GrowsBy (g.K.Sink.written c.chunks.sink) (g.K.Sink.written c.send.new.self) l) c.in-Some.ensures.front
    c.in_ok-send.ensures.ok in
    record {
      flows = Flows-then c.chunks.invariant.flows
          (Flows-chunk (g.K.Sink.written c.chunks.sink) (g.K.Sink.written c.send.new.self) c.chunks.outbox c.drop_front.new.self
          65536 grown c.drop_front.ensures);
      faults = c.in_ok-send.ensures.calm ∙ c.chunks.invariant.faults;
      origin = c.in_ok-send.ensures.origin ∙ c.chunks.invariant.origin;
    }

pub returns-clause-ok : goal.returns-clause-ok
returns-clause-ok g c = all_sent c.chunks.invariant.flows c.in_default.ensures.none

pub returns-clause-sink : goal.returns-clause-sink
returns-clause-sink g c = record {
  cause = flushed_ok (g.K.Sink.faults c.args.sink.now) (g.K.Sink.faults c.chunks.sink) tt c.chunks.invariant.faults;
  sink = c.chunks.invariant.origin;
}
