use Rattle.session_recording.proofs.Steps.{counts_more, counts_refused, sends_more, sends_refused}
use Rattle.session_recording.proofs.sink.RecordingSinkSink.send.Goals as goal

pub invariant_of-self : goal.invariant_of-self
invariant_of-self g c = record {
  recorded = sends_more _ _ _ _ _ _ _ _ _ _ _ c.args.self.now.recorded c.in-Ok.ensures.ok c.keep.ensures.room c.keep.ensures.bytes
      c.keep.ensures.count;
  agreed = counts_more _ _ _ _ _ _ _ _ _ _ c.args.self.now.agreed c.in-Ok.ensures.sent c.in-Ok.ensures.refused c.keep.ensures.count;
}

pub invariant_of-self-in-Err : goal.invariant_of-self-in-Err
invariant_of-self-in-Err g c = record {
  recorded = sends_refused _ _ _ _ _ _ _ _ c.args.self.now.recorded c.in-Err.ensures.err;
  agreed = counts_refused _ _ _ _ _ _ _ _ c.args.self.now.agreed c.in-Err.ensures.sent c.in-Err.ensures.refused;
}
