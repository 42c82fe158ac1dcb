use Rattle.session_recording.proofs.Steps.{takes_more}
use Rattle.session_recording.proofs.source.RecordingSourceSource.receive.Goals as goal

pub invariant_of-self-2 : goal.invariant_of-self-2
invariant_of-self-2 g c = record {
  recorded = takes_more _ _ _ _ _ _ _ _ _ _ _ c.args.self.now.recorded c.in_ok-n.ensures.bytes c.keep.ensures.room c.keep.ensures.bytes
      c.keep.ensures.count;
}
