use Rattle.std.proofs.Common.{ap, subst, ◌∙◌, arith}
use Rattle.recording_text.specs.Judging.{AnswersUnlessNoMemory, judged}
use Rattle.recording_text.proofs.RecordingLaws.{is_found, answers, judged_again}
use Rattle.recording_text.proofs.reading.read_recording.Goals as goal

pub returns-clause-found : goal.returns-clause-found
returns-clause-found c = is_found c.args.bytes.now c.whole.result (λ i. omega (arith, c.type_inv.bytes i)) c.whole.ensures

pub returns-clause-only : goal.returns-clause-only
returns-clause-only c = λ r good e. subst (λ told. AnswersUnlessNoMemory c.whole.result told) (ap judged e
    ∙ judged_again r good) (answers c.whole.result (judged c.args.bytes.now) c.whole.ensures)

pub returns-clause-refused : goal.returns-clause-refused
returns-clause-refused c = answers c.whole.result (judged c.args.bytes.now) c.whole.ensures
