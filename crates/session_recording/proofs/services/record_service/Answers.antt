use Rattle.std.proofs.Common.{inl, inr, refl}
use Rattle.session_recording.proofs.services.record_service.Goals as goal

-- there was no room, and the client was served all the same
pub returns-in_default-clause-recorded : goal.returns-in_default-clause-recorded
returns-in_default-clause-recorded g c = let went = c.serve-answer.ensures.serves.went in (went.0, went.1, inl refl)

pub returns-clause-recorded : goal.returns-clause-recorded
returns-clause-recorded g c = let recorded = c.record_in.ensures.recorded in (recorded.0, recorded.1, inr recorded.2)
