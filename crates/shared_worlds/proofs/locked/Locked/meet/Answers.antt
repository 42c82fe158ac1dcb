use Rattle.shared_worlds.proofs.Histories.{legal_behind, meets}
use Rattle.shared_worlds.proofs.locked.Locked.meet.Goals as goal

pub note-requires : goal.note-requires
note-requires g c = legal_behind _ _ _ _ _ _ _ _ _ _ c.self.invariant c.is_legal.ensures c.in_ok-sheet.ensures.met

pub returns-clause-met : goal.returns-clause-met
returns-clause-met g c =
    meets _ _ _ _ _ _ _ _ _ _ _ _ c.self.invariant c.is_legal.ensures c.in_ok-sheet.ensures.met c.note.ensures.seen c.note.ensures.all
