use Rattle.std.proofs.Common.{ap, length, arith}
use Rattle.relation_handlers.proofs.TableLemmas.{IsSound-read}
use Rattle.relation_handlers.proofs.named_relations.NamedRelations.at.Goals as goal

pub returns-clause-sound : goal.returns-clause-sound
returns-clause-sound c =
    IsSound-read c.self.inside.relations c.as_slice.result.now c.args.place c.index-as_slice-place.result c.as_slice.ensures
    c.self.invariant.0 (omega (arith, ap length c.self.view_is)) c.index-as_slice-place.is
