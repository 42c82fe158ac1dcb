use Rattle.relation_handlers.proofs.EvenRows.{even}
use Rattle.cell_laws.proofs.CellsWhole.{stored_shown, shown_in_own_format}
use Rattle.cell_laws.proofs.laws.shown_cells_stand.Goals as goal

pub returns-clause-cells : goal.returns-clause-cells
returns-clause-cells c = λ registration. stored_shown c.args.relations.now c.relations-valid.ensures.within
    (even c.args.relations.now c.relations-valid.ensures.valid) registration.0 registration.1

pub returns-clause-formats : goal.returns-clause-formats
returns-clause-formats c = λ registration. shown_in_own_format c.args.relations.now c.relations-valid.ensures.within
    (even c.args.relations.now c.relations-valid.ensures.valid) registration.0 registration.1
