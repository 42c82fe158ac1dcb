use Rattle.std.proofs.Common.{subst}
use Rattle.pg_cancel.specs.LegalHistory.{IsLegal}
use Rattle.pg_cancel.proofs.Histories.{one_holder}
use Rattle.pg_cancel.proofs.history.Registry.history.Goals as goal

pub returns-clause-one_holder : goal.returns-clause-one_holder
returns-clause-one_holder c = λ m n pid a b.
    one_holder c.args.self.now m n pid a.0 b.0 (subst IsLegal c.self.view_is c.self.invariant.0) a.1 b.1
