use Rattle.relation_laws.proofs.ErrorKinds as kind
use Rattle.relation_laws.proofs.Refusals.{exactly, explained, at_most_one, listed, fatal_cause, cause_ends}
use Rattle.relation_laws.proofs.laws.errors_have_causes.Goals as goal

pub returns-clause-version : goal.returns-clause-version
returns-clause-version c = exactly kind.Version

pub returns-clause-statement : goal.returns-clause-statement
returns-clause-statement c = exactly kind.Statement

pub returns-clause-portal : goal.returns-clause-portal
returns-clause-portal c = exactly kind.Portal

pub returns-clause-protocol : goal.returns-clause-protocol
returns-clause-protocol c = exactly kind.Protocol

pub returns-clause-relation : goal.returns-clause-relation
returns-clause-relation c = exactly kind.Relation

pub returns-clause-canceled : goal.returns-clause-canceled
returns-clause-canceled c = exactly kind.Cancel

pub returns-clause-style : goal.returns-clause-style
returns-clause-style c = exactly kind.Style

pub returns-clause-copy_fail : goal.returns-clause-copy_fail
returns-clause-copy_fail c = exactly kind.CopyFail

pub returns-clause-copy_data : goal.returns-clause-copy_data
returns-clause-copy_data c = exactly kind.CopyData

pub returns-clause-one : goal.returns-clause-one
returns-clause-one c relations answers s m g = at_most_one relations answers s g m

pub returns-clause-no_other : goal.returns-clause-no_other
returns-clause-no_other c relations answers s m info g at =
    let found = explained relations answers s g m info at in listed found.0 info found.2

pub returns-clause-fatal : goal.returns-clause-fatal
returns-clause-fatal c relations answers s m g = (fatal_cause relations answers s g m, cause_ends relations answers s g m)
