-- What is stored under one parser is good under any that stores alike.
use Rattle.std.proofs.Common.{◌≡◌, ◌≤◌, ℕ, Bool, List, Option, Some, None, Result, IsTrue, length, sym, subst}
use Rattle.std.specs.FinMap as fin
use Rattle.pg_results.specs.declared.error.PgWireError.{PgWireError}
use Rattle.pg_results.specs.declared.format.Format.{Format}
use Rattle.pg_results.specs.declared.stmt.StoredStatement.{StoredStatement}
use Rattle.pg_results.specs.Fields.{Field}
use Rattle.pg_results.specs.Told.{ParserTold}
use Rattle.pg_portal.specs.Told.{TablePortal}
use Rattle.pg_client.specs.State.{State}
use Rattle.conversation_table.specs.Good.{HasCodes, IsGoodPortal, IsGoodState, IsGoodStatement}
use Rattle.pg_session.specs.Stored.{StoresAlike}

module _ {S : Type 0} (one other : ParserTold S) (alike : StoresAlike one other) where
  good_statement : (s : StoredStatement S) → IsGoodStatement one s → IsGoodStatement other s
  good_statement s x = record {
    given = subst (λ (gives : S → Bool). IsTrue (gives s.statement)) (sym alike.gives) x.given;
    types = x.types;
  }

  good_portal : (p : TablePortal S) → IsGoodPortal one p → IsGoodPortal other p
  good_portal p x = record {
    statement = good_statement p.bound.statement x.statement;
    codes = subst (λ (columns : S → Option Format → Result (List Field) PgWireError).
        HasCodes p.bound.result_column_format (columns p.bound.statement.statement None)) (sym alike.columns) x.codes;
    tag = x.tag;
  }

  pub good_alike : (s : State S) → IsGoodState one s → IsGoodState other s
  good_alike s x = record {
    statements = λ name statement stored. good_statement statement (x.statements name statement stored);
    portals = λ name p stored. good_portal p (x.portals name p stored);
    metadata = x.metadata;
  }

pub alike_back : {S : Type 0} (one other : ParserTold S) → StoresAlike one other → StoresAlike other one
alike_back one other x = record { gives = sym x.gives; columns = sym x.columns }
