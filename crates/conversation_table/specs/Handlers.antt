-- The handlers of a server, as contracts see them: of extended and of simple queries, and of COPY.
use Rattle.std.specs.Prelude.{ℕ, ℤ, Bool, List, Option, Result, Ok, Err}
use Rattle.pg_results.specs.declared.error.PgWireError.{PgWireError}
use Rattle.pg_results.specs.declared.client.ClientInfo.{ClientInfo}
use Rattle.pg_results.specs.declared.stmt.StoredStatement.{StoredStatement}
use Rattle.pg_results.specs.declared.response.Response.{Response}
use Rattle.pg_results.specs.declared.describe.DescribeStatementResponse.{DescribeStatementResponse}
use Rattle.pg_results.specs.declared.describe.DescribePortalResponse.{DescribePortalResponse}
use Rattle.pg_results.specs.Rows.{RowItem}
use Rattle.pg_results.specs.Copying.{CopyItem}
use Rattle.pg_results.specs.Told.{ParserTold}
use Rattle.pg_portal.specs.Told.{BoundPortal}
use Rattle.pg_results.specs.Responses.{ToldResponse, told_response, told_responses}
use Rattle.pg_replies.specs.Replies.{Replies}

-- a query as its handler tells it: the number of polls that find it unready, and its outcome after them
pub record ToldQuery (A : Type 0) : Type 0 where
  pub owes : ℕ
  pub outcome : Result A PgWireError

-- a query that was begun: whether its outcome was given, and until then the polls that it owes and its outcome
pub record QueryTold (A : Type 0) : Type 0 where
  pub is_spent : Bool
  pub owes : ℕ
  pub outcome : A

-- the response of a query, or its error
abbrev pub told_one : {R C : Type 0} → (R → List RowItem) → (C → List CopyItem) → Result (Response R C) PgWireError
    → Result ToldResponse PgWireError
told_one rows items (Ok answered) = Ok (told_response rows items answered)
told_one rows items (Err error) = Err error

-- the responses of a query, or its error
abbrev pub told_all : {R C : Type 0} → (R → List RowItem) → (C → List CopyItem) → Result (List (Response R C)) PgWireError
    → Result (List ToldResponse) PgWireError
told_all rows items (Ok answered) = Ok (told_responses rows items answered)
told_all rows items (Err error) = Err error

-- a query that was begun as its handler tells it
abbrev pub told_query : {A B : Type 0} → (A → Result B PgWireError) → QueryTold A → ToldQuery B
told_query told query = record { owes = query.owes; outcome = told query.outcome }

pub record ExtendedTold (S : Type 0) : Type 0 where
  pub parser : ParserTold S
  pub query : ClientInfo → BoundPortal S → ℤ → ToldQuery ToldResponse
  pub describe_statement : ClientInfo → StoredStatement S → Result DescribeStatementResponse PgWireError
  pub describe_portal : ClientInfo → BoundPortal S → Result DescribePortalResponse PgWireError

abbrev pub SimpleTold : Type 0
SimpleTold = ClientInfo → List ℕ → ToldQuery (List ToldResponse)

-- what a COPY handler does with a message: it appends replies, and may refuse
pub record CopyStep : Type 0 where
  pub replies : Replies
  pub refusal : Option PgWireError

pub record CopyTold : Type 0 where
  pub on_data : ClientInfo → List ℕ → CopyStep
  pub on_done : ClientInfo → CopyStep
  pub on_fail : ClientInfo → List ℕ → PgWireError

pub record Handlers (S : Type 0) : Type 0 where
  pub extended : ExtendedTold S
  pub simple : SimpleTold
  pub copying : CopyTold

abbrev pub handlers_of : {S : Type 0} → ExtendedTold S → SimpleTold → CopyTold → Handlers S
handlers_of extended simple copying = record { extended = extended; simple = simple; copying = copying }
