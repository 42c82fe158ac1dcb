-- When a state is good, and when the outcomes of handlers can be sent.
use Rattle.std.specs.Prelude.{ℕ, false, List, Some, None, Result, Ok, Err, ◌≡◌, ◌≤◌, IsTrue, length}
use Rattle.std.specs.List.{AllByRecursion}
use Rattle.std.specs.FinMap as fin
use Rattle.pg_messages.specs.declared.frontend.PgWireFrontendMessage.{PgWireFrontendMessage}
use Rattle.pg_messages.specs.Frames.{IsFrame}
use Rattle.pg_messages.specs.Replies.{IsEncodable}
use Rattle.pg_results.specs.declared.error.PgWireError.{PgWireError}
use Rattle.pg_results.specs.declared.format.Format.{Format}
use Rattle.pg_results.specs.declared.format.Format.TheVariants as format
use Rattle.pg_results.specs.declared.stmt.StoredStatement.{StoredStatement}
use Rattle.pg_results.specs.declared.describe.DescribeStatementResponse.{DescribeStatementResponse}
use Rattle.pg_results.specs.Clients.{HasShortMetadata}
use Rattle.pg_results.specs.Fields.{Field}
use Rattle.pg_results.specs.Responses as response
use Rattle.pg_results.specs.Responses.{ToldResponse}
use Rattle.pg_results.specs.Rows.{IsItemError}
use Rattle.pg_results.specs.Tags.{tag_text}
use Rattle.pg_results.specs.Told.{ParserTold}
use Rattle.pg_portal.specs.Told.{TablePortal, Stage, Started, Unstarted, Ended, value_under}
use Rattle.pg_replies.specs.Replies.{IsTag, done, error_reply, row_description, parameter_description}
use Rattle.pg_client.specs.State.{State}

-- the message is one that a good frame carries
abbrev pub IsGiven : PgWireFrontendMessage → Type 0
IsGiven m = (frame : List ℕ) × IsFrame false frame m

-- ---- what handlers tell

-- the response can be sent as replies
abbrev pub IsSendableResponse : ToldResponse → Type 0
IsSendableResponse response.EmptyQuery = Unit {0}
IsSendableResponse (response.Query r) = IsEncodable (row_description r.fields) × IsTag r.command_tag
IsSendableResponse (response.Execution tag) = IsEncodable (done (tag_text tag))
IsSendableResponse (response.TransactionStart tag) = IsEncodable (done (tag_text tag))
IsSendableResponse (response.TransactionEnd tag) = IsEncodable (done (tag_text tag))
IsSendableResponse (response.Error info) = IsEncodable (error_reply info)
IsSendableResponse (response.CopyIn c) = c.columns ≤ 32767
IsSendableResponse (response.CopyOut c) = c.columns ≤ 32767
IsSendableResponse (response.CopyBoth c) = c.columns ≤ 32767

-- the outcome of an extended query can be sent as replies
abbrev pub IsSendableOutcome : Result ToldResponse PgWireError → Type 0
IsSendableOutcome (Ok answered) = IsSendableResponse answered
IsSendableOutcome (Err error) = IsItemError error

-- the outcome of a simple query can be sent as replies
abbrev pub AreSendable : Result (List ToldResponse) PgWireError → Type 0
AreSendable (Ok answered) = AllByRecursion IsSendableResponse answered
AreSendable (Err error) = IsItemError error

-- the description can be sent as replies
pub record IsSendableDescription (d : DescribeStatementResponse) : Type 0 where
  pub parameters : IsEncodable (parameter_description d.parameters)
  pub fields : IsEncodable (row_description d.fields)

-- ---- stores

-- a statement that the parser can give, with as many parameters' types as a reply can count
pub record IsGoodStatement {S : Type 0} (parser : ParserTold S) (s : StoredStatement S) : Type 0 where
  pub given : IsTrue (parser.gives s.statement)
  pub types : length s.parameter_types ≤ 32767

-- individual codes are no fewer than the columns
abbrev pub HasCodes : Format → Result (List Field) PgWireError → Type 0
HasCodes (format.Individual codes) (Ok fields) = length fields ≤ length codes
HasCodes (format.Individual codes) (Err error) = Unit {0}
HasCodes format.UnifiedText columns = Unit {0}
HasCodes format.UnifiedBinary columns = Unit {0}

-- the tag of a started portal can be sent with any number of rows
abbrev pub HasGoodTag : Stage → Type 0
HasGoodTag Unstarted = Unit {0}
HasGoodTag (Started r delivered) = IsTag r.command_tag
HasGoodTag (Ended delivered) = Unit {0}

pub record IsGoodPortal {S : Type 0} (parser : ParserTold S) (p : TablePortal S) : Type 0 where
  pub statement : IsGoodStatement parser p.bound.statement
  pub codes : HasCodes p.bound.result_column_format (parser.columns p.bound.statement.statement None)
  pub tag : HasGoodTag p.stage

-- Good state: each stored statement and portal is good, and the startup parameters are short.
pub record IsGoodState {S : Type 0} (parser : ParserTold S) (s : State S) : Type 0 where
  pub statements : (name : List ℕ) (statement : StoredStatement S) → value_under (fin.get s.statements name) ≡ Some statement
      → IsGoodStatement parser statement
  pub portals : (name : List ℕ) (p : TablePortal S) → value_under (fin.get s.portals name) ≡ Some p → IsGoodPortal parser p
  pub metadata : HasShortMetadata s.info
