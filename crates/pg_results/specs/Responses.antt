-- Responses to queries, whose rows and data are lists (protocol: Simple Query; Extended Query; COPY Operations).
use Rattle.std.specs.Prelude.{ℕ, ℤ, Bool, List, map}
use Rattle.pg_messages.specs.declared.response.ErrorInfo.{ErrorInfo}
use Rattle.pg_results.specs.declared.copy.CopyResponse.{CopyResponse}
use Rattle.pg_results.specs.declared.response.Response.{Response}
use Rattle.pg_results.specs.declared.response.Response.TheVariants as response
use Rattle.pg_results.specs.declared.tag.Tag.{Tag}
use Rattle.pg_results.specs.Copying.{CopyItem}
use Rattle.pg_results.specs.Rows.{RowItem}
use Rattle.pg_results.specs.Told.{ToldRows, told_rows}

-- a response that begins a COPY: the format and the number of its columns, the data to come, and whether a trailer
-- follows
pub record ToldCopy : Type 0 where
  pub format : ℤ
  pub columns : ℕ
  pub items : List CopyItem
  pub trailer_left : Bool

-- a response to a query
pub data ToldResponse : Type 0 where
  EmptyQuery : ToldResponse
  Query : ToldRows → ToldResponse
  Execution : Tag → ToldResponse
  TransactionStart : Tag → ToldResponse
  TransactionEnd : Tag → ToldResponse
  Error : ErrorInfo → ToldResponse
  CopyIn : ToldCopy → ToldResponse
  CopyOut : ToldCopy → ToldResponse
  CopyBoth : ToldCopy → ToldResponse

abbrev pub told_copy : {C : Type 0} → (C → List CopyItem) → CopyResponse C → ToldCopy
told_copy items copy = record {
  format = copy.format;
  columns = copy.columns;
  items = items copy.data_stream;
  trailer_left = copy.trailer_left;
}

-- a response, with the items of its rows and of its data
abbrev pub told_response : {R C : Type 0} → (R → List RowItem) → (C → List CopyItem) → Response R C → ToldResponse
told_response rows items response.EmptyQuery = EmptyQuery
told_response rows items (response.Query query) = Query (told_rows rows query)
told_response rows items (response.Execution tag) = Execution tag
told_response rows items (response.TransactionStart tag) = TransactionStart tag
told_response rows items (response.TransactionEnd tag) = TransactionEnd tag
told_response rows items (response.Error info) = Error info
told_response rows items (response.CopyIn copy) = CopyIn (told_copy items copy)
told_response rows items (response.CopyOut copy) = CopyOut (told_copy items copy)
told_response rows items (response.CopyBoth copy) = CopyBoth (told_copy items copy)

-- several responses, in their order
abbrev pub told_responses : {R C : Type 0} → (R → List RowItem) → (C → List CopyItem) → List (Response R C) → List ToldResponse
told_responses rows items responses = map (told_response rows items) responses
