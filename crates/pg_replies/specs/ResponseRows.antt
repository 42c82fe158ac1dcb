-- The replies to a handler's response, the same in an Execute and in a Query (protocol: Message Flow, Simple Query;
-- COPY Operations).
use Rattle.std.specs.Prelude.{ℕ, pos, Bool, true, false, List, [], ◌∷◌, ◌++◌, Option, Some, None, Ok, if◌then◌else◌, not, map, length, filter, bytes_eq, codes}
use Rattle.pg_messages.specs.declared.copy.CopyData.{CopyData}
use Rattle.pg_messages.specs.declared.backend.PgWireBackendMessage.{PgWireBackendMessage}
use Rattle.pg_messages.specs.declared.backend.PgWireBackendMessage.TheVariants as server
use Rattle.pg_messages.specs.declared.response.TransactionStatus.{TransactionStatus}
use Rattle.pg_messages.specs.declared.response.TransactionStatus.TheVariants as status
use Rattle.pg_messages.specs.Status.{to_error_state, to_in_transaction_state}
use Rattle.pg_results.specs.declared.error.PgWireError.{PgWireError}
use Rattle.pg_results.specs.Copying.{CopyItem, trailer, formats}
use Rattle.pg_results.specs.Describing.{is_empty_list}
use Rattle.pg_results.specs.Page.{before_error, first_error}
use Rattle.pg_results.specs.Tags.{tag_text}
use Rattle.pg_results.specs.Told.{ToldRows}
use Rattle.pg_results.specs.Responses as response
use Rattle.pg_results.specs.Responses.{ToldResponse, ToldCopy}
use Rattle.pg_replies.specs.Replies.{Replies, error_reply, done, done_with, row_description, row_replies}

-- what was sent of a response: the replies, the transaction status after it, whether a COPY of the client has begun,
-- and the error that cut it short
pub record Sent : Type 0 where
  pub replies : Replies
  pub status : TransactionStatus
  pub copying : Bool
  pub refusal : Option PgWireError

abbrev pub sent : TransactionStatus → Replies → Sent
sent status replies = record { replies = replies; status = status; copying = false; refusal = None }

-- The first replies. The others follow, unless an error stands in their place.
abbrev pub unless_error : {A : Type 0} → TransactionStatus → Bool → Replies → Replies → Option (PgWireError × A) → Sent
unless_error status copying replies others None = record { replies = replies ++ others; status = status; copying = copying; refusal = None }
unless_error status copying replies others (Some e) = record { replies = replies; status = status; copying = false; refusal = Some e.0 }

-- ---- rows of a Query

-- the first replies, a DataRow for each row, and the tag with the number of rows
abbrev pub sent_rows_behind : Replies → TransactionStatus → ToldRows → Sent
sent_rows_behind front status r =
    let rows = before_error r.items in
    unless_error status false (front ++ row_replies rows) (done_with r.command_tag (length rows) ∷ []) (first_error r.items)

-- RowDescription before the rows, where it is asked for
abbrev pub rows_front : Bool → ToldRows → Replies
rows_front true r = row_description r.fields ∷ []
rows_front false r = []

-- RowDescription and the rows
abbrev pub sent_rows : TransactionStatus → ToldRows → Sent
sent_rows status r = sent_rows_behind (rows_front true r) status r

-- ---- COPY

-- the trailer that ends binary data; it isn't counted
abbrev pub is_trailer : CopyData → Bool
is_trailer copied = bytes_eq copied.payload (255 ∷ 255 ∷ [])

-- the items that a COPY has to send, and after them the trailer of binary data where it is still to come
abbrev pub copy_items : ToldCopy → List CopyItem
copy_items c = if c.trailer_left then c.items ++ Ok trailer ∷ [] else c.items

-- the trailer of binary data, where it is still to come
abbrev pub trailer_items : Bool → List CopyItem
trailer_items left = if left then Ok trailer ∷ [] else []

-- empty data is skipped
abbrev pub not_empty : List CopyData → List CopyData
not_empty copied = filter (λ d. not (is_empty_list d.payload)) copied

-- the data before an error
abbrev pub copy_data : ToldCopy → List CopyData
copy_data c = not_empty (before_error (copy_items c))

abbrev pub copy_count : List CopyData → ℕ
copy_count sent = length (filter (λ d. not (is_trailer d)) sent)

abbrev pub copy_in_reply : ToldCopy → PgWireBackendMessage
copy_in_reply c = server.CopyInResponse (record { format = c.format; columns = pos c.columns; column_formats = formats c.format c.columns })

abbrev pub copy_out_reply : ToldCopy → PgWireBackendMessage
copy_out_reply c = server.CopyOutResponse (record {
  format = c.format;
  columns = pos c.columns;
  column_formats = formats c.format c.columns;
})

abbrev pub copy_both_reply : ToldCopy → PgWireBackendMessage
copy_both_reply c = server.CopyBothResponse (record {
  format = c.format;
  columns = pos c.columns;
  column_formats = formats c.format c.columns;
})

-- a CopyData for each data
abbrev pub copy_replies : List CopyData → Replies
copy_replies sent = map (λ d. server.CopyData d) sent

-- CopyDone, and the tag with the number of data
abbrev pub copy_end : ℕ → Replies
copy_end count = server.CopyDone (record {}) ∷ done_with (codes "COPY") count ∷ []

-- a COPY to the client: its first reply, its data, and its end
abbrev pub sent_copy : TransactionStatus → Bool → PgWireBackendMessage → ToldCopy → Sent
sent_copy status copying head c =
    let copied = copy_data c in
    unless_error status copying (head ∷ copy_replies copied) (copy_end (copy_count copied)) (first_error (copy_items c))

-- ---- each response

-- What a response sends at this transaction status. A response that is an error is sent, and the next response follows
-- it.
abbrev pub responded : TransactionStatus → ToldResponse → Sent
responded now response.EmptyQuery = sent now (server.EmptyQueryResponse (record {}) ∷ [])
responded now (response.Query r) = sent_rows now r
responded now (response.Execution tag) = sent now (done (tag_text tag) ∷ [])
responded now (response.TransactionStart tag) = sent (to_in_transaction_state now) (done (tag_text tag) ∷ [])
responded now (response.TransactionEnd tag) = sent status.Idle (done (tag_text tag) ∷ [])
responded now (response.Error info) = sent (to_error_state now) (error_reply info ∷ [])
responded now (response.CopyIn c) = record { replies = copy_in_reply c ∷ []; status = now; copying = true; refusal = None }
responded now (response.CopyOut c) = sent_copy now false (copy_out_reply c) c
responded now (response.CopyBoth c) = sent_copy now true (copy_both_reply c) c
