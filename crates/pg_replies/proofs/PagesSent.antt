-- A page that was sent: its rows, and its end behind them.
use Rattle.std.proofs.Common.{◌≡◌, ◌++◌, List, [], ◌∷◌, ℕ, Bool, ap, ◌∙◌}
use Rattle.pg_messages.specs.declared.data.DataRow.{DataRow}
use Rattle.pg_messages.specs.declared.backend.PgWireBackendMessage.TheVariants as server
use Rattle.pg_messages.specs.Replies.{replies_bytes}
use Rattle.pg_results.specs.Told.{with_items, ToldRows}
use Rattle.pg_results.specs.Page.{PageEnd, AtLimit, AtEnd, AtError, EndsPage}
use Rattle.pg_results.specs.Rows.{RowItem}
use Rattle.pg_replies.specs.PageEnd.{page_replies, page_end}
use Rattle.pg_replies.specs.Replies.{done_with, row_replies}
use Rattle.pg_replies.specs.Sending.{IsSentPage}
use Rattle.pg_replies.proofs.Sent.{sent_behind}

-- what is left where the page ended
pub ended_so : (old : ToldRows) (left : List RowItem) (new : ToldRows) → new ≡ with_items old left → (ending : PageEnd DataRow)
    (suspended : Bool) → EndsPage ending suspended left → IsSentPage old ending suspended new
ended_so old left new is (AtLimit items) suspended ends = (ends.0, is ∙ ap (with_items old) ends.1)
ended_so old left new is AtEnd suspended ends = ends.0
ended_so old left new is (AtError e items) suspended ends = absurd ends

-- the rows of a page, and its end behind them
pub page_sent : (tag : List ℕ) (number : ℕ) (rows : List DataRow) (ending : PageEnd DataRow) (suspended : Bool) (left : List RowItem)
    (out mid new : List ℕ) → EndsPage ending suspended left → mid ≡ out ++ replies_bytes (row_replies rows)
    → new ≡ mid ++ replies_bytes (page_end tag number suspended) → new ≡ out ++ replies_bytes (page_replies tag number rows ending)
page_sent tag number rows (AtLimit items) suspended left out mid new ends e f =
    sent_behind out mid new (row_replies rows) (server.PortalSuspended (record {}) ∷ []) e
    (f ∙ ap (λ (b : Bool). mid ++ replies_bytes (page_end tag number b)) ends.0)
page_sent tag number rows AtEnd suspended left out mid new ends e f =
    sent_behind out mid new (row_replies rows) (done_with tag number ∷ []) e
    (f ∙ ap (λ (b : Bool). mid ++ replies_bytes (page_end tag number b)) ends.0)
page_sent tag number rows (AtError error items) suspended left out mid new ends e f = absurd ends

-- the same, where the tag and the number are told as others that are equal
pub page_sent_as : (shown tag : List ℕ) (told number : ℕ) (rows : List DataRow) (ending : PageEnd DataRow) (suspended : Bool)
    (left : List RowItem) (out mid new : List ℕ) → shown ≡ tag → told ≡ number → EndsPage ending suspended left
    → mid ≡ out ++ replies_bytes (row_replies rows) → new ≡ mid ++ replies_bytes (page_end shown told suspended)
    → new ≡ out ++ replies_bytes (page_replies tag number rows ending)
page_sent_as shown tag told number rows ending suspended left out mid new i j ends e f =
    page_sent tag number rows ending suspended left out mid new ends e
    (f ∙ ap (λ (t : List ℕ). mid ++ replies_bytes (page_end t told suspended)) i
    ∙ ap (λ (n : ℕ). mid ++ replies_bytes (page_end tag n suspended)) j)
