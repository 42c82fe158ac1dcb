-- The result of a fetch, and how far the portal has come then (protocol: Extended Query, Execute).
use Rattle.std.specs.Prelude.{ℤ, Bool, true, false, List, [], ◌∷◌, ◌++◌, map, Result, Ok, Err, IsOk, ◌≡◌, ◌≢◌, ◌⊎◌, ℕ, length, codes}
use Rattle.pg_messages.specs.declared.data.DataRow.{DataRow}
use Rattle.pg_results.specs.declared.error.PgWireError.{PgWireError}
use Rattle.pg_results.specs.declared.error.PgWireError.TheVariants.{PortalNotStarted, NoMemory}
use Rattle.pg_portal.specs.declared.portal.FetchResult.{FetchResult}
use Rattle.pg_results.specs.Page.{PageEnd, AtLimit, AtEnd, AtError, delivered_after, item_page}
use Rattle.pg_results.specs.Rows.{RowItem}
use Rattle.pg_results.specs.Told.{ToldRows, with_items, IsRest}
use Rattle.pg_portal.specs.Told.{Stage, Unstarted, Started, Ended}

pub record Fetched : Type 0 where
  pub answer : Result FetchResult PgWireError
  pub stage : Stage

-- How far a portal has come after a page: suspended at its limit, finished at the end, or past an error, where the
-- page's rows are dropped. The number counts the rows that were delivered before the page.
abbrev pub stage_after : ToldRows → ℕ → List DataRow → PageEnd DataRow → Stage
stage_after response delivered rows (AtLimit items) = Started (with_items response items) (delivered_after delivered (length rows))
stage_after response delivered rows AtEnd = Ended (delivered_after delivered (length rows))
stage_after response delivered rows (AtError error items) = Started (with_items response items) delivered

-- the rows of a page, and the number delivered with them
abbrev pub page_of : ToldRows → ℕ → List DataRow → Bool → FetchResult
page_of response delivered rows suspended = record {
  rows = rows;
  command_tag = response.command_tag;
  suspended = suspended;
  delivered = delivered_after delivered (length rows);
}

-- the result of a page, by how it ended
abbrev pub page_answer : ToldRows → ℕ → List DataRow → PageEnd DataRow → Result FetchResult PgWireError
page_answer response delivered rows (AtLimit items) = Ok (page_of response delivered rows true)
page_answer response delivered rows AtEnd = Ok (page_of response delivered rows false)
page_answer response delivered rows (AtError error items) = Err error

abbrev pub fetched_page : ToldRows → ℕ → List DataRow → PageEnd DataRow → Fetched
fetched_page response delivered rows ending = record {
  answer = page_answer response delivered rows ending;
  stage = stage_after response delivered rows ending;
}

-- the page of a finished portal
abbrev pub no_rows : ℕ → FetchResult
no_rows delivered = record { rows = []; command_tag = codes "SELECT"; suspended = false; delivered = delivered }

-- a fetch with a limit of rows, below 1 for all of them
abbrev pub fetched : ℤ → Stage → Fetched
fetched limit Unstarted = record { answer = Err PortalNotStarted; stage = Unstarted }
fetched limit (Started response delivered) =
    let page = item_page limit response.items in fetched_page response delivered page.rows page.ending
fetched limit (Ended delivered) = record { answer = Ok (no_rows delivered); stage = Ended delivered }

-- What NoMemory leaves: a started portal stays started, with a rest of its items, and the same number of rows
-- delivered. Any other stays as it is.
abbrev pub IsKept : Stage → Stage → Type 0
IsKept (Started old delivered) new = (left : ToldRows) × IsRest old left × (new ≡ Started left delivered)
IsKept Unstarted new = new ≡ Unstarted
IsKept (Ended delivered) new = new ≡ Ended delivered

-- a refused fetch: memory ran out, or the error is the one that `fetched` gives
abbrev pub IsRefusedFetch : ℤ → Stage → Stage → PgWireError → Type 0
IsRefusedFetch limit old new error = ((error ≡ NoMemory) × IsKept old new)
    ⊎ ((Err error ≡ (fetched limit old).answer) × (new ≡ (fetched limit old).stage))

-- The items before are the page's rows, or the rows that were dropped and the error, and then the items that are left.
abbrev pub AreTaken : List RowItem → Result FetchResult PgWireError → List RowItem → Type 0
AreTaken old (Ok page) new = old ≡ map Ok page.rows ++ new
AreTaken old (Err error) new = (dropped : List DataRow) × (old ≡ map Ok dropped ++ Err error ∷ new)

-- the items to come of a portal
abbrev pub items_to_come : Stage → List RowItem
items_to_come Unstarted = []
items_to_come (Started response delivered) = response.items
items_to_come (Ended delivered) = []

-- unless memory runs out, a fetch of a started portal takes its items in their order, each once
abbrev pub TakesInOrder : Stage → Stage → Result FetchResult PgWireError → Type 0
TakesInOrder (Started old delivered) new result = result ≢ Err NoMemory → AreTaken old.items result (items_to_come new)
TakesInOrder Unstarted new result = Unit {0}
TakesInOrder (Ended delivered) new result = Unit {0}

-- the rows of a page
abbrev pub rows_of : Result FetchResult PgWireError → List DataRow
rows_of (Ok page) = page.rows
rows_of (Err error) = []

-- Two fetches are one: the one fetch gives the rows of both, one after another, and comes as far.
pub record AreOneFetch (first second both : Fetched) : Type 0 where
  pub answered : IsOk both.answer
  pub rows : rows_of both.answer ≡ rows_of first.answer ++ rows_of second.answer
  pub stage : both.stage ≡ second.stage

-- ---- the page of a response

-- how far a portal has come after a page
abbrev pub after_page : Bool → ToldRows → ℕ → Stage
after_page true left delivered = Started left delivered
after_page false left delivered = Ended delivered

-- a page, and what it leaves
abbrev pub IsPage : ℤ → ToldRows → ℕ → ToldRows → FetchResult → Type 0
IsPage limit old delivered new page = (Ok page ≡ (fetched limit (Started old delivered)).answer)
    × (after_page page.suspended new page.delivered ≡ (fetched limit (Started old delivered)).stage)
    × (old.items ≡ map Ok page.rows ++ items_to_come (after_page page.suspended new page.delivered))

-- no page: memory ran out, or an error stands in the place of a row
abbrev pub IsRefusedPage : ℤ → ToldRows → ℕ → ToldRows → PgWireError → Type 0
IsRefusedPage limit old delivered new error = ((error ≡ NoMemory) × IsKept (Started old delivered) (Started new delivered))
    ⊎ ((Err error ≡ (fetched limit (Started old delivered)).answer)
    × (Started new delivered ≡ (fetched limit (Started old delivered)).stage)
    × AreTaken old.items (Err error) new.items)
