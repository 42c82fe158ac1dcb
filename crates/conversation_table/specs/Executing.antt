-- What an Execute makes of a portal: its page, how its query ends, and what is left.
use Rattle.std.specs.Prelude.{ℕ, ℤ, Bool, true, false, List, [], ◌∷◌, ◌++◌, Option, Some, None, Result, Ok, Err, ◌≡◌, ◌⊎◌, length, codes}
use Rattle.std.specs.Option.{IsSomeAnd}
use Rattle.std.specs.FinMap as fin
use Rattle.pg_messages.specs.declared.data.DataRow.{DataRow}
use Rattle.pg_messages.specs.Replies.{replies_bytes}
use Rattle.pg_results.specs.declared.error.PgWireError.{PgWireError}
use Rattle.pg_results.specs.declared.error.PgWireError.TheVariants as wire
use Rattle.pg_portal.specs.declared.store.Entry.TheVariants as entry
use Rattle.pg_portal.specs.Fetching.{IsKept, stage_after}
use Rattle.pg_portal.specs.Maps.{Maps, maps_with_portal, maps_without_portal}
use Rattle.pg_results.specs.Page.{ItemPage, PageEnd, AtLimit, AtEnd, AtError, delivered_after, item_page}
use Rattle.pg_results.specs.Told.{ToldRows}
use Rattle.pg_portal.specs.Told.{Stage, Unstarted, Started, Ended, TablePortal, value_under}
use Rattle.pg_results.specs.Responses as response
use Rattle.pg_results.specs.Responses.{ToldResponse}
use Rattle.pg_replies.specs.Replies.{Replies, done_with}
use Rattle.pg_replies.specs.PageEnd.{page_replies}
use Rattle.conversation_table.specs.ExecuteRow.{at_stage}

abbrev pub is_unstarted : Stage → Bool
is_unstarted Unstarted = true
is_unstarted (Started r delivered) = false
is_unstarted (Ended delivered) = false

-- whether a response has rows, and so starts its portal
abbrev pub has_rows : ToldResponse → Bool
has_rows (response.Query r) = true
has_rows _ = false

-- the replies of a page, how far the portal has come then, and the error that the page met
pub record StagePage : Type 0 where
  pub replies : Replies
  pub stage : Stage
  pub refusal : Option PgWireError

abbrev pub error_at : PageEnd DataRow → Option PgWireError
error_at (AtLimit items) = None
error_at AtEnd = None
error_at (AtError e items) = Some e

abbrev pub response_page : ToldRows → ℕ → ItemPage DataRow → StagePage
response_page r delivered page = record {
  replies = page_replies r.command_tag (delivered_after delivered (length page.rows)) page.rows page.ending;
  stage = stage_after r delivered page.rows page.ending;
  refusal = error_at page.ending;
}

-- nothing is replied, and the portal stays
abbrev pub refused_page : Stage → PgWireError → StagePage
refused_page stage e = record { replies = []; stage = stage; refusal = Some e }

-- the next page of a portal at this stage
abbrev pub page_result : ℤ → Stage → StagePage
page_result limit (Started r delivered) = response_page r delivered (item_page limit r.items)
page_result limit (Ended delivered) = record {
  replies = done_with (codes "SELECT") delivered ∷ [];
  stage = Ended delivered;
  refusal = None;
}
page_result limit Unstarted = refused_page Unstarted wire.PortalNotStarted

-- the page was sent, or met its error; or memory ran out
abbrev pub IsPageOf : {A : Type 0} → StagePage → Stage → List ℕ → List ℕ → Result A PgWireError → Type 0
IsPageOf page stage out new_out (Ok x) = (page.refusal ≡ None) × (stage ≡ page.stage) × (new_out ≡ out ++ replies_bytes page.replies)
IsPageOf page stage out new_out (Err e) = (e ≡ wire.NoMemory)
    ⊎ ((page.refusal ≡ Some e) × (stage ≡ page.stage) × (new_out ≡ out ++ replies_bytes page.replies))

-- the portal under a name
abbrev pub portal_under : {S : Type 0} → Maps S → List ℕ → Option (TablePortal S)
portal_under maps name = value_under (fin.get maps.portals name)

-- A portal that isn't started stands under this name.
abbrev pub HasUnstarted : {S : Type 0} → Maps S → List ℕ → Type 0
HasUnstarted maps name = IsSomeAnd (portal_under maps name) (λ p. p.stage ≡ Unstarted)

-- the statements and portals are as they were, or the unnamed portal was removed
abbrev pub OnlyLosesUnnamed : {S : Type 0} → Maps S → Maps S → Type 0
OnlyLosesUnnamed old new = (new ≡ old) ⊎ (new ≡ maps_without_portal old [])

-- How far a portal may have come after an Execute that was refused. One that wasn't started may be at any stage. A
-- started one is still started, with a rest of its items. A finished one is as it was.
abbrev pub HasComeTo : Stage → Stage → Type 0
HasComeTo Unstarted new = Unit {0}
HasComeTo (Started r delivered) new = IsKept (Started r delivered) new
HasComeTo (Ended delivered) new = new ≡ Ended delivered

-- What a refused Execute leaves: the statements and portals are as they were, except that the portal of its name may
-- have come further.
abbrev pub IsLeftBehind : {S : Type 0} → Maps S → List ℕ → Maps S → Type 0
IsLeftBehind {S} old name new = (new ≡ old) ⊎ ((p : TablePortal S) × (stage : Stage) × (value_under (fin.get old.portals name) ≡ Some p)
    × HasComeTo p.stage stage × (new ≡ maps_with_portal old name (entry.Value (at_stage p stage))))
