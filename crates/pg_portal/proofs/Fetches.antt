-- What the page of a response answers, and what it leaves.
use Rattle.std.proofs.Common.{◌≡◌, List, ℕ, ℤ, ap}
use Rattle.pg_messages.specs.declared.data.DataRow.{DataRow}
use Rattle.pg_portal.specs.Fetching.{fetched, fetched_page}
use Rattle.pg_results.specs.Page.{ItemPage, PageEnd, item_page}
use Rattle.pg_results.specs.Told.{ToldRows}
use Rattle.pg_portal.specs.Told.{Started}

-- what a fetch answers where its page ended so
pub ends_so : (limit : ℤ) (old : ToldRows) (delivered : ℕ) (rows : List DataRow) (ending : PageEnd DataRow)
    → item_page limit old.items ≡ record { rows = rows; ending = ending }
    → fetched limit (Started old delivered) ≡ fetched_page old delivered rows ending
ends_so limit old delivered rows ending e = ap (λ (page : ItemPage DataRow). fetched_page old delivered page.rows page.ending) e
