-- A front as contracts see it, whatever session it stands before.
use Rattle.std.specs.Prelude.{List, ℕ, ◌≡◌, Result, Ok}
use Rattle.conversation_table.specs.Handlers.{Handlers}
use Rattle.conversation_runs.specs.declared.ends.Progress.{Progress}
use Rattle.conversation_runs.specs.declared.ends.Progress.TheVariants as progress
use Rattle.conversation_runs.specs.declared.ends.ServeError.{ServeError}
use Rattle.conversation_runs.specs.Session.{SessionValue}
use Rattle.cursor_table.specs.CursorTable.{cursor_rules}
use Rattle.cursor_session.specs.declared.parts.Front.{Front}
use Rattle.cursor_session.specs.Fronts.{FrontValue, Around, Takes, IsStanding, rest_of}

-- a front, by how contracts see the session behind it
abbrev pub front_seen : {C H S : Type 0} → (C → SessionValue H S) → Front C → FrontValue H S
front_seen seen v = record { inner = seen v.inner; held = v.held.items; owed = v.owed }

-- A front took a text by the cursor table, from where it stood to where it stands, and no whole frame is left where the conversation goes
-- on. The first argument is what handlers tell, and those stay.
pub record FrontTakes {H S : Type 0} (told : H → Handlers S) (v : FrontValue H S) (text : List ℕ) (w : FrontValue H S)
    (before after : Around) (result : Result Progress ServeError) : Type 0 where
  pub took : Takes (cursor_rules (told v.inner.handlers)) v.inner.state text w.inner.state (rest_of w) before after result
  pub stands : result ≡ Ok progress.More → IsStanding w
  pub handlers : w.inner.handlers ≡ v.inner.handlers
