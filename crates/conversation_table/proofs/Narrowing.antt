-- No call narrows a registration where the server is ready.
use Rattle.std.proofs.Common.{ℕ, zero, suc, Bool, true, false, if◌then◌else◌, List, [], ◌∷◌, Option, Some, None}
use Rattle.std.specs.FinMap as fin
use Rattle.pg_messages.specs.declared.simplequery.Query.{Query}
use Rattle.pg_messages.specs.declared.extendedquery.Execute.{Execute}
use Rattle.pg_messages.specs.declared.frontend.PgWireFrontendMessage.{PgWireFrontendMessage}
use Rattle.pg_messages.specs.declared.frontend.PgWireFrontendMessage.TheVariants as client
use Rattle.pg_messages.specs.declared.backend.PgWireBackendMessage.TheVariants as server
use Rattle.pg_portal.specs.declared.store.Entry.{Entry}
use Rattle.pg_portal.specs.declared.store.Entry.TheVariants as entry
use Rattle.pg_results.specs.Texts.{is_blank}
use Rattle.pg_portal.specs.Told.{TablePortal, Stage, Unstarted, Started, Ended}
use Rattle.pg_client.specs.Effect.{says, silent}
use Rattle.conversation_table.specs.ExecuteRow.{executed_portal, executed_entry}
use Rattle.conversation_table.specs.Handlers.{Handlers}
use Rattle.conversation_table.specs.Questions.{questioned}
use Rattle.pg_replies.specs.Replies.{ready}
use Rattle.conversation_table.specs.SimpleRows.{query_run}
use Rattle.pg_client.specs.State.{State}
use Rattle.conversation_table.specs.Table.{ready_row}
use Rattle.pg_client.proofs.Desks.{NarrowsNone}

questions_narrow_none : (owed : ℕ) (answers : List Bool) → NarrowsNone (questioned owed answers).calls
questions_narrow_none zero answers = tt
questions_narrow_none (suc owed) [] = tt
questions_narrow_none (suc owed) (true ∷ answers) = tt
questions_narrow_none (suc owed) (false ∷ answers) = questions_narrow_none owed answers

module _ {S : Type 0} (h : Handlers S) (answers : List Bool) (s : State S) where
  portal_narrows_none : (m : Execute) (p : TablePortal S) (stage : Stage) → NarrowsNone (executed_portal h.extended answers s m p stage).calls
  portal_narrows_none m p Unstarted = questions_narrow_none (h.extended.query s.info p.bound m.max_rows).owes answers
  portal_narrows_none m p (Started r delivered) = tt
  portal_narrows_none m p (Ended delivered) = tt

  entry_narrows_none : (m : Execute) (x : Option (Entry (TablePortal S))) → NarrowsNone (executed_entry h.extended answers s m x).calls
  entry_narrows_none m None = tt
  entry_narrows_none m (Some entry.Empty) = tt
  entry_narrows_none m (Some (entry.Value p)) = portal_narrows_none m p p.stage

  -- a Query whose text is blank or not, as told
  query_narrows_none : (m : Query) (blank : Bool)
      → NarrowsNone (if blank then silent (says (server.EmptyQueryResponse (record {}) ∷ ready s.info.status ∷ []) s)
      else query_run answers s (h.simple s.info m.query)).calls
  query_narrows_none m true = tt
  query_narrows_none m false = questions_narrow_none (h.simple s.info m.query).owes answers

  pub ready_narrows_none : (m : PgWireFrontendMessage) → NarrowsNone (ready_row h answers s m).calls
  ready_narrows_none (client.Query m) = query_narrows_none m (is_blank m.query)
  ready_narrows_none (client.Execute m) = entry_narrows_none m (fin.get s.portals m.name)
  ready_narrows_none _ = tt
