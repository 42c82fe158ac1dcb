-- Which recordings are those of a run.
use Rattle.std.specs.Prelude.{List}
use Rattle.pg_client.specs.State.{first_state}
use Rattle.conversation_runs.specs.Run.{IsRun}
use Rattle.conversation_runs.specs.Session.{whole_rules}
use Rattle.recording_text.specs.declared.recording.Recording.{Recording}
use Rattle.relation_tables.specs.RelationHandler.{relation_handlers}
use Rattle.relation_tables.specs.declared.Relation.{Relation}

-- The recording is that of a run: its replies, its registry calls and its end are the conversation table's answer to its client bytes, under
-- its pid and key, over these relations, and under the very answers that its calls tell.
abbrev pub IsRecordedRun : List Relation → Recording → Type 0
IsRecordedRun relations r =
    IsRun (whole_rules (relation_handlers relations)) (first_state r.pid r.key) r.client r.replies r.calls r.end
