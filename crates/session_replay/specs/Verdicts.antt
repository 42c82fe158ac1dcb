-- What a replay is, and what it says of a recording.
use Rattle.std.specs.Prelude.{ℕ, List, ◌≡◌, ◌≢◌, ◌<◌, take, length, slice_get}
use Rattle.pg_client.specs.declared.desk.DeskCall.{DeskCall}
use Rattle.pg_client.specs.declared.ends.EndKind.{EndKind}
use Rattle.pg_client.specs.Answer.{answers_of}
use Rattle.pg_client.specs.Script.{scripted}
use Rattle.pg_client.specs.State.{first_state}
use Rattle.conversation_runs.specs.Run.{IsRun}
use Rattle.conversation_runs.specs.Session.{whole_rules}
use Rattle.recording_text.specs.declared.recording.Recording.{Recording}
use Rattle.relation_tables.specs.RelationHandler.{relation_handlers}
use Rattle.relation_tables.specs.declared.Relation.{Relation}
use Rattle.session_replay.specs.declared.verdict.Verdict.{Verdict}
use Rattle.session_replay.specs.declared.verdict.Verdict.TheVariants.{Same, Calls, Replies, End}

-- These replies, registry calls and end are those of the recording's replay. They are the conversation table's answer to the recorded
-- client bytes, under the recorded registration and these relations. The registry gives the recorded answers in their order, and then
-- answers no.
pub record IsReplay (relations : List Relation) (r : Recording) (replies : List ℕ) (calls : List DeskCall) (kind : EndKind) : Type 0 where
  pub run : IsRun (whole_rules (relation_handlers relations)) (first_state r.pid r.key) r.client replies calls kind
  pub answered : answers_of calls ≡ scripted (answers_of r.calls) (length (answers_of calls))

-- Two lists are the same before a place, and differ at it: their items there differ, or one list has ended.
pub record DiffersAt {A : Type 0} (xs ys : List A) (place : ℕ) : Type 0 where
  pub before : take place xs ≡ take place ys
  pub there : slice_get xs place ≢ slice_get ys place

-- What these replies, calls and end say of the recorded ones: the first of calls, replies and end that differs, and where.
abbrev pub IsVerdict : Recording → List ℕ → List DeskCall → EndKind → Verdict → Type 0
IsVerdict r replies calls kind Same = (calls ≡ r.calls) × (replies ≡ r.replies) × (kind ≡ r.end)
IsVerdict r replies calls kind (Calls place) = DiffersAt calls r.calls place
IsVerdict r replies calls kind (Replies place) = (calls ≡ r.calls) × DiffersAt replies r.replies place
IsVerdict r replies calls kind (End other) = (calls ≡ r.calls) × (replies ≡ r.replies) × (other ≡ kind) × (kind ≢ r.end)

-- The verdict on a recording: there is a replay of it, which says so.
abbrev pub IsVerdictOn : List Relation → Recording → Verdict → Type 0
IsVerdictOn relations r verdict = (replies : List ℕ) × (calls : List DeskCall) × (kind : EndKind)
    × IsReplay relations r replies calls kind × IsVerdict r replies calls kind verdict

-- What the first calls of a replay say of the recorded ones, whatever follows: they differ at one of these calls.
abbrev pub IsVerdictSoFar : Recording → List DeskCall → Verdict → Type 0
IsVerdictSoFar r made (Calls place) = DiffersAt made r.calls place × (place < length made)
IsVerdictSoFar r made _ = ⊥
