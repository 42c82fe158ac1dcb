-- A conversation that is served: what surrounds it, and all that the server owes its client.
use Rattle.std.specs.Prelude.{ℕ, List, ◌++◌, ◌≡◌, Option, Result, IfOk, OnOk}
use Rattle.pg_client.specs.declared.desk.DeskCall.{DeskCall}
use Rattle.pg_client.specs.declared.ends.EndKind.{EndKind}
use Rattle.pg_client.specs.Desk.{DeskTold, GoesOn}
use Rattle.pg_client.specs.State.{first_state}
use Rattle.conversation_table.specs.Handlers.{Handlers}
use Rattle.conversation_table.specs.Questions.{questions_since}
use Rattle.conversation_runs.specs.declared.ends.ServeError.{ServeError}
use Rattle.conversation_runs.specs.Run.{Rules}
use Rattle.conversation_runs.specs.Session.{whole_rules}
use Rattle.pg_engine.specs.Serving.{Counts, EndsAtLast, FaultsNeverFall, HasCause, IsCalm, IsRunOverTaken, ReadsGaveBytes, WentSo, counts_of}

-- What surrounds a conversation: the bytes that its source has to give and those that its sink has taken, where they
-- are known; their counts; their origins; and its desk.
pub record Around : Type 0 where
  pub left : Option (List ℕ)
  pub written : Option (List ℕ)
  pub counts : Counts
  pub source : List ℕ
  pub sink : List ℕ
  pub desk : DeskTold

-- the same, by the ghost functions of a source, a sink and a desk
abbrev pub around : {S K D : Type 0} → (S → Option (List ℕ)) → (S → ℕ) → (S → ℕ) → (S → List ℕ) → (K → Option (List ℕ)) → (K → ℕ)
    → (K → List ℕ) → (D → DeskTold) → S → K → D → Around
around left reads read_faults source_origin written write_faults sink_origin told source sink desk = record {
  left = left source;
  written = written sink;
  counts = counts_of reads read_faults write_faults source sink;
  source = source_origin source;
  sink = sink_origin sink;
  desk = told desk;
}

-- A client was served by these rules, from this state on, with this many turns. What was written and called is the
-- answer to its bytes, however they were cut. The end or the error has its cause. Where the conversation ended, nothing
-- was taken after its end, the bytes taken have the same run by themselves, and no fault was counted. No count of
-- faults fell. Each read that was counted gave a byte. The desk has changed only by calls. The source and the sink are
-- the same ones.
pub record Serves {T : Type 0} (rules : Rules T) (first : T) (turns : ℕ) (result : Result EndKind ServeError) (before after : Around) : Type 0
  where
    pub went : (calls : List DeskCall) × (after.desk.calls ≡ before.desk.calls ++ calls)
        × WentSo rules first result before.left after.left before.written after.written calls
    pub cause : HasCause result turns (questions_since before.desk.calls after.desk.calls) before.counts after.counts
    pub last : IfOk result (EndsAtLast rules first before.left after.left)
    pub taken : IfOk result (IsRunOverTaken rules first before.left after.left before.written after.written before.desk.calls
        after.desk.calls)
    pub calm : OnOk result (IsCalm before.counts after.counts)
    pub never_falls : FaultsNeverFall before.counts after.counts
    pub reads : ReadsGaveBytes before.left after.left before.counts.reads after.counts.reads
    pub registration : GoesOn before.desk after.desk
    pub source : after.source ≡ before.source
    pub sink : after.sink ≡ before.sink

-- A client was served by a session over these handlers, which begins with the pid and the key of the desk.
abbrev pub ServesSession : {S : Type 0} → Handlers S → ℕ → Result EndKind ServeError → Around → Around → Type 0
ServesSession handlers turns result before after =
    Serves (whole_rules handlers) (first_state before.desk.registration.0 before.desk.registration.1) turns result before after
