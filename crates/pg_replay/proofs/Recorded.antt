-- What recording a client comes to, whose session is served in memory.
use Rattle.std.proofs.Common.{◌≡◌, ◌<◌, ℕ, ℤ, zero, suc, Bool, false, List, [], Option, Some, None, Result, Ok, Err, inl, inr, length, refl, sym, ap, subst, ◌∙◌, arith}
use Rattle.std.specs.List.{AllByRecursion}
use Rattle.pg_client.specs.declared.desk.DeskCall.{DeskCall}
use Rattle.pg_client.specs.declared.ends.EndKind.{EndKind}
use Rattle.pg_client.specs.Answer.{answers_of}
use Rattle.conversation_table.specs.Questions.{questions}
use Rattle.pg_client.specs.Script.{IsScripted, origin_of, scripted}
use Rattle.conversation_runs.specs.declared.ends.ServeError.{ServeError}
use Rattle.conversation_runs.specs.declared.ends.ServeError.TheVariants as fault
use Rattle.conversation_runs.specs.Streams.{HasRisen}
use Rattle.pg_engine.specs.Serving.{Counts, HasCause}
use Rattle.recording_text.specs.declared.recording.Recording.{Recording}
use Rattle.pg_engine.specs.Completeness.{HasFault}
use Rattle.relation_serving.specs.Completeness.{IsComplete}
use Rattle.relation_serving.specs.Serving.{WentByTables}
use Rattle.relation_tables.specs.declared.Relation.{Relation}
use Rattle.session_recording.specs.declared.error.RecordError.{RecordError}
use Rattle.session_recording.specs.Kept.{counted}
use Rattle.session_recording.specs.Recorded.{IsFaithful, IsRecorded, Passage}
use Rattle.session_replay.proofs.Judging.{one_script}
use Rattle.pg_replay.specs.Program.{WasRecorded, room, turns}

-- ---- the registry

-- past the end of a list all is no
all_no : (n : ℕ) → AllByRecursion (λ yes. yes ≡ false) (scripted [] n)
all_no zero = tt
all_no (suc n) = (refl, all_no n)

-- the calls of a registry that answers by an empty list
pub answered_no : (script left : List Bool) (calls : List DeskCall) → origin_of script ≡ [] → IsScripted script left calls
    → AllByRecursion (λ yes. yes ≡ false) (answers_of calls)
answered_no script left calls origin is =
    let told : answers_of calls ≡ scripted [] (length (answers_of calls)) =
    is.answered ∙ ap (λ s. scripted s (length (answers_of calls))) (one_script script [] origin) in
    subst (λ l. AllByRecursion (λ yes. yes ≡ false) l) (sym told) (all_no (length (answers_of calls)))

-- ---- causes

-- the count of a sink that never fails
no_rise : ¬ HasRisen 0 0
no_rise (inl less) = let f : 0 < 0 = less in omega arith
no_rise (inr e) = cc

abbrev in_memory : ℕ → ℕ → ℕ → Counts
in_memory reads read_faults write_faults = record { reads = reads; read_faults = read_faults; write_faults = write_faults }

module _ (reads new_reads faults new_faults writes new_writes : ℕ) where
  -- the cause of a session in memory speaks of no sink: it is the same whatever another sink counts
  pub cause_in_memory : (answer : Result EndKind ServeError) (limit asked : ℕ)
      → HasCause answer limit asked (in_memory reads faults 0) (in_memory new_reads new_faults 0)
      → HasCause answer limit asked (in_memory reads faults writes) (in_memory new_reads new_faults new_writes)
  cause_in_memory (Ok kind) limit asked cause = cause
  cause_in_memory (Err fault.ReadFault) limit asked cause = cause
  cause_in_memory (Err fault.TurnLimit) limit asked cause = cause
  cause_in_memory (Err fault.NoMemory) limit asked cause = cause
  cause_in_memory (Err fault.WriteFault) limit asked cause = absurd (no_rise cause)

  fault_of : HasFault (in_memory reads faults 0) (in_memory new_reads new_faults 0)
      → HasFault (in_memory reads faults writes) (in_memory new_reads new_faults new_writes)
  fault_of (inl read) = inl read
  fault_of (inr write) = absurd (no_rise write)

  pub complete_in_memory : (relations : List Relation) (limit : ℕ) (answer : Result EndKind ServeError) (left : Option (List ℕ))
      → IsComplete relations limit answer left (in_memory reads faults 0) (in_memory new_reads new_faults 0)
      → IsComplete relations limit answer left (in_memory reads faults writes) (in_memory new_reads new_faults new_writes)
  complete_in_memory relations limit answer None complete = tt
  complete_in_memory relations limit answer (Some text) complete =
      λ messages rest division whole enough fits sound. complete messages rest division whole enough fits (λ f. sound (fault_of f))

-- ---- what was recorded

abbrev passing : Option (List ℕ) → Option (List ℕ) → List ℕ → List ℕ → ℕ → Passage
passing left new_left began sent refused = record {
  left = left;
  new_left = new_left;
  written = Some began;
  new_written = Some sent;
  refused = 0;
  new_refused = refused;
  sent = counted (length began);
  new_sent = counted (length sent);
}

-- the words of the program say what its registry, its sink and its calls are
pub was_recorded : (registration : ℤ × List ℕ) (pid : ℤ) (key : List ℕ) (relations : List Relation) (answer : Result EndKind ServeError)
    (recorded : Result Recording RecordError) (left new_left : Option (List ℕ)) (began sent : List ℕ) (refused : ℕ)
    (calls went_calls told_calls : List DeskCall) (reads new_reads faults new_faults writes new_writes : ℕ) → registration ≡ (pid, key) → began ≡ [] → went_calls ≡ calls → told_calls ≡ calls
    → AllByRecursion (λ yes. yes ≡ false) (answers_of calls)
    → WentByTables relations registration answer left new_left (Some began) (Some sent) went_calls
    → HasCause answer turns (questions went_calls) (in_memory reads faults 0) (in_memory new_reads new_faults 0)
    → IsComplete relations turns answer left (in_memory reads faults 0) (in_memory new_reads new_faults 0)
    → IsRecorded registration room answer recorded (passing left new_left began sent refused) told_calls
    → IsFaithful relations (passing left new_left began sent refused) recorded
    → WasRecorded pid key relations answer recorded left new_left (in_memory reads faults writes) (in_memory new_reads new_faults new_writes)
was_recorded registration pid key relations answer recorded left new_left began sent refused calls went_calls told_calls reads new_reads faults
    new_faults writes new_writes is none gone heard answered went cause complete told faithful = record {
      calls = calls;
      sent = sent;
      refused = refused;
      answered = answered;
      went = subst (λ r. WentByTables relations r answer left new_left (Some []) (Some sent) calls) is
          (subst (λ b. WentByTables relations registration answer left new_left (Some b) (Some sent) calls) none
          (subst (λ k. WentByTables relations registration answer left new_left (Some began) (Some sent) k) gone went));
      cause = cause_in_memory reads new_reads faults new_faults writes new_writes answer turns (questions calls)
          (subst (λ k. HasCause answer turns (questions k) (in_memory reads faults 0) (in_memory new_reads new_faults 0)) gone cause);
      complete = complete_in_memory reads new_reads faults new_faults writes new_writes relations turns answer left complete;
      told = subst (λ r. IsRecorded r room answer recorded (passing left new_left [] sent refused) calls) is
          (subst (λ b. IsRecorded registration room answer recorded (passing left new_left b sent refused) calls) none
          (subst (λ k. IsRecorded registration room answer recorded (passing left new_left began sent refused) k) heard told));
      faithful = subst (λ b. IsFaithful relations (passing left new_left b sent refused) recorded) none faithful;
    }
