-- What comes of an order: nothing is a front of what is written, and where the file was read it wasn't refused.
use Rattle.std.proofs.Common.{ℕ, List, [], Option, Some, None, Result, Ok, Err, inl, inr, refl, sym, ap}
use Rattle.std.proofs.lemmas.List.{append-nil}
use Rattle.conversation_runs.specs.Streams.{GrowsByFront}
use Rattle.pg_engine.specs.Serving.{Counts}
use Rattle.recording_text.specs.declared.recording.ReadError.{ReadError}
use Rattle.recording_text.specs.declared.recording.Recording.{Recording}
use Rattle.recording_text.specs.declared.recording.Recording.{Recording}
use Rattle.relation_files.specs.declared.errors.FileError.{FileError}
use Rattle.relation_files.specs.Files.{IsToldBy}
use Rattle.relation_tables.specs.declared.Relation.{Relation}
use Rattle.session_replay.specs.declared.verdict.Verdict.{Verdict}
use Rattle.session_replay.specs.declared.verdict.Verdict.TheVariants as verdict
use Rattle.pg_replay.specs.declared.outcome.Outcome.{Outcome}
use Rattle.pg_replay.specs.declared.outcome.Outcome.TheVariants.{Usage, File, Done, Differs, ReadFault, WriteFault, TurnLimit, NoMemory, TooLong, BadRecording}
use Rattle.pg_replay.specs.Program.{Surroundings, HasToldVerdict, HasWritten, HasJudged, HasVerified, HasVerifiedFile}
use Rattle.pg_replay.specs.Statuses.{verdict_line, verdict_outcome}

-- where nothing is written, a front is
pub grows_by_none : (old : Option (List ℕ)) (text : List ℕ) → GrowsByFront old old text
grows_by_none None text = tt
grows_by_none (Some before) text = ([], (text, refl), ap Some (sym (append-nil before)))

module _ (e : FileError) (old new : Option (List ℕ)) (faults new_faults : ℕ) where
  done_is_no_refusal : (text : List ℕ) → HasWritten Done text (File e) old new faults new_faults → ⊥
  done_is_no_refusal text (inl (inl h)) = let f = h.0 in cc
  done_is_no_refusal text (inl (inr h)) = let f = h.0 in cc
  done_is_no_refusal text (inr h) = let f = h.0 in cc

  differs_is_no_refusal : (text : List ℕ) → HasWritten Differs text (File e) old new faults new_faults → ⊥
  differs_is_no_refusal text (inl (inl h)) = let f = h.0 in cc
  differs_is_no_refusal text (inl (inr h)) = let f = h.0 in cc
  differs_is_no_refusal text (inr h) = let f = h.0 in cc

  verdict_is_no_refusal : (v : Verdict) → HasWritten (verdict_outcome v) (verdict_line v) (File e) old new faults new_faults → ⊥
  verdict_is_no_refusal verdict.Same h = done_is_no_refusal _ h
  verdict_is_no_refusal (verdict.Calls place) h = differs_is_no_refusal _ h
  verdict_is_no_refusal (verdict.Replies place) h = differs_is_no_refusal _ h
  verdict_is_no_refusal (verdict.End kind) h = differs_is_no_refusal _ h

  told_is_no_refusal : (relations : List Relation) (r : Recording) → HasToldVerdict relations r (File e) old new faults new_faults → ⊥
  told_is_no_refusal relations r (inl h) = let f = h.0 in cc
  told_is_no_refusal relations r (inr h) = verdict_is_no_refusal h.0 h.2

  judged_is_no_refusal : (relations : List Relation) (text : List ℕ) (read : Result Recording ReadError)
      → HasJudged relations text read (File e) old new faults new_faults → ⊥
  judged_is_no_refusal relations text (Err refused) (inl f, h) = cc
  judged_is_no_refusal relations text (Err refused) (inr f, h) = cc
  judged_is_no_refusal relations text (Ok r) (inl h) = let f = h.0 in cc
  judged_is_no_refusal relations text (Ok r) (inr h) = told_is_no_refusal relations r h.2

-- what comes of `verify` where the file was read
verified_is_no_refusal : (e : FileError) (relations : List Relation) (left new_left old new : Option (List ℕ)) (before after : Counts)
    → HasVerified relations (File e) left new_left old new before after → ⊥
verified_is_no_refusal e relations left new_left old new before after (inl h) = h.0
verified_is_no_refusal e relations left new_left old new before after (inr h) =
    judged_is_no_refusal e old new before.write_faults after.write_faults relations h.0 _ h.3

pub of_verified : (outcome : Outcome) (relations : List Relation) (old new : Surroundings) → IsToldBy old.file new.file relations
    → HasVerified relations outcome old.client new.client old.out new.out old.counts new.counts → HasVerifiedFile outcome old new
of_verified (File e) relations old new told h =
    absurd (verified_is_no_refusal e relations old.client new.client old.out new.out old.counts new.counts h)
of_verified Usage relations old new told h = (relations, told, h)
of_verified Done relations old new told h = (relations, told, h)
of_verified Differs relations old new told h = (relations, told, h)
of_verified ReadFault relations old new told h = (relations, told, h)
of_verified WriteFault relations old new told h = (relations, told, h)
of_verified TurnLimit relations old new told h = (relations, told, h)
of_verified NoMemory relations old new told h = (relations, told, h)
of_verified TooLong relations old new told h = (relations, told, h)
of_verified BadRecording relations old new told h = (relations, told, h)
