-- What a program has written where it tells a text, and where it ends before it does what its words order.
use Rattle.std.specs.Prelude.{ℕ, List, ◌≡◌, ◌⊎◌, ◌+◌, Option, Err, min}
use Rattle.conversation_runs.specs.declared.ends.ServeError.{ServeError}
use Rattle.conversation_runs.specs.declared.ends.ServeError.TheVariants.{WriteFault, NoMemory}
use Rattle.conversation_runs.specs.Streams.{GrowsBy, GrowsByFront, HasRisen, greatest_count}
use Rattle.status_lines.specs.StatusLines.{IsReported, line_of_conversation, status_of_conversation}

-- What stands at a place where a program writes: the bytes that were written, where they are known, the count of faults, and that of the
-- sends that were refused.
pub record Written : Type 0 where
  pub bytes : Option (List ℕ)
  pub faults : ℕ
  pub refused : ℕ

-- the same, by what the traits tell
abbrev pub written_to : {K : Type 0} → (K → Option (List ℕ)) → (K → ℕ) → (K → ℕ) → K → Written
written_to bytes faults refused sink = record { bytes = bytes sink; faults = faults sink; refused = refused sink }

-- The program ends with this status: that of an error, whose line was written.
abbrev pub EndsBy : ServeError → ℕ → Written → Written → Type 0
EndsBy error status old new = IsReported (status_of_conversation (Err error)) (line_of_conversation (Err error)) status old.bytes new.bytes
    old.faults new.faults old.refused new.refused

-- A text was told, with status 0: all of it was written, and nothing as errors. Or a front of it was written, and the status and the line
-- are those of a write fault, where the count of faults has risen, or of want of memory, where one more send was refused and no fault was
-- counted.
abbrev pub IsTold : List ℕ → ℕ → Written → Written → Written → Written → Type 0
IsTold text status out new_out err new_err =
    ((status ≡ 0) × GrowsBy out.bytes new_out.bytes text × (new_out.faults ≡ out.faults) × (new_err ≡ err))
    ⊎ ((GrowsByFront out.bytes new_out.bytes text × HasRisen out.faults new_out.faults × EndsBy WriteFault status err new_err)
    ⊎ (GrowsByFront out.bytes new_out.bytes text × (new_out.faults ≡ out.faults) × (new_out.refused ≡ min (out.refused + 1) greatest_count)
    × EndsBy NoMemory status err new_err))

-- The program told of itself, by its help or its version, and ended with this status; or it ended where there was no memory for its words.
abbrev pub HasToldOfItself : List ℕ → List ℕ → ℕ → Written → Written → Written → Written → Type 0
HasToldOfItself help version status out new_out err new_err =
    (((text : List ℕ) × ((text ≡ help) ⊎ (text ≡ version)) × IsTold text status out new_out err new_err))
    ⊎ ((new_out ≡ out) × EndsBy NoMemory status err new_err)
