-- What comes of a text that is written to a sink.
use Rattle.std.specs.Prelude.{ℕ, ◌≡◌, ◌≤◌, List, ◌++◌, Option, Result, Ok, Err}
use Rattle.conversation_runs.specs.Streams.{GrowsBy, GrowsByFront, HasRisen}
use Rattle.conversation_runs.specs.declared.streams.SinkError.{SinkError}
use Rattle.conversation_runs.specs.declared.streams.SinkError.TheVariants.{Failed, NoMemory}

-- What was written has grown by a front of a text, whose rest waits.
pub record IsOnItsWay (old new : Option (List ℕ)) (text waiting : List ℕ) : Type 0 where
  pub sent : List ℕ
  pub grown : GrowsBy old new sent
  pub whole : text ≡ sent ++ waiting

-- the cause of a sink's error, by the count of its faults, which doesn't fall
abbrev pub IsSinkCause : SinkError → ℕ → ℕ → Type 0
IsSinkCause Failed faults new_faults = HasRisen faults new_faults × (faults ≤ new_faults)
IsSinkCause NoMemory faults new_faults = new_faults ≡ faults

-- What came of a text: all of it was written, or a front of it was, for a cause. The count of faults doesn't fall.
abbrev pub HasWritten : Result (Unit {0}) SinkError → List ℕ → Option (List ℕ) → Option (List ℕ) → ℕ → ℕ → Type 0
HasWritten (Ok done) text old new faults new_faults = GrowsBy old new text × (new_faults ≡ faults)
HasWritten (Err e) text old new faults new_faults = GrowsByFront old new text × IsSinkCause e faults new_faults

-- Of each text that was on its way, whose rest waits: now the text with this piece behind it is on its way; or a front of that was written,
-- for a cause. The count of faults doesn't fall.
abbrev pub GoesOn : Result (Unit {0}) SinkError → List ℕ → List ℕ → List ℕ → Option (List ℕ) → Option (List ℕ) → ℕ → ℕ → Type 0
GoesOn (Ok done) piece waiting new_waiting old new faults new_faults =
    ((first : Option (List ℕ)) (text : List ℕ) → IsOnItsWay first old text waiting → IsOnItsWay first new (text ++ piece) new_waiting)
    × (new_faults ≡ faults)
GoesOn (Err e) piece waiting new_waiting old new faults new_faults =
    ((first : Option (List ℕ)) (text : List ℕ) → IsOnItsWay first old text waiting → GrowsByFront first new (text ++ piece))
    × IsSinkCause e faults new_faults
