-- Handlers that change meet each message before it is answered: they do what it asks of their world, and tell its sheet.
use Rattle.std.specs.Prelude.{ℕ, List, [], ◌∷◌, ◌++◌, ◌≡◌}
use Rattle.pg_messages.specs.declared.frontend.PgWireFrontendMessage.{PgWireFrontendMessage}
use Rattle.pg_messages.specs.Frames.{DividesInto}
use Rattle.pg_client.specs.declared.desk.DeskCall.{DeskCall}
use Rattle.pg_client.specs.Answer.{BeginsWith, Goes, answers_of}
use Rattle.pg_client.specs.State.{State}
use Rattle.conversation_table.specs.Handlers.{Handlers}
use Rattle.conversation_table.specs.Table.{whole_table, awaits}

-- What meeting a message may come to: the world before, the client's state and the message; then the sheet, and the world after.
abbrev pub Meeting : Type 0 → Type 0 → Type 1
Meeting W S = W → State S → PgWireFrontendMessage → Handlers S → W → Type 0

-- From a world and a state on, these messages were met in turn, each in the world and the state behind those before it.
-- Each was answered by its sheet, with these calls, and the conversation went on. The last world and the last state are
-- where it stands.
pub data WentOn {W S : Type 0} (Meets : Meeting W S) : W → State S → List PgWireFrontendMessage → List (Handlers S) → List DeskCall → W
    → State S → Type 0 where
  none : (w : W) (s : State S) → WentOn Meets w s [] [] [] w s
  more : (w u v : W) (s t r : State S) (m : PgWireFrontendMessage) (h : Handlers S) (made : List DeskCall)
      (messages : List PgWireFrontendMessage) (sheets : List (Handlers S)) (calls : List DeskCall) → Meets w s m h u
      → (whole_table h (answers_of made) s m).calls ≡ made → (whole_table h (answers_of made) s m).next ≡ Goes t
      → WentOn Meets u t messages sheets calls v r
      → WentOn Meets w s (m ∷ messages) (h ∷ sheets) (made ++ calls) v r

-- These messages were met in turn. The conversation may have ended at the last one, or been cut off there: then its calls
-- are a front of those of its answer.
pub data WereMet {W S : Type 0} (Meets : Meeting W S) : W → State S → List PgWireFrontendMessage → List (Handlers S) → List DeskCall → W
    → Type 0 where
  going : (w v : W) (s t : State S) (messages : List PgWireFrontendMessage) (sheets : List (Handlers S)) (calls : List DeskCall)
      → WentOn Meets w s messages sheets calls v t → WereMet Meets w s messages sheets calls v
  last : (w u v : W) (s t : State S) (messages : List PgWireFrontendMessage) (sheets : List (Handlers S)) (calls : List DeskCall)
      (m : PgWireFrontendMessage) (h : Handlers S) (made : List DeskCall) → WentOn Meets w s messages sheets calls u t
      → Meets u t m h v → BeginsWith (whole_table h (answers_of made) t m).calls made
      → WereMet Meets w s (messages ++ m ∷ []) (sheets ++ h ∷ []) (calls ++ made) v

-- The first frames of a text, up to a rest, were met in turn, and the handlers told these sheets.
pub record MetFrames {W S : Type 0} (Meets : Meeting W S) (w v : W) (s : State S) (text : List ℕ) (sheets : List (Handlers S))
    (calls : List DeskCall) : Type 0 where
  pub messages : List PgWireFrontendMessage
  pub rest : List ℕ
  pub division : DividesInto (awaits s) text messages rest
  pub met : WereMet Meets w s messages sheets calls v

-- The same, and the conversation went on to this state, with this rest.
pub record MetAllFrames {W S : Type 0} (Meets : Meeting W S) (w v : W) (s t : State S) (text rest : List ℕ) (sheets : List (Handlers S))
    (calls : List DeskCall) : Type 0 where
  pub messages : List PgWireFrontendMessage
  pub division : DividesInto (awaits s) text messages rest
  pub met : WentOn Meets w s messages sheets calls v t
