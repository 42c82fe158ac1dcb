-- What a client of relations may rely on: with turns enough, and where no read and no write fails, it is served to its end.
use Rattle.std.specs.Prelude.{ℕ, List, [], ◌∷◌, Option, Result, max}
use Rattle.pg_messages.specs.declared.frontend.PgWireFrontendMessage.{PgWireFrontendMessage}
use Rattle.pg_client.specs.declared.ends.EndKind.{EndKind}
use Rattle.conversation_runs.specs.declared.ends.ServeError.{ServeError}
use Rattle.pg_engine.specs.Completeness.{HasTurnsFor, IsCompleteWithin}
use Rattle.pg_engine.specs.Serving.{Counts}
use Rattle.relation_tables.specs.declared.Relation.{Relation}

-- the greatest number of polls that a query of a relation finds unready
abbrev pub most_unready : List Relation → ℕ
most_unready [] = 0
most_unready (r ∷ relations) = max r.unready (most_unready relations)

-- The turns are enough for these bytes, whose frames are these messages: one for each byte and one for the end, and for
-- each message that runs a query as many as the most unready polls of a relation.
abbrev pub HasTurns : List Relation → ℕ → List ℕ → List PgWireFrontendMessage → Type 0
HasTurns relations turns text messages = HasTurnsFor (most_unready relations) turns text messages

-- Complete over relations: whatever the source's bytes are, the conversation comes to an end, or memory runs out, where no
-- count of faults rises and the turns are enough for the most unready polls of a relation.
abbrev pub IsComplete : List Relation → ℕ → Result EndKind ServeError → Option (List ℕ) → Counts → Counts → Type 0
IsComplete relations turns answer left before after = IsCompleteWithin (most_unready relations) turns answer left before after
