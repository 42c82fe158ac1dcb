-- What handlers whose queries wait tell.
use Rattle.std.specs.Prelude.{ℕ, List, [], ◌∷◌, Ok, if◌then◌else◌, codes, bytes_eq}
use Rattle.query_texts.specs.QueryTexts.{trimmed}
use Rattle.pg_results.specs.Responses as response
use Rattle.pg_results.specs.Responses.{ToldResponse}
use Rattle.pg_results.specs.Tags.{tag_of}
use Rattle.conversation_table.specs.Handlers.{Handlers, SimpleTold, handlers_of}
use Rattle.conversation_table.specs.Noop.{noop_copy, noop_extended}

-- how many polls find the query of a trimmed text unready
abbrev pub polls_of : List ℕ → ℕ
polls_of text =
    if bytes_eq text (codes "soon") then 20
    else if bytes_eq text (codes "late") then 20000
    else 0

-- what each query is answered
abbrev pub waited : List ToldResponse
waited = response.Execution (tag_of (codes "WAITED")) ∷ []

abbrev pub told_simple : SimpleTold
told_simple client query = record { owes = polls_of (trimmed query); outcome = Ok waited }

-- all that the handlers tell: extended queries and COPY are refused
abbrev pub waiting_handlers : Handlers (List ℕ)
waiting_handlers = handlers_of noop_extended told_simple noop_copy
