-- The file that the words name.
use Rattle.std.specs.Prelude.{ℕ, List, Option, None, is_some, slice_get, if◌then◌else◌}
use Rattle.relation_words.specs.Commands.{service_of}
use Rattle.relation_words.specs.Listening.{listening_of}

-- FILE, the second word of a good `serve` and the fourth of a good `listen`; None for any other words.
abbrev pub file_of : List (List ℕ) → Option (List ℕ)
file_of words =
    if is_some (service_of words) then slice_get words 1
    else if is_some (listening_of words) then slice_get words 3
    else None
