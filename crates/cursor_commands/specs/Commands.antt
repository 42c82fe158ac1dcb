-- The commands of cursors, as queries spell them.
use Rattle.std.specs.Prelude.{ℕ, ℤ, List, [], ◌∷◌, ◌&&◌, Option, Some, None, option_map, if◌then◌else◌, codes}
use Rattle.std.specs.Option.{option_or}
use Rattle.query_texts.specs.QueryTexts.{trimmed, words, is_word}
use Rattle.cursor_commands.specs.Limits.{limit_of}
use Rattle.cursor_commands.specs.declared.command.CursorCommand.{CursorCommand}
use Rattle.cursor_commands.specs.declared.command.CursorCommand.TheVariants.{Declare, Fetch, Close}

-- the names in `DECLARE name CURSOR FOR relation`; key words are in any ASCII case, here and below
abbrev pub declared_by : List (List ℕ) → Option (List ℕ × List ℕ)
declared_by (declare ∷ name ∷ cursor ∷ over ∷ relation ∷ []) =
    if is_word declare (codes "DECLARE") && is_word cursor (codes "CURSOR") && is_word over (codes "FOR") then Some
    (name, relation) else None
declared_by _ = None

-- the limit and the name in `FETCH limit FROM name`
abbrev pub fetched_by : List (List ℕ) → Option (ℤ × List ℕ)
fetched_by (fetch ∷ limit ∷ from ∷ name ∷ []) =
    if is_word fetch (codes "FETCH") && is_word from (codes "FROM") then option_map (λ n. (n, name)) (limit_of limit) else None
fetched_by _ = None

-- the name in `CLOSE name`
abbrev pub closed_by : List (List ℕ) → Option (List ℕ)
closed_by (close ∷ name ∷ []) = if is_word close (codes "CLOSE") then Some name else None
closed_by _ = None

-- the command that words are
abbrev pub command_in : List (List ℕ) → Option CursorCommand
command_in spelled = option_or (option_map (λ names. Declare names.0 names.1) (declared_by spelled))
    (option_or (option_map (λ fetch. Fetch fetch.0 fetch.1) (fetched_by spelled)) (option_map (λ name. Close name) (closed_by spelled)))

-- The command that a query is, without whitespace and semicolons at both ends; None for any other query.
abbrev pub command_of : List ℕ → Option CursorCommand
command_of query = command_in (words (trimmed query))
