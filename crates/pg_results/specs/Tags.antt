-- Tags of commands (protocol: Message Formats, CommandComplete).
use Rattle.std.specs.Prelude.{ℕ, List, [], ◌∷◌, ◌++◌, Option, Some, None, decimal}
use Rattle.pg_results.specs.declared.tag.Tag.{Tag}

-- the tag of a command alone
abbrev pub tag_of : List ℕ → Tag
tag_of command = record { command = command; oid = None; rows = None }

abbrev pub tag_with_rows : ℕ → Tag → Tag
tag_with_rows rows tag = record { command = tag.command; oid = tag.oid; rows = Some rows }

abbrev pub tag_with_oid : ℕ → Tag → Tag
tag_with_oid oid tag = record { command = tag.command; oid = Some oid; rows = tag.rows }

-- a space and a number
abbrev pub spaced : ℕ → List ℕ
spaced n = 32 ∷ decimal n

-- an oid stands only before a number of rows
abbrev pub numbers : Option ℕ → Option ℕ → List ℕ
numbers (Some oid) (Some rows) = spaced oid ++ spaced rows
numbers None (Some rows) = spaced rows
numbers _ None = []

-- the text of a tag: `command oid rows`, `command rows` or `command`
abbrev pub tag_text : Tag → List ℕ
tag_text tag = tag.command ++ numbers tag.oid tag.rows
