-- What the texts of sample queries mean.
use Rattle.std.specs.Prelude.{ℕ, List, Option, Some, None, if◌then◌else◌, codes, bytes_eq}
pub use Rattle.query_texts.specs.QueryTexts.{trimmed}
use Rattle.sample_handlers.specs.declared.meaning.SampleStatement.{SampleStatement}
use Rattle.sample_handlers.specs.declared.meaning.SampleStatement.TheVariants as statement

-- what a trimmed text means that asks neither for rows at once nor for a COPY
abbrev pub other_meaning_of : List ℕ → Option SampleStatement
other_meaning_of text =
    if bytes_eq text (codes "failed") then Some statement.Failed
    else if bytes_eq text (codes "done") then Some statement.Done
    else if bytes_eq text (codes "late") then Some statement.Late
    else if bytes_eq text (codes "nothing") then Some statement.Nothing
    else None

-- what a trimmed text means
abbrev pub meaning_of : List ℕ → Option SampleStatement
meaning_of text =
    if bytes_eq text (codes "pair") then Some statement.Pair
    else if bytes_eq text (codes "broken") then Some statement.Broken
    else if bytes_eq text (codes "long") then Some statement.Long
    else if bytes_eq text (codes "in") then Some statement.CopyIn
    else if bytes_eq text (codes "out") then Some statement.CopyOut
    else if bytes_eq text (codes "both") then Some statement.CopyBoth
    else other_meaning_of text

abbrev pub meaning : List ℕ → Option SampleStatement
meaning query = meaning_of (trimmed query)
