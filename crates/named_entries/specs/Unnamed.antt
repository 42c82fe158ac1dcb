-- The entry under the empty name, which is kept beside those of the other names.
use Rattle.std.specs.Prelude.{[], Option, Some, None}
use Rattle.std.specs.FinMap as fin
use Rattle.named_entries.specs.Names.{NameMap}

-- the map with this entry under the empty name, or with no entry there where it is None
abbrev pub with_unnamed : {X : Type 0} → Option X → NameMap X → NameMap X
with_unnamed None m = fin.remove m []
with_unnamed (Some x) m = fin.insert m [] x
