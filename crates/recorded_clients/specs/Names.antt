-- The files of a folder of recordings.
use Rattle.std.specs.Prelude.{ℕ, ℤ, List, ◌++◌, codes}
use Rattle.std.specs.Fmt.{signed_decimal}

-- FOLDER/PID.rec, the file of the client that had this pid
abbrev pub file_of : List ℕ → ℤ → List ℕ
file_of folder pid = folder ++ codes "/" ++ signed_decimal pid ++ codes ".rec"

-- under this name it is made
abbrev pub part_of : List ℕ → List ℕ
part_of file = file ++ codes ".part"
