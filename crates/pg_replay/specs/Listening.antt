-- The words of `listen`.
use Rattle.std.specs.Prelude.{ℕ, ◌==◌, length, List, [], ◌∷◌, Option, Some, None, if◌then◌else◌}
use Rattle.relation_words.specs.Listening.{Place, bound_of, listen_place_of, told_place}
use Rattle.pg_replay.specs.declared.listening.Listening.{Listening}

-- What `listen` orders: to serve the clients that come to a place over the relations of a file, to keep their recordings in a folder, and
-- to serve at most so many, where there is a bound.
pub record Recorded : Type 0 where
  pub place : Place
  pub file : List ℕ
  pub folder : List ℕ
  pub count : Option ℕ

-- what the program's type holds
abbrev pub told_listening : Listening → Recorded
told_listening l = record { place = told_place l.place; file = l.file.now; folder = l.folder.now; count = l.count }

-- the order, where the place and the bound are good and the folder isn't empty
abbrev pub recorded_at : Option Place → List ℕ → List ℕ → Option (Option ℕ) → Option Recorded
recorded_at (Some place) file folder (Some count) =
    if length folder == 0 then None else Some (record { place = place; file = file; folder = folder; count = count })
recorded_at _ file folder _ = None

-- `listen tcp PORT FILE FOLDER [COUNT]` or `listen unix PATH FILE FOLDER [COUNT]`: FILE is any word, FOLDER isn't empty, and there is no
-- bound where COUNT is left out.
abbrev pub listening_of : List (List ℕ) → Option Recorded
listening_of (command ∷ kind ∷ place ∷ file ∷ folder ∷ []) =
    recorded_at (listen_place_of (command ∷ kind ∷ place ∷ file ∷ [])) file folder (Some None)
listening_of (command ∷ kind ∷ place ∷ file ∷ folder ∷ count ∷ []) =
    recorded_at (listen_place_of (command ∷ kind ∷ place ∷ file ∷ [])) file folder (bound_of count)
listening_of _ = None
