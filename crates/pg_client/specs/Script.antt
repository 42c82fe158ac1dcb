-- What a scripted desk holds.
use Rattle.std.specs.Prelude.{ℕ, ℤ, suc, zero, Bool, false, List, [], ◌∷◌, ◌≡◌, drop, map, length, if◌then◌else◌}
use Rattle.pg_client.specs.declared.desk.DeskCall.{DeskCall}
use Rattle.pg_client.specs.Answer.{answers_of}
use Rattle.pg_client.specs.Desk.{DeskTold}

-- the registration, the whole script, the answers to come, and the calls so far
pub record Script : Type 0 where
  pub pid : ℤ
  pub key : List ℕ
  pub script : List Bool
  pub answers : List Bool
  pub calls : List DeskCall

-- the script as numbers, 1 for yes
abbrev pub origin_of : List Bool → List ℕ
origin_of script = map (λ answer. if answer then 1 else 0) script

-- a scripted desk, seen as any desk
abbrev pub script_told : Script → DeskTold
script_told d = record { registration = (d.pid, d.key); calls = d.calls; origin = origin_of d.script }

-- the first answer, or no where there is none
abbrev pub first_or_no : List Bool → Bool
first_or_no [] = false
first_or_no (answer ∷ answers) = answer

-- this many answers of a script, in its order; past its end they are no
abbrev pub scripted : List Bool → ℕ → List Bool
scripted script zero = []
scripted script (suc n) = first_or_no script ∷ scripted (drop 1 script) n

-- Calls were answered by a script, of which these answers are left.
pub record IsScripted (script left : List Bool) (calls : List DeskCall) : Type 0 where
  pub answered : answers_of calls ≡ scripted script (length (answers_of calls))
  pub rest : left ≡ drop (length (answers_of calls)) script
