-- The words of `serve` and of `demo`.
use Rattle.std.specs.Prelude.{ℕ, ℤ, pos, List, [], ◌∷◌, codes, Option, Some, None, option_map, if◌then◌else◌}
use Rattle.std.specs.Option.{option_or}
use Rattle.std.specs.Str.{bytes_eq}
use Rattle.relation_words.specs.Numbers.{number_of, number_within}
use Rattle.relation_words.specs.Keys.{key_of}
use Rattle.relation_words.specs.declared.commands.Command.{Command}
use Rattle.relation_words.specs.declared.commands.Command.TheVariants.{Serve, Demo}
use Rattle.relation_words.specs.declared.commands.Service.{Service}
use Rattle.relation_words.specs.declared.commands.Serving.{Serving}
use Rattle.relation_words.specs.declared.commands.Load.{Load}

-- PID: 1 to 2147483647
abbrev pub pid_of : List ℕ → Option ℤ
pid_of word = option_map pos (number_within 1 2147483647 word)

-- TURNS: 1 to 18446744073709551615
abbrev pub turns_of : List ℕ → Option ℕ
turns_of word = number_within 1 18446744073709551615 word

-- SEED: 0 to 18446744073709551615
abbrev pub seed_of : List ℕ → Option ℕ
seed_of word = number_of word

-- N: 0 to 10000
abbrev pub count_of : List ℕ → Option ℕ
count_of word = number_within 0 10000 word

-- a service, where each of its three parts is good
abbrev pub service : Option ℤ → Option (List ℕ) → Option ℕ → Option Service
service (Some pid) (Some key) (Some turns) = Some (record { pid = pid; key = key; turns = turns })
service _ _ _ = None

-- the service that a value of the program's `Serving` stands for
abbrev pub told_serving : Serving → Service
told_serving serving = record { pid = serving.pid; key = serving.key; turns = serving.turns }

-- a load, where both of its parts are good
abbrev pub load : Option ℕ → Option ℕ → Option Load
load (Some seed) (Some count) = Some (record { seed = seed; count = count })
load _ _ = None

-- `serve FILE PID KEY [TURNS]`: FILE is any word, and TURNS is 1000000000 where it is left out.
abbrev pub service_of : List (List ℕ) → Option Service
service_of (command ∷ file ∷ pid ∷ key ∷ []) =
    if bytes_eq command (codes "serve") then service (pid_of pid) (key_of key) (Some 1000000000) else None
service_of (command ∷ file ∷ pid ∷ key ∷ turns ∷ []) =
    if bytes_eq command (codes "serve") then service (pid_of pid) (key_of key) (turns_of turns) else None
service_of _ = None

-- `demo SEED N`
abbrev pub load_of : List (List ℕ) → Option Load
load_of (command ∷ seed ∷ count ∷ []) =
    if bytes_eq command (codes "demo") then load (seed_of seed) (count_of count) else None
load_of _ = None

-- What good words of `serve` or of `demo` order; None for any others.
abbrev pub command_of : List (List ℕ) → Option Command
command_of words = option_or (option_map Serve (service_of words)) (option_map Demo (load_of words))
