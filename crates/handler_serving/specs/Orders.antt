-- What the words of a command line order.
use Rattle.std.specs.Prelude.{ℕ, ℤ, not, ◌==◌, ◌&&◌, length, List, [], ◌∷◌, codes, Option, Some, None, option_map, if◌then◌else◌}
use Rattle.std.specs.Option.{option_or}
use Rattle.std.specs.Str.{bytes_eq}
use Rattle.relation_words.specs.Commands.{pid_of}
use Rattle.relation_words.specs.Keys.{key_of}
use Rattle.relation_words.specs.Listening.{Place, port, path, told_place, bound_of}
use Rattle.relation_words.specs.Numbers.{number_within}
use Rattle.handler_serving.specs.declared.orders.Order.{Order}
use Rattle.handler_serving.specs.declared.orders.Order.TheVariants as order

-- What is ordered: to serve the clients that come to a place, at most so many where there is a bound; to serve one client under a pid and a
-- key; or to tell how the program is used, or its version.
pub data Ordered : Type 0 where
  listens : Place → Option ℕ → Ordered
  serves : ℤ → List ℕ → Ordered
  helps : Ordered
  versions : Ordered

-- what the program's type holds
abbrev pub told_order : Order → Ordered
told_order (order.Listen place count) = listens (told_place place) count
told_order (order.Serve pid key) = serves pid key
told_order order.Help = helps
told_order order.Version = versions

-- PORT: 0 to 65535, where 0 is any free port
abbrev pub free_port_of : List ℕ → Option Place
free_port_of word = option_map port (number_within 0 65535 word)

-- `tcp PORT` or `unix PATH`, where PATH is not empty
abbrev pub place_at : List ℕ → List ℕ → Option Place
place_at kind word =
    if bytes_eq kind (codes "tcp") then free_port_of word
    else if bytes_eq kind (codes "unix") && not (length word == 0) then Some (path word)
    else None

-- a place with a bound or none, where both parts are good
abbrev pub listening_at : Option Place → Option (Option ℕ) → Option Ordered
listening_at (Some place) (Some count) = Some (listens place count)
listening_at _ _ = None

-- a client, where both parts are good
abbrev pub serving : Option ℤ → Option (List ℕ) → Option Ordered
serving (Some pid) (Some key) = Some (serves pid key)
serving _ _ = None

-- one word: `--help` or `--version`
abbrev pub telling : List ℕ → Option Ordered
telling word =
    if bytes_eq word (codes "--help") then Some helps
    else if bytes_eq word (codes "--version") then Some versions
    else None

-- two words: `listen PORT`
abbrev pub of_two : List ℕ → List ℕ → Option Ordered
of_two command word = if bytes_eq command (codes "listen") then listening_at (free_port_of word) (Some None) else None

-- three words: `serve PID KEY`, `listen tcp PORT`, `listen unix PATH`, or `listen PORT COUNT`
abbrev pub of_three : List ℕ → List ℕ → List ℕ → Option Ordered
of_three command first second =
    if bytes_eq command (codes "serve") then serving (pid_of first) (key_of second)
    else if bytes_eq command (codes "listen") then
    option_or (listening_at (place_at first second) (Some None)) (listening_at (free_port_of first) (bound_of second))
    else None

-- four words: `listen tcp PORT COUNT` or `listen unix PATH COUNT`
abbrev pub of_four : List ℕ → List ℕ → List ℕ → List ℕ → Option Ordered
of_four command kind word count =
    if bytes_eq command (codes "listen") then listening_at (place_at kind word) (bound_of count) else None

-- three or four words behind the program's name
abbrev pub of_more : List (List ℕ) → Option Ordered
of_more (name ∷ command ∷ first ∷ second ∷ []) = of_three command first second
of_more (name ∷ command ∷ first ∷ second ∷ third ∷ []) = of_four command first second third
of_more _ = None

-- `serve PID KEY`, `listen [tcp] PORT [COUNT]`, `listen unix PATH [COUNT]`, `--help` or `--version`, behind the program's name; any other
-- words order nothing.
abbrev pub order_of : List (List ℕ) → Option Ordered
order_of (name ∷ word ∷ []) = telling word
order_of (name ∷ command ∷ first ∷ []) = of_two command first
order_of words = of_more words
