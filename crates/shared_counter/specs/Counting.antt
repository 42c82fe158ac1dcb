-- A counter that many clients share, as contracts see it: where it stands is the number that it told last.
use Rattle.std.specs.Prelude.{ℕ, ◌==◌, Option, Some, None, if◌then◌else◌}
use Rattle.counter.specs.Counter.{counted, counter_parser, counter_sheet}
use Rattle.counter.specs.declared.answers.CounterStatement.{CounterStatement}
use Rattle.shared_worlds.specs.Worlds.{WorldTold}
use Rattle.shared_counter.specs.declared.world.Counted.{Counted}

-- the change from one number to another, if they differ
abbrev pub change_of : ℕ → ℕ → Option Counted
change_of before after = if before == after then None else Some (record { number = after })

-- It begins at 0, and each change leads to its number. A message is met as the counter of one client meets it. A client has
-- nothing of its own.
abbrev pub shared_counter : WorldTold ℕ Counted (Unit {0}) CounterStatement
shared_counter = record {
  begins = 0;
  moved = λ p c. c.number;
  first = tt;
  meeting = λ p own s m. record { change = change_of p (counted p s m); own = own; told = counter_sheet (counted p s m) };
  parser = counter_parser;
}
