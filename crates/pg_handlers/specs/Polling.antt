-- The result of a poll of a query.
use Rattle.std.specs.Prelude.{true, Result, Ok, Err, ◌≡◌, ◌≢◌, ◌-◌}
use Rattle.std.specs.declared.alloc.AllocError.{AllocError}
use Rattle.conversation_table.specs.Handlers.{QueryTold}
use Rattle.pg_handlers.specs.declared.query.Turn.{Turn}
use Rattle.pg_handlers.specs.declared.query.Turn.TheVariants.{Unready, Ready}

-- Unready exactly where a poll is owed, and one fewer is owed then. Else the outcome, and the query is spent then.
abbrev pub IsPolled : {A : Type 0} → QueryTold A → Result (Turn A) AllocError → QueryTold A → Type 0
IsPolled old (Ok Unready) new = (old.owes ≢ 0) × (new ≡ record { is_spent = old.is_spent; owes = old.owes - 1; outcome = old.outcome })
IsPolled old (Ok (Ready out)) new = (old.owes ≡ 0) × (out ≡ old.outcome) × (new.is_spent ≡ true)
IsPolled old (Err e) new = new ≡ old
