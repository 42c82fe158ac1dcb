-- What NEXT is answered, and what it counts.
use Rattle.std.proofs.Common.{◌≡◌, ◌+◌, ◌<◌, ◌∙◌, ℕ, Bool, true, false, List, [], ◌∷◌, cond, min, refl, ap, arith}
use Rattle.pg_messages.specs.declared.frontend.PgWireFrontendMessage.{PgWireFrontendMessage}
use Rattle.pg_results.specs.declared.client.PgWireConnectionState.{PgWireConnectionState}
use Rattle.pg_results.specs.declared.client.PgWireConnectionState.TheVariants as phase
use Rattle.pg_client.specs.declared.desk.DeskCall.TheVariants.{Start}
use Rattle.pg_client.specs.Answer.{Goes}
use Rattle.pg_client.specs.Effect.{settle}
use Rattle.pg_client.specs.State.{State}
use Rattle.conversation_table.specs.Handlers.{Handlers}
use Rattle.conversation_table.specs.Table.{row, scope_in, whole_table}
use Rattle.conversation_runs.specs.Streams.{greatest_count}
use Rattle.counter.specs.Counter.{CounterMeets, asks_next, counter_sheet, next_query, number_replies}
use Rattle.counter.specs.declared.answers.CounterStatement.{CounterStatement}

one_more : (w : ℕ) → w < greatest_count → min (w + 1) greatest_count ≡ w + 1
one_more w below = omega arith

pub counts : (w v : ℕ) (s : State CounterStatement) (h : Handlers CounterStatement) → s.info.state ≡ phase.ReadyForQuery
    → CounterMeets w s next_query h v → w < greatest_count → v ≡ w + 1
counts w v s h ready x below =
    x.counts ∙ ap (λ p. cond (asks_next p next_query) (min (w + 1) greatest_count) w) ready ∙ one_more w below

pub stays : (w v : ℕ) (s : State CounterStatement) (m : PgWireFrontendMessage) (h : Handlers CounterStatement)
    → asks_next s.info.state m ≡ false → CounterMeets w s m h v → v ≡ w
stays w v s m h none x = x.counts ∙ ap (λ b. cond b (min (w + 1) greatest_count) w) none

pub tells : (w v : ℕ) (s : State CounterStatement) (h : Handlers CounterStatement) (answers : List Bool)
    → s.info.state ≡ phase.ReadyForQuery → CounterMeets w s next_query h v
    → whole_table h answers s next_query ≡ record { replies = number_replies v s.info.status; calls = Start ∷ []; next = Goes s }
tells w v s h answers ready x =
    ap (λ h. whole_table h answers s next_query) x.tells
    ∙ ap (λ (p : PgWireConnectionState). settle (scope_in p next_query) (row (counter_sheet v) answers s next_query p)) ready
