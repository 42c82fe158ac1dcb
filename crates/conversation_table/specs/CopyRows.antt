-- Messages of a COPY from the client (protocol: Message Flow, COPY Operations).
use Rattle.std.specs.Prelude.{Bool, true, false, [], ◌∷◌, ◌++◌, Option, Some, None}
use Rattle.pg_messages.specs.declared.frontend.PgWireFrontendMessage.{PgWireFrontendMessage}
use Rattle.pg_messages.specs.declared.frontend.PgWireFrontendMessage.TheVariants as client
use Rattle.pg_results.specs.declared.error.PgWireError.{PgWireError}
use Rattle.pg_results.specs.declared.client.PgWireConnectionState.TheVariants as phase
use Rattle.pg_client.specs.declared.ends.EndKind.TheVariants as end
use Rattle.pg_replies.specs.Replies.{Replies, ready}
use Rattle.conversation_table.specs.Handlers.{CopyTold, CopyStep}
use Rattle.pg_client.specs.State.{State, in_phase}
use Rattle.pg_client.specs.Effect.{Effect, says, refuses, over, Failed}

-- The handler's replies stand before its refusal, or before what follows where it doesn't refuse.
abbrev pub stepped : {S : Type 0} → State S → Replies → Option PgWireError → Effect S → Effect S
stepped s replies None others = record { replies = replies ++ others.replies; outcome = others.outcome }
stepped s replies (Some e) others = record { replies = replies; outcome = Failed s e }

-- what a handler alone does with a message of a COPY
abbrev pub copy_step : {S : Type 0} → State S → CopyStep → Effect S
copy_step s step = stepped s step.replies step.refusal (says [] s)

-- The COPY is done: in a Query the server is ready for the next, with the status that was kept; in an extended query
-- nothing is replied.
abbrev pub copied : {S : Type 0} → Bool → State S → Effect S
copied true s = says [] (in_phase s phase.ReadyForQuery)
copied false s = says (ready s.info.status ∷ []) (in_phase s phase.ReadyForQuery)

-- All messages are dropped but those of a COPY and Terminate.
abbrev pub copy_row : {S : Type 0} → CopyTold → Bool → State S → PgWireFrontendMessage → Effect S
copy_row h is_extended s (client.CopyData m) = copy_step s (h.on_data s.info m.payload)
copy_row h is_extended s (client.CopyDone m) = let step = h.on_done s.info in stepped s step.replies step.refusal (copied is_extended s)
copy_row h is_extended s (client.CopyFail m) = refuses s (h.on_fail s.info m.message)
copy_row h is_extended s (client.Terminate m) = over end.Terminate
copy_row h is_extended s _ = says [] s
