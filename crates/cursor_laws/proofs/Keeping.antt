-- Each command but a FETCH of a portal leaves it as it is, or replaces or removes it.
use Rattle.std.proofs.Common.{arith, ◌≡◌, ◌∙◌, inl, inr, ℕ, Bool, false, List, [], ◌∷◌, refl, sym, subst}
use Rattle.std.specs.List.{AllByRecursion}
use Rattle.pg_messages.specs.declared.frontend.PgWireFrontendMessage.{PgWireFrontendMessage}
use Rattle.pg_messages.specs.Frames.{statement_target, portal_target}
use Rattle.pg_results.specs.declared.client.PgWireConnectionState.{PgWireConnectionState}
use Rattle.pg_results.specs.declared.client.PgWireConnectionState.TheVariants as phase
use Rattle.pg_portal.specs.Told.{value_under}
use Rattle.pg_client.specs.Answer.{Answer, Next, Goes, Ends, Stops, continued, conversation, left_by}
use Rattle.conversation_table.specs.Handlers.{Handlers}
use Rattle.pg_client.specs.State.{State}
use Rattle.conversation_table.specs.Table.{whole_table}
use Rattle.conversation_laws.specs.Pages.{IsUnstarted, Replaces, is_execute_of, stage_in}
use Rattle.conversation_laws.proofs.Keeping.{KeepsNext, message_keeps}
use Rattle.cursor_commands.specs.declared.command.CursorCommand.{CursorCommand}
use Rattle.cursor_commands.specs.declared.command.CursorCommand.TheVariants.{Declare, Fetch, Close}
use Rattle.cursor_commands.specs.Asking.{parsing, binding, closing, describing, executing, sync}
use Rattle.cursor_commands.specs.Cursors.{messages_of}
use Rattle.cursor_laws.specs.CursorPages.{ReplacesBy, is_fetch_of}

module _ {S : Type 0} (h : Handlers S) (name : List ℕ) (R : Type 0) where
  -- a message that isn't an Execute of the portal, and replaces it only where this holds
  pub record IsOther (m : PgWireFrontendMessage) : Type 0 where
    pub no_execute : (x : PgWireConnectionState) → is_execute_of name x m ≡ false
    pub replaces : (s : State S) → Replaces h s name m → R

  -- a message keeps the portal, or replaces or removes it where this holds
  one_keeps : (s : State S) (m : PgWireFrontendMessage) → IsOther m → (next : Next (State S))
      → KeepsNext h s name (Replaces h s name m) next → KeepsNext h s name R next
  one_keeps s m o (Goes t) (inl e) = inl e
  one_keeps s m o (Goes t) (inr gone) = inr (o.replaces s gone.0, gone.1)
  one_keeps s m o (Ends kind) k = tt
  one_keeps s m o Stops k = tt

  -- what is kept by a message is kept by those behind it
  through : (s t : State S) → KeepsNext h s name R (Goes t) → (next : Next (State S)) → KeepsNext h t name R next
      → KeepsNext h s name R next
  through s t (inl e) (Goes u) (inl f) = inl (f ∙ e)
  through s t (inr gone) (Goes u) (inl f) = inr (gone.0, subst (λ o. IsUnstarted (stage_in (value_under o))) (sym f) gone.1)
  through s t k (Goes u) (inr gone) = inr gone
  through s t k (Ends kind) l = tt
  through s t k Stops l = tt

  behind : (s : State S) (a : Answer (State S)) (next : Next (State S)) → KeepsNext h s name R a.next → KeepsNext h s name R next
      → (others : State S → Answer (State S)) → ((t : State S) → KeepsNext h t name R (others t).next)
      → KeepsNext h s name R (continued a next others).next
  behind s a (Goes t) was k others on = through s t k (others t).next (on t)
  behind s a (Ends kind) was k others on = was
  behind s a Stops was k others on = was

  pub all_keep : (messages : List PgWireFrontendMessage) → AllByRecursion IsOther messages → (answers : List Bool) (s : State S)
      → KeepsNext h s name R (conversation (whole_table h) answers s messages).next
  all_keep [] o answers s = inl refl
  all_keep (m ∷ messages) o answers s =
      let a = whole_table h answers s m in
      let k = one_keeps s m o.0 a.next (message_keeps h s name answers m (o.0.no_execute s.info.state)) in
      behind s a a.next k k (λ t. conversation (whole_table h) (left_by a.calls answers) t messages)
      (λ t. all_keep messages o.1 (left_by a.calls answers) t)

module _ {S : Type 0} (h : Handlers S) (name : List ℕ) where
  no_execute : (m : PgWireFrontendMessage) → is_execute_of name phase.ReadyForQuery m ≡ false → (x : PgWireConnectionState)
      → is_execute_of name x m ≡ false
  no_execute m e phase.ReadyForQuery = e
  no_execute m e phase.AwaitingStartup = refl
  no_execute m e phase.AwaitingSync = refl
  no_execute m e (phase.CopyInProgress is_extended) = refl

  -- the messages of a command that is no FETCH of the portal
  others : (command : CursorCommand) → is_fetch_of name command ≡ false
      → AllByRecursion (IsOther h name (ReplacesBy name command)) (messages_of command)
  others (Declare portal relation) e = (
    record { no_execute = no_execute (parsing relation) refl; replaces = λ s r. absurd r },
    (
      record { no_execute = no_execute (binding portal) refl; replaces = λ s r. inl r },
      (
        record { no_execute = no_execute (closing statement_target []) refl; replaces = λ s r. absurd (omega (arith, r.0)) },
        (record { no_execute = no_execute sync refl; replaces = λ s r. inr r }, tt),
      ),
    ),
  )
  others (Fetch limit portal) e = (
    record { no_execute = no_execute (describing portal_target portal) refl; replaces = λ s r. absurd r },
    (
      record { no_execute = no_execute (executing portal limit) e; replaces = λ s r. r.0 },
      (record { no_execute = no_execute sync refl; replaces = λ s r. r }, tt),
    ),
  )
  others (Close portal) e = (
    record { no_execute = no_execute (closing portal_target portal) refl; replaces = λ s r. inl r.1 },
    (record { no_execute = no_execute sync refl; replaces = λ s r. inr r }, tt),
  )

  pub command_keeps : (command : CursorCommand) → is_fetch_of name command ≡ false → (answers : List Bool) (s : State S)
      → KeepsNext h s name (ReplacesBy name command) (conversation (whole_table h) answers s (messages_of command)).next
  command_keeps command e answers s = all_keep h name (ReplacesBy name command) (messages_of command) (others command e) answers s
