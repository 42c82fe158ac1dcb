-- The messages that the core table is about, and when two answers are alike.
use Rattle.std.specs.Prelude.{ℤ, pos, Bool, List, [], ◌∷◌, ◌≡◌, ◌≢◌, IsTrue}
use Rattle.std.specs.List.{AllByRecursion}
use Rattle.pg_messages.specs.declared.frontend.PgWireFrontendMessage.{PgWireFrontendMessage}
use Rattle.pg_messages.specs.declared.frontend.PgWireFrontendMessage.TheVariants as client
use Rattle.pg_client.specs.Answer.{Answer, Next, Goes, Ends, Stops}
use Rattle.relation_tables.specs.CoreTable.{is_served}

-- result codes for binary only: they aren't empty, and each is 1
abbrev pub AreBinary : List ℤ → Type 0
AreBinary codes = (codes ≢ []) × AllByRecursion (λ code. code ≡ pos 1) codes

-- a startup packet, a message of the extended query, or Terminate; the results that a Bind asks for are binary
abbrev pub IsCore : PgWireFrontendMessage → Type 0
IsCore (client.Startup m) = Unit {0}
IsCore (client.Parse m) = Unit {0}
IsCore (client.Bind m) = AreBinary m.result_column_format_codes
IsCore (client.Describe m) = Unit {0}
IsCore (client.Execute m) = Unit {0}
IsCore (client.Close m) = Unit {0}
IsCore (client.Flush m) = Unit {0}
IsCore (client.PgSync m) = Unit {0}
IsCore (client.Terminate m) = Unit {0}
IsCore _ = ⊥

abbrev pub AreCore : List PgWireFrontendMessage → Type 0
AreCore messages = AllByRecursion IsCore messages

-- a condition on the messages after this one, unless this one is Terminate, which ends the conversation
abbrev pub UnlessTerminate : PgWireFrontendMessage → Type 0 → Type 0
UnlessTerminate (client.Terminate m) behind = Unit {0}
UnlessTerminate _ behind = behind

-- the messages up to Terminate are core messages
abbrev pub AreCoreToTerminate : List PgWireFrontendMessage → Type 0
AreCoreToTerminate [] = Unit {0}
AreCoreToTerminate (m ∷ messages) = IsCore m × UnlessTerminate m (AreCoreToTerminate messages)

-- Messages of a core conversation: a startup packet comes first, and where its version is served, the messages after it
-- are core messages up to the end.
abbrev pub IsCoreConversation : List PgWireFrontendMessage → Type 0
IsCoreConversation [] = Unit {0}
IsCoreConversation (client.Startup m ∷ messages) = IsTrue (is_served m.code) → AreCoreToTerminate messages
IsCoreConversation (m ∷ messages) = ⊥

-- Both go on, and await the startup packet or both don't; or both end with the same end; or both stop.
abbrev pub IsSameNext : {T U : Type 0} → (T → Bool) → (U → Bool) → Next T → Next U → Type 0
IsSameNext awaits other_awaits (Goes s) (Goes t) = awaits s ≡ other_awaits t
IsSameNext awaits other_awaits (Ends kind) (Ends other) = kind ≡ other
IsSameNext awaits other_awaits Stops Stops = Unit {0}
IsSameNext awaits other_awaits _ _ = ⊥

-- Two answers of two tables are alike: the same replies, the same calls, and the same next.
pub record AreAlike {T U : Type 0} (awaits : T → Bool) (other_awaits : U → Bool) (a : Answer T) (b : Answer U) : Type 0 where
  pub replies : a.replies ≡ b.replies
  pub calls : a.calls ≡ b.calls
  pub next : IsSameNext awaits other_awaits a.next b.next
