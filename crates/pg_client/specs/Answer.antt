-- How a table answers a message, and how it answers messages one after another. The table may be any: its states are of
-- a type T.
use Rattle.std.specs.Prelude.{Bool, List, [], ◌∷◌, ◌++◌, ◌≡◌, length, drop}
use Rattle.pg_messages.specs.declared.frontend.PgWireFrontendMessage.{PgWireFrontendMessage}
use Rattle.pg_messages.specs.declared.backend.PgWireBackendMessage.{PgWireBackendMessage}
use Rattle.pg_client.specs.declared.desk.DeskCall.{DeskCall}
use Rattle.pg_client.specs.declared.desk.DeskCall.TheVariants as desk
use Rattle.pg_client.specs.declared.ends.EndKind.{EndKind}

-- where the conversation stands: in a state, at its end, or at a call of the registry for which no answer is left
pub data Next (T : Type 0) : Type 0 where
  Goes : T → Next T
  Ends : EndKind → Next T
  Stops : Next T

-- replies, registry calls with their answers, and what comes next
pub record Answer (T : Type 0) : Type 0 where
  pub replies : List PgWireBackendMessage
  pub calls : List DeskCall
  pub next : Next T

-- a conversation table: the answer to a message in a state, with these answers of the registry to come
abbrev pub Table : Type 0 → Type 0
Table T = List Bool → T → PgWireFrontendMessage → Answer T

-- the registry's answers among calls: each question and each cancel has one
abbrev pub answers_of : List DeskCall → List Bool
answers_of [] = []
answers_of (desk.Start ∷ calls) = answers_of calls
answers_of (desk.Ask told ∷ calls) = told ∷ answers_of calls
answers_of (desk.Cancel pid key told ∷ calls) = told ∷ answers_of calls
answers_of (desk.Narrow ∷ calls) = answers_of calls

-- the answers that are left after these calls
abbrev pub left_by : List DeskCall → List Bool → List Bool
left_by calls answers = drop (length (answers_of calls)) answers

-- one answer, and then another
abbrev pub joined : {T : Type 0} → Answer T → Answer T → Answer T
joined a b = record { replies = a.replies ++ b.replies; calls = a.calls ++ b.calls; next = b.next }

-- an answer, and what follows it where the conversation goes on
abbrev pub continued : {T : Type 0} → Answer T → Next T → (T → Answer T) → Answer T
continued a (Goes s) others = joined a (others s)
continued a (Ends kind) others = a
continued a Stops others = a

-- The answer to messages one after another, up to the first that ends the conversation or stops it.
abbrev pub conversation : {T : Type 0} → Table T → List Bool → T → List PgWireFrontendMessage → Answer T
conversation table answers s [] = record { replies = []; calls = []; next = Goes s }
conversation table answers s (m ∷ messages) =
    let given = table answers s m in
    continued given given.next (λ t. conversation table (left_by given.calls answers) t messages)

-- the list begins with this front
abbrev pub BeginsWith : {A : Type 0} → List A → List A → Type 0
BeginsWith {A} whole front = (others : List A) × (whole ≡ front ++ others)

-- After these calls the next one is a question, whether its answer would be yes or no.
abbrev pub AsksNext : (List Bool → List DeskCall) → List DeskCall → Type 0
AsksNext calls_under made = (yes : Bool) → BeginsWith (calls_under (answers_of made ++ yes ∷ [])) (made ++ desk.Ask yes ∷ [])
