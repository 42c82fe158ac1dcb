-- What callers see of a shared registry: who issued a handle, which part of the one history it has seen, and its own calls there.
use Rattle.std.specs.Prelude.{◌≡◌, ◌↔◌, ◌-◌, ◌==◌, ℕ, ℤ, Bool, true, false, List, [], ◌∷◌, ◌++◌, length, filter, take, Result, OnOk, OnErr}
use mathlib.Core.List.{IsPrefix}
use Rattle.atomic_table.specs.Seated.{TableId}
use Rattle.pg_cancel.specs.declared.entries.Entry.{Entry}
use Rattle.pg_cancel.specs.declared.entries.RegistryCall.{RegistryCall}
use Rattle.pg_cancel.specs.declared.entries.RegistryCall.TheVariants.{Register, Narrow, Unregister}
use Rattle.pg_cancel.specs.declared.entries.RegistryAnswer.{RegistryAnswer}
use Rattle.pg_cancel.specs.declared.entries.RegistryAnswer.TheVariants.{Registered, Done, Yes, No}
use Rattle.pg_cancel.specs.LegalHistory.{IsLegal, IsAnswer, key_after}

-- which manager it is: two managers are the same one where these are equal
abbrev pub Issuer : Type 0
Issuer = TableId

-- a connection: the manager that issued it, the place of its registration, its pid and key, the history that it has seen, its calls.
-- The key is that of its Register, or the first four bytes of it once the connection made a Narrow
pub record Connection : Type 0 where
  pub issuer : Issuer
  pub number : ℕ
  pub pid : ℤ
  pub key : List ℕ
  pub seen : List Entry
  pub mine : List Entry

-- a door or a note: the manager that issued it, and the history that it has seen
pub record Witness : Type 0 where
  pub issuer : Issuer
  pub seen : List Entry

abbrev pub entry : ℕ → RegistryCall → RegistryAnswer → Entry
entry number call answer = record { number = number; call = call; answer = answer }

-- the entries with this number, in order
abbrev pub calls_of : ℕ → List Entry → List Entry
calls_of n history = filter (λ e. e.number == n) history

abbrev pub is_register : RegistryCall → Bool
is_register (Register pid key) = true
is_register _ = false

-- the Registers, in order
abbrev pub registers_of : List Entry → List Entry
registers_of history = filter (λ e. is_register e.call) history

-- the history before its last entry
abbrev pub before_last : List Entry → List Entry
before_last history = take (length history - 1) history

-- this answer to the call is right after the history, and no other is
abbrev pub IsTheAnswer : List Entry → ℕ → RegistryCall → RegistryAnswer → Type 0
IsTheAnswer history number call answer = (other : RegistryAnswer) → (other ≡ answer) ↔ IsAnswer history number call other

-- The call was made once, under this number. What was seen has grown, ends with the call, and is legal. Of the number's
-- calls just this one is new, and all of them are in `mine`.
pub record Made (number : ℕ) (call : RegistryCall) (seen mine seen' mine' : List Entry) (answer : RegistryAnswer) : Type 0 where
  pub between : List Entry
  pub ends : seen' ≡ (seen ++ between) ++ entry number call answer ∷ []
  pub mine_is : mine' ≡ mine ++ entry number call answer ∷ []
  pub quiet : calls_of number between ≡ []
  pub own : calls_of number seen' ≡ mine'
  pub legal : IsLegal seen'
  pub told : IsTheAnswer (seen ++ between) number call answer

-- The Register was made once. What was seen has grown, ends with it, and is legal. It stands at the place `number`, and
-- of all Registers just this one is new.
pub record Registers (number : ℕ) (call : RegistryCall) (seen seen' : List Entry) (answer : RegistryAnswer) : Type 0 where
  pub between : List Entry
  pub ends : seen' ≡ (seen ++ between) ++ entry number call answer ∷ []
  pub place : number ≡ length (seen ++ between)
  pub quiet : registers_of between ≡ []
  pub legal : IsLegal seen'
  pub told : IsTheAnswer (seen ++ between) number call answer

-- the connection made the call, with this answer
abbrev pub HasMade : Connection → RegistryCall → Connection → RegistryAnswer → Type 0
HasMade h call h' answer = Made h.number call h.seen h.mine h'.seen h'.mine answer

-- the connection ended its registration, and its note has seen that
abbrev pub HasEnded : Connection → Witness → Type 0
HasEnded h note = Made h.number Unregister h.seen h.mine note.seen (h.mine ++ entry h.number Unregister Done ∷ []) Done

-- what no call but a Narrow changes
abbrev pub IsSameConnection : Connection → Connection → Type 0
IsSameConnection h h' = (h'.issuer ≡ h.issuer) × (h'.number ≡ h.number) × (h'.pid ≡ h.pid) × (h'.key ≡ h.key)

-- what a Narrow leaves: the key's first four bytes
abbrev pub IsNarrowed : Connection → Connection → Type 0
IsNarrowed h h' = (h'.issuer ≡ h.issuer) × (h'.number ≡ h.number) × (h'.pid ≡ h.pid) × (h'.key ≡ take 4 h.key)

-- a Narrow was made, or nothing at all
pub record HasNarrowed {E : Type 0} (h h' : Connection) (result : Result (Unit {0}) E) : Type 0 where
  pub same : OnOk result (IsNarrowed h h')
  pub ok : OnOk result (HasMade h Narrow h' Done)
  pub err : OnErr result (h' ≡ h)

-- The connection has seen all that the note's giver had seen, and all that it had seen itself. What it has seen is
-- legal, and it has made no further call.
pub record HasTakenIn (h : Connection) (note : Witness) (h' : Connection) : Type 0 where
  pub same : IsSameConnection h h'
  pub mine : h'.mine ≡ h.mine
  pub seen : IsPrefix h.seen h'.seen
  pub told : IsPrefix note.seen h'.seen
  pub legal : IsLegal h'.seen
  pub own : calls_of h'.number h'.seen ≡ h'.mine

-- what was seen is legal, and a number's calls there are `mine`
abbrev pub Knows : ℕ → List Entry → List Entry → Type 0
Knows number seen mine = IsLegal seen × (calls_of number seen ≡ mine)

-- a connection's calls begin with the Register of its pid
abbrev pub Begins : List Entry → ℕ → ℤ → List ℕ → Type 0
Begins mine number pid registered = (rest : List Entry) × (mine ≡ entry number (Register pid registered) Registered ∷ rest)

-- a connection's calls begin with the Register of its pid, and its key is the one that it has after them
abbrev pub IsNamed : List Entry → ℕ → ℤ → List ℕ → Type 0
IsNamed mine number pid key = (registered : List ℕ) × Begins mine number pid registered × (key ≡ key_after mine number registered)

abbrev pub yes_if : Bool → RegistryAnswer
yes_if true = Yes
yes_if false = No

-- the reference through which somebody works with a connection, the place of its registration, and which manager issued it
abbrev pub origin_of : ℕ → ℕ → Issuer → List ℕ
origin_of name number z = name ∷ number ∷ z.words ∷ z.slots ∷ z.views_name ∷ z.atom ∷ z.block ∷ z.offset ∷ z.slot_names
