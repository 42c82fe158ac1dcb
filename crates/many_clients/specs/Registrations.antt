-- What becomes of a registered connection whose client is served.
use Rattle.std.specs.Prelude.{◌≡◌, ◌⊎◌, ◌++◌, ℕ, List, [], ◌∷◌, Option, Result, IfOk, OnOk}
use mathlib.Core.List.{IsPrefix}
use Rattle.pg_cancel.specs.declared.entries.Entry.{Entry}
use Rattle.pg_cancel.specs.declared.entries.RegistryCall.TheVariants.{Register, Unregister}
use Rattle.pg_cancel.specs.declared.entries.RegistryAnswer.TheVariants.{Registered, Done}
use Rattle.pg_cancel.specs.Connections.{Connection, Witness, calls_of, entry}
use Rattle.pg_cancel.specs.LegalHistory.{IsLegal}
use Rattle.client_services.specs.Served.{Promise}
use Rattle.pg_client.specs.declared.ends.EndKind.{EndKind}
use Rattle.conversation_table.specs.Questions.{questions}
use Rattle.conversation_runs.specs.declared.ends.ServeError.{ServeError}
use Rattle.conversation_runs.specs.Run.{Rules}
use Rattle.pg_serve.specs.Desk.{desk_calls}
use Rattle.pg_engine.specs.Serving.{Counts, EndsAtLast, FaultsNeverFall, HasCause, IsCalm, IsRunOverTaken, ReadsGaveBytes, WentSo}

-- no byte of the client was read, and the connection has made no call but its Register
abbrev pub IsFresh : ℕ → Connection → Type 0
IsFresh reads h = (reads ≡ 0) × (h.mine ≡ entry h.number (Register h.pid h.key) Registered ∷ [])

-- What a connection that is gone had seen: a legal history, which goes on from what it had seen before, with its calls before, those that
-- it made, and the end of its registration, or without that where memory ran out.
pub record IsLeftBehind (h : Connection) (made : List Entry) (note : Witness) : Type 0 where
  pub issuer : note.issuer ≡ h.issuer
  pub seen : IsPrefix h.seen note.seen
  pub legal : IsLegal note.seen
  pub own : (calls_of h.number note.seen ≡ (h.mine ++ made) ++ entry h.number Unregister Done ∷ [])
      ⊎ (calls_of h.number note.seen ≡ h.mine ++ made)

-- A connection's client was served by these rules from this state on, and its registration then ended: what was written and the calls that
-- the connection made are the rules' answer to the client's bytes; why the conversation came to an end or was given up; where it ended,
-- nothing was taken behind its end, the bytes taken have the same run by themselves, and no fault was counted; no count of faults fell; and
-- each read that was counted gave a byte.
pub record HasConversedBy {T : Type 0} (rules : Rules T) (first : T) (h : Connection) (turns : ℕ) (answer : Result EndKind ServeError)
    (left new_left old new : Option (List ℕ)) (before after : Counts) (note : Witness) : Type 0 where
  pub made : List Entry
  pub behind : IsLeftBehind h made note
  pub went : WentSo rules first answer left new_left old new (desk_calls made)
  pub cause : HasCause answer turns (questions (desk_calls made)) before after
  pub last : IfOk answer (EndsAtLast rules first left new_left)
  pub taken : IfOk answer (IsRunOverTaken rules first left new_left old new [] (desk_calls made))
  pub calm : OnOk answer (IsCalm before after)
  pub never_falls : FaultsNeverFall before after
  pub gave : ReadsGaveBytes left new_left before.reads after.reads

-- A client was served and has left, as above, from a state on where the service's conversations may begin; and what the service promises
-- beside holds.
pub record HasBeenServed {T : Type 0} (rules : Rules T) (begins : T → Type 0) (also : Promise T) (h : Connection) (turns : ℕ)
    (answer : Result EndKind ServeError) (left new_left old new : Option (List ℕ)) (before after : Counts) (note : Witness) : Type 0 where
  pub first : T
  pub begun : begins first
  pub conversed : HasConversedBy rules first h turns answer left new_left old new before after note
  pub promised : also first turns answer left new_left (desk_calls conversed.made) before after

-- A client's service was run to its end: the client was served, and its registration then ended, whatever came of it.
pub record HasRunBy {T : Type 0} (rules : Rules T) (begins : T → Type 0) (also : Promise T) (h : Connection) (turns : ℕ)
    (left old : Option (List ℕ)) (before : Counts) : Type 0 where
  pub answer : Result EndKind ServeError
  pub new_left : Option (List ℕ)
  pub new : Option (List ℕ)
  pub after : Counts
  pub note : Witness
  pub served : HasBeenServed rules begins also h turns answer left new_left old new before after note
