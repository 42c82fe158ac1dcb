-- What becomes of a connection whose client was served.
use Rattle.std.proofs.Common.{◌≡◌, ℕ, List, [], ◌++◌, Option, Result, Ok, Err, drop, length, sym, ap, ◌∙◌}
use Rattle.std.specs.Prelude.{IfOk}
use Rattle.std.proofs.Math.Seq.{drop-append_seam}
use Rattle.std.proofs.lemmas.List.{append-nil, append_cancel_left}
use Rattle.std.proofs.lemmas.Grind.{flat_map-append}
use mathlib.Core.List.{IsPrefix}
use Rattle.pg_cancel.specs.declared.entries.Entry.{Entry}
use Rattle.pg_cancel.specs.Connections.{Connection, Witness}
use Rattle.pg_cancel.proofs.Prefixes.{prefix_trans}
use Rattle.pg_client.specs.declared.desk.DeskCall.{DeskCall}
use Rattle.pg_client.specs.declared.ends.EndKind.{EndKind}
use Rattle.conversation_table.specs.Questions.{questions, questions_since}
use Rattle.conversation_runs.specs.declared.ends.ServeError.{ServeError}
use Rattle.conversation_runs.specs.Run.{Rules}
use Rattle.pg_engine.specs.Serving.{IsRunOverTaken}
use Rattle.pg_serve.specs.Desk.{ConnectionGoesOn, desk_call, desk_calls}
use Rattle.many_clients.specs.Registrations.{IsLeftBehind}

-- a connection that is gone after it was served
pub left_behind : (h h' : Connection) (made : List Entry) (note : Witness) → ConnectionGoesOn h h' → IsPrefix h.seen h'.seen
    → h'.mine ≡ h.mine ++ made → IsLeftBehind h' [] note → IsLeftBehind h made note
left_behind h h' made note same seen mine gone =
    let is : h'.mine ++ [] ≡ h.mine ++ made = append-nil h'.mine ∙ mine in
    record {
      issuer = gone.issuer ∙ same.issuer;
      seen = prefix_trans h.seen h'.seen note.seen seen gone.seen;
      legal = gone.legal;
      own = rw (sym same.number, sym is) gone.own;
    }

-- the calls of a session behind those before are those that it made
calls_since : (mine mine' made : List Entry) → mine' ≡ mine ++ made → desk_calls mine' ≡ desk_calls mine ++ desk_calls made
calls_since mine mine' made is = ap desk_calls is ∙ flat_map-append (λ (e : Entry). desk_call e.call e.answer) mine made

-- what a connection's calls have grown by
pub made_since : (mine mine' : List Entry) → IsPrefix mine mine' → (made : List Entry) × (mine' ≡ mine ++ made)
made_since mine mine' grown = (grown.0, sym grown.1)

-- the calls of a session are those that the connection made
pub calls_are_made : (mine mine' made : List Entry) (calls : List DeskCall) → mine' ≡ mine ++ made
    → desk_calls mine' ≡ desk_calls mine ++ calls → calls ≡ desk_calls made
calls_are_made mine mine' made calls is grown =
    append_cancel_left (desk_calls mine) calls (desk_calls made) (sym grown ∙ calls_since mine mine' made is)

-- the questions of a session are those of the calls that it made
pub since_made : (mine mine' made : List Entry) → mine' ≡ mine ++ made
    → questions_since (desk_calls mine) (desk_calls mine') ≡ questions (desk_calls made)
since_made mine mine' made is =
    ap (λ l. questions (drop (length (desk_calls mine)) l)) (calls_since mine mine' made is)
    ∙ ap questions (drop-append_seam (desk_calls mine) (desk_calls made))

-- the bytes that were taken have the same run by themselves, with the calls that were made
pub taken_made : {T : Type 0} (rules : Rules T) (first : T) (answer : Result EndKind ServeError) (left new_left old new : Option (List ℕ))
    (mine mine' made : List Entry) → mine' ≡ mine ++ made
    → IfOk answer (IsRunOverTaken rules first left new_left old new (desk_calls mine) (desk_calls mine'))
    → IfOk answer (IsRunOverTaken rules first left new_left old new [] (desk_calls made))
taken_made rules first (Ok kind) left new_left old new mine mine' made is run =
    let called : run.2.0 ≡ desk_calls made =
    append_cancel_left (desk_calls mine) run.2.0 (desk_calls made) (sym run.2.1 ∙ calls_since mine mine' made is) in
    (run.0, run.1, (run.2.0, sym called, run.2.2))
taken_made rules first (Err e) left new_left old new mine mine' made is run = tt
