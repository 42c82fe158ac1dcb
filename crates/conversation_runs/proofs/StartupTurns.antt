-- The startup phase asks no question, so it spends no turn.
use Rattle.std.proofs.Common.{◌≡◌, ◌≢◌, ◌≤◌, ◌+◌, ◌++◌, ℕ, Bool, true, false, cond, ◌==◌, List, [], ◌∷◌, length, drop, Option, Result, Ok, Err, IfOk, IfErr, refl, sym, ap, ◌∙◌, inl, ⊎_elim, arith}
use Rattle.std.proofs.Math.Seq.{drop-append_seam}
use Rattle.pg_messages.specs.declared.frontend.PgWireFrontendMessage.{PgWireFrontendMessage}
use Rattle.pg_messages.specs.declared.frontend.PgWireFrontendMessage.TheVariants as client
use Rattle.pg_messages.specs.declared.codec.ProtocolVersion.TheVariants.{PROTOCOL3_0, PROTOCOL3_2}
use Rattle.pg_messages.specs.Frames.{protocol_3_0, protocol_3_2}
use Rattle.pg_results.specs.declared.error.PgWireError.TheVariants as wire
use Rattle.pg_client.specs.declared.desk.DeskCall.{DeskCall}
use Rattle.pg_client.specs.declared.desk.DeskCall.TheVariants as desk
use Rattle.pg_client.specs.declared.ends.EndKind.{EndKind}
use Rattle.pg_client.specs.declared.ends.SessionError.{SessionError}
use Rattle.pg_client.specs.declared.ends.SessionError.TheVariants as session
use Rattle.pg_client.specs.declared.ends.Turns.{Turns}
use Rattle.pg_client.specs.Answer.{answers_of}
use Rattle.pg_client.specs.Effect.{Called, Outcome, IsRow, IsCutRow, IsRefusedRow, silent, refuses}
use Rattle.pg_client.specs.Errors.{unsupported_version}
use Rattle.conversation_table.specs.Questions.{HasSpent, questions, questions_since}
use Rattle.pg_client.specs.StartupRows.{startup_row, accepts, tells_less}
use Rattle.pg_client.specs.State.{State}
use Rattle.pg_client.specs.Ends.{outcome_of}

asks_either : {S : Type 0} (b : Bool) (x y : Called S) → questions x.calls ≡ 0 → questions y.calls ≡ 0 → questions (cond b x y).calls ≡ 0
asks_either true x y p q = p
asks_either false x y p q = q

narrowing_asks_nothing : (b : Bool) → questions (cond b (desk.Narrow ∷ []) []) ≡ 0
narrowing_asks_nothing true = refl
narrowing_asks_nothing false = refl

startup_asks_nothing : {S : Type 0} (answers : List Bool) (s : State S) (m : PgWireFrontendMessage)
    → questions (startup_row answers s m).calls ≡ 0
startup_asks_nothing [] s (client.CancelRequest m) = refl
startup_asks_nothing (told ∷ answers) s (client.CancelRequest m) = refl
startup_asks_nothing answers s (client.Startup m) =
    asks_either (m.code == protocol_3_0) (accepts s PROTOCOL3_0 m)
    (cond (m.code == protocol_3_2) (accepts s PROTOCOL3_2 m) (silent (refuses s (wire.UserError (unsupported_version m.code)))))
    (narrowing_asks_nothing (tells_less PROTOCOL3_0 s.info.secret_key))
    (asks_either (m.code == protocol_3_2) (accepts s PROTOCOL3_2 m) (silent (refuses s (wire.UserError (unsupported_version m.code)))) refl
    refl)
startup_asks_nothing answers s _ = refl

questions_front : (made rest : List DeskCall) → questions made ≤ questions (made ++ rest)
questions_front [] rest = omega arith
questions_front (desk.Start ∷ made) rest = questions_front made rest
questions_front (desk.Ask told ∷ made) rest = let p = questions_front made rest in omega (arith, p)
questions_front (desk.Cancel pid key told ∷ made) rest = questions_front made rest
questions_front (desk.Narrow ∷ made) rest = questions_front made rest

since : (calls new_calls made : List DeskCall) → new_calls ≡ calls ++ made → questions made ≡ 0 → questions_since calls new_calls ≡ 0
since calls new_calls made e none = ap (λ l. questions (drop (length calls) l)) e ∙ ap questions (drop-append_seam calls made) ∙ none

row_asks_nothing : {S : Type 0} (s : State S) (m : PgWireFrontendMessage) (out new_out : List ℕ) (calls new_calls : List DeskCall)
    (o : Outcome S)
    → IsRow (λ answers. startup_row answers s m) out new_out calls new_calls o → questions_since calls new_calls ≡ 0
row_asks_nothing s m out new_out calls new_calls o x = since calls new_calls x.made x.called
    (ap questions (sym x.own) ∙ startup_asks_nothing (answers_of x.made) s m)

cut_asks_nothing : {S : Type 0} (s : State S) (m : PgWireFrontendMessage) (calls new_calls : List DeskCall)
    → IsCutRow (λ answers. startup_row answers s m) calls new_calls → questions_since calls new_calls ≡ 0
cut_asks_nothing s m calls new_calls x =
    let whole : questions (x.made ++ x.front.0) ≡ 0 = ap questions (sym x.front.1) ∙ startup_asks_nothing (answers_of x.made) s m in
    let part = questions_front x.made x.front.0 in
    since calls new_calls x.made x.grown (omega (arith, whole, part))

spent_nothing : (turns : Turns) (n : ℕ) → n ≡ 0 → turns ≡ record { spent = turns.spent + n; limit = turns.limit }
spent_nothing turns n none = ap (λ (k : ℕ). let now : Turns = record {
  spent = k;
  limit = turns.limit;
} in now) (let same : turns.spent ≡ turns.spent + n = omega (arith, none) in same)

pub startup_turns : {S : Type 0} (s next : State S) (m : PgWireFrontendMessage) (turns : Turns) (out new_out : List ℕ)
    (calls new_calls : List DeskCall)
    (result : Result (Option EndKind) SessionError)
    → IfOk result (λ end. IsRow (λ answers. startup_row answers s m) out new_out calls new_calls (outcome_of end next))
    → IfErr result (IsRefusedRow (λ answers. startup_row answers s m) out new_out calls new_calls next)
    → IfErr result (λ error. error ≢ session.TurnLimit)
    → HasSpent turns turns (questions_since calls new_calls) result
startup_turns s next m turns out new_out calls new_calls (Ok end) row refused unlimited =
    spent_nothing turns (questions_since calls new_calls) (row_asks_nothing s m out new_out calls new_calls (outcome_of end next) row)
startup_turns s next m turns out new_out calls new_calls (Err session.TurnLimit) row refused unlimited = absurd (unlimited refl)
startup_turns s next m turns out new_out calls new_calls (Err (session.Wire e)) row refused unlimited =
    inl (spent_nothing turns (questions_since calls new_calls)
    (⊎_elim (λ none. cut_asks_nothing s m calls new_calls none.1) (λ told. row_asks_nothing s m out new_out calls new_calls _ told)
    refused))
