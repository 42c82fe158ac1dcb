use Rattle.std.proofs.Common.{◌≡◌, ℕ, List, Result, inl, inr, refl, sym, subst}
use Rattle.std.specs.Prelude.{OnOk}
use Rattle.pg_results.specs.declared.client.PgWireConnectionState.TheVariants as phase
use Rattle.pg_client.specs.declared.desk.DeskCall.{DeskCall}
use Rattle.pg_client.specs.Effect.{Done, IsRow, Row, ready_or_refused, when_ready}
use Rattle.pg_client.proofs.Desks.{keeps_none}
use Rattle.pg_replies.proofs.Sent.{kept_as}
use Rattle.conversation_table.proofs.Rows.{ready_refused, refused_unready, no_turn, not_ready_told}
use Rattle.conversation_table.specs.ExecuteRow.{on_execute}
use Rattle.pg_client.specs.State.{State, state_of}
use Rattle.pg_handlers.proofs.query.extended.ExtendedQueryHandler.on_execute.Goals as goal

-- a row that was carried out where the client awaits a query
ready_done : {S A E : Type 0} (s : State S) (row : Row S) (out new_out : List ℕ) (calls new_calls : List DeskCall) (t : State S)
    (result : Result A E) → s.info.state ≡ phase.ReadyForQuery → OnOk result (IsRow row out new_out calls new_calls (Done t))
    → OnOk result (IsRow (λ answers. when_ready s (row answers)) out new_out calls new_calls (Done t))
ready_done s row out new_out calls new_calls t result is h =
    subst (λ now. OnOk result (IsRow (λ answers. ready_or_refused s (row answers) now) out new_out calls new_calls (Done t))) (sym is) h

pub returns-in_default : goal.returns-in_default
returns-in_default g c =
    let s = state_of g.St.PortalStore.maps c.args.client.now in
    record {
      ok = tt;
      refused = inr (refused_unready s (λ answers. on_execute (g.Self.ExtendedQueryHandler.told c.args.self.now) answers s c.args.message)
          c.args.client.now.outbox (g.D.CancelDesk.told c.args.desk.now).calls c.in_default.not-ReadyForQuery);
      errors = not_ready_told;
      not_ready = λ _. refl;
      caused = λ ready. absurd (c.in_default.not-ReadyForQuery ready);
      kept = record { info = refl; left = inl refl; kept = kept_as c.args.client.now.outbox _ refl };
      good = c.requires.good;
      turns = inl (no_turn c.args.turns.now (g.D.CancelDesk.told c.args.desk.now).calls);
      bounded = λ h. h;
      keeps = keeps_none _;
    }

pub returns-in-ReadyForQuery : goal.returns-in-ReadyForQuery
returns-in-ReadyForQuery g c =
    let maps = g.St.PortalStore.maps in let told = g.D.CancelDesk.told in let s = state_of maps c.args.client.now in
    let r = c._on_execute in let e = r.ensures in
    record {
      ok = ready_done s (λ answers. on_execute (g.Self.ExtendedQueryHandler.told c.args.self.now) answers s c.args.message)
          c.args.client.now.outbox r.new.client.outbox (told c.args.desk.now).calls (told r.new.desk).calls
          (state_of maps r.new.client) r.result c.in-ReadyForQuery.is e.ok;
      refused = ready_refused s (λ answers. on_execute (g.Self.ExtendedQueryHandler.told c.args.self.now) answers s c.args.message)
          c.args.client.now.outbox r.new.client.outbox (told c.args.desk.now).calls (told r.new.desk).calls
          (state_of maps r.new.client) r.result c.in-ReadyForQuery.is e.refused;
      errors = e.errors;
      not_ready = λ other. absurd (other c.in-ReadyForQuery.is);
      caused = λ _. e.waited.caused;
      kept = e.kept;
      good = e.good;
      turns = e.waited.turns;
      bounded = e.waited.bounded;
      keeps = e.waited.keeps;
    }
