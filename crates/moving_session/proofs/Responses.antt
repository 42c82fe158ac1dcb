-- What a session answers by the sheet of a message is what its front tells of it.
use Rattle.std.proofs.Common.{◌≡◌, inl, inr, ℕ, Bool, true, false, List, [], Option, Result, Err, refl, sym, subst, ◌∙◌, append-nil}
use Rattle.std.proofs.lemmas.Bool.{false≢true}
use Rattle.pg_messages.specs.declared.frontend.PgWireFrontendMessage.{PgWireFrontendMessage}
use Rattle.pg_client.specs.declared.ends.EndKind.{EndKind}
use Rattle.pg_client.specs.declared.ends.Turns.{Turns}
use Rattle.pg_client.specs.Desk.{DeskTold}
use Rattle.pg_client.specs.State.{State}
use Rattle.pg_client.proofs.Desks.{goes_on_none}
use Rattle.conversation_table.specs.Handlers.{Handlers}
use Rattle.conversation_table.specs.Table.{whole_table}
use Rattle.conversation_runs.specs.declared.ends.ServeError.{ServeError}
use Rattle.conversation_runs.specs.declared.ends.ServeError.TheVariants as serve
use Rattle.conversation_runs.specs.Session.{SessionValue}
use Rattle.conversation_runs.specs.Steps.{IsResponse}
use Rattle.conversation_runs.proofs.Spending.{no_turn}
use Rattle.moving_runs.specs.Meeting.{Meeting}
use Rattle.moving_runs.specs.Steps.{IsMetResponse}
use Rattle.moving_session.specs.Moved.{ChangesHandlers, MayHaveMet}

no_limit : ◌≡◌ {A = Result (Option EndKind) ServeError} (Err serve.NoMemory) (Err serve.TurnLimit) → ⊥
no_limit is = cc

-- a session under other handlers, with all else as it was
abbrev told_by : {H S : Type 0} → SessionValue H S → H → SessionValue H S
told_by old h = record { handlers = h; state = old.state; rest = old.rest; unsent = old.unsent; is_open = old.is_open }

module _ {W H S : Type 0} (told : H → Handlers S) (Meets : Meeting W S) (m : PgWireFrontendMessage) (desk : DeskTold) (before : Turns) where
  met_response : (w v : W) (old new : SessionValue H S) (h : H) (new_desk : DeskTold) (after : Turns)
      (result : Result (Option EndKind) ServeError) → Meets w old.state m (told h) v
      → IsResponse told m (told_by old h) new desk new_desk before after result
      → IsMetResponse Meets m (record { world = w; state = old.state; unsent = old.unsent; is_open = old.is_open })
      (record { world = v; state = new.state; unsent = new.unsent; is_open = new.is_open }) desk new_desk before after result
  met_response w v old new h new_desk after result met x = record {
    met = inl (told h, met, record { answer = x.answer; err = x.err; stopped = x.stopped });
    only = x.only;
    ends = x.ends;
    opened = λ going. x.opened ∙ going;
    turns = x.turns;
    bounded = x.bounded;
    registration = x.registration;
  }

  -- The message was met, told to the session, and answered.
  pub answered_response : (w v : W) (old mid new : SessionValue H S) (new_desk : DeskTold) (after : Turns)
      (result : Result (Option EndKind) ServeError) → ChangesHandlers old mid → Meets w old.state m (told mid.handlers) v
      → IsResponse told m mid new desk new_desk before after result
      → IsMetResponse Meets m (record { world = w; state = old.state; unsent = old.unsent; is_open = old.is_open })
      (record { world = v; state = new.state; unsent = new.unsent; is_open = new.is_open }) desk new_desk before after result
  answered_response w v old mid new new_desk after result same met x =
      let told_of : mid ≡ told_by old mid.handlers = λ i. record {
        handlers = mid.handlers;
        state = same.state i;
        rest = same.rest i;
        unsent = same.unsent i;
        is_open = same.opened i;
      } in
      met_response w v old new mid.handlers new_desk after result met
      (subst (λ s. IsResponse told m s new desk new_desk before after result) told_of x)

  -- Memory ran out in the meeting of the message.
  unmet_at : (w v : W) (s t : State S) (out new_out : List ℕ) (is_open new_open : Bool) → MayHaveMet Meets w s m v
      → IsMetResponse Meets m (record { world = w; state = s; unsent = out; is_open = is_open })
      (record { world = v; state = t; unsent = new_out; is_open = new_open }) desk desk before before (Err serve.NoMemory)
  unmet_at w v s t out new_out is_open new_open may = record {
    met = elim may [
      | inl same ↦ inr (record { error = refl; world = same; called = refl })
      | inr x ↦ inl (
        x.0,
        x.1,
        record {
          answer = tt;
          err = record { made = []; front = ((whole_table x.0 [] s m).calls, refl); grown = sym (append-nil desk.calls) };
          stopped = λ limit. absurd (no_limit limit);
        },
      )
    ];
    only = inl refl;
    ends = tt;
    opened = λ going. absurd (closed going);
    turns = inl (no_turn before desk.calls);
    bounded = λ within. within;
    registration = goes_on_none desk;
  }
    where
      closed : ◌≡◌ {A = Bool} false true → ⊥
      closed is = false≢true is

  pub unmet_response : (w v : W) (s t : State S) (out new_out : List ℕ) (is_open new_open : Bool)
      (result : Result (Option EndKind) ServeError) → result ≡ Err serve.NoMemory → MayHaveMet Meets w s m v
      → IsMetResponse Meets m (record { world = w; state = s; unsent = out; is_open = is_open })
      (record { world = v; state = t; unsent = new_out; is_open = new_open }) desk desk before before result
  unmet_response w v s t out new_out is_open new_open result is may =
      subst (λ r. IsMetResponse Meets m (record { world = w; state = s; unsent = out; is_open = is_open })
      (record { world = v; state = t; unsent = new_out; is_open = new_open }) desk desk before before r) (sym is)
      (unmet_at w v s t out new_out is_open new_open may)
