-- The cells of what was written stand for stored intervals, however the conversation went.
use Rattle.std.proofs.Common.{[], List, ℕ, ℤ, Option, Some, None, Result, Ok, Err, sym, ap, subst, inl, inr, append-nil}
use Rattle.pg_messages.specs.declared.frontend.PgWireFrontendMessage.{PgWireFrontendMessage}
use Rattle.pg_messages.specs.Replies.{replies_bytes}
use Rattle.pg_client.specs.declared.desk.DeskCall.{DeskCall}
use Rattle.pg_client.specs.declared.ends.EndKind.{EndKind}
use Rattle.pg_client.specs.Answer.{BeginsWith, answers_of, conversation}
use Rattle.pg_client.specs.State.{State, first_state}
use Rattle.conversation_runs.specs.declared.ends.ServeError.{ServeError}
use Rattle.conversation_runs.specs.declared.ends.ServeError.TheVariants as fault
use Rattle.conversation_runs.specs.Run.{Rules, IsRun, IsCutRun}
use Rattle.conversation_runs.specs.Session.{whole_rules}
use Rattle.conversation_runs.specs.Streams.{GrowsBy, GrowsByFront}
use Rattle.pg_engine.specs.Serving.{IsStoppedRun, TakesFrom}
use Rattle.relation_tables.specs.declared.Relation.{Relation}
use Rattle.relation_tables.specs.declared.RelationStatement.{RelationStatement}
use Rattle.relation_tables.specs.RelationHandler.{relation_handlers}
use Rattle.relation_tables.specs.Relations.{HaveEvenRows}
use Rattle.relation_handlers.specs.Tables.{HoldIntervals}
use Rattle.cell_laws.specs.ShownCells.{ShowStored}
use Rattle.cell_laws.proofs.CellsWhole.{stored_shown}
use Rattle.relation_serving.specs.Serving.{ShowsCells, WentByWhole}

-- what has grown by a front of bytes, or by all of them, has grown by a front of them
grown_front : (old new : Option (List ℕ)) (bytes front : List ℕ) → BeginsWith bytes front → GrowsBy old new front → GrowsByFront old new bytes
grown_front None new bytes front begins grown = tt
grown_front (Some before) new bytes front begins grown = (front, begins, grown)

begins_all : (bytes : List ℕ) → BeginsWith bytes bytes
begins_all bytes = ([], sym (append-nil bytes))

module _ (relations : List Relation) (registration : ℤ × List ℕ) (within : HoldIntervals relations) (even : HaveEvenRows relations) where
  abbrev rules : Rules (State RelationStatement)
  rules = whole_rules (relation_handlers relations)

  abbrev first : State RelationStatement
  first = first_state registration.0 registration.1

  shown : (calls : List DeskCall) (messages : List PgWireFrontendMessage)
      → ShowStored relations messages (conversation rules.table (answers_of calls) first messages).replies
  shown calls messages = stored_shown relations within even registration.0 registration.1 (answers_of calls) messages

  by_run : (e : ServeError) (left new_left old new : Option (List ℕ)) (calls : List DeskCall) (kind : EndKind) (taken replies : List ℕ)
      → TakesFrom left new_left taken → GrowsBy old new replies → IsRun rules first taken replies calls kind
      → ShowsCells relations registration (Err e) left new_left old new
  by_run e left new_left old new calls kind taken replies took grown x = record {
    text = taken;
    messages = x.fed.messages;
    rest = x.rest;
    replies = x.fed.replies;
    made = calls;
    answered = took;
    division = x.fed.division;
    told = ap (λ a. a.replies) x.fed.answered;
    written = grown_front old new (replies_bytes x.fed.replies) replies
        (subst (λ b. BeginsWith b replies) x.fed.replied (begins_all replies)) grown;
    shown = subst (λ r. ShowStored relations x.fed.messages r) (ap (λ a. a.replies) x.fed.answered) (shown calls x.fed.messages);
  }

  by_cut : (e : ServeError) (left new_left old new : Option (List ℕ)) (calls : List DeskCall) (taken front : List ℕ)
      → TakesFrom left new_left taken → GrowsBy old new front → IsCutRun rules first taken front calls
      → ShowsCells relations registration (Err e) left new_left old new
  by_cut e left new_left old new calls taken front took grown x = record {
    text = taken;
    messages = x.messages;
    rest = x.rest;
    replies = x.given.replies;
    made = calls;
    answered = took;
    division = x.division;
    told = ap (λ a. a.replies) (sym x.answered);
    written = grown_front old new (replies_bytes x.given.replies) front x.replied grown;
    shown = subst (λ r. ShowStored relations x.messages r) (ap (λ a. a.replies) (sym x.answered)) (shown calls x.messages);
  }

  by_stop : (e : ServeError) (left new_left old new : Option (List ℕ)) (calls : List DeskCall) (taken front : List ℕ)
      → TakesFrom left new_left taken → GrowsBy old new front → IsStoppedRun rules first taken front calls
      → ShowsCells relations registration (Err e) left new_left old new
  by_stop e left new_left old new calls taken front took grown x = record {
    text = taken;
    messages = x.messages;
    rest = x.rest;
    replies = x.replies;
    made = calls;
    answered = took;
    division = x.division;
    told = ap (λ a. a.replies) x.answered;
    written = grown_front old new (replies_bytes x.replies) front x.replied grown;
    shown = subst (λ r. ShowStored relations x.messages r) (ap (λ a. a.replies) x.answered) (shown calls x.messages);
  }

  pub shown_in : (answer : Result EndKind ServeError) (left new_left old new : Option (List ℕ)) (calls : List DeskCall)
      → WentByWhole relations registration answer left new_left old new calls → ShowsCells relations registration answer left new_left old new
  shown_in (Ok kind) left new_left old new calls (text, is, (replies, grown, x)) = record {
    text = text;
    messages = x.fed.messages;
    rest = x.rest;
    replies = x.fed.replies;
    made = calls;
    answered = is;
    division = x.fed.division;
    told = ap (λ a. a.replies) x.fed.answered;
    written = subst (λ b. GrowsBy old new b) x.fed.replied grown;
    shown = subst (λ r. ShowStored relations x.fed.messages r) (ap (λ a. a.replies) x.fed.answered) (shown calls x.fed.messages);
  }
  shown_in (Err fault.ReadFault) left new_left old new calls (taken, t, (replies, grown, x)) =
      by_run fault.ReadFault left new_left old new calls _ taken replies t grown x
  shown_in (Err fault.TurnLimit) left new_left old new calls (inl (taken, t, (replies, grown, x))) =
      by_run fault.TurnLimit left new_left old new calls _ taken replies t grown x
  shown_in (Err fault.TurnLimit) left new_left old new calls (inr (taken, t, (front, grown, x))) =
      by_stop fault.TurnLimit left new_left old new calls taken front t grown x
  shown_in (Err fault.WriteFault) left new_left old new calls (taken, t, (front, grown, x)) =
      by_cut fault.WriteFault left new_left old new calls taken front t grown x
  shown_in (Err fault.NoMemory) left new_left old new calls (taken, t, (front, grown, x)) =
      by_cut fault.NoMemory left new_left old new calls taken front t grown x
