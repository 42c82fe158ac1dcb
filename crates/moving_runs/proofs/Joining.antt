-- Messages that were met in turn, and then more of them.
use Rattle.std.proofs.Common.{◌≡◌, ℕ, List, [], ◌∷◌, ◌++◌, refl, ap, sym, subst, ◌∙◌, append_assoc, append-nil}
use Rattle.pg_messages.specs.declared.frontend.PgWireFrontendMessage.{PgWireFrontendMessage}
use Rattle.pg_messages.specs.Frames.{DividesInto, IsFrame, awaits_startup_after_all}
use Rattle.pg_messages.proofs.OneReading.{division_kept}
use Rattle.pg_client.specs.declared.desk.DeskCall.{DeskCall}
use Rattle.pg_client.specs.Answer.{BeginsWith, Goes, answers_of}
use Rattle.pg_client.specs.State.{State}
use Rattle.conversation_table.specs.Handlers.{Handlers}
use Rattle.conversation_table.specs.Table.{whole_table, awaits}
use Rattle.conversation_runs.proofs.Answering.{whole_lawful}
use Rattle.conversation_runs.proofs.Pieces.{divides-append}
use Rattle.moving_runs.specs.Meeting.{Meeting, WentOn, none, more, WereMet, going, last, MetFrames, MetAllFrames}

module _ {W S : Type 0} (Meets : Meeting W S) where
  pub went_then : (w u v : W) (s t r : State S) (messages others : List PgWireFrontendMessage) (sheets behind : List (Handlers S))
      (calls later : List DeskCall) → WentOn Meets w s messages sheets calls u t → WentOn Meets u t others behind later v r
      → WentOn Meets w s (messages ++ others) (sheets ++ behind) (calls ++ later) v r
  went_then _ _ v _ _ r _ others _ behind _ later (none w s) y = y
  went_then _ _ v _ _ r _ others _ behind _ later (more w u x s t q m h made messages sheets calls met own goes x') y =
      subst (λ k. WentOn Meets w s (m ∷ messages ++ others) (h ∷ sheets ++ behind) k v r) (sym (append_assoc made calls later))
      (more w u v s t r m h made (messages ++ others) (sheets ++ behind) (calls ++ later) met own goes
      (went_then u x v t q r messages others sheets behind calls later x' y))

  pub met_then : (w u v : W) (s t : State S) (messages others : List PgWireFrontendMessage) (sheets behind : List (Handlers S))
      (calls later : List DeskCall) → WentOn Meets w s messages sheets calls u t → WereMet Meets u t others behind later v
      → WereMet Meets w s (messages ++ others) (sheets ++ behind) (calls ++ later) v
  met_then w u _ s t messages _ sheets _ calls _ x (going _ v _ r others behind later y) =
      going w v s r (messages ++ others) (sheets ++ behind) (calls ++ later)
      (went_then w u v s t r messages others sheets behind calls later x y)
  met_then w u _ s t messages _ sheets _ calls _ x (last _ z v _ r others behind later m h made y met front) =
      subst (λ k. WereMet Meets w s (messages ++ (others ++ m ∷ [])) (sheets ++ (behind ++ h ∷ [])) k v) (append_assoc calls later made)
      (subst (λ hs. WereMet Meets w s (messages ++ (others ++ m ∷ [])) hs ((calls ++ later) ++ made) v) (append_assoc sheets behind (h ∷ []))
      (subst (λ ms. WereMet Meets w s ms ((sheets ++ behind) ++ h ∷ []) ((calls ++ later) ++ made) v)
      (append_assoc messages others (m ∷ []))
      (last w z v s r (messages ++ others) (sheets ++ behind) (calls ++ later) m h made
      (went_then w u z s t r messages others sheets behind calls later x y) met front)))

  -- whether the startup packet is awaited after messages that were met
  pub went_awaits : (w v : W) (s t : State S) (messages : List PgWireFrontendMessage) (sheets : List (Handlers S)) (calls : List DeskCall)
      → WentOn Meets w s messages sheets calls v t → awaits t ≡ awaits_startup_after_all messages (awaits s)
  went_awaits _ _ _ _ _ _ _ (none w s) = refl
  went_awaits _ _ _ _ _ _ _ (more w u v s t r m h made messages sheets calls met own goes x) =
      went_awaits u v t r messages sheets calls x
      ∙ ap (awaits_startup_after_all messages) ((whole_lawful h).follows (answers_of made) s t m goes)

  -- ---- frames

  pub none_met : (w : W) (s : State S) (text rest : List ℕ) → rest ≡ text → MetAllFrames Meets w w s s text rest [] []
  none_met w s text rest e = record { messages = []; division = sym e; met = none w s }

  pub one_met : (w u : W) (s t : State S) (text frame rest : List ℕ) (m : PgWireFrontendMessage) (h : Handlers S) (made : List DeskCall)
      → text ≡ frame ++ rest → IsFrame (awaits s) frame m → Meets w s m h u → (whole_table h (answers_of made) s m).calls ≡ made
      → (whole_table h (answers_of made) s m).next ≡ Goes t → MetAllFrames Meets w u s t text rest (h ∷ []) made
  one_met w u s t text frame rest m h made e f met own goes = record {
    messages = m ∷ [];
    division = (frame, rest, e, f, refl);
    met = subst (λ k. WentOn Meets w s (m ∷ []) (h ∷ []) k u t) (append-nil made)
        (more w u u s t t m h made [] [] [] met own goes (none u t));
  }

  -- a message that was met, whose answer may be cut off
  pub last_met : (w u : W) (s : State S) (text frame rest : List ℕ) (m : PgWireFrontendMessage) (h : Handlers S) (made : List DeskCall)
      → text ≡ frame ++ rest → IsFrame (awaits s) frame m → Meets w s m h u → BeginsWith (whole_table h (answers_of made) s m).calls made
      → MetFrames Meets w u s text (h ∷ []) made
  last_met w u s text frame rest m h made e f met front = record {
    messages = m ∷ [];
    rest = rest;
    division = (frame, rest, e, f, refl);
    met = last w w u s s [] [] [] m h made (none w s) met front;
  }

  pub met_so_far : {w v : W} {s t : State S} {text rest : List ℕ} {sheets : List (Handlers S)} {calls : List DeskCall}
      → MetAllFrames Meets w v s t text rest sheets calls → MetFrames Meets w v s text sheets calls
  met_so_far {w} {v} {s} {t} {text} {rest} {sheets} {calls} x = record {
    messages = x.messages;
    rest = rest;
    division = x.division;
    met = going w v s t x.messages sheets calls x.met;
  }

  -- more bytes keep the frames that are there
  pub met_more : {w v : W} {s t : State S} {text rest : List ℕ} {sheets : List (Handlers S)} {calls : List DeskCall} (piece : List ℕ)
      → MetAllFrames Meets w v s t text rest sheets calls → MetAllFrames Meets w v s t (text ++ piece) (rest ++ piece) sheets calls
  met_more {s = s} {text = text} {rest = rest} piece x = record {
    messages = x.messages;
    division = division_kept x.messages (awaits s) text rest piece x.division;
    met = x.met;
  }

  pub all_then : {w u v : W} {s t r : State S} {text mid rest : List ℕ} {sheets behind : List (Handlers S)} {calls later : List DeskCall}
      → MetAllFrames Meets w u s t text mid sheets calls → MetAllFrames Meets u v t r mid rest behind later
      → MetAllFrames Meets w v s r text rest (sheets ++ behind) (calls ++ later)
  all_then {w} {u} {v} {s} {t} {r} {text} {mid} {rest} {sheets} {behind} {calls} {later} x y = record {
    messages = x.messages ++ y.messages;
    division = divides-append (awaits s) text mid rest x.messages y.messages x.division
        (subst (λ b. DividesInto b mid y.messages rest) (went_awaits w u s t x.messages sheets calls x.met) y.division);
    met = went_then w u v s t r x.messages y.messages sheets behind calls later x.met y.met;
  }

  pub frames_then : {w u v : W} {s t : State S} {text mid : List ℕ} {sheets behind : List (Handlers S)} {calls later : List DeskCall}
      → MetAllFrames Meets w u s t text mid sheets calls → MetFrames Meets u v t mid behind later
      → MetFrames Meets w v s text (sheets ++ behind) (calls ++ later)
  frames_then {w} {u} {v} {s} {t} {text} {mid} {sheets} {behind} {calls} {later} x y = record {
    messages = x.messages ++ y.messages;
    rest = y.rest;
    division = divides-append (awaits s) text mid y.rest x.messages y.messages x.division
        (subst (λ b. DividesInto b mid y.messages y.rest) (went_awaits w u s t x.messages sheets calls x.met) y.division);
    met = met_then w u v s t x.messages y.messages sheets behind calls later x.met y.met;
  }
