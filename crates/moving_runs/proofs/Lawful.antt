-- The table of handlers that change is lawful, since the whole table over each sheet is.
use Rattle.std.proofs.Common.{◌≡◌, Bool, List, [], ◌∷◌, ◌++◌, refl, ap, sym, ◌∙◌}
use Rattle.pg_messages.specs.declared.frontend.PgWireFrontendMessage.{PgWireFrontendMessage}
use Rattle.pg_messages.specs.Frames.{awaits_startup_after}
use Rattle.pg_client.specs.Answer.{Answer, Next, Goes, Ends, Stops, answers_of, left_by}
use Rattle.pg_client.specs.State.{State}
use Rattle.conversation_table.specs.Handlers.{Handlers}
use Rattle.conversation_table.specs.Lawful.{IsMade, IsLawful}
use Rattle.conversation_table.specs.Table.{whole_table, awaits}
use Rattle.conversation_runs.proofs.Answering.{whole_lawful}
use Rattle.moving_runs.specs.Sheets.{Ahead, next_ahead, answer_ahead, by_first, sheet_table, awaits_ahead}

-- what comes next, without the sheets
abbrev pub plain_next : {S : Type 0} → Next (Ahead S) → Next (State S)
plain_next (Goes at) = Goes at.state
plain_next (Ends kind) = Ends kind
plain_next Stops = Stops

-- the answer, without the sheets
abbrev pub plain : {S : Type 0} → Answer (Ahead S) → Answer (State S)
plain a = record { replies = a.replies; calls = a.calls; next = plain_next a.next }

pub plain_ahead : {S : Type 0} (sheets : List (Handlers S)) (n : Next (State S)) → plain_next (next_ahead sheets n) ≡ n
plain_ahead sheets (Goes s) = refl
plain_ahead sheets (Ends kind) = refl
plain_ahead sheets Stops = refl

made_before : {S : Type 0} (sheets : List (Handlers S)) (n : Next (State S)) → IsMade (next_ahead sheets n) → IsMade n
made_before sheets (Goes s) made = tt
made_before sheets (Ends kind) made = tt
made_before sheets Stops made = made

-- where a conversation goes on, it goes on without the sheets
pub goes_before : {S : Type 0} (sheets : List (Handlers S)) (n : Next (State S)) (at : Ahead S) → next_ahead sheets n ≡ Goes at
    → n ≡ Goes at.state
goes_before sheets n at e = sym (plain_ahead sheets n) ∙ ap plain_next e

same_by_first : {S : Type 0} (sheets : List (Handlers S)) (answers more : List Bool) (s : State S) (m : PgWireFrontendMessage)
    → IsMade (by_first sheets answers s m).next → by_first sheets (answers ++ more) s m ≡ by_first sheets answers s m
same_by_first [] answers more s m made = absurd made
same_by_first (h ∷ sheets) answers more s m made =
    ap (answer_ahead sheets) ((whole_lawful h).same answers more s m (made_before sheets (whole_table h answers s m).next made))

taken_by_first : {S : Type 0} (sheets : List (Handlers S)) (answers : List Bool) (s : State S) (m : PgWireFrontendMessage)
    → answers ≡ answers_of (by_first sheets answers s m).calls ++ left_by (by_first sheets answers s m).calls answers
taken_by_first [] answers s m = refl
taken_by_first (h ∷ sheets) answers s m = (whole_lawful h).taken answers s m

follows_first : {S : Type 0} (sheets : List (Handlers S)) (answers : List Bool) (s : State S) (at : Ahead S) (m : PgWireFrontendMessage)
    → (by_first sheets answers s m).next ≡ Goes at → awaits at.state ≡ awaits_startup_after m (awaits s)
follows_first [] answers s at m e = absurd (stops_not at e)
  where
    stops_not : {T : Type 0} (t : T) → ◌≡◌ {A = Next T} Stops (Goes t) → ⊥
    stops_not t e = cc
follows_first (h ∷ sheets) answers s at m e =
    (whole_lawful h).follows answers s at.state m (goes_before sheets (whole_table h answers s m).next at e)

pub sheets_lawful : {S : Type 0} → IsLawful (sheet_table {S = S}) awaits_ahead
sheets_lawful = record {
  same = λ answers more at m made. same_by_first at.sheets answers more at.state m made;
  taken = λ answers at m. taken_by_first at.sheets answers at.state m;
  follows = λ answers at to m e. follows_first at.sheets answers at.state to m e;
}
