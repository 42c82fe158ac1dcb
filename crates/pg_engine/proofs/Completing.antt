-- With turns enough a conversation is given up for no want of them.
use Rattle.std.proofs.Common.{◌≡◌, ◌≤◌, ◌+◌, ◌⊎◌, ℕ, arith, Bool, true, false, List, [], ◌∷◌, ◌++◌, Option, Some, None, Result, Ok, Err, inl, inr, length, sym, refl, ap, subst, cond}
use Rattle.std.specs.Prelude.{ℤ, ◌*◌}
use Rattle.std.proofs.lemmas.Nat.{mul-le}
use Rattle.pg_messages.specs.declared.frontend.PgWireFrontendMessage.{PgWireFrontendMessage}
use Rattle.pg_messages.specs.declared.backend.PgWireBackendMessage.{PgWireBackendMessage}
use Rattle.pg_messages.specs.Frames.{DividesInto, IsBad, IsUnfinished, awaits_startup_after_all}
use Rattle.pg_messages.proofs.OneReading.{division_kept, division_joined, awaits_joined, has_division, one_division}
use Rattle.pg_client.specs.declared.desk.DeskCall.{DeskCall}
use Rattle.pg_client.specs.declared.ends.EndKind.{EndKind}
use Rattle.pg_client.specs.Answer.{Next, answers_of, conversation}
use Rattle.conversation_table.specs.Questions.{questions, questions_since}
use Rattle.pg_client.specs.State.{State, first_state}
use Rattle.conversation_runs.specs.declared.ends.ServeError.{ServeError}
use Rattle.conversation_runs.specs.declared.ends.ServeError.TheVariants as fault
use Rattle.conversation_runs.specs.Run.{Rules}
use Rattle.conversation_runs.proofs.Spending.{since_grown}
use Rattle.pg_engine.specs.Serving.{Counts, HasCause, ReadsGaveBytes, WentSo, IsRunOfTaken, IsStoppedRunOfTaken}
use Rattle.pg_engine.specs.Completeness.{is_run_message, runs, IsCompleteWithin}

-- ---- the frames of a front

runs-append : (a b : List PgWireFrontendMessage) → runs (a ++ b) ≡ runs a + runs b
runs-append [] b = omega arith
runs-append (m ∷ a) b = one_more (is_run_message m) (runs (a ++ b)) (runs a) (runs b) (runs-append a b)
  where
    one_more : (runs_it : Bool) (whole front others : ℕ) → whole ≡ front + others
        → cond runs_it (whole + 1) whole ≡ cond runs_it (front + 1) front + others
    one_more true whole front others e = omega arith
    one_more false whole front others e = e

-- the bytes hold no further frame
abbrev HasNoFrame : List PgWireFrontendMessage → List ℕ → Type 0
HasNoFrame messages rest = IsUnfinished (awaits_startup_after_all messages true) rest ⊎ IsBad (awaits_startup_after_all messages true) rest

-- the frames of a text's front are no more than its own
runs_of_front : (text : List ℕ) (front messages : List PgWireFrontendMessage) (mid rest : List ℕ) → DividesInto true text front mid
    → DividesInto true text messages rest → HasNoFrame messages rest → runs front ≤ runs messages
runs_of_front text front messages mid rest d e h =
    let others = has_division (awaits_startup_after_all front true) mid in
    let joined = division_joined front others.0 true text mid others.1 d others.2 in
    let ended : HasNoFrame (front ++ others.0) others.1 =
    subst (λ b. IsUnfinished b others.1 ⊎ IsBad b others.1) (sym (awaits_joined front others.0 true)) others.3 in
    let same = one_division (front ++ others.0) messages true text others.1 rest joined ended e h in
    let count : runs (front ++ others.0) ≡ runs messages = ap runs same.0 in
    let parts = runs-append front others.0 in omega (arith, count, parts)

-- ---- the questions of what was taken

-- By these rules no more questions are asked than messages run a query, each as often as a query owes polls at most.
abbrev pub AsksFew : {A : Type 0} → ℕ → Rules (State A) → Type 0
AsksFew {A} most rules = (answers : List Bool) (s : State A) (messages : List PgWireFrontendMessage)
    → questions (conversation rules.table answers s messages).calls ≤ runs messages * most

-- what was taken of a text, its frames, and the calls of their answer
record IsTaken {A : Type 0} (rules : Rules (State A)) (s : State A) (text rest : List ℕ) (calls : List DeskCall)
    : Type 0 where
  taken : List ℕ
  messages : List PgWireFrontendMessage
  unfinished : List ℕ
  replies : List PgWireBackendMessage
  next : Next (State A)
  all : text ≡ taken ++ rest
  division : DividesInto (rules.awaits s) taken messages unfinished
  answered : conversation rules.table (answers_of calls) s messages ≡ record {
    replies = replies;
    calls = calls;
    next = next;
  }

asked_within : {A : Type 0} (most : ℕ) (rules : Rules (State A)) → AsksFew most rules
    → (s : State A) → rules.awaits s ≡ true → (text rest : List ℕ) (calls : List DeskCall) → IsTaken rules s text rest calls
    → (messages : List PgWireFrontendMessage) (last : List ℕ) → DividesInto true text messages last → HasNoFrame messages last
    → questions calls ≤ runs messages * most
asked_within most rules few s awaited text rest calls t messages last d h =
    let asked : questions calls ≤ runs t.messages * most =
    subst (λ (k : List DeskCall). questions k ≤ runs t.messages * most) (ap (λ a. a.calls) t.answered)
    (few (answers_of calls) s t.messages) in
    let kept : DividesInto true text t.messages (t.unfinished ++ rest) =
    subst (λ x. DividesInto true x t.messages (t.unfinished ++ rest)) (sym t.all)
    (division_kept t.messages true t.taken t.unfinished rest
    (subst (λ b. DividesInto b t.taken t.messages t.unfinished) awaited t.division)) in
    let front = runs_of_front text t.messages messages (t.unfinished ++ rest) last kept d h in
    let more = mul-le (runs t.messages) most (runs messages) most front (omega arith) in
    omega (arith, asked, more)

taken_by_run : {A : Type 0} (rules : Rules (State A)) (registration : ℤ
    × List ℕ) (text : List ℕ) (new_left old new : Option (List ℕ)) (calls : List DeskCall)
    → IsRunOfTaken rules (first_state registration.0 registration.1) (Some text) new_left old new
    calls
    → (rest : List ℕ) × IsTaken rules (first_state registration.0 registration.1) text rest calls
taken_by_run rules registration text new_left old new calls x = (
  x.1.0,
  record {
    taken = x.0;
    messages = x.2.2.fed.messages;
    unfinished = x.2.2.rest;
    replies = x.2.2.fed.replies;
    next = x.2.2.next;
    all = x.1.1;
    division = x.2.2.fed.division;
    answered = x.2.2.fed.answered;
  },
)

taken_by_stopped_run : {A : Type 0} (rules : Rules (State A)) (registration : ℤ
    × List ℕ) (text : List ℕ) (new_left old new : Option (List ℕ)) (calls : List DeskCall)
    → IsStoppedRunOfTaken rules (first_state registration.0 registration.1) (Some text) new_left old
    new calls
    → (rest : List ℕ) × IsTaken rules (first_state registration.0 registration.1) text rest calls
taken_by_stopped_run rules registration text new_left old new calls x = (
  x.1.0,
  record {
    taken = x.0;
    messages = x.2.2.messages;
    unfinished = x.2.2.rest;
    replies = x.2.2.replies;
    next = _;
    all = x.1.1;
    division = x.2.2.division;
    answered = x.2.2.answered;
  },
)

-- ---- the clause

-- the turns can't have been spent
unspent : (before after turns asked most bytes rest : ℕ) → after + asked ≡ before + turns → after + rest ≤ before + bytes → asked ≤ most
    → bytes + 1 + most ≤ turns → ⊥
unspent before after turns asked most bytes rest spent gave few enough = absurd (omega arith)

-- where nothing was read, nothing was counted
pub none_gave : (left : Option (List ℕ)) (reads : ℕ) → ReadsGaveBytes left left reads reads
none_gave None reads = tt
none_gave (Some text) reads = (text, refl, omega arith)

-- want of memory is no breach
pub complete_at_want : (most : ℕ) (turns : ℕ) (left : Option (List ℕ)) (before after : Counts)
    → IsCompleteWithin most turns (Err fault.NoMemory) left before after
complete_at_want most turns None before after = tt
complete_at_want most turns (Some text) before after = λ messages rest d h enough fits sound. tt

module _ {A : Type 0} (most : ℕ) (rules : Rules (State A)) (few : AsksFew most rules)
    (registration : ℤ × List ℕ) (awaited : rules.awaits (first_state registration.0 registration.1) ≡ true) (turns : ℕ) where
  -- the state of a conversation that begins
  abbrev first : State A
  first = first_state registration.0 registration.1

  -- where so many questions were asked of what was taken, not all turns were spent
  enough_left : (text : List ℕ) (new_left : Option (List ℕ)) (calls : List DeskCall) (before after : Counts)
      → ReadsGaveBytes (Some text) new_left before.reads after.reads → HasCause (Err fault.TurnLimit) turns (questions calls) before after
      → (rest : List ℕ) → IsTaken rules first text rest calls → IsCompleteWithin most turns (Err fault.TurnLimit) (Some text) before after
  enough_left text new_left calls before after gave cause rest t = λ messages last d h enough fits sound.
      let within = asked_within most rules few first awaited text rest calls t messages last d h in
      unspent before.reads after.reads turns (questions calls) (runs messages * most) (length text) (length gave.0)
      (cause fits) gave.2 within enough

  pub complete_serving : (answer : Result EndKind ServeError) (left new_left old new : Option (List ℕ)) (calls : List DeskCall)
      (before after : Counts) → HasCause answer turns (questions calls) before after
      → ReadsGaveBytes left new_left before.reads after.reads → WentSo rules first answer left new_left old new calls
      → IsCompleteWithin most turns answer left before after
  complete_serving answer None new_left old new calls before after cause gave went = tt
  complete_serving (Ok kind) (Some text) new_left old new calls before after cause gave went =
      λ messages rest d h enough fits sound. tt
  complete_serving (Err fault.ReadFault) (Some text) new_left old new calls before after cause gave went =
      λ messages rest d h enough fits sound. absurd (sound (inl cause))
  complete_serving (Err fault.WriteFault) (Some text) new_left old new calls before after cause gave went =
      λ messages rest d h enough fits sound. absurd (sound (inr cause))
  complete_serving (Err fault.NoMemory) (Some text) new_left old new calls before after cause gave went =
      complete_at_want most turns (Some text) before after
  complete_serving (Err fault.TurnLimit) (Some text) new_left old new calls before after cause gave (inl went) =
      let t = taken_by_run rules registration text new_left old new calls went in
      enough_left text new_left calls before after gave cause t.0 t.1
  complete_serving (Err fault.TurnLimit) (Some text) new_left old new calls before after cause gave (inr went) =
      let t = taken_by_stopped_run rules registration text new_left old new calls went in
      enough_left text new_left calls before after gave cause t.0 t.1

-- the cause by the calls that were made
pub cause_of_calls : (answer : Result EndKind ServeError) (turns : ℕ) (calls new_calls made : List DeskCall) (before after : Counts)
    → new_calls ≡ calls ++ made
    → HasCause answer turns (questions_since calls new_calls) before after → HasCause answer turns (questions made) before after
cause_of_calls answer turns calls new_calls made before after grown cause =
    subst (λ (asked : ℕ). HasCause answer turns asked before after) (since_grown calls new_calls made grown) cause
