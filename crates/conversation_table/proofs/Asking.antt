-- A query that is waited for: so many of its polls were owed, and each was followed by a question that was answered no.
use Rattle.std.proofs.Common.{suc, zero, zero-add, arith, ◌≡◌, ◌≢◌, ◌+◌, ◌-◌, ◌++◌, ℕ, List, [], ◌∷◌, Bool, true, false, length, drop, refl, ap, sym, subst, ◌∙◌, append_assoc}
use native.Mathlib.Numerals.{unary_clauses}
use Rattle.std.specs.Prelude.{replicate}
use Rattle.std.proofs.lemmas.List.{append-nil}
use Rattle.std.proofs.Math.Seq.{drop-append_seam}
use Rattle.pg_client.specs.declared.ends.Turns.{Turns}
use Rattle.pg_client.specs.declared.desk.DeskCall.{DeskCall}
use Rattle.pg_client.specs.declared.desk.DeskCall.TheVariants as desk
use Rattle.pg_client.specs.Answer.{answers_of, BeginsWith}
use Rattle.conversation_table.specs.Handlers.{QueryTold}
use Rattle.conversation_table.specs.Questions.{Verdict, Passed, Canceled, Unanswered, Questioned, questioned, questions, questions_since, IsAsked, EndsWithYes}

-- so many questions, each answered no
abbrev pub noes : ℕ → List DeskCall
noes n = replicate n (desk.Ask false)

noes-more : (n : ℕ) → noes (n + 1) ≡ noes n ++ desk.Ask false ∷ []
noes-more zero = refl
noes-more (suc n) = simp unary_clauses (ap (λ xs. desk.Ask false ∷ xs) (simp unary_clauses at (noes-more n)))

answers-noes : (n : ℕ) (more : List DeskCall) → answers_of (noes n ++ more) ≡ replicate n false ++ answers_of more
answers-noes zero more = refl
answers-noes (suc n) more = ap (λ xs. false ∷ xs) (answers-noes n more)

questions-noes : (n : ℕ) (more : List DeskCall) → questions (noes n ++ more) ≡ n + questions more
questions-noes zero more = sym (zero-add (questions more))
questions-noes (suc n) more = omega (arith, questions-noes n more)

-- questions behind so many that were answered no
abbrev behind_noes : ℕ → Questioned → Questioned
behind_noes n q = record { calls = noes n ++ q.calls; verdict = q.verdict }

questioned-noes : (n owed : ℕ) (answers : List Bool)
    → questioned (n + owed) (replicate n false ++ answers) ≡ behind_noes n (questioned owed answers)
questioned-noes zero owed answers = ap (λ (n : ℕ). questioned n answers) (zero-add owed)
questioned-noes (suc n) owed answers =
    let one_more : suc n + owed ≡ suc (n + owed) = omega arith in
    ap (λ (m : ℕ). questioned m (false ∷ (replicate n false ++ answers))) one_more
    ∙ ap (λ (q : Questioned). record { calls = desk.Ask false ∷ q.calls; verdict = q.verdict }) (questioned-noes n owed answers)

-- the questions so far, and the turns that they took
pub record IsWaiting {A : Type 0} (first told : QueryTold A) (old new : List DeskCall) (turns now : Turns) : Type 0 where
  pub asked : ℕ
  pub owed : first.owes ≡ asked + told.owes
  pub outcome : told.outcome ≡ first.outcome
  pub unspent : told.is_spent ≡ false
  pub calls : new ≡ old ++ noes asked
  pub spent : now.spent ≡ turns.spent + asked
  pub limit : now.limit ≡ turns.limit

-- the verdict where no further answer came
abbrev pub verdict_at : ℕ → Verdict
verdict_at zero = Passed
verdict_at (suc n) = Unanswered

at_no_answer : (n : ℕ) → questioned n [] ≡ record { calls = []; verdict = verdict_at n }
at_no_answer zero = refl
at_no_answer (suc n) = refl

-- the questions that were asked, and more behind them
asked_more : (n owed : ℕ) (old new more : List DeskCall) (verdict : Verdict) → new ≡ old ++ (noes n ++ more)
    → questioned owed (answers_of more) ≡ record { calls = more; verdict = verdict } → IsAsked (n + owed) old new verdict
asked_more n owed old new more verdict grown came = record {
  made = noes n ++ more;
  grown = grown;
  asked = ap (questioned (n + owed)) (answers-noes n more) ∙ questioned-noes n owed (answers_of more) ∙ ap (behind_noes n) came;
}

pub asked_so_far : {A : Type 0} (first told : QueryTold A) (old new : List DeskCall) (turns now : Turns)
    → IsWaiting first told old new turns now → IsAsked first.owes old new (verdict_at told.owes)
asked_so_far first told old new turns now h =
    subst (λ (owes : ℕ). IsAsked owes old new (verdict_at told.owes)) (sym h.owed)
    (asked_more h.asked told.owes old new [] (verdict_at told.owes) (h.calls
    ∙ ap (λ l. old ++ l) (sym (append-nil (noes h.asked)))) (at_no_answer told.owes))

-- the questions among those that were asked so far
since_noes : (n : ℕ) (old new more : List DeskCall) → new ≡ old ++ (noes n ++ more) → questions_since old new ≡ n + questions more
since_noes n old new more e = ap (λ l. questions (drop (length old) l)) e ∙ ap questions (drop-append_seam old (noes n ++ more))
    ∙ questions-noes n more

pub turns_are : (now : Turns) (spent limit : ℕ) → now.spent ≡ spent → now.limit ≡ limit → now ≡ record { spent = spent; limit = limit }
turns_are now spent limit p q = rw (← p, ← q) refl

module _ {A : Type 0} (first told : QueryTold A) (old new : List DeskCall) (turns now : Turns) (h : IsWaiting first told old new turns now)
  where
    since_so_far : questions_since old new ≡ h.asked
    since_so_far =
        let e = since_noes h.asked old new [] (h.calls ∙ ap (λ l. old ++ l) (sym (append-nil (noes h.asked)))) in
        omega (arith, e)

    pub spent_so_far : now ≡ record { spent = turns.spent + questions_since old new; limit = turns.limit }
    spent_so_far = turns_are now (turns.spent + questions_since old new) turns.limit (h.spent
        ∙ ap (λ n. turns.spent + n) (sym since_so_far)) h.limit

    -- one more was met than turns were left
    pub unanswered : told.owes ≢ 0 → IsAsked first.owes old new Unanswered
    unanswered owes = at_owed told.owes owes (asked_so_far first told old new turns now h)
      where
        at_owed : (n : ℕ) → n ≢ 0 → IsAsked first.owes old new (verdict_at n) → IsAsked first.owes old new Unanswered
        at_owed zero ne x = absurd (ne refl)
        at_owed (suc n) ne x = x

    -- memory was wanting for a question, whose turn is spent
    pub spent_in_vain : (later : Turns) → later.spent ≡ now.spent + 1 → later.limit ≡ now.limit
        → later ≡ record { spent = turns.spent + questions_since old new + 1; limit = turns.limit }
    spent_in_vain later p q =
        turns_are later (turns.spent + questions_since old new + 1) turns.limit
        (let e = since_so_far in let f = h.spent in omega (arith, p, e, f)) (q ∙ h.limit)

    module _ (next : List DeskCall) (yes : next ≡ new ++ desk.Ask true ∷ []) where
      grown_by_yes : next ≡ old ++ (noes h.asked ++ desk.Ask true ∷ [])
      grown_by_yes = yes ∙ ap (λ l. l ++ desk.Ask true ∷ []) h.calls ∙ append_assoc old (noes h.asked) (desk.Ask true ∷ [])

      -- so a canceled query's last question was answered yes
      pub ends_with_yes : EndsWithYes old next
      ends_with_yes = (noes h.asked, grown_by_yes)

      -- the last question was answered yes
      pub canceled : told.owes ≢ 0 → IsAsked first.owes old next Canceled
      canceled owes =
          subst (λ (owes : ℕ). IsAsked owes old next Canceled) (sym h.owed)
          (asked_more h.asked told.owes old next (desk.Ask true ∷ []) Canceled grown_by_yes (at_owed told.owes owes))
        where
          at_owed : (n : ℕ) → n ≢ 0 → questioned n (true ∷ []) ≡ record { calls = desk.Ask true ∷ []; verdict = Canceled }
          at_owed zero ne = absurd (ne refl)
          at_owed (suc n) ne = refl

      pub spent_at_yes : (later : Turns) → later.spent ≡ now.spent + 1 → later.limit ≡ now.limit
          → later ≡ record { spent = turns.spent + questions_since old next; limit = turns.limit }
      spent_at_yes later p q =
          turns_are later (turns.spent + questions_since old next) turns.limit
          (let e = since_noes h.asked old next (desk.Ask true ∷ []) grown_by_yes in let f = h.spent in omega (arith, p, e, f)) (q ∙ h.limit)

    -- the question was answered no
    pub waits_on : (after : QueryTold A) (next : List DeskCall) (later : Turns) → told.owes ≢ 0
        → after ≡ record { is_spent = told.is_spent; owes = told.owes - 1; outcome = told.outcome }
        → next ≡ new ++ desk.Ask false ∷ [] → later.spent ≡ now.spent + 1 → later.limit ≡ now.limit
        → IsWaiting first after old next turns later
    waits_on after next later owes is at p q = record {
      asked = h.asked + 1;
      owed = let left : after.owes ≡ told.owes - 1 = ap (λ t. t.owes) is in omega (arith, left, h.owed, owes);
      outcome = ap (λ t. t.outcome) is ∙ h.outcome;
      unspent = ap (λ t. t.is_spent) is ∙ h.unspent;
      calls = at ∙ ap (λ l. l ++ desk.Ask false ∷ []) h.calls ∙ append_assoc old (noes h.asked) (desk.Ask false ∷ [])
          ∙ ap (λ l. old ++ l) (sym (noes-more h.asked));
      spent = omega (arith, p, h.spent);
      limit = q ∙ h.limit;
    }

-- the query is done, and no poll was owed
pub passed : {A : Type 0} (first told : QueryTold A) (old new : List DeskCall) (turns now : Turns) → IsWaiting first told old new turns now
    → told.owes ≡ 0 → IsAsked first.owes old new Passed
passed first told old new turns now h none =
    subst (λ (n : ℕ). IsAsked first.owes old new (verdict_at n)) none (asked_so_far first told old new turns now h)

pub begins_waiting : {A : Type 0} (told : QueryTold A) (calls : List DeskCall) (turns : Turns) → told.is_spent ≡ false
    → IsWaiting told told calls calls turns turns
begins_waiting told calls turns e = record {
  asked = 0;
  owed = omega arith;
  outcome = refl;
  unspent = e;
  calls = sym (append-nil calls);
  spent = omega arith;
  limit = refl;
}

-- Where an answer is missing, one more is that of a question.
pub asks_next : (owes : ℕ) (answers : List Bool) (more : Bool) → (questioned owes answers).verdict ≡ Unanswered
    → BeginsWith (questioned owes (answers ++ more ∷ [])).calls ((questioned owes answers).calls ++ desk.Ask more ∷ [])
asks_next zero answers more e = cc
asks_next (suc owed) [] true e = ([], refl)
asks_next (suc owed) [] false e = ((questioned owed []).calls, refl)
asks_next (suc owed) (true ∷ answers) more e = cc
asks_next (suc owed) (false ∷ answers) more e =
    let rest = asks_next owed answers more e in
    (rest.0, ap (λ l. desk.Ask false ∷ l) rest.1)
