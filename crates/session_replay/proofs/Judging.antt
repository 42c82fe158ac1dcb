-- What was served of a recording's bytes, and what it says of the recording.
use Rattle.std.proofs.Common.{◌≡◌, ◌<◌, ◌+◌, ◌^◌, ◌++◌, ℕ, ℤ, Bool, true, false, arith, List, [], ◌∷◌, Option, Some, Result, Ok, Err, IfOk, inl, inr, length, refl, sym, ap, subst, ◌∙◌, ⊎_elim, drop}
use Rattle.std.specs.Prelude.{IsErrOf, IsErr}
use Rattle.std.proofs.lemmas.Bool.{cases_lt}
use Rattle.pg_client.specs.declared.desk.DeskCall.{DeskCall}
use Rattle.pg_client.specs.declared.ends.EndKind.{EndKind}
use Rattle.pg_client.specs.Answer.{answers_of}
use Rattle.conversation_table.specs.Questions.{questions}
use Rattle.pg_client.specs.Script.{IsScripted, scripted, origin_of}
use Rattle.pg_client.specs.State.{first_state}
use Rattle.conversation_runs.specs.declared.ends.ServeError.{ServeError}
use Rattle.conversation_runs.specs.declared.ends.ServeError.TheVariants as fault
use Rattle.conversation_runs.specs.Run.{IsRun}
use Rattle.conversation_runs.specs.Session.{whole_rules}
use Rattle.conversation_runs.proofs.Answering.{whole_lawful}
use Rattle.conversation_runs.proofs.Spending.{questions-append}
use Rattle.pg_engine.specs.Serving.{Counts, HasCause, ReadsGaveBytes}
use Rattle.relation_serving.specs.Serving.{WentByWhole}
use Rattle.recording_text.specs.declared.recording.Recording.{Recording}
use Rattle.relation_tables.specs.RelationHandler.{relation_handlers}
use Rattle.relation_tables.specs.declared.Relation.{Relation}
use Rattle.conversation_laws.specs.Steady.{IsCalledSoFar}
use Rattle.conversation_laws.proofs.CallsGoOn.{calls_go_on}
use Rattle.conversation_laws.proofs.Scripted.{scripts_agree}
use Rattle.conversation_laws.proofs.TableSteady.{whole_steady}
use Rattle.session_replay.specs.declared.verdict.Verdict.{Verdict}
use Rattle.session_replay.specs.declared.verdict.Verdict.TheVariants.{Same, Calls, Replies, End}
use Rattle.session_replay.specs.Verdicts.{IsReplay, IsVerdict, IsVerdictOn, IsVerdictSoFar, DiffersAt}
use Rattle.session_replay.proofs.Differing.{differs_behind, ended_front}
use Rattle.session_replay.proofs.Replays.{a_replay}

-- a script is told by its numbers
pub one_script : (script others : List Bool) → origin_of script ≡ origin_of others → script ≡ others
one_script [] [] e = refl
one_script [] (y ∷ others) e = cc
one_script (x ∷ script) [] e = cc
one_script (true ∷ script) (true ∷ others) e = ap (λ l. true ∷ l) (one_script script others (ap (drop 1) e))
one_script (false ∷ script) (false ∷ others) e = ap (λ l. false ∷ l) (one_script script others (ap (drop 1) e))
one_script (true ∷ script) (false ∷ others) e = cc
one_script (false ∷ script) (true ∷ others) e = cc

-- the calls of a registry that answers by a script
pub scripted_calls : (script left recorded : List Bool) (calls made : List DeskCall) → IsScripted script left calls → script ≡ recorded
    → made ≡ calls
    → answers_of made ≡ scripted recorded (length (answers_of made))
scripted_calls script left recorded calls made is same e =
    subst (λ k. answers_of k ≡ scripted recorded (length (answers_of k))) (sym e)
    (is.answered ∙ ap (λ l. scripted l (length (answers_of calls))) same)

-- ---- turns

-- where all turns were spent, more was asked than is recorded
pub asked_more : (answer : Result EndKind ServeError) (client : List ℕ) (new_left : Option (List ℕ)) (turns recorded asked : ℕ)
    (before after : Counts) → before.reads ≡ 0 → turns ≡ length client + 1 + recorded → turns < 2 ^ 64
    → ReadsGaveBytes (Some client) new_left before.reads after.reads → HasCause answer turns asked before after
    → IsErrOf answer fault.TurnLimit → recorded < asked
asked_more answer client new_left turns recorded asked before after none is fits gave cause limit =
    spent (subst (λ x. HasCause x turns asked before after) limit cause)
  where
    spent : HasCause (Err fault.TurnLimit) turns asked before after → recorded < asked
    spent all =
        let few : before.reads + turns < 2 ^ 64 = omega (arith, none, fits) in
        let came = all few in
        omega (arith, none, is, gave.2, came)

-- more questions than are recorded stand at a place where the recorded calls are others
pub inside : (made told : List DeskCall) (place : ℕ) → DiffersAt made told place → questions told < questions made → place < length made
inside made told place d more =
    ⊎_elim (λ less. less)
    (λ past.
    let count : questions told ≡ questions (made ++ drop place told) = ap questions (ended_front made told place d past) in
    let parts = questions-append made (drop place told) in
    absurd (omega (arith, count, parts, more)))
    (cases_lt place (length made))

-- ---- verdicts

same_bytes : (bytes replies : List ℕ) → Some bytes ≡ Some replies → bytes ≡ replies
same_bytes bytes replies e = cc

-- what went so, by equal bytes, calls and registration
pub went_by : (relations : List Relation) (answer : Result EndKind ServeError) (new_left : Option (List ℕ)) (pid own_pid : ℤ)
    (key own_key client text before bytes written : List ℕ) (calls made : List DeskCall) → own_pid ≡ pid → own_key ≡ key → text ≡ client
    → before ≡ [] → bytes ≡ written → calls ≡ made
    → WentByWhole relations (own_pid, own_key) answer (Some text) new_left (Some before) (Some written) made
    → WentByWhole relations (pid, key) answer (Some client) new_left (Some []) (Some bytes) calls
went_by relations answer new_left pid own_pid key own_key client text before bytes written calls made p k t b w c went =
    subst (λ x. WentByWhole relations (pid, key) answer (Some client) new_left (Some []) (Some bytes) x) (sym c)
    (subst (λ x. WentByWhole relations (pid, key) answer (Some client) new_left (Some []) (Some x) made) (sym w)
    (subst (λ x. WentByWhole relations (pid, key) answer (Some client) new_left (Some x) (Some written) made) b
    (subst (λ x. WentByWhole relations (pid, key) answer (Some x) new_left (Some before) (Some written) made) t
    (subst (λ x. WentByWhole relations (pid, x) answer (Some text) new_left (Some before) (Some written) made) k
    (subst (λ x. WentByWhole relations (x, own_key) answer (Some text) new_left (Some before) (Some written) made) p went)))))

module _ (relations : List Relation) (r : Recording) where
  -- the calls of a front of the client's bytes, under the recorded answers
  pub verdict_so_far : (taken rest : List ℕ) (made : List DeskCall) → r.client ≡ taken ++ rest
      → IsCalledSoFar (whole_rules (relation_handlers relations)) (first_state r.pid r.key) taken made
      → answers_of made ≡ scripted (answers_of r.calls) (length (answers_of made))
      → (verdict : Verdict) → IsVerdictSoFar r made verdict → IsVerdictOn relations r verdict
  verdict_so_far taken rest made all so_far answered (Calls place) v =
      let h = relation_handlers relations in
      let p = a_replay relations r in
      let run = subst (λ text. IsRun (whole_rules h) (first_state r.pid r.key) text p.0 p.1 p.2) all p.3.run in
      let begins = calls_go_on (whole_rules h) (whole_lawful h) (whole_steady h) (first_state r.pid r.key) taken rest p.0 made p.1 p.2
      so_far run (scripts_agree (answers_of r.calls) (answers_of p.1) (answers_of made) p.3.answered answered) in (
        p.0,
        p.1,
        p.2,
        p.3,
        subst (λ calls. DiffersAt calls r.calls place) (sym begins.1) (differs_behind made begins.0 r.calls place v.0 v.1),
      )
  verdict_so_far taken rest made all so_far answered Same v = absurd v
  verdict_so_far taken rest made all so_far answered (Replies place) v = absurd v
  verdict_so_far taken rest made all so_far answered (End kind) v = absurd v

  module _ (new_left : Option (List ℕ)) (bytes : List ℕ) (calls : List DeskCall)
      (answered : answers_of calls ≡ scripted (answers_of r.calls) (length (answers_of calls))) where
    -- the replay came to its end
    by_end : (kind : EndKind) → WentByWhole relations (r.pid, r.key) (Ok kind) (Some r.client) new_left (Some []) (Some bytes) calls
        → IsReplay relations r bytes calls kind
    by_end kind went =
        let rules = whole_rules (relation_handlers relations) in
        let first = first_state r.pid r.key in
        let same : bytes ≡ went.2.0 = same_bytes bytes went.2.0 went.2.1 in
        record {
          run = subst (λ b. IsRun rules first r.client b calls kind) (sym same)
              (subst (λ text. IsRun rules first text went.2.0 calls kind) went.1 went.2.2);
          answered = answered;
        }

    -- it spent all turns
    by_turns : WentByWhole relations (r.pid, r.key) (Err fault.TurnLimit) (Some r.client) new_left (Some []) (Some bytes) calls
        → (verdict : Verdict) → IsVerdictSoFar r calls verdict → IsVerdictOn relations r verdict
    by_turns (inl went) = verdict_so_far went.0 went.1.0 calls went.1.1
        (record {
          messages = went.2.2.fed.messages;
          rest = went.2.2.rest;
          division = went.2.2.fed.division;
          called = ap (λ a. a.calls) went.2.2.fed.answered;
        })
        answered
    by_turns (inr went) = verdict_so_far went.0 went.1.0 calls went.1.1
        (record {
          messages = went.2.2.messages;
          rest = went.2.2.rest;
          division = went.2.2.division;
          called = ap (λ a. a.calls) went.2.2.answered;
        })
        answered

    -- what is judged by the answer is the verdict on the recording
    pub judged : {E : Type 0} (answer : Result EndKind ServeError) (result : Result Verdict E)
        → WentByWhole relations (r.pid, r.key) answer (Some r.client) new_left (Some []) (Some bytes) calls
        → IfOk answer (λ kind. IfOk result (IsVerdict r bytes calls kind))
        → (IsErrOf answer fault.TurnLimit → IfOk result (IsVerdictSoFar r calls))
        → (IsErr answer → ¬ IsErrOf answer fault.TurnLimit → IsErr result) → IfOk result (IsVerdictOn relations r)
    judged answer (Err e) went ended spent given_up = tt
    judged (Ok kind) (Ok verdict) went ended spent given_up = (bytes, calls, kind, by_end kind went, ended)
    judged (Err fault.TurnLimit) (Ok verdict) went ended spent given_up = by_turns went verdict (spent refl)
    judged (Err fault.ReadFault) (Ok verdict) went ended spent given_up = let none = given_up refl (λ e. cc) in cc
    judged (Err fault.WriteFault) (Ok verdict) went ended spent given_up = let none = given_up refl (λ e. cc) in cc
    judged (Err fault.NoMemory) (Ok verdict) went ended spent given_up = let none = given_up refl (λ e. cc) in cc
