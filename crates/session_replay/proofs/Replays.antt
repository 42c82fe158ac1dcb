-- There is one replay of a recording, and a recorded run is it.
use Rattle.std.proofs.Common.{◌≡◌, ◌↔◌, ℕ, List, inl, inr, refl, sym, subst}
use Rattle.pg_client.specs.declared.desk.DeskCall.{DeskCall}
use Rattle.pg_client.specs.declared.ends.EndKind.{EndKind}
use Rattle.pg_client.specs.Answer.{answers_of}
use Rattle.pg_client.specs.State.{first_state}
use Rattle.conversation_runs.specs.Run.{IsRun}
use Rattle.conversation_runs.specs.Session.{whole_rules}
use Rattle.conversation_runs.proofs.Answering.{whole_lawful}
use Rattle.recording_text.specs.declared.recording.Recording.{Recording}
use Rattle.relation_tables.specs.RelationHandler.{relation_handlers}
use Rattle.relation_tables.specs.declared.Relation.{Relation}
use Rattle.replay_streams.specs.RecordedRuns.{IsRecordedRun}
use Rattle.conversation_laws.specs.Steady.{AgreeAsFar}
use Rattle.conversation_laws.proofs.OneRun.{one_run}
use Rattle.conversation_laws.proofs.Scripted.{scripted_all, scripts_agree}
use Rattle.conversation_laws.proofs.SomeRun.{scripted_run}
use Rattle.conversation_laws.proofs.TableSteady.{whole_steady}
use Rattle.session_replay.specs.declared.verdict.Verdict.{Verdict}
use Rattle.session_replay.specs.declared.verdict.Verdict.TheVariants.{Same, Calls, Replies, End}
use Rattle.session_replay.specs.Verdicts.{IsReplay, IsVerdict, IsVerdictOn}
use Rattle.session_replay.proofs.Differing.{differs_nowhere}

module _ (relations : List Relation) (r : Recording) where
  alike : (b c : List ℕ) (calls made : List DeskCall) (k l : EndKind) → IsReplay relations r b calls k → IsReplay relations r c made l
      → AgreeAsFar (answers_of made) (answers_of calls) → (b ≡ c) × (calls ≡ made) × (k ≡ l)
  alike b c calls made k l p q (inl e) =
      one_run (whole_rules (relation_handlers relations)) (whole_lawful (relation_handlers relations)) (first_state r.pid r.key)
      r.client b c calls made k l e.0 p.run q.run e.1
  alike b c calls made k l p q (inr e) =
      let s = one_run (whole_rules (relation_handlers relations)) (whole_lawful (relation_handlers relations)) (first_state r.pid r.key)
      r.client c b made calls l k e.0 q.run p.run e.1 in
      (sym s.0, sym s.1, sym s.2)

  pub one_replay : (b c : List ℕ) (calls made : List DeskCall) (k l : EndKind) → IsReplay relations r b calls k
      → IsReplay relations r c made l → (b ≡ c) × (calls ≡ made) × (k ≡ l)
  one_replay b c calls made k l p q =
      alike b c calls made k l p q (scripts_agree (answers_of r.calls) (answers_of made) (answers_of calls) q.answered p.answered)

  -- a recorded run is the recording's replay
  pub own_replay : IsRecordedRun relations r → IsReplay relations r r.replies r.calls r.end
  own_replay run = record { run = run; answered = sym (scripted_all (answers_of r.calls)) }

  -- there is a replay
  pub a_replay : (replies : List ℕ) × (calls : List DeskCall) × (kind : EndKind) × IsReplay relations r replies calls kind
  a_replay =
      let h = relation_handlers relations in
      let s = scripted_run (whole_rules h) (whole_lawful h) (whole_steady h) (first_state r.pid r.key) r.client (answers_of r.calls) in
      (s.0, s.1, s.2, record { run = s.3; answered = s.4 })

  -- the verdict on a recording is that of whatever is its replay
  pub verdict_of_each : (verdict : Verdict) → IsVerdictOn relations r verdict → (replies : List ℕ) (calls : List DeskCall) (kind : EndKind)
      → IsReplay relations r replies calls kind → IsVerdict r replies calls kind verdict
  verdict_of_each verdict v replies calls kind q =
      let one = one_replay v.0 replies v.1 calls v.2 kind v.3 q in
      subst (λ k. IsVerdict r replies calls k verdict) one.2
      (subst (λ cs. IsVerdict r replies cs v.2 verdict) one.1 (subst (λ b. IsVerdict r b v.1 v.2 verdict) one.0 v.4))

  -- the recording's own replies, calls and end say that it is the same
  own_is_same : (verdict : Verdict) → IsVerdict r r.replies r.calls r.end verdict → verdict ≡ Same
  own_is_same Same v = refl
  own_is_same (Calls place) v = absurd (differs_nowhere r.calls r.calls place refl v)
  own_is_same (Replies place) v = absurd (differs_nowhere r.replies r.replies place refl v.1)
  own_is_same (End kind) v = absurd (v.3 refl)

  run_where_same : (verdict : Verdict) → verdict ≡ Same → IsVerdictOn relations r verdict → IsRecordedRun relations r
  run_where_same verdict e v = of_same (subst (IsVerdictOn relations r) e v)
    where
      of_same : IsVerdictOn relations r Same → IsRecordedRun relations r
      of_same w =
          let rules = whole_rules (relation_handlers relations) in
          let first = first_state r.pid r.key in
          subst (λ k. IsRun rules first r.client r.replies r.calls k) w.4.2
          (subst (λ b. IsRun rules first r.client b r.calls w.2) w.4.1
          (subst (λ cs. IsRun rules first r.client w.0 cs w.2) w.4.0 w.3.run))

  -- it is the same exactly where it is that of a run
  pub same_exactly : (verdict : Verdict) → IsVerdictOn relations r verdict → (verdict ≡ Same) ↔ IsRecordedRun relations r
  same_exactly verdict v = (
    λ e. run_where_same verdict e v,
    λ run. own_is_same verdict (verdict_of_each verdict v r.replies r.calls r.end (own_replay run)),
  )
