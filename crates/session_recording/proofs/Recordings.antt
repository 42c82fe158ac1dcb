-- From what was kept of a session to its recording.
use Rattle.std.proofs.Common.{◌≡◌, ℕ, ℤ, ◌+◌, ◌≤◌, ◌<◌, ◌∙◌, min, max, Bool, true, false, List, ◌++◌, [], Option, Some, None, Result, Ok, Err, refl, append-nil, ap, sym, subst, length, take, drop, replicate, arith}
use Rattle.std.specs.Prelude.{IfSome, IfOk, IfErr, ◌^◌}
use Rattle.std.proofs.lemmas.List.{take-append-drop, append_cancel_left, append_cancel_right, length-replicate, length-take, take_all}
use Rattle.pg_client.specs.declared.desk.DeskCall.{DeskCall}
use Rattle.pg_client.specs.declared.ends.EndKind.{EndKind}
use Rattle.pg_client.specs.State.{first_state}
use Rattle.conversation_runs.specs.declared.ends.ServeError.{ServeError}
use Rattle.conversation_runs.specs.Run.{IsRun}
use Rattle.conversation_runs.specs.Session.{whole_rules}
use Rattle.conversation_runs.specs.Streams.{GrowsBy}
use Rattle.pg_engine.specs.Serving.{TakesFrom, IsRunOverTaken}
use Rattle.session_recording.specs.Kept.{IsCountedBy, IsTakenOf, IsSentTo, Rose, RoseBy, Stayed, behind, counted, gone}
use Rattle.recording_text.specs.declared.recording.Recording.{Recording}
use Rattle.relation_tables.specs.RelationHandler.{relation_handlers}
use Rattle.relation_tables.specs.declared.Relation.{Relation}
use Rattle.replay_streams.specs.RecordedRuns.{IsRecordedRun}
use Rattle.session_recording.specs.declared.error.RecordError.{RecordError}
use Rattle.session_recording.specs.declared.error.RecordError.TheVariants as refusal
use Rattle.session_recording.specs.declared.recorder.Kept.{Kept}
use Rattle.session_recording.specs.Making.{HadRoomFor, IsMadeOf, IsRefusedOf}
use Rattle.session_recording.specs.Recorded.{HadNoRoom, HadRoom, HasPassed, IsFaithful, IsRecorded, IsRecordingOf, IsSent, Passage, needed}

-- ---- what has passed

-- bytes that a source gave, as many as were counted
record Taken (left new_left : Option (List ℕ)) (count : ℕ) : Type 0 where
  bytes : List ℕ
  taken : TakesFrom left new_left bytes
  number : count ≡ counted (length bytes)

taken_of : (left new_left : Option (List ℕ)) (room : ℕ) (kept : List ℕ) (count : ℕ) → count < 2 ^ 64
    → IfSome left (λ text. IsTakenOf text new_left room kept count) → Taken left new_left count
taken_of None new_left room kept count small t = record {
  bytes = replicate count 0;
  taken = tt;
  number = let l : length (replicate {A = ℕ} count 0) ≡ count = length-replicate count 0 in omega (arith, l, small);
}
taken_of (Some text) new_left room kept count small t = record {
  bytes = take (gone text new_left) text;
  taken = (drop (gone text new_left) text, sym (take-append-drop (gone text new_left) text), t.rest);
  number = t.number;
}

-- where there was room for all of them, they were kept
all_taken : (left new_left : Option (List ℕ)) (room : ℕ) (kept : List ℕ) (count : ℕ) → room < 2 ^ 63 → count ≤ room
    → IfSome left (λ text. IsTakenOf text new_left room kept count) → TakesFrom left new_left kept
all_taken None new_left room kept count small fits t = tt
all_taken (Some text) new_left room kept count small fits t =
    let bytes = take (gone text new_left) text in
    let few : length bytes ≤ room = omega (arith, t.number, small, fits) in
    subst (λ b. TakesFrom (Some text) new_left b) (sym (t.front ∙ take_all room bytes few))
    (drop (gone text new_left) text, sym (take-append-drop (gone text new_left) text), t.rest)

-- bytes that were sent, as many as were counted
record Sent (p : Passage) (count : ℕ) : Type 0 where
  bytes : List ℕ
  sent : IsSent p bytes
  number : count ≡ counted (length bytes)

-- the count of as many bytes as were counted
rose_by : (n l old new : ℕ) → n ≡ counted l → RoseBy n old new → RoseBy l old new
rose_by n l old new e r h =
    let k : n ≡ min l 18446744073709551615 = e in
    let same : n ≡ l = omega (arith, k, h) in
    let few : old + n < 18446744073709551616 = omega (arith, same, h) in
    r few ∙ ap (λ m. old + m) same

-- a send was refused, and none seems to have been
not_stayed : (old new : ℕ) → Rose old new → ¬ Stayed old new
not_stayed old new r s = let n = r s.0 in let e = s.1 in omega (arith, n, e)

abbrev of_parts : Option (List ℕ) → Option (List ℕ) → Option (List ℕ) → Option (List ℕ) → ℕ → ℕ → ℕ → ℕ → Passage
of_parts left new_left old new refused new_refused sent new_sent = record {
  left = left;
  new_left = new_left;
  written = old;
  new_written = new;
  refused = refused;
  new_refused = new_refused;
  sent = sent;
  new_sent = new_sent;
}

sent_of : (left new_left old new : Option (List ℕ)) (refused new_refused sent new_sent room : ℕ) (kept : List ℕ) (count : ℕ)
    (has_refused : Bool) → count < 2 ^ 64 → IfSome old (λ first. IsSentTo first new room kept count has_refused)
    → IsCountedBy count has_refused sent new_sent refused new_refused
    → Sent (of_parts left new_left old new refused new_refused sent new_sent) count
sent_of left new_left None new refused new_refused sent new_sent room kept count has_refused small s c =
    let l : length (replicate {A = ℕ} count 0) ≡ count = length-replicate count 0 in
    let number : count ≡ counted (length (replicate {A = ℕ} count 0)) = omega (arith, l, small) in record {
      bytes = replicate count 0;
      sent = record {
        number = rose_by count (length (replicate {A = ℕ} count 0)) sent new_sent number c.number;
        first = ([], tt);
        nothing_else = λ h. tt;
      };
      number = number;
    }
sent_of left new_left (Some first) new refused new_refused sent new_sent room kept count true small s c =
    let all = behind first new in
    let w = s.within in
    let t = length-take count all in
    let number : count ≡ counted (length (take count all)) = omega (arith, t, w, small) in record {
      bytes = take count all;
      sent = record {
        number = rose_by count (length (take count all)) sent new_sent number c.number;
        first = (drop count all, s.grown ∙ ap (λ l. Some (first ++ l)) (sym (take-append-drop count all)));
        nothing_else = λ h. absurd (not_stayed refused new_refused (c.some refl) h);
      };
      number = number;
    }
sent_of left new_left (Some first) new refused new_refused sent new_sent room kept count false small s c =
    let all = behind first new in record {
      bytes = all;
      sent = record {
        number = rose_by count (length all) sent new_sent (s.number refl) c.number;
        first = ([], s.grown ∙ ap (λ l. Some (first ++ l)) (sym (append-nil all)));
        nothing_else = λ h. s.grown;
      };
      number = s.number refl;
    }

-- where there was room for all of them and no send was refused, they were kept
all_sent : (old new : Option (List ℕ)) (room : ℕ) (kept : List ℕ) (count : ℕ) (has_refused : Bool) → room < 2 ^ 63 → count ≤ room
    → has_refused ≡ false → IfSome old (λ first. IsSentTo first new room kept count has_refused) → GrowsBy old new kept
all_sent None new room kept count has_refused small fits h s = tt
all_sent (Some first) new room kept count has_refused small fits h s =
    let all = behind first new in
    let number = s.number h in
    let few : length all ≤ room = omega (arith, number, small, fits) in
    s.grown ∙ ap (λ b. Some (first ++ b)) (sym (s.front h ∙ take_all room all few))

counted_max : (n m : ℕ) → max (counted n) (counted m) ≡ counted (max n m)
counted_max n m = let e : max (min n 18446744073709551615) (min m 18446744073709551615) ≡ min (max n m) 18446744073709551615 = omega arith in e

-- ---- the recording, or why there is none

module _ (registration : ℤ × List ℕ) (room : ℕ) (kept : Kept) (left new_left old new : Option (List ℕ))
    (refused new_refused sent_before sent_after : ℕ) (small : room < 2 ^ 63)
    (few_taken : kept.client.count < 2 ^ 64) (few_sent : kept.replies.count < 2 ^ 64)
    (client_within : length kept.client.bytes.items ≤ room)
    (replies_measured : length kept.replies.bytes.items ≡ min room kept.replies.count)
    (client : IfSome left (λ text. IsTakenOf text new_left room kept.client.bytes.items kept.client.count))
    (replies : IfSome old (λ first. IsSentTo first new room kept.replies.bytes.items kept.replies.count kept.has_refused))
    (agreed : IsCountedBy kept.replies.count kept.has_refused sent_before sent_after refused new_refused) where
  abbrev here : Passage
  here = of_parts left new_left old new refused new_refused sent_before sent_after

  -- these bytes have passed, and so many there have to be room for
  record Passed : Type 0 where
    taken : List ℕ
    sent : List ℕ
    passed : HasPassed here taken sent
    number : max kept.client.count kept.replies.count ≡ needed taken sent

  passed_so : Passed
  passed_so =
      let t = taken_of left new_left room kept.client.bytes.items kept.client.count few_taken client in
      let s = sent_of left new_left old new refused new_refused sent_before sent_after room kept.replies.bytes.items kept.replies.count
      kept.has_refused few_sent replies agreed in record {
        taken = t.bytes;
        sent = s.bytes;
        passed = record { from_source = t.taken; to_sink = s.sent };
        number = ap (λ n. max n kept.replies.count) t.number ∙ ap (λ n. max (counted (length t.bytes)) n) s.number
            ∙ counted_max (length t.bytes) (length s.bytes);
      }

  made_so : (kind : EndKind) (r : Recording) → IsMadeOf (Ok kind) room registration.0 registration.1 kept r
      → IsRecordingOf registration kind here kept.calls.items r × (length r.client ≤ room) × (length r.replies ≤ room)
  made_so kind r m =
      let fits = m.sent in
      let long : length kept.replies.bytes.items ≡ kept.replies.count = omega (arith, replies_measured, fits) in
      let short : length kept.replies.bytes.items ≤ room = omega (arith, long, fits) in (
        record {
          pid = m.pid;
          key = m.key;
          client = subst (λ b. TakesFrom left new_left b) (sym m.client)
              (all_taken left new_left room kept.client.bytes.items kept.client.count small m.taken client);
          calls = m.calls;
          replies = subst (λ b. GrowsBy old new b) (sym m.replies)
              (all_sent old new room kept.replies.bytes.items kept.replies.count kept.has_refused small m.sent m.accepted replies);
          number = subst (λ b. RoseBy (length b) sent_before sent_after) (sym m.replies)
              (subst (λ n. RoseBy n sent_before sent_after) (sym long) agreed.number);
          none_refused = agreed.none m.accepted;
          kind = let e = m.answered in cc;
        },
        subst (λ b. length b ≤ room) (sym m.client) client_within,
        subst (λ b. length b ≤ room) (sym m.replies) short,
      )

  too_long_so : (n : ℕ) → n ≡ max kept.client.count kept.replies.count → room < n → HadNoRoom n room here
  too_long_so n is past = let b = passed_so in (b.taken, (b.sent, b.passed, is ∙ b.number, past))

  had_room_so : HadRoomFor room kept → HadRoom room here
  had_room_so h =
      let b = passed_so in
      let t = h.0 in
      let s = h.1 in
      let fits : needed b.taken b.sent ≤ room = omega (arith, b.number, t, s) in (b.taken, (b.sent, b.passed, fits))

  pub recorded_so : (answer : Result EndKind ServeError) (result : Result Recording RecordError)
      → IfOk result (IsMadeOf answer room registration.0 registration.1 kept) → IfErr result (IsRefusedOf answer room kept)
      → IsRecorded registration room answer result here kept.calls.items
  recorded_so (Ok kind) (Ok r) m f = made_so kind r m
  recorded_so (Err e) (Ok r) m f = let a = m.answered in absurd (let n : ⊥ = cc in n)
  recorded_so (Ok kind) (Err (refusal.TooLong n)) m f = too_long_so n f.0 f.1
  recorded_so (Err e) (Err (refusal.TooLong n)) m f = too_long_so n f.0 f.1
  recorded_so (Ok kind) (Err refusal.Unended) m f = f
  recorded_so (Err e) (Err refusal.Unended) m f = had_room_so f
  recorded_so (Ok kind) (Err refusal.NoMemory) m f = (had_room_so f.0, agreed.some f.1)
  recorded_so (Err e) (Err refusal.NoMemory) m f = absurd f

-- ---- a recording is that of a run

faithful_so : (relations : List Relation) (registration : ℤ × List ℕ) (kind : EndKind) (left new_left old new : Option (List ℕ))
    (calls new_calls made : List DeskCall) (r : Recording) → new_calls ≡ calls ++ made
    → r.pid ≡ registration.0 → r.key ≡ registration.1 → r.calls ≡ made → r.end ≡ kind
    → TakesFrom left new_left r.client → GrowsBy old new r.replies
    → IsRunOverTaken (whole_rules (relation_handlers relations)) (first_state registration.0 registration.1) left new_left old new
    calls new_calls kind
    → IfSome left (λ text. IfSome old (λ before. IsRecordedRun relations r))
faithful_so relations registration kind None new_left old new calls new_calls made r grown pid key same_made end client sent run = tt
faithful_so relations registration kind (Some text) new_left None new calls new_calls made r grown pid key same_made end client sent run = tt
faithful_so relations registration kind (Some text) new_left (Some before) new calls new_calls made r grown pid key same_made end client sent run =
    let rules = whole_rules (relation_handlers relations) in
    let taken = run.0 in
    let takes = run.1 in
    let called = run.2.0 in
    let replies = run.2.2.0 in
    let same_rest : client.0 ≡ takes.0 = let a = client.2 in let b = takes.2 in cc in
    let same_text : taken ≡ r.client =
    append_cancel_right taken r.client client.0 (ap (λ l. taken ++ l) same_rest ∙ sym takes.1 ∙ client.1) in
    let same_written : replies ≡ r.replies =
    append_cancel_left before replies r.replies (let a = run.2.2.1 in let b = sent in cc) in
    let same_calls : called ≡ r.calls = append_cancel_left calls called made (sym run.2.1 ∙ grown) ∙ sym same_made in
    subst (λ s. IsRun rules s r.client r.replies r.calls r.end)
    (ap (λ p. first_state p registration.1) (sym pid) ∙ ap (λ k. first_state r.pid k) (sym key))
    (subst (λ e. IsRun rules (first_state registration.0 registration.1) r.client r.replies r.calls e) (sym end)
    (subst (λ c. IsRun rules (first_state registration.0 registration.1) r.client r.replies c kind) same_calls
    (subst (λ b. IsRun rules (first_state registration.0 registration.1) r.client b called kind) same_written
    (subst (λ t. IsRun rules (first_state registration.0 registration.1) t replies called kind) same_text run.2.2.2))))

pub faithful_answer : (relations : List Relation) (registration : ℤ × List ℕ) (room : ℕ) (answer : Result EndKind ServeError)
    (result : Result Recording RecordError) (p : Passage) (calls new_calls made : List DeskCall) → new_calls ≡ calls ++ made
    → IsRecorded registration room answer result p made
    → IfOk answer (IsRunOverTaken (whole_rules (relation_handlers relations)) (first_state registration.0 registration.1) p.left p.new_left
    p.written p.new_written calls new_calls)
    → IsFaithful relations p result
faithful_answer relations registration room (Ok kind) (Ok r) p calls new_calls made grown recorded run =
    let m = recorded.0 in
    faithful_so relations registration kind p.left p.new_left p.written p.new_written calls new_calls made r grown m.pid m.key m.calls m.kind
    m.client m.replies run
faithful_answer relations registration room (Err e) (Ok r) p calls new_calls made grown recorded run = absurd recorded
faithful_answer relations registration room answer (Err e) p calls new_calls made grown recorded run = tt

-- ---- what is known of recorders that were lent and are given back

pub taken_again : (left first now last : Option (List ℕ)) (room same_room : ℕ) (kept : List ℕ) (count : ℕ) → first ≡ left
    → same_room ≡ room → last ≡ now → IfSome first (λ text. IsTakenOf text now same_room kept count)
    → IfSome left (λ text. IsTakenOf text last room kept count)
taken_again left first now last room same_room kept count e f h t =
    subst (λ o. IfSome o (λ text. IsTakenOf text last room kept count)) e
    (subst (λ r. IfSome first (λ text. IsTakenOf text last r kept count)) f
    (subst (λ o. IfSome first (λ text. IsTakenOf text o same_room kept count)) (sym h) t))

pub sent_again : (old first now last : Option (List ℕ)) (room same_room : ℕ) (kept : List ℕ) (count : ℕ) (has_refused : Bool)
    → first ≡ old → same_room ≡ room → last ≡ now → IfSome first (λ b. IsSentTo b now same_room kept count has_refused)
    → IfSome old (λ b. IsSentTo b last room kept count has_refused)
sent_again old first now last room same_room kept count has_refused e f h s =
    subst (λ o. IfSome o (λ b. IsSentTo b last room kept count has_refused)) e
    (subst (λ r. IfSome first (λ b. IsSentTo b last r kept count has_refused)) f
    (subst (λ o. IfSome first (λ b. IsSentTo b o same_room kept count has_refused)) (sym h) s))

pub counted_again : (count : ℕ) (has_refused : Bool) (sent sent_first sent_now sent_last refused refused_first refused_now refused_last : ℕ)
    → sent_first ≡ sent → sent_last ≡ sent_now → refused_first ≡ refused → refused_last ≡ refused_now
    → IsCountedBy count has_refused sent_first sent_now refused_first refused_now
    → IsCountedBy count has_refused sent sent_last refused refused_last
counted_again count has_refused sent sent_first sent_now sent_last refused refused_first refused_now refused_last a b c d s =
    subst (λ n. IsCountedBy count has_refused n sent_last refused refused_last) a
    (subst (λ n. IsCountedBy count has_refused sent_first n refused refused_last) (sym b)
    (subst (λ n. IsCountedBy count has_refused sent_first sent_now n refused_last) c
    (subst (λ n. IsCountedBy count has_refused sent_first sent_now refused_first n) (sym d) s)))

-- what holds of a desk, a source and a sink before and after holds of those that are the same
pub of_same : {D S K : Type 0} (P : D → D → S → S → K → K → Type 0) (d d' e e' : D) (s s' t t' : S) (k k' l l' : K) → d ≡ d' → e ≡ e'
    → s ≡ s' → t ≡ t' → k ≡ k' → l ≡ l' → P d e s t k l → P d' e' s' t' k' l'
of_same P d d' e e' s s' t t' k k' l l' p q r u v w x =
    subst (λ z. P z e' s' t' k' l') p (subst (λ z. P d z s' t' k' l') q (subst (λ z. P d e z t' k' l') r
    (subst (λ z. P d e s z k' l') u (subst (λ z. P d e s t z l') v (subst (λ z. P d e s t k z) w x)))))
