-- Recordings: what is read has the bytes as its text, and what has them as its text is read.
use Rattle.std.proofs.Common.{◌≡◌, ℕ, ℤ, ◌-◌, ◌^◌, ◌<◌, cond, eqb, List, [], ◌∷◌, ◌++◌, length, Result, Ok, Err, refl, sym, ap, subst, ◌∙◌, arith, inl, inr}
use Rattle.std.specs.Prelude.{FitsSigned, IfOk}
use Rattle.std.specs.List.{AllByRecursion}
use Rattle.std.specs.Int.{w32}
use Rattle.std.proofs.lemmas.Bool.{eqb-true}
use Rattle.std.proofs.lemmas.List.{append-nil, nil_from_length}
use Rattle.pg_messages.specs.Fields.{int32, count32}
use Rattle.pg_messages.proofs.Laws.{IsBytes}
use Rattle.pg_messages.proofs.FieldLaws.{wide32}
use Rattle.pg_client.specs.declared.desk.DeskCall.{DeskCall}
use Rattle.pg_client.specs.declared.ends.EndKind.{EndKind}
use Rattle.recording_text.specs.declared.recording.Recording.{Recording}
use Rattle.recording_text.specs.declared.recording.ReadError.{ReadError}
use Rattle.recording_text.specs.declared.recording.ReadError.TheVariants.{Truncated, BadField, Trailing, NoMemory}
use Rattle.recording_text.specs.Text.{tag, key_text, bytes_text, calls_text, end_byte, recording_text, IsKey, IsCall, IsRecordable}
use Rattle.recording_text.specs.Judging.{◌>>=◌, AnswersUnlessNoMemory, Gives, Parts, tag_at, signed_at, key_at, counted_at, calls_at, end_at, parts_at, recording_of, judged}
use Rattle.recording_text.proofs.Laws.{Reads, bind_ok, pass_ok, Reads-both}
use Rattle.recording_text.proofs.FieldLaws.{Reads-signed, Reads-this, Reads-key, Reads-counted, Reads-calls, Reads-end}

abbrev AreCalls : List DeskCall → Type 0
AreCalls calls = (length calls < 2 ^ 32) × AllByRecursion IsCall calls

abbrev IsCounted : List ℕ → Type 0
IsCounted bytes = length bytes < 2 ^ 64

abbrev AreParts : Parts → Type 0
AreParts p = (((((((p.0.0.0.0.0.0 ≡ tag) × FitsSigned w32 p.0.0.0.0.0.1) × IsKey p.0.0.0.0.1) × IsCounted p.0.0.0.1) × AreCalls p.0.0.1)
    × IsCounted p.0.1) × Unit {0})

abbrev parts_text : Parts → List ℕ
parts_text p = count32 p.0.0.0.0.0.0 ++ int32 p.0.0.0.0.0.1 ++ key_text p.0.0.0.0.1 ++ bytes_text p.0.0.0.1 ++ calls_text p.0.0.1
    ++ bytes_text p.0.1 ++ end_byte p.1 ∷ []

Reads-parts : (all : ℕ) → Reads AreParts parts_text (parts_at all)
unfolding parts_at
Reads-parts all =
    Reads-both _ (λ (kind : EndKind). Unit {0}) _ (λ (kind : EndKind). end_byte kind ∷ []) _ (end_at all)
    (Reads-both _ IsCounted _ bytes_text _ counted_at
    (Reads-both _ AreCalls _ calls_text _ (calls_at all)
    (Reads-both _ IsCounted _ bytes_text _ counted_at
    (Reads-both _ IsKey _ key_text _ (key_at all)
    (Reads-both (λ (n : ℕ). n ≡ tag) (λ (z : ℤ). FitsSigned w32 z) (λ (n : ℕ). count32 n) (λ (z : ℤ). int32 z) (tag_at all) (signed_at w32)
    (Reads-this w32 (2 ^ 32) wide32 tag all (omega arith)) (Reads-signed w32 wide32))
    (Reads-key all)) Reads-counted) (Reads-calls all)) Reads-counted) (Reads-end all)

abbrev parts_of : Recording → Parts
parts_of r = ((((((tag, r.pid), r.key), r.client), r.calls), r.replies), r.end)

pub judged_takes : (bytes : List ℕ) (r : Recording) → IsBytes bytes → judged bytes ≡ Ok r → IsRecordable r × (bytes ≡ recording_text r)
unfolding judged
judged_takes bytes r fits e =
    let all = length bytes in
    let a = bind_ok (parts_at all bytes) (λ x. cond (eqb (length x.1) 0) (Ok (recording_of x.0)) (Err (Trailing (all - length x.1)))) r e in
    let g = pass_ok (eqb (length a.0.1) 0) (Trailing (all - length a.0.1)) (recording_of a.0.0) r a.2 in
    let t = (Reads-parts all).takes bytes a.0.0 a.0.1 fits a.1 in
    let p = a.0.0 in
    let good = t.1 in
    let nothing : a.0.1 ≡ [] = nil_from_length a.0.1 (eqb-true _ _ g.0) in
    let all_parts : bytes ≡ parts_text p = t.0 ∙ ap (λ (x : List ℕ). parts_text p ++ x) nothing ∙ append-nil (parts_text p) in
    let spelled : bytes ≡ recording_text (recording_of p) =
    all_parts ∙ ap (λ (n : ℕ). count32 n ++ int32 p.0.0.0.0.0.1 ++ key_text p.0.0.0.0.1 ++ bytes_text p.0.0.0.1 ++ calls_text p.0.0.1
    ++ bytes_text p.0.1 ++ end_byte p.1 ∷ []) good.0.0.0.0.0.0 in
    let holds : IsRecordable (recording_of p) = record {
      pid = good.0.0.0.0.0.1;
      key = good.0.0.0.0.1;
      client = good.0.0.0.1;
      count = good.0.0.1.0;
      calls = good.0.0.1.1;
      replies = good.0.1;
    } in
    subst (λ (w : Recording). IsRecordable w × (bytes ≡ recording_text w)) g.1 (holds, spelled)

pub judged_again : (r : Recording) → IsRecordable r → judged (recording_text r) ≡ Ok r
unfolding judged
judged_again r good =
    let text = recording_text r in
    let read : parts_at (length text) text ≡ Ok (parts_of r, []) =
    ap (parts_at (length text)) (sym (append-nil text))
    ∙ (Reads-parts (length text)).again (parts_of r) [] (
      (
        ((((refl, good.pid), good.key), good.client), (good.count, good.calls)),
        good.replies,
      ),
      tt,
    ) in
    ap (λ (x : Result (Parts × List ℕ) ReadError). x
    >>= λ y. cond (eqb (length y.1) 0) (Ok (recording_of y.0)) (Err (Trailing (length text - length y.1)))) read

pub is_found : (bytes : List ℕ) (result : Result Recording ReadError) → IsBytes bytes → Gives (λ r. r) result (judged bytes)
    → IfOk result (λ r. IsRecordable r × (bytes ≡ recording_text r))
is_found bytes (Ok r) fits given = judged_takes bytes r fits given
is_found bytes (Err e) fits given = tt

pub answers : (result told : Result Recording ReadError) → Gives (λ r. r) result told → AnswersUnlessNoMemory result told
answers (Ok r) told given = inl (sym given)
answers (Err NoMemory) told given = inr refl
answers (Err Truncated) told given = inl (sym given)
answers (Err (BadField place)) told given = inl (sym given)
answers (Err (Trailing place)) told given = inl (sym given)
