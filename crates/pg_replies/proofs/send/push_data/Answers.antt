use Rattle.std.proofs.Common.{arith, ◌≡◌, ◌++◌, ◌+◌, ◌≤◌, ◌<◌, ◌^◌, ◌==◌, List, [], ◌∷◌, ℕ, Bool, true, false, cond, length, sym, ap, ◌∙◌}
use Rattle.std.proofs.lemmas.Bool.Decides.{nat_tests}
use Rattle.std.proofs.lemmas.List.{append-nil, length-append}
use Rattle.std.proofs.lemmas.Result.{IfOk-from_err}
use Rattle.std.specs.Prelude.{bytes_eq, not}
use Rattle.pg_messages.specs.declared.copy.CopyData.{CopyData}
use Rattle.pg_messages.specs.declared.backend.PgWireBackendMessage.TheVariants as server
use Rattle.pg_messages.specs.Replies.{reply_bytes, replies_bytes}
use Rattle.pg_results.specs.Describing.{is_empty_list}
use Rattle.pg_replies.specs.ResponseRows.{copy_count, copy_replies, is_trailer, not_empty}
use Rattle.pg_replies.proofs.Pieces.{no_ok, on_err}
use Rattle.pg_replies.proofs.Sent.{one_reply}
use Rattle.pg_replies.proofs.send.push_data.Goals as goal

is_empty_as : (bytes : List ℕ) (b : Bool) → b ≡ (length bytes == 0) → is_empty_list bytes ≡ b
is_empty_as [] b e = sym e
is_empty_as (x ∷ xs) b e = grind (arith, nat_tests)

-- what the test of the bytes says of the data
module _ (d : CopyData) (bytes : List ℕ) (same : bytes ≡ d.payload) (b : Bool) (test : b ≡ (length bytes == 0)) where
  empty_as : is_empty_list d.payload ≡ b
  empty_as = ap is_empty_list (sym same) ∙ is_empty_as bytes b test

  skipped : b ≡ true → not_empty (d ∷ []) ≡ []
  skipped p = ap (λ (e : Bool). cond (not e) (d ∷ []) []) (empty_as ∙ p)

  told : b ≡ false → not_empty (d ∷ []) ≡ d ∷ []
  told p = ap (λ (e : Bool). cond (not e) (d ∷ []) []) (empty_as ∙ p)

trailer_as : (d : CopyData) (bytes end : List ℕ) (b v : Bool) → b ≡ bytes_eq bytes end → bytes ≡ d.payload
    → end ≡ 255 ∷ 255 ∷ [] → b ≡ v → is_trailer d ≡ v
trailer_as d bytes end b v test same is p = sym (test ∙ (λ i. bytes_eq (same i) (is i))) ∙ p

add_none : (n : ℕ) → n + 0 ≡ n
add_none n = omega arith

-- data without bytes send nothing
nothing_pushed : (d : CopyData) (out : List ℕ) → not_empty (d ∷ []) ≡ []
    → out ≡ out ++ replies_bytes (copy_replies (not_empty (d ∷ [])))
nothing_pushed d out none = sym (ap (λ l. out ++ replies_bytes (copy_replies l)) none ∙ append-nil out)

nothing_counted : (d : CopyData) (count : ℕ) → not_empty (d ∷ []) ≡ [] → count ≡ count + copy_count (not_empty (d ∷ []))
nothing_counted d count none = sym (ap (λ l. count + copy_count l) none ∙ add_none count)

-- other data are one reply
module _ (d : CopyData) (out new : List ℕ) (count : ℕ) (fewer : count ≤ length out)
    (sent : new ≡ out ++ reply_bytes (server.CopyData d)) (one : not_empty (d ∷ []) ≡ d ∷ []) where
  one_pushed : new ≡ out ++ replies_bytes (copy_replies (not_empty (d ∷ [])))
  one_pushed = sent ∙ ap (λ (l : List ℕ). out ++ l)
      (one_reply (server.CopyData d) ∙ sym (ap (λ l. replies_bytes (copy_replies l)) one))

  trailer_counted : is_trailer d ≡ true → count ≡ count + copy_count (not_empty (d ∷ []))
  trailer_counted p = sym (ap (λ l. count + copy_count l) one
      ∙ ap (λ (t : Bool). count + length (cond (not t) (d ∷ []) [])) p ∙ add_none count)

  one_counted : is_trailer d ≡ false → count + 1 ≡ count + copy_count (not_empty (d ∷ []))
  one_counted p = sym (ap (λ l. count + copy_count l) one ∙ ap (λ (t : Bool). count + length (cond (not t) (d ∷ []) [])) p)

grown : (d : CopyData) (out new : List ℕ) (count : ℕ) → count ≤ length out → new ≡ out ++ reply_bytes (server.CopyData d)
    → count + 1 ≤ length new
grown d out new count fewer sent =
    let long = ap length sent ∙ length-append out (reply_bytes (server.CopyData d)) in omega (arith, long)

no_wrap : (count len n : ℕ) → count + 1 ≤ n → len ≡ n → len < 2 ^ 64 → count + 1 < 2 ^ 64
no_wrap count len n more is small = omega arith

below : (count n : ℕ) → count + 1 ≤ n → count ≤ n
below count n more = omega arith

pub overflow_add-result : goal.overflow_add-result
overflow_add-result c =
    let more = grown c.args.copied.now c.args.outbox.now _ _ c.requires.fewer c.in_ok-push_copied.ensures.ok in
    record { fits = no_wrap _ _ _ more c.len-waiting.ensures c.len-waiting.type_inv }

pub returns-then-is_empty : goal.returns-then-is_empty
returns-then-is_empty c =
    let d = c.args.copied.now in
    let none = skipped d c.as_slice-bytes.result.now c.as_slice-bytes.ensures c.is_empty.result c.is_empty.ensures c.if-is_empty.true in
    record {
      pushed = nothing_pushed d c.args.outbox.now none;
      err = tt;
      counted = nothing_counted d c.args.count none;
      fewer = c.requires.fewer;
    }

pub returns-in_err-push_copied : goal.returns-in_err-push_copied
returns-in_err-push_copied c =
    let r = c.from_residual in
    record {
      pushed = no_ok r.result _ r.ensures.0;
      err = on_err r.result c.in_err-push_copied.ensures.err;
      counted = IfOk-from_err r.result _ r.ensures.0;
      fewer = IfOk-from_err r.result _ r.ensures.0;
    }

pub returns-then-is_trailer : goal.returns-then-is_trailer
returns-then-is_trailer c =
    let d = c.args.copied.now in
    let bytes = c.as_slice-bytes.result.now in
    let one = told d bytes c.as_slice-bytes.ensures c.is_empty.result c.is_empty.ensures c.if-is_empty.false in
    let sent = c.in_ok-push_copied.ensures.ok in
    record {
      pushed = one_pushed d c.args.outbox.now _ c.args.count c.requires.fewer sent one;
      err = tt;
      counted = trailer_counted d c.args.outbox.now _ c.args.count c.requires.fewer sent one
          (trailer_as d bytes _ _ _ c.eq-is_trailer.ensures c.as_slice-bytes.ensures c.as_slice.ensures c.if-is_trailer.true);
      fewer = below _ _ (grown d c.args.outbox.now _ _ c.requires.fewer sent);
    }

pub returns : goal.returns
returns c =
    let d = c.args.copied.now in
    let bytes = c.as_slice-bytes.result.now in
    let one = told d bytes c.as_slice-bytes.ensures c.is_empty.result c.is_empty.ensures c.if-is_empty.false in
    let sent = c.in_ok-push_copied.ensures.ok in
    record {
      pushed = one_pushed d c.args.outbox.now _ c.args.count c.requires.fewer sent one;
      err = tt;
      counted = one_counted d c.args.outbox.now _ c.args.count c.requires.fewer sent one
          (trailer_as d bytes _ _ _ c.eq-is_trailer.ensures c.as_slice-bytes.ensures c.as_slice.ensures c.if-is_trailer.false);
      fewer = grown d c.args.outbox.now _ _ c.requires.fewer sent;
    }
