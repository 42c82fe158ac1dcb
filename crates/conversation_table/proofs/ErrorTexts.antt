-- Errors that can be told: their texts have no zero byte, and are short.
use Rattle.std.proofs.Common.{ℕ, ◌<◌, ◌≤◌, ◌^◌, List, [], ◌∷◌, ◌++◌, length, codes, refl, arith, length-append}
use Rattle.std.specs.Fmt.{decimal}
use Rattle.std.proofs.lemmas.Fmt.{length-decimal-le}
use Rattle.pg_messages.specs.Replies.{HasNoZero}
use Rattle.pg_results.specs.declared.error.PgWireError.TheVariants as wire
use Rattle.pg_results.specs.Errors.{error}
use Rattle.pg_results.specs.Rows.{IsTellable}
use Rattle.pg_results.specs.Texts.{IsShortText, quoted}
use Rattle.pg_client.specs.Errors.{values_for_empty, too_few_codes}
use Rattle.pg_replies.proofs.Encodable.{HasNoZero-append, HasNoZero-decimal, by_test}

-- an error whose code is written out, and whose message is short
pub tellable_error : (code message : List ℕ) → length code ≤ 5 → HasNoZero code → length message ≤ 1048800 → HasNoZero message
    → IsTellable (wire.UserError (error code message))
tellable_error code message few plain short clean = record {
  is_told = λ e. cc;
  encodable = record {
    body = simp length-append (omega arith);
    counts = tt;
    texts = (by_test (codes "ERROR") refl, (plain, (clean, tt)));
  };
}

-- the code of a broken protocol
protocol_error : (message : List ℕ) → length message ≤ 1048800 → HasNoZero message
    → IsTellable (wire.UserError (error (codes "08P01") message))
protocol_error message short clean = tellable_error (codes "08P01") message (omega arith) (by_test (codes "08P01") refl) short clean

-- the text before a number, the number, and a text behind it
numbered_no_zero : (before after : List ℕ) (n : ℕ) → HasNoZero before → HasNoZero after → HasNoZero (before ++ decimal n ++ after)
numbered_no_zero before after n p q = HasNoZero-append (before ++ decimal n) after
    (HasNoZero-append before (decimal n) p (HasNoZero-decimal n)) q

pub tellable_too_few : (count columns : ℕ) → count < 2 ^ 64 → columns < 2 ^ 64 → IsTellable (wire.UserError (too_few_codes count columns))
tellable_too_few count columns small narrow =
    let x = codes "bind message has " in let y = codes " result formats but query has " in let z = codes " columns" in
    let a = length-decimal-le 20 count (omega arith) (omega arith) small in
    let b = length-decimal-le 20 columns (omega arith) (omega arith) narrow in
    let e = length-append (((x ++ decimal count) ++ y) ++ decimal columns) z in
    let f = length-append ((x ++ decimal count) ++ y) (decimal columns) in
    let g = length-append (x ++ decimal count) y in let h = length-append x (decimal count) in
    protocol_error _ (omega arith)
    (numbered_no_zero ((x ++ decimal count) ++ y) z columns (numbered_no_zero x y count (by_test x refl) (by_test y refl)) (by_test z refl))

pub tellable_values : (count : ℕ) (name : List ℕ) → count < 2 ^ 64 → IsShortText name
    → IsTellable (wire.UserError (values_for_empty count name))
tellable_values count name small short =
    let x = codes "bind message supplies " in let y = codes " parameters, but prepared statement " in let z = codes " requires 0" in
    let a = length-decimal-le 20 count (omega arith) (omega arith) small in let b = short.len in
    let e = length-append (((x ++ decimal count) ++ y) ++ quoted name) z in
    let f = length-append ((x ++ decimal count) ++ y) (quoted name) in
    let g = length-append (x ++ decimal count) y in let h = length-append x (decimal count) in let i = length-append name (34 ∷ []) in
    let in_quotes : HasNoZero (quoted name) = (λ k. omega arith, HasNoZero-append name (34 ∷ []) short.no_zero (λ k. omega arith, tt)) in
    protocol_error _ (omega arith)
    (HasNoZero-append (((x ++ decimal count) ++ y) ++ quoted name) z (HasNoZero-append ((x ++ decimal count) ++ y) (quoted name)
    (numbered_no_zero x y count (by_test x refl) (by_test y refl)) in_quotes) (by_test z refl))

pub tellable_target : (byte : ℕ) → byte < 2 ^ 8 → IsTellable (wire.InvalidTargetType byte)
tellable_target byte small =
    let x = codes "invalid target type: " in let a = length-decimal-le 20 byte (omega arith) (omega arith) (omega arith) in
    let b = length-append x (decimal byte) in
    record {
      is_told = λ e. cc;
      encodable = (protocol_error (x ++ decimal byte) (omega arith)
          (HasNoZero-append x (decimal byte) (by_test x refl) (HasNoZero-decimal byte))).encodable;
    }
