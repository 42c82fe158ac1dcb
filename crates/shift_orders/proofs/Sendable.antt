-- The errors can stand in the place of a row.
use Rattle.std.proofs.Common.{◌≡◌, ℕ, ◌+◌, ◌<◌, ◌≤◌, ◌^◌, List, ◌++◌, length, codes, decimal, refl, arith, inr, sym, subst, length-append}
use Rattle.std.proofs.lemmas.Fmt.{length-decimal-le_wide}
use Rattle.pg_messages.specs.Replies.{HasNoZero}
use Rattle.pg_results.specs.Errors.{error}
use Rattle.pg_results.specs.Rows.{IsAnswerableItem, IsItemError}
use Rattle.pg_results.specs.declared.error.PgWireError.{PgWireError}
use Rattle.pg_results.specs.declared.error.PgWireError.TheVariants as wire
use Rattle.pg_replies.proofs.Encodable.{HasNoZero-append, HasNoZero-decimal, by_test}
use Rattle.conversation_table.proofs.ErrorTexts.{tellable_error}
use Rattle.shift_orders.specs.Orders.{no_parameter, no_value}

-- an error that names a parameter
numbered_item : (code front : List ℕ) (n : ℕ) → length code ≤ 5 → HasNoZero code → length front ≤ 100 → HasNoZero front → n ≤ 2 ^ 64
    → IsItemError (wire.UserError (error code (front ++ decimal n)))
numbered_item code front n few plain short clean small =
    let digits = length-decimal-le_wide 20 n (omega arith) (omega arith) (omega arith) in
    let whole = length-append front (decimal n) in
    record {
      tellable = tellable_error code (front ++ decimal n) few plain (omega arith)
          (HasNoZero-append front (decimal n) clean (HasNoZero-decimal n));
      is_own = refl;
    }

pub no_value_answerable : (index : ℕ) (e : PgWireError) → e ≡ no_value index → index < 2 ^ 64 → IsAnswerableItem e
no_value_answerable index e same small =
    subst IsAnswerableItem (sym same)
    (inr (numbered_item (codes "22004") (codes "there is no value for $") (index + 1) (omega arith) (by_test (codes "22004") refl)
    (omega arith) (by_test (codes "there is no value for $") refl) (omega arith)))

pub no_parameter_answerable : (index : ℕ) (e : PgWireError) → e ≡ no_parameter index → index < 2 ^ 64 → IsAnswerableItem e
no_parameter_answerable index e same small =
    subst IsAnswerableItem (sym same)
    (inr (numbered_item (codes "42P02") (codes "there is no parameter $") (index + 1) (omega arith) (by_test (codes "42P02") refl)
    (omega arith) (by_test (codes "there is no parameter $") refl) (omega arith)))
