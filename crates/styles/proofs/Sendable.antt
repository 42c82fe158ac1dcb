-- What the handlers of styles tell can be sent as replies.
use Rattle.std.proofs.Common.{◌≡◌, ℕ, List, [], ◌∷◌, Option, Some, None, Ok, Err, codes, false, ◌⊎◌, refl, arith, inl, inr, sym, subst}
use Rattle.std.specs.Str.{bytes_eq}
use Rattle.interval_texts.specs.Reading.{interval_of}
use Rattle.pg_interval.specs.declared.pg_interval.Interval.{Interval}
use Rattle.pg_messages.specs.Replies.{IsEncodable}
use Rattle.pg_types.specs.declared.field_format.FieldFormat.{FieldFormat}
use Rattle.pg_types.specs.declared.pg_type.PgType.{PgType}
use Rattle.pg_text.specs.declared.format.interval_style.IntervalStyle.TheVariants as style
use Rattle.pg_results.specs.Rows.{IsAnswerableItem, IsItemError}
use Rattle.pg_results.specs.Told.{IsOutcome}
use Rattle.pg_results.specs.declared.error.PgWireError.{PgWireError}
use Rattle.pg_results.specs.declared.format.Format.{Format}
use Rattle.pg_replies.specs.Replies.{row_description}
use Rattle.pg_replies.proofs.Encodable.{by_test}
use Rattle.conversation_table.proofs.ErrorTexts.{tellable_error}
use Rattle.row_handlers.specs.Answers.{format_at}
use Rattle.styles.specs.Reading.{no_interval}
use Rattle.styles.specs.Rows.{column, columns}
use Rattle.styles.specs.Told.{meaning_of, stated}
use Rattle.styles.specs.declared.answers.StylesStatement.TheVariants as statement

-- ---- columns

four_columns : (a b c d : FieldFormat) → IsEncodable (row_description (column a style.Postgres ∷ column b style.PostgresVerbose
    ∷ column c style.ISO8601 ∷ column d style.SQLStandard ∷ []))
four_columns a b c d = record {
  body = omega arith;
  counts = (omega arith, tt);
  texts = (
    by_test (codes "postgres") refl,
    (
      by_test (codes "postgres_verbose") refl,
      (
        by_test (codes "iso_8601") refl,
        (by_test (codes "sql_standard") refl, tt),
      ),
    ),
  );
}

pub columns_sendable : (formats : Format) → IsEncodable (row_description (columns formats))
columns_sendable formats = four_columns (format_at formats 0) (format_at formats 1) (format_at formats 2) (format_at formats 3)

-- ---- the error of a parameter

no_interval_item : IsItemError no_interval
no_interval_item = record {
  tellable = tellable_error (codes "22004") (codes "there is no interval for $1") (omega arith) (by_test (codes "22004") refl)
      (omega arith) (by_test (codes "there is no interval for $1") refl);
  is_own = refl;
}

pub no_interval_answerable : (e : PgWireError) → e ≡ no_interval → IsAnswerableItem e
no_interval_answerable e same = subst IsAnswerableItem (sym same) (inr no_interval_item)

-- ---- what a text means that is no `$1`, or may have no parameter

pub text_refused : (text : List ℕ) (types : Option (List (Option PgType))) (e : PgWireError)
    → (types ≡ None) ⊎ (bytes_eq text (codes "$1") ≡ false) → IsOutcome (interval_of text) (Err e)
    → IsOutcome (meaning_of text types) (Err e)
text_refused text None e apart (inl told) = inl (subst (λ r. Err e ≡ stated r) told refl)
text_refused text None e apart (inr none) = inr (cc)
text_refused text (Some types) e (inl none) given = cc
text_refused text (Some types) e (inr other) (inl told) = inl (rw other (subst (λ r. Err e ≡ stated r) told refl))
text_refused text (Some types) e (inr other) (inr none) = inr (cc)

-- the interval of a text that is no `$1`, or may have no parameter, is what it means
pub text_read : (text : List ℕ) (types : Option (List (Option PgType))) (i : Interval)
    → (types ≡ None) ⊎ (bytes_eq text (codes "$1") ≡ false) → IsOutcome (interval_of text) (Ok i)
    → IsOutcome (meaning_of text types) (Ok (statement.Interval i))
text_read text None i apart (inl told) = inl (subst (λ r. Ok (statement.Interval i) ≡ stated r) told refl)
text_read text None i apart (inr none) = cc
text_read text (Some types) i (inl none) given = cc
text_read text (Some types) i (inr other) (inl told) = inl (rw other (subst (λ r. Ok (statement.Interval i) ≡ stated r) told refl))
text_read text (Some types) i (inr other) (inr none) = cc
