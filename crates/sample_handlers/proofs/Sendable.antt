-- What the sample handlers tell can be sent as replies.
use Rattle.std.proofs.Common.{◌≤◌, List, [], ◌∷◌, ◌++◌, length, map, codes, refl, arith, length-append}
use Rattle.std.specs.Fmt.{decimal}
use Rattle.std.proofs.lemmas.Fmt.{length-decimal-le}
use Rattle.std.specs.List.{AllByRecursion}
use Rattle.pg_messages.specs.Replies.{IsEncodable}
use Rattle.pg_types.specs.declared.field_format.FieldFormat.{FieldFormat}
use Rattle.pg_results.specs.declared.format.Format.{Format}
use Rattle.pg_results.specs.declared.format.Format.TheVariants as format
use Rattle.pg_results.specs.Rows.{IsItemError}
use Rattle.pg_results.specs.Tags.{spaced, tag_text}
use Rattle.conversation_table.specs.Good.{IsSendableResponse}
use Rattle.pg_replies.specs.Replies.{done, row_description}
use Rattle.pg_replies.proofs.Encodable.{HasNoZero-append, HasNoZero-decimal, by_test, select_is_tag}
use Rattle.conversation_table.proofs.ErrorTexts.{tellable_error}
use Rattle.sample_handlers.specs.declared.meaning.SampleStatement.{SampleStatement}
use Rattle.sample_handlers.specs.declared.meaning.SampleStatement.TheVariants as statement
use Rattle.sample_handlers.specs.Told.{name_column, span_column, columns, column_format, division_by_zero, done_tag, not_known, response_of}

two_columns : (a b : FieldFormat) → IsEncodable (row_description (name_column a ∷ span_column b ∷ []))
two_columns a b = record {
  body = omega arith;
  counts = (omega arith, tt);
  texts = (by_test (codes "name") refl, (by_test (codes "span") refl, tt));
}

pub columns_sendable : (formats : Format) → IsEncodable (row_description (columns formats))
columns_sendable formats = two_columns (column_format formats 0) (column_format formats 1)

pub not_known_item : IsItemError not_known
not_known_item = record {
  tellable = tellable_error (codes "42601") (codes "not known") (omega arith) (by_test (codes "42601") refl) (omega arith)
      (by_test (codes "not known") refl);
  is_own = refl;
}

pub division_item : IsItemError division_by_zero
division_item = record {
  tellable = tellable_error (codes "22012") (codes "division by zero") (omega arith) (by_test (codes "22012") refl) (omega arith)
      (by_test (codes "division by zero") refl);
  is_own = refl;
}

done_sendable : IsEncodable (done (tag_text done_tag))
done_sendable =
    let a : length (decimal 0) ≤ 20 = length-decimal-le 20 0 (omega arith) (omega arith) (omega arith) in
    let b : length (decimal 1) ≤ 20 = length-decimal-le 20 1 (omega arith) (omega arith) (omega arith) in
    record {
      body = simp length-append (omega (arith, a, b));
      counts = tt;
      texts = (
        HasNoZero-append (codes "INSERT") (spaced 0 ++ spaced 1) (by_test (codes "INSERT") refl)
            (HasNoZero-append (spaced 0) (spaced 1) (λ e. omega arith, HasNoZero-decimal 0) (λ e. omega arith, HasNoZero-decimal 1)),
        tt,
      );
    }

pub response_sendable : (formats : Format) (s : SampleStatement) → IsSendableResponse (response_of formats s)
response_sendable formats statement.Pair = (columns_sendable formats, select_is_tag)
response_sendable formats statement.Broken = (columns_sendable formats, select_is_tag)
response_sendable formats statement.Long = (columns_sendable formats, select_is_tag)
response_sendable formats statement.CopyIn = omega arith
response_sendable formats statement.CopyOut = omega arith
response_sendable formats statement.CopyBoth = omega arith
response_sendable formats statement.Failed =
    (tellable_error (codes "22023") (codes "refused") (omega arith) (by_test (codes "22023") refl) (omega arith)
    (by_test (codes "refused") refl)).encodable
response_sendable formats statement.Done = done_sendable
response_sendable formats statement.Late = (columns_sendable formats, select_is_tag)
response_sendable formats statement.Nothing = tt

pub responses_sendable : (statements : List SampleStatement)
    → AllByRecursion IsSendableResponse (map (response_of format.UnifiedText) statements)
responses_sendable [] = tt
responses_sendable (s ∷ statements) = (response_sendable format.UnifiedText s, responses_sendable statements)
