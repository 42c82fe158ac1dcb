-- What the counter's sheet tells can be sent as replies.
use Rattle.std.proofs.Common.{[], ◌∷◌, codes, inr, refl, arith}
use Rattle.pg_messages.specs.Replies.{IsEncodable}
use Rattle.pg_types.specs.declared.field_format.FieldFormat.{FieldFormat}
use Rattle.pg_types.specs.declared.pg_type.PgType.TheVariants as type
use Rattle.pg_results.specs.Rows.{IsAnswerableItem}
use Rattle.pg_results.specs.declared.format.Format.{Format}
use Rattle.pg_replies.specs.Replies.{row_description}
use Rattle.pg_replies.proofs.Encodable.{by_test}
use Rattle.conversation_table.proofs.ErrorTexts.{tellable_error}
use Rattle.row_handlers.specs.Answers.{column_of, format_at}
use Rattle.std.proofs.Common.{negsuc}
use Rattle.counter.specs.Counter.{columns, refusal}

one_column : (f : FieldFormat) → IsEncodable (row_description (column_of f (codes "number") type.Numeric (negsuc 0) ∷ []))
one_column f = record { body = omega arith; counts = (omega arith, tt); texts = (by_test (codes "number") refl, tt) }

pub columns_sendable : (formats : Format) → IsEncodable (row_description (columns formats))
columns_sendable formats = one_column (format_at formats 0)

pub refusal_answerable : IsAnswerableItem refusal
refusal_answerable = inr (record {
  tellable = tellable_error (codes "42601") (codes "the only query is NEXT, as a simple query") (omega arith)
      (by_test (codes "42601") refl) (omega arith) (by_test (codes "the only query is NEXT, as a simple query") refl);
  is_own = refl;
})
