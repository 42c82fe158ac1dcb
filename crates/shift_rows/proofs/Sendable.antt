-- The columns of shifts can be sent as a reply.
use Rattle.std.proofs.Common.{[], ◌∷◌, codes, negsuc, pos, refl, arith}
use Rattle.pg_messages.specs.Replies.{IsEncodable}
use Rattle.pg_types.specs.declared.field_format.FieldFormat.{FieldFormat}
use Rattle.pg_types.specs.declared.pg_type.PgType.TheVariants as type
use Rattle.pg_results.specs.declared.format.Format.{Format}
use Rattle.pg_replies.specs.Replies.{row_description}
use Rattle.pg_replies.proofs.Encodable.{by_test}
use Rattle.row_handlers.specs.Answers.{column_of, format_at}
use Rattle.shift_rows.specs.ShiftRows.{columns}

three_columns : (a b c : FieldFormat) → IsEncodable (row_description (column_of a (codes "name") type.Text (negsuc 0)
    ∷ column_of b (codes "start") type.Interval (pos 16) ∷ column_of c (codes "length") type.Interval (pos 16) ∷ []))
three_columns a b c = record {
  body = omega arith;
  counts = (omega arith, tt);
  texts = (by_test (codes "name") refl, (by_test (codes "start") refl, (by_test (codes "length") refl, tt)));
}

pub columns_sendable : (formats : Format) → IsEncodable (row_description (columns formats))
columns_sendable formats = three_columns (format_at formats 0) (format_at formats 1) (format_at formats 2)
