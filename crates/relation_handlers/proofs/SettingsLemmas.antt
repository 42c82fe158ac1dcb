-- Rows of a query in its settings. In binary they are the same in any.
use Rattle.std.proofs.Common.{◌≡◌, ℕ, ◌+◌, false, List, [], ◌∷◌, map, refl, ap}
use Rattle.std.specs.List.{list_any}
use Rattle.pg_interval.specs.declared.pg_interval.Interval.{Interval}
use Rattle.pg_types.specs.declared.format.FormatOptions.{FormatOptions}
use Rattle.pg_results.specs.declared.client.ClientInfo.{ClientInfo}
use Rattle.pg_results.specs.declared.format.Format.{Format}
use Rattle.pg_results.specs.declared.format.Format.TheVariants as format
use Rattle.pg_results.specs.Formats.{is_text}
use Rattle.relation_tables.specs.RelationHandler.{column_formats, column_formats_from, row_item, session_style}
use Rattle.relation_handlers.specs.Made.{IsSettled, style_in}
use Rattle.relation_handlers.proofs.RefusedRows.{rows_without_text}

-- columns in binary have no text
no_text : (index : ℕ) (names : List (List ℕ)) → list_any is_text (column_formats_from format.UnifiedBinary index names) ≡ false
no_text index [] = refl
no_text index (name ∷ names) = no_text (index + 1) names

-- the rows of a query in its settings are those in its session's style
pub rows_settled : (formats : Format) (client : ClientInfo) (options : FormatOptions) (names : List (List ℕ))
    (rows : List (List Interval)) → IsSettled formats client options
    → map (row_item (style_in options) (column_formats formats names)) rows
    ≡ map (row_item (session_style client) (column_formats formats names)) rows
rows_settled format.UnifiedText client options names rows h =
    ap (λ (o : FormatOptions). map (row_item (style_in o) (column_formats format.UnifiedText names)) rows) h
rows_settled format.UnifiedBinary client options names rows h =
    rows_without_text (style_in options) (session_style client) (column_formats format.UnifiedBinary names) rows (no_text 0 names)
rows_settled (format.Individual codes) client options names rows h =
    ap (λ (o : FormatOptions). map (row_item (style_in o) (column_formats (format.Individual codes) names)) rows) h
