-- What the handlers of relations tell can be sent as replies, where the columns are good.
use Rattle.std.proofs.Common.{◌≡◌, ℕ, zero, suc, ◌≤◌, ◌+◌, ◌*◌, pos, List, [], ◌∷◌, ◌++◌, Option, Some, None, length, map, zip, codes, FitsSigned, refl, ap, arith, length-append}
use Rattle.std.specs.Int.{w16}
use Rattle.std.specs.List.{AllByRecursion, flat_map}
use Rattle.std.specs.Option.{unwrap_or}
use Rattle.std.proofs.lemmas.Int.{ints}
use Rattle.std.proofs.lemmas.List.{length-map}
use Rattle.pg_messages.specs.Fields.{count16, count32}
use Rattle.pg_messages.specs.Replies.{IsEncodable, HasNoZero, field_description}
use Rattle.pg_types.specs.declared.field_format.FieldFormat.{FieldFormat}
use Rattle.pg_types.specs.declared.pg_type.PgType.{PgType}
use Rattle.pg_types.specs.declared.pg_type.PgType.TheVariants as type
use Rattle.pg_types.specs.Types.{oid_of}
use Rattle.pg_results.specs.declared.client.ClientInfo.{ClientInfo}
use Rattle.pg_results.specs.declared.error.PgWireError.TheVariants as wire
use Rattle.pg_results.specs.declared.format.Format.{Format}
use Rattle.pg_results.specs.declared.format.Format.TheVariants as format
use Rattle.pg_results.specs.declared.stmt.StoredStatement.{StoredStatement}
use Rattle.pg_results.specs.Fields.{Field, description_of}
use Rattle.pg_results.specs.Rows.{IsItemError, IsTellable}
use Rattle.pg_results.specs.Texts.{IsShortText, quoted}
use Rattle.conversation_table.specs.Good.{IsSendableOutcome, AreSendable, IsSendableDescription}
use Rattle.pg_replies.specs.Replies.{done, row_description, parameter_description}
use Rattle.pg_replies.proofs.Encodable.{HasNoZero-append, by_test, select_is_tag}
use Rattle.conversation_table.proofs.ErrorTexts.{tellable_error}
use Rattle.relation_tables.specs.declared.Relation.{Relation}
use Rattle.relation_tables.specs.declared.RelationStatement.{RelationStatement}
use Rattle.relation_tables.specs.declared.RelationStatement.TheVariants as statement
use Rattle.relation_tables.specs.Errors.{unknown_relation}
use Rattle.relation_tables.specs.Queries.{trimmed, words, copied_name}
use Rattle.relation_tables.specs.Relations.{relation_at, columns_of, column, place_of, meaning}
use Rattle.relation_tables.specs.RelationHandler.{column_format, column_formats_from, columns_in, fields_of, given_types, statement_described, query_of, told_simple, simple_of, copy_of, copy_or_unknown}
use Rattle.relation_tables.proofs.ShortTexts.{trimmed_short, copied_short}

-- ---- columns

-- a column's name: at most 63 bytes, none of them zero
abbrev pub IsColumn : List ℕ → Type 0
IsColumn name = (length name ≤ 63) × HasNoZero name

-- at most 1,600 of them
abbrev pub AreColumns : List (List ℕ) → Type 0
AreColumns names = (length names ≤ 1600) × AllByRecursion IsColumn names

abbrev pub HaveColumns : List Relation → Type 0
HaveColumns relations = AllByRecursion (λ r. AreColumns r.columns) relations

-- the columns from an index on
abbrev columns_from : Format → ℕ → List (List ℕ) → List Field
columns_from formats index names = map (λ p. column p.0 p.1) (zip (column_formats_from formats index names) names)

column_len : (f : FieldFormat) (name : List ℕ) → length name ≤ 63 → length (field_description (description_of (column f name))) ≤ 82
column_len f name short = simp length-append (omega (arith, short))

columns_len : (formats : Format) (index : ℕ) (names : List (List ℕ)) → AllByRecursion IsColumn names
    → length (flat_map field_description (map description_of (columns_from formats index names))) ≤ 82 * length names
columns_len formats index [] h = omega arith
columns_len formats index (name ∷ names) h =
    let f = column_format formats index in
    let first = field_description (description_of (column f name)) in
    let rest = flat_map field_description (map description_of (columns_from formats (index + 1) names)) in
    omega (arith, length-append first rest, column_len f name h.0.0, columns_len formats (index + 1) names h.1)

columns_count : (formats : Format) (index : ℕ) (names : List (List ℕ))
    → length (map description_of (columns_from formats index names)) ≡ length names
columns_count formats index [] = refl
columns_count formats index (name ∷ names) = ap (λ n. suc n) (columns_count formats (index + 1) names)

columns_texts : (formats : Format) (index : ℕ) (names : List (List ℕ)) → AllByRecursion IsColumn names
    → AllByRecursion HasNoZero (map (λ f. f.name) (map description_of (columns_from formats index names)))
columns_texts formats index [] h = tt
columns_texts formats index (name ∷ names) h = (h.0.1, columns_texts formats (index + 1) names h.1)

count_fits : (n : ℕ) → n ≤ 32767 → FitsSigned w16 (pos n)
count_fits n few = omega (arith, ints)

pub columns_sendable : (formats : Format) (names : List (List ℕ)) → AreColumns names
    → IsEncodable (row_description (columns_in formats names))
columns_sendable formats names h =
    let described = map description_of (columns_from formats 0 names) in
    let bytes = flat_map field_description described in
    record {
      body = omega (arith, h.0, columns_len formats 0 names h.1, length-append (count16 (length described)) bytes);
      counts = (count_fits (length described) (omega (arith, columns_count formats 0 names, h.0)), tt);
      texts = columns_texts formats 0 names h.1;
    }

columns_at : (relations : List Relation) → HaveColumns relations → (place : ℕ) → AreColumns (relation_at relations place).columns
columns_at [] h place = (omega arith, tt)
columns_at (r ∷ relations) h zero = h.0
columns_at (r ∷ relations) h (suc place) = columns_at relations h.1 place

columns_of_statement : (relations : List Relation) → HaveColumns relations → (means : RelationStatement)
    → AreColumns (columns_of relations means)
columns_of_statement relations h statement.Begin = (omega arith, tt)
columns_of_statement relations h statement.Commit = (omega arith, tt)
columns_of_statement relations h (statement.Relation place) = columns_at relations h place

pub fields_sendable : (relations : List Relation) → HaveColumns relations → (means : RelationStatement) (formats : Format)
    → IsEncodable (row_description (fields_of relations means formats))
fields_sendable relations h means formats = columns_sendable formats (columns_of relations means) (columns_of_statement relations h means)

-- ---- types of parameters

oids_len : (oids : List ℕ) → length (flat_map count32 oids) ≡ 4 * length oids
oids_len [] = refl
oids_len (oid ∷ oids) = omega (arith, length-append (count32 oid) (flat_map count32 oids), oids_len oids)

pub types_sendable : (types : List PgType) → length types ≤ 32767 → IsEncodable (parameter_description types)
types_sendable types few =
    let oids = map oid_of types in
    let count = length-map types oid_of in
    record {
      body = omega (arith, length-append (count16 (length oids)) (flat_map count32 oids), oids_len oids, count, few);
      counts = (count_fits (length oids) (omega (arith, count, few)), tt);
      texts = tt;
    }

pub description_sendable : (relations : List Relation) → HaveColumns relations → (s : StoredStatement RelationStatement)
    → length s.parameter_types ≤ 32767 → IsSendableDescription (statement_described relations s)
description_sendable relations h s few = record {
  parameters = types_sendable (given_types s.parameter_types)
      (omega (arith, length-map s.parameter_types (λ given. unwrap_or given type.Unknown), few));
  fields = fields_sendable relations h s.statement format.UnifiedText;
}

-- ---- errors

quoted_no_zero : (name : List ℕ) → HasNoZero name → HasNoZero (quoted name)
quoted_no_zero name h = (λ e. omega arith, HasNoZero-append name (34 ∷ []) h (λ e. omega arith, tt))

pub unknown_tellable : (name : List ℕ) → IsShortText name → IsTellable (wire.UserError (unknown_relation name))
unknown_tellable name h =
    let x = codes "relation " in let y = codes " does not exist" in
    let a = length-append (x ++ quoted name) y in let b = length-append x (quoted name) in let e = length-append name (34 ∷ []) in
    tellable_error (codes "42P01") ((x ++ quoted name) ++ y) (omega arith) (by_test (codes "42P01") refl) (omega (arith, a, b, e, h.len))
    (HasNoZero-append (x ++ quoted name) y (HasNoZero-append x (quoted name) (by_test x refl) (quoted_no_zero name h.no_zero))
    (by_test y refl))

pub unknown_item : (name : List ℕ) → IsShortText name → IsItemError (wire.UserError (unknown_relation name))
unknown_item name h = record { tellable = unknown_tellable name h; is_own = refl }

pub option_tellable : (text : List ℕ) → IsShortText text → IsTellable (wire.InvalidOptionValue text)
option_tellable text h =
    let x = codes "invalid option value " in let b = length-append x (quoted text) in let e = length-append text (34 ∷ []) in
    record {
      is_told = λ k. cc;
      encodable =
          (tellable_error (codes "22023") (x ++ quoted text) (omega arith) (by_test (codes "22023") refl) (omega (arith, b, e, h.len))
          (HasNoZero-append x (quoted text) (by_test x refl) (quoted_no_zero text h.no_zero))).encodable;
    }

pub option_item : (text : List ℕ) → IsShortText text → IsItemError (wire.InvalidOptionValue text)
option_item text h = record { tellable = option_tellable text h; is_own = refl }

-- ---- outcomes of queries

done_sendable : (tag : List ℕ) → length tag ≤ 100 → HasNoZero tag → IsEncodable (done tag)
done_sendable tag short clean = record { body = simp length-append (omega (arith, short)); counts = tt; texts = (clean, tt) }

pub query_sendable : (relations : List Relation) → HaveColumns relations → (client : ClientInfo) (formats : Format)
    → (means : RelationStatement) → IsSendableOutcome (query_of relations client formats means).outcome
query_sendable relations h client formats statement.Begin = done_sendable (codes "BEGIN") (omega arith) (by_test (codes "BEGIN") refl)
query_sendable relations h client formats statement.Commit = done_sendable (codes "COMMIT") (omega arith) (by_test (codes "COMMIT") refl)
query_sendable relations h client formats (statement.Relation place) =
    (columns_sendable formats (relation_at relations place).columns (columns_at relations h place), select_is_tag)

copy_sendable : (relations : List Relation) → HaveColumns relations → (client : ClientInfo) (name : List ℕ) → IsShortText name
    → (place : Option ℕ) → AreSendable (copy_of relations client name place).outcome
copy_sendable relations h client name short None = unknown_item name short
copy_sendable relations h client name short (Some place) = (omega (arith, (columns_at relations h place).0), tt)

copied_sendable : (relations : List Relation) → HaveColumns relations → (client : ClientInfo) (text : List ℕ) → IsShortText text
    → (name : Option (List ℕ)) → copied_name (words text) ≡ name → AreSendable (copy_or_unknown relations client text name).outcome
copied_sendable relations h client text short None e = unknown_item text short
copied_sendable relations h client text short (Some name) e =
    copy_sendable relations h client name (copied_short text name short e) (place_of relations name)

meant_sendable : (relations : List Relation) → HaveColumns relations → (client : ClientInfo) (text : List ℕ) → IsShortText text
    → (means : Option RelationStatement) → AreSendable (simple_of relations client text means).outcome
meant_sendable relations h client text short None = copied_sendable relations h client text short (copied_name (words text)) refl
meant_sendable relations h client text short (Some statement.Begin) =
    (query_sendable relations h client format.UnifiedText statement.Begin, tt)
meant_sendable relations h client text short (Some statement.Commit) =
    (query_sendable relations h client format.UnifiedText statement.Commit, tt)
meant_sendable relations h client text short (Some (statement.Relation place)) =
    (query_sendable relations h client format.UnifiedText (statement.Relation place), tt)

pub simple_sendable : (relations : List Relation) → HaveColumns relations → (client : ClientInfo) (query : List ℕ) → IsShortText query
    → AreSendable (told_simple relations client query).outcome
simple_sendable relations h client query short =
    meant_sendable relations h client (trimmed query) (trimmed_short query short) (meaning relations query)
