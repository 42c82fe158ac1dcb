-- The types of PostgreSQL that columns and parameters may have: its catalog `pg_type`.
use Rattle.std.specs.Prelude.{◌==◌, ℕ, List, [], ◌∷◌, Option, codes}
use Rattle.std.specs.List.{find}
use Rattle.pg_types.specs.declared.pg_type.PgType.{PgType}
use Rattle.pg_types.specs.declared.pg_type.PgType.TheVariants.{Bool, Bytea, Char, Name, Int8, Int2, Int4, Text, Oid, Json, Float4, Float8, Unknown, Bpchar, Varchar, Date, Time, Timestamp, Timestamptz, Interval, IntervalArray, Timetz, Numeric, Void, Uuid, Jsonb}

abbrev pub types : List PgType
types = Bool ∷ Bytea ∷ Char ∷ Name ∷ Int8 ∷ Int2 ∷ Int4 ∷ Text ∷ Oid ∷ Json ∷ Float4 ∷ Float8 ∷ Unknown ∷ Bpchar ∷ Varchar
    ∷ Date ∷ Time ∷ Timestamp ∷ Timestamptz ∷ Interval ∷ IntervalArray ∷ Timetz ∷ Numeric ∷ Void ∷ Uuid ∷ Jsonb ∷ []

-- the oid of a type in the catalog
abbrev pub oid_of : PgType → ℕ
oid_of Bool = 16
oid_of Bytea = 17
oid_of Char = 18
oid_of Name = 19
oid_of Int8 = 20
oid_of Int2 = 21
oid_of Int4 = 23
oid_of Text = 25
oid_of Oid = 26
oid_of Json = 114
oid_of Float4 = 700
oid_of Float8 = 701
oid_of Unknown = 705
oid_of Bpchar = 1042
oid_of Varchar = 1043
oid_of Date = 1082
oid_of Time = 1083
oid_of Timestamp = 1114
oid_of Timestamptz = 1184
oid_of Interval = 1186
oid_of IntervalArray = 1187
oid_of Timetz = 1266
oid_of Numeric = 1700
oid_of Void = 2278
oid_of Uuid = 2950
oid_of Jsonb = 3802

abbrev pub name_of : PgType → List ℕ
name_of Bool = codes "bool"
name_of Bytea = codes "bytea"
name_of Char = codes "char"
name_of Name = codes "name"
name_of Int8 = codes "int8"
name_of Int2 = codes "int2"
name_of Int4 = codes "int4"
name_of Text = codes "text"
name_of Oid = codes "oid"
name_of Json = codes "json"
name_of Float4 = codes "float4"
name_of Float8 = codes "float8"
name_of Unknown = codes "unknown"
name_of Bpchar = codes "bpchar"
name_of Varchar = codes "varchar"
name_of Date = codes "date"
name_of Time = codes "time"
name_of Timestamp = codes "timestamp"
name_of Timestamptz = codes "timestamptz"
name_of Interval = codes "interval"
name_of IntervalArray = codes "_interval"
name_of Timetz = codes "timetz"
name_of Numeric = codes "numeric"
name_of Void = codes "void"
name_of Uuid = codes "uuid"
name_of Jsonb = codes "jsonb"

-- the type with this oid, or None where the list has none
abbrev pub type_of_oid : ℕ → Option PgType
type_of_oid oid = find (λ t. oid_of t == oid) types
