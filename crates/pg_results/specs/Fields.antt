-- Columns of results (protocol: Message Formats, RowDescription).
use Rattle.std.specs.Prelude.{ℕ, ℤ, pos, negsuc, List, Option, Some, unwrap_or}
use Rattle.pg_types.specs.declared.pg_type.PgType.{PgType}
use Rattle.pg_types.specs.declared.pg_type.PgType.TheVariants.{Unknown}
use Rattle.pg_types.specs.declared.field_format.FieldFormat.{FieldFormat}
use Rattle.pg_types.specs.declared.format.FormatOptions.{FormatOptions}
use Rattle.pg_types.specs.Types.{oid_of, type_of_oid}
use Rattle.pg_types.specs.Formats.{format_code, format_of_code}
use Rattle.pg_types.specs.Options.{default_options}
use Rattle.pg_messages.specs.declared.data.FieldDescription.{FieldDescription}

pub record Field : Type 0 where
  pub name : List ℕ
  pub table_id : Option ℤ
  pub column_id : Option ℤ
  pub datatype : PgType
  pub format : FieldFormat
  pub format_options : FormatOptions
  pub type_size : ℤ
  pub type_modifier : ℤ

-- a column with the default options, size 0 and modifier -1
abbrev pub plain_field : List ℕ → Option ℤ → Option ℤ → PgType → FieldFormat → Field
plain_field name table column datatype format = record {
  name = name;
  table_id = table;
  column_id = column;
  datatype = datatype;
  format = format;
  format_options = default_options;
  type_size = pos 0;
  type_modifier = negsuc 0;
}

-- the description of a column; an absent table or column is 0
abbrev pub description_of : Field → FieldDescription
description_of field = record {
  name = field.name;
  table_id = unwrap_or field.table_id (pos 0);
  column_id = unwrap_or field.column_id (pos 0);
  type_id = oid_of field.datatype;
  type_size = field.type_size;
  type_modifier = field.type_modifier;
  format_code = format_code field.format;
}

-- the column of a description; an oid that isn't known is the type `unknown`
abbrev pub described_field : FieldDescription → Field
described_field told = record {
  name = told.name;
  table_id = Some told.table_id;
  column_id = Some told.column_id;
  datatype = unwrap_or (type_of_oid told.type_id) Unknown;
  format = format_of_code told.format_code;
  format_options = default_options;
  type_size = told.type_size;
  type_modifier = told.type_modifier;
}
