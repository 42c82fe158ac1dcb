use Rattle.std.proofs.Common.{◌≡◌, pos, FitsSigned, w16, w32, rules}
use Rattle.std.specs.Prelude.{unwrap_or}
use Rattle.pg_types.specs.Types.{oid_of}
use Rattle.pg_types.specs.Formats.{format_code}
use Rattle.pg_replies.proofs.Pieces.{column_whole}
use Rattle.pg_replies.proofs.send.behind_name.Goals as goal

pub returns : goal.returns
returns c =
    let et : c.unwrap_or.result ≡ unwrap_or c.args.field.now.table_id (pos 0) = cc in
    let ec : c.unwrap_or-2.result ≡ unwrap_or c.args.field.now.column_id (pos 0) = cc in
    let ei : c.oid.result ≡ oid_of c.args.field.now.datatype = cc in
    let ef : c.value.result ≡ format_code c.args.field.now.format = cc in
    let table : FitsSigned w32 c.unwrap_or.result = search rules in
    let column : FitsSigned w16 c.unwrap_or-2.result = search rules in
    let size : FitsSigned w16 c.type_size.result = search rules in
    let modifier : FitsSigned w32 c.type_modifier.result = search rules in
    let format : FitsSigned w16 c.value.result = search rules in
    column_whole c.args.field.now c.unwrap_or.result c.unwrap_or-2.result c.type_size.result c.type_modifier.result c.value.result
    c.oid.result c.column_bytes.result table column size modifier format et ec ei c.type_size.ensures c.type_modifier.ensures ef
    c.column_bytes.ensures
