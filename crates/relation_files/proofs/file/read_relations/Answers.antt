use Rattle.std.proofs.Common.{◌≤◌, length, sym, ap, subst, arith}
use Rattle.relation_handlers.specs.Tables.{IsValid}
use Rattle.relation_files.specs.Lines.{lines_of}
use Rattle.relation_files.proofs.Valid.{IsValid-told, length-lines, length-relations}
use Rattle.relation_files.proofs.file.read_relations.Goals as goal

pub table_of-requires-clause-few : goal.table_of-requires-clause-few
table_of-requires-clause-few g c =
    let text = c.as_slice.result.now in
    let told = ap length c.in_ok-relations.ensures.told in
    let short : length text ≤ 67108864 = subst (λ l. length l ≤ 67108864) (sym c.as_slice.ensures.value) c.in_ok-text.ensures.within in
    omega (arith, told, length-relations (lines_of text), length-lines text, short)

pub table_of-requires-clause-valid : goal.table_of-requires-clause-valid
table_of-requires-clause-valid g c =
    let text = c.as_slice.result.now in
    subst (λ rs. IsValid rs) (sym c.in_ok-relations.ensures.told) (IsValid-told (lines_of text) c.in_ok-relations.ensures.good)
