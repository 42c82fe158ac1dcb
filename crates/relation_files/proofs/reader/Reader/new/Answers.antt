use Rattle.std.proofs.Common.{◌∙◌, sym, ap, None}
use Rattle.std.specs.Option.{is_some}
use Rattle.std.specs.FinMap as fin
use Rattle.relation_files.specs.Refusal.{is_among}
use Rattle.relation_files.specs.Reader.{names_of}
use Rattle.relation_files.proofs.reader.Reader.new.Goals as goal

pub invariant_of-result : goal.invariant_of-result
invariant_of-result c = λ name.
    ap (λ m. is_some (fin.get m name)) c.new.ensures
    ∙ ap is_some (fin.get-empty _ name)
    ∙ ap (λ rs. is_among (names_of (record { closed = rs; current = None })) name) (sym c.new-2.ensures.items)
