use Rattle.std.proofs.Common.{length, sym, ◌∙◌}
use Rattle.std.proofs.lemmas.Bool.{eqb-false}
use Rattle.relation_files.proofs.Polls.{are_digits-some}
use Rattle.relation_files.proofs.header.says_number.Goals as goal

pub returns-then-not-is_empty : goal.returns-then-not-is_empty
returns-then-not-is_empty c =
    c.has_digits.ensures ∙ are_digits-some c.args.bytes.now (eqb-false (length c.args.bytes.now) 0 (sym c.if-not-is_empty.ensures))
