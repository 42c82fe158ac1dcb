use Rattle.std.proofs.Common.{◌≡◌, ◌∷◌, None, Some, eqb, lit<, false, sym, ap, ◌∙◌}
use Rattle.std.specs.List.{slice_split, after_first}
use Rattle.std.proofs.lemmas.List.Elements.{All-from_get_or}
use Rattle.std.proofs.lemmas.List.Splits.{slice_split_none, slice_split_first}
use Rattle.std.proofs.lemmas.Bool.{ne_eqb}
use Rattle.std.proofs.lemmas.Str.Pattern.{split_parts, split_once_first}
use Rattle.relation_files.proofs.lines.first_field.Goals as goal

pub returns-in-None : goal.returns-in-None
returns-in-None c =
    let text = c.args.text.now in
    let apart = split_parts 9 text None c.in-None.ensures.cases (lit< tt) in
    slice_split_none (λ b. eqb b 9) text (All-from_get_or (λ b. eqb b 9 ≡ false) text 0 (λ i h. ne_eqb _ 9 (apart i h)))

pub returns-in-Some : goal.returns-in-Some
returns-in-Some c =
    let text = c.args.text.now in
    let cut = split_once_first 9 text (Some (c.in-Some.field, c.in-Some.others)) c.in-Some.ensures.cases (lit< tt) in
    slice_split_first (λ b. eqb b 9) text 0 cut.0
    ∙ ap (λ field. field ∷ slice_split (λ b. eqb b 9) (after_first (λ b. eqb b 9) text)) (sym cut.1)
    ∙ ap (λ others. c.in-Some.field.now ∷ slice_split (λ b. eqb b 9) others) (sym cut.2)
