use Rattle.std.proofs.Common.{◌≡◌, ◌∷◌, ◌++◌, [], List, ℕ, length, drop, lit<, refl, ap, ◌∙◌}
use Rattle.std.proofs.lemmas.List.{length_push}
use Rattle.std.proofs.lemmas.Iterator.Consumers.{YieldsList-turn, YieldsList-end}
use Rattle.std.proofs.lemmas.Iterator.Splits.{YieldsList-from_str_split}
use Rattle.relation_files.specs.Lines.{fields_of}
use Rattle.relation_files.proofs.Fields.{push-left, left-all}
use Rattle.relation_files.proofs.header.copy_fields.Goals as goal

pub loop-field-preserved : goal.loop-field-preserved
loop-field-preserved c =
    let fields = fields_of c.args.text.now in
    let here = YieldsList-turn (YieldsList-from_str_split 9 c.args.text.now (lit< tt) (cc) (cc) (cc)) c.loop-field.yielded _
    c.loop-field.yielded_by _ _
    c.in-Some.field c.in-Some.is c.next.ensures.steps in
    let n = length c.loop-field.yielded in
    let m = length (c.loop-field.yielded ++ c.in-Some.field ∷ []) in
    let pushed : c.push.new.self ≡ c.loop-field.copies ++ c.in-Some.field.now ∷ [] =
    c.in_ok-push.ensures.ok ∙ ap (λ x. c.loop-field.copies ++ x ∷ []) c.in_ok-copy_of.ensures in
    ap (λ l. l ++ drop m fields) pushed
    ∙ push-left (λ (l : List (List ℕ)). l) c.loop-field.copies fields fields n m c.in-Some.field.now c.in-Some.field.now (λ l. refl)
    c.loop-field.invariant here
    (length_push c.loop-field.yielded c.in-Some.field)

pub returns : goal.returns
returns c =
    let fields = fields_of c.args.text.now in
    let end = YieldsList-end (YieldsList-from_str_split 9 c.args.text.now (lit< tt) (cc) (cc) (cc)) c.loop-field.yielded _
    c.loop-field.yielded_by _ _
    c.in-None.is c.next.ensures.steps in
    left-all (λ (l : List (List ℕ)). l) c.loop-field.copies fields fields (length c.loop-field.yielded) refl c.loop-field.invariant end.1
