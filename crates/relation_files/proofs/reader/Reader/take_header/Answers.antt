use Rattle.std.proofs.Common.{◌≡◌, ◌<◌, ◌==◌, ◌∙◌, ℕ, false, List, length, sym, ap, subst, None, IfErr, arith, rules}
use Rattle.std.proofs.lemmas.Bool.{ne_eqb}
use Rattle.std.specs.Option.{is_some}
use Rattle.std.specs.FinMap as fin
use Rattle.relation_files.specs.Refusal.{is_among}
use Rattle.relation_files.specs.Reader.{IsReason, names_of}
use Rattle.relation_files.proofs.Taken.{reason_at-header, taken-insert}
use Rattle.relation_files.proofs.reader.Reader.take_header.Goals as goal

-- a line of some bytes, as its header's reason takes it
filled : (line : List ℕ) → 0 < length line → (length line == 0) ≡ false
filled line some = ne_eqb (length line) 0 (λ e. omega arith)

pub returns-in_err-relation-clause-refused : goal.returns-in_err-relation-clause-refused
returns-in_err-relation-clause-refused c =
    let reason = reason_at-header c.args.self.now (λ name. is_some (fin.get c.self.inside.taken name)) c.args.line.now
    (filled c.args.line.now c.requires.filled) c.requires.closed
    (λ name. c.self.invariant name ∙ ap (λ s. is_among (names_of s) name) c.self.view_is) in
    subst (λ o. IfErr c.from_residual.result (λ error. IsReason error o)) (sym reason) (search rules)

pub returns-clause-good : goal.returns-clause-good
returns-clause-good c =
    reason_at-header c.args.self.now (λ name. is_some (fin.get c.self.inside.taken name)) c.args.line.now
    (filled c.args.line.now c.requires.filled) c.requires.closed
    (λ name. c.self.invariant name ∙ ap (λ s. is_among (names_of s) name) c.self.view_is)
    ∙ c.in_ok-relation.ensures.good

pub invariant_of-self-2 : goal.invariant_of-self-2
invariant_of-self-2 c = λ name.
    let closed : c.self.inside.current ≡ None = cc in
    ap (λ m. is_some (fin.get m name)) (c.in_ok-put.ensures.ok
    ∙ ap (λ n. fin.insert c.self.inside.taken n _) (c.in_ok-copy_of.ensures ∙ c.as_str.ensures))
    ∙ taken-insert c.self.inside.taken _ c.self.inside.closed.items c.self.inside.current c.in_ok-relation.relation closed c.self.invariant
    name
