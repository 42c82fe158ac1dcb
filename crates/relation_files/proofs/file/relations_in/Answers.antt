use Rattle.std.proofs.Common.{◌≡◌, ◌==◌, ◌∷◌, ◌++◌, ◌+◌, [], length, ◌∙◌, refl, sym, ap, subst, rules, tests}
use Rattle.std.specs.List.{slice_split}
use Rattle.std.specs.Str.Lines.{strip_carriage_return}
use Rattle.std.proofs.lemmas.List.{length_push}
use Rattle.std.proofs.lemmas.Iterator.Consumers.{YieldsList-turn, YieldsList-end}
use Rattle.std.proofs.lemmas.Iterator.Splits.{YieldsList-from_slice_split}
use Rattle.relation_files.specs.Lines.{lines_of}
use Rattle.relation_files.specs.Told.{relations_of}
use Rattle.relation_files.specs.Refusal.{first_bad_line}
use Rattle.relation_files.specs.Reader.{after, all_after, reason_at, IsReason, IsRefusedFor}
use Rattle.relation_files.proofs.Blocks.{all_after-nothing}
use Rattle.relation_files.proofs.Steps.{bad_line_after, all_after-taken, bad_line-next, bad_line-taken, refused-at, all_after-end, bad_line-end}
use Rattle.relation_files.proofs.file.relations_in.Goals as goal

pub loop-line-init : goal.loop-line-init
loop-line-init c = record {
  count = refl;
  told = ap (λ s. all_after s (lines_of c.args.text.now)) c.new-reader.ensures ∙ all_after-nothing (lines_of c.args.text.now);
  first = ap (λ s. bad_line_after 1 s (lines_of c.args.text.now)) c.new-reader.ensures;
}

pub loop-line-preserved : goal.loop-line-preserved
loop-line-preserved c =
    let parts = slice_split (λ byte. byte == 10) c.args.text.now in
    let here = YieldsList-turn (YieldsList-from_slice_split _ (λ byte. byte == 10) c.args.text.now (cc) (cc) (cc) (λ x b q k. search (
      rules,
      tests,
    )))
    c.loop-line.yielded _ c.loop-line.yielded_by _ _ c.in-Some.line c.in-Some.is c.next.ensures.steps in
    let n = length c.loop-line.yielded in
    let m = length (c.loop-line.yielded ++ c.in-Some.line ∷ []) in
    let count = length_push c.loop-line.yielded c.in-Some.line in
    let taken : c.take.new.self ≡ after c.loop-line.reader (strip_carriage_return c.in-Some.line.now) =
    c.in_default.ensures.taken ∙ ap (λ l. after c.loop-line.reader l) c.without_return.ensures in
    record {
      count = ap (λ k. k + 1) c.loop-line.invariant.count ∙ sym count;
      told = all_after-taken parts n m c.in-Some.line.now c.loop-line.reader c.take.new.self (relations_of (lines_of c.args.text.now)) here
          count taken
          c.loop-line.invariant.told;
      first = bad_line-taken parts n m c.in-Some.line.now c.loop-line.reader c.take.new.self (first_bad_line (lines_of c.args.text.now))
          here count taken
          (ap (λ l. reason_at c.loop-line.reader l) (sym c.without_return.ensures) ∙ c.in_default.ensures.good) c.loop-line.invariant.first;
    }

pub returns-in-Err-clause-refused : goal.returns-in-Err-clause-refused
returns-in-Err-clause-refused c =
    let parts = slice_split (λ byte. byte == 10) c.args.text.now in
    let here = YieldsList-turn (YieldsList-from_slice_split _ (λ byte. byte == 10) c.args.text.now (cc) (cc) (cc) (λ x b q k. search (
      rules,
      tests,
    )))
    c.loop-line.yielded _ c.loop-line.yielded_by _ _ c.in-Some.line c.in-Some.is c.next.ensures.steps in
    let n = length c.loop-line.yielded in
    let reason = subst (λ l. IsReason c.in-Err.error (reason_at c.loop-line.reader l)) c.without_return.ensures c.in-Err.ensures.refused in
    subst (λ e. IsRefusedFor e (first_bad_line (lines_of c.args.text.now))) (sym c.at.ensures)
    (refused-at c.in-Err.error (c.loop-line.number + 1) (n + 1) (reason_at c.loop-line.reader (strip_carriage_return c.in-Some.line.now)) _
    (first_bad_line (lines_of c.args.text.now)) (ap (λ k. k + 1) c.loop-line.invariant.count) reason
    (bad_line-next parts n (n + 1) c.in-Some.line.now c.loop-line.reader (first_bad_line (lines_of c.args.text.now)) here refl
    c.loop-line.invariant.first))

pub returns-clause-told : goal.returns-clause-told
returns-clause-told c =
    let parts = slice_split (λ byte. byte == 10) c.args.text.now in
    let end = YieldsList-end (YieldsList-from_slice_split _ (λ byte. byte == 10) c.args.text.now (cc) (cc) (cc) (λ x b q k. search (
      rules,
      tests,
    )))
    c.loop-line.yielded _ c.loop-line.yielded_by _ _ c.in-None.is c.next.ensures.steps in
    c.in_ok-finish.ensures
    ∙ all_after-end parts (length c.loop-line.yielded) c.loop-line.reader (relations_of (lines_of c.args.text.now)) end.1
    c.loop-line.invariant.told

pub returns-clause-good : goal.returns-clause-good
returns-clause-good c =
    let parts = slice_split (λ byte. byte == 10) c.args.text.now in
    let end = YieldsList-end (YieldsList-from_slice_split _ (λ byte. byte == 10) c.args.text.now (cc) (cc) (cc) (λ x b q k. search (
      rules,
      tests,
    )))
    c.loop-line.yielded _ c.loop-line.yielded_by _ _ c.in-None.is c.next.ensures.steps in
    bad_line-end parts (length c.loop-line.yielded) c.loop-line.reader (first_bad_line (lines_of c.args.text.now)) end.1
    c.loop-line.invariant.first
