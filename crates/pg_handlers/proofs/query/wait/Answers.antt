use Rattle.std.proofs.Common.{rules, arith, ◌≡◌, ◌+◌, ◌++◌, ◌∷◌, ◌≤◌, [], ℕ, Bool, true, false, inl, inr, refl, ap, sym, subst, ◌∙◌}
use Rattle.std.proofs.lemmas.Result.{err_from_is_err_and}
use Rattle.pg_client.specs.declared.desk.DeskCall.TheVariants as desk
use Rattle.pg_client.specs.Desk.{DeskTold, KeepsDesk, after_calls}
use Rattle.conversation_table.specs.Questions.{Passed, Canceled, Unanswered, IsAsked, questions_since}
use Rattle.pg_client.proofs.Desks.{keeps_none, keeps_after, keeps_then}
use Rattle.conversation_table.proofs.Asking.{verdict_at, begins_waiting, asked_so_far, passed, unanswered, canceled, spent_so_far, spent_in_vain, spent_at_yes, turns_are, ends_with_yes}
use Rattle.pg_handlers.proofs.Waiting.{unpolled, some_owed, asked_no, polled_unready}
use Rattle.pg_handlers.proofs.query.wait.Goals as goal

-- the question that was asked
asked_so : (old new : DeskTold) (told b : Bool) → new ≡ after_calls old (desk.Ask told ∷ []) → told ≡ b → new.calls ≡ old.calls ++ desk.Ask b ∷ []
asked_so old new told b e is = ap (λ d. d.calls) e ∙ ap (λ y. old.calls ++ desk.Ask y ∷ []) is

-- no turn was left, and none was spent
none_left : (spent limit last first : ℕ) → spent ≡ last → limit ≤ last → limit ≡ first → first ≤ spent
none_left spent limit last first kept none same = omega (arith, kept, none, same)

still_bounded : (spent limit last before : ℕ) → spent ≡ last → limit ≡ before → last ≤ before → spent ≤ limit
still_bounded spent limit last before kept same h = omega (arith, kept, same, h)

pub loop-desk-init : goal.loop-desk-init
loop-desk-init g c = record {
  so_far = begins_waiting (unpolled (g.Q.QueryState.told c.args.query.now)) (g.D.CancelDesk.told c.args.desk.now).calls c.args.turns.now
      c.requires;
  bounded = λ h. h;
  keeps = keeps_none _;
}

pub loop-desk-preserved : goal.loop-desk-preserved
loop-desk-preserved g c =
    let told = g.Q.QueryState.told in let desk = g.D.CancelDesk.told in
    let first = unpolled (told c.args.query.now) in
    let polled = rw c.in-Ok-Unready.field-0-is at c.in-Ok-Unready.ensures in
    let asked = asked_no first (told c.loop-desk.query) (desk c.args.desk.now).calls (desk c.loop-desk.desk).calls c.args.turns.now
    c.loop-desk.turns c.loop-desk.invariant.so_far (desk c.ask.new.self).calls c.spend.new.self
    (asked_so (desk c.loop-desk.desk) (desk c.ask.new.self) _ false c.in_ok-ask.ensures.ok c.if-branch.false)
    c.if-not-spend.ensures.spent c.if-not-spend.ensures.limit in
    record {
      so_far = polled_unready first (told c.loop-desk.query) (desk c.args.desk.now).calls (desk c.ask.new.self).calls c.args.turns.now
          c.spend.new.self asked (told c.poll.new.self) polled.0 polled.1;
      bounded = λ h. search rules;
      keeps = keeps_then _ _ _ c.loop-desk.invariant.keeps (keeps_after _ _ _ c.in_ok-ask.ensures.ok);
    }

pub returns-in-Err-clause-asked : goal.returns-in-Err-clause-asked
returns-in-Err-clause-asked g c =
    let told = g.Q.QueryState.told in let desk = g.D.CancelDesk.told in
    let first = unpolled (told c.args.query.now) in
    let asked = asked_no first (told c.loop-desk.query) (desk c.args.desk.now).calls (desk c.loop-desk.desk).calls c.args.turns.now
    c.loop-desk.turns c.loop-desk.invariant.so_far (desk c.ask.new.self).calls c.spend.new.self
    (asked_so (desk c.loop-desk.desk) (desk c.ask.new.self) _ false c.in_ok-ask.ensures.ok c.if-branch.false)
    c.if-not-spend.ensures.spent c.if-not-spend.ensures.limit in (
      verdict_at (told c.loop-desk.query).owes,
      asked_so_far first (told c.loop-desk.query) (desk c.args.desk.now).calls (desk c.ask.new.self).calls c.args.turns.now
          c.spend.new.self asked,
      inr refl,
    )

pub returns-in-Err-clause-waited : goal.returns-in-Err-clause-waited
returns-in-Err-clause-waited g c =
    let told = g.Q.QueryState.told in let desk = g.D.CancelDesk.told in
    let first = unpolled (told c.args.query.now) in
    let asked = asked_no first (told c.loop-desk.query) (desk c.args.desk.now).calls (desk c.loop-desk.desk).calls c.args.turns.now
    c.loop-desk.turns c.loop-desk.invariant.so_far (desk c.ask.new.self).calls c.spend.new.self
    (asked_so (desk c.loop-desk.desk) (desk c.ask.new.self) _ false c.in_ok-ask.ensures.ok c.if-branch.false)
    c.if-not-spend.ensures.spent c.if-not-spend.ensures.limit in
    record {
      caused = tt;
      turns =
          inl (spent_so_far first (told c.loop-desk.query) (desk c.args.desk.now).calls (desk c.ask.new.self).calls c.args.turns.now
          c.spend.new.self asked);
      bounded = λ h. search rules;
      keeps = keeps_then _ _ _ c.loop-desk.invariant.keeps (keeps_after _ _ _ c.in_ok-ask.ensures.ok);
    }

pub returns-in-Ok-Ready-clause-asked : goal.returns-in-Ok-Ready-clause-asked
returns-in-Ok-Ready-clause-asked g c =
    let told = g.Q.QueryState.told in let desk = g.D.CancelDesk.told in
    let first = unpolled (told c.args.query.now) in
    let polled = rw c.in-Ok-Ready.field-0-is at c.in-Ok-Ready.ensures in
    let asked = asked_no first (told c.loop-desk.query) (desk c.args.desk.now).calls (desk c.loop-desk.desk).calls c.args.turns.now
    c.loop-desk.turns c.loop-desk.invariant.so_far (desk c.ask.new.self).calls c.spend.new.self
    (asked_so (desk c.loop-desk.desk) (desk c.ask.new.self) _ false c.in_ok-ask.ensures.ok c.if-branch.false)
    c.if-not-spend.ensures.spent c.if-not-spend.ensures.limit in (
      Passed,
      passed first (told c.loop-desk.query) (desk c.args.desk.now).calls (desk c.ask.new.self).calls c.args.turns.now c.spend.new.self
          asked polled.0,
      (refl, polled.1 ∙ asked.outcome),
    )

pub returns-in-Ok-Ready-clause-waited : goal.returns-in-Ok-Ready-clause-waited
returns-in-Ok-Ready-clause-waited g c =
    let told = g.Q.QueryState.told in let desk = g.D.CancelDesk.told in
    let first = unpolled (told c.args.query.now) in
    let asked = asked_no first (told c.loop-desk.query) (desk c.args.desk.now).calls (desk c.loop-desk.desk).calls c.args.turns.now
    c.loop-desk.turns c.loop-desk.invariant.so_far (desk c.ask.new.self).calls c.spend.new.self
    (asked_so (desk c.loop-desk.desk) (desk c.ask.new.self) _ false c.in_ok-ask.ensures.ok c.if-branch.false)
    c.if-not-spend.ensures.spent c.if-not-spend.ensures.limit in
    record {
      caused = tt;
      turns =
          spent_so_far first (told c.loop-desk.query) (desk c.args.desk.now).calls (desk c.ask.new.self).calls c.args.turns.now
          c.spend.new.self asked;
      bounded = λ h. search rules;
      keeps = keeps_then _ _ _ c.loop-desk.invariant.keeps (keeps_after _ _ _ c.in_ok-ask.ensures.ok);
    }

pub returns-then-not-spend-clause-asked : goal.returns-then-not-spend-clause-asked
returns-then-not-spend-clause-asked g c =
    let told = g.Q.QueryState.told in (
      Unanswered,
      unanswered (unpolled (told c.args.query.now)) (unpolled (told c.loop-desk.query)) (g.D.CancelDesk.told c.args.desk.now).calls
          (g.D.CancelDesk.told c.loop-desk.desk).calls c.args.turns.now c.loop-desk.turns c.loop-desk.invariant.so_far
          (some_owed (told c.loop-desk.query)),
      refl,
    )

pub returns-then-not-spend-clause-waited : goal.returns-then-not-spend-clause-waited
returns-then-not-spend-clause-waited g c = record {
  caused = tt;
  turns =
      let told = g.Q.QueryState.told in
      let kept : c.spend.new.self.spent ≡ c.loop-desk.turns.spent = c.if-not-spend.ensures.kept in
      let limit : c.spend.new.self.limit ≡ c.loop-desk.turns.limit = c.if-not-spend.ensures.limit in
      let none : c.loop-desk.turns.limit ≤ c.loop-desk.turns.spent = search rules in
      let is = spent_so_far (unpolled (told c.args.query.now)) (unpolled (told c.loop-desk.query)) (g.D.CancelDesk.told c.args.desk.now).calls
      (g.D.CancelDesk.told c.loop-desk.desk).calls c.args.turns.now c.loop-desk.turns c.loop-desk.invariant.so_far in (
        turns_are c.spend.new.self _ _ (kept ∙ ap (λ t. t.spent) is) (limit ∙ ap (λ t. t.limit) is),
        none_left c.spend.new.self.spent c.loop-desk.turns.limit c.loop-desk.turns.spent c.args.turns.now.limit kept none (ap (λ t. t.limit) is),
      );
  bounded = λ h.
      still_bounded c.spend.new.self.spent c.spend.new.self.limit c.loop-desk.turns.spent c.loop-desk.turns.limit c.if-not-spend.ensures.kept
      c.if-not-spend.ensures.limit (c.loop-desk.invariant.bounded h);
  keeps = c.loop-desk.invariant.keeps;
}

pub returns-in_err-ask-clause-asked : goal.returns-in_err-ask-clause-asked
returns-in_err-ask-clause-asked g c =
    let told = g.Q.QueryState.told in
    let first = unpolled (told c.args.query.now) in
    let p = err_from_is_err_and c.from_residual.result c.from_residual.ensures.1 in (
      Unanswered,
      subst (λ calls. IsAsked first.owes (g.D.CancelDesk.told c.args.desk.now).calls calls Unanswered)
          (sym (ap (λ d. d.calls) c.in_err-ask.ensures.err))
          (unanswered first (unpolled (told c.loop-desk.query)) (g.D.CancelDesk.told c.args.desk.now).calls
          (g.D.CancelDesk.told c.loop-desk.desk).calls c.args.turns.now c.loop-desk.turns c.loop-desk.invariant.so_far
          (some_owed (told c.loop-desk.query))),
      rw (p.1, p.2) (inr refl),
    )

pub returns-in_err-ask-clause-waited : goal.returns-in_err-ask-clause-waited
returns-in_err-ask-clause-waited g c = record {
  caused =
      let p = err_from_is_err_and c.from_residual.result c.from_residual.ensures.1 in rw (p.1, p.2) tt;
  turns =
      let told = g.Q.QueryState.told in
      let p = err_from_is_err_and c.from_residual.result c.from_residual.ensures.1 in
      let is = spent_in_vain (unpolled (told c.args.query.now)) (unpolled (told c.loop-desk.query))
      (g.D.CancelDesk.told c.args.desk.now).calls
      (g.D.CancelDesk.told c.loop-desk.desk).calls c.args.turns.now c.loop-desk.turns c.loop-desk.invariant.so_far c.spend.new.self
      c.if-not-spend.ensures.spent c.if-not-spend.ensures.limit in
      rw (p.1, p.2) (inr (
        refl,
        is ∙ ap (λ calls. record {
          spent = c.args.turns.now.spent + questions_since (g.D.CancelDesk.told c.args.desk.now).calls calls + 1;
          limit = c.args.turns.now.limit;
        }) (sym (ap (λ d. d.calls) c.in_err-ask.ensures.err)),
      ));
  bounded = λ h. search rules;
  keeps = subst (KeepsDesk (g.D.CancelDesk.told c.args.desk.now)) (sym c.in_err-ask.ensures.err) c.loop-desk.invariant.keeps;
}

pub returns-then-branch-clause-asked : goal.returns-then-branch-clause-asked
returns-then-branch-clause-asked g c =
    let told = g.Q.QueryState.told in (
      Canceled,
      canceled (unpolled (told c.args.query.now)) (unpolled (told c.loop-desk.query)) (g.D.CancelDesk.told c.args.desk.now).calls
          (g.D.CancelDesk.told c.loop-desk.desk).calls c.args.turns.now c.loop-desk.turns c.loop-desk.invariant.so_far
          (g.D.CancelDesk.told c.ask.new.self).calls
          (asked_so (g.D.CancelDesk.told c.loop-desk.desk) (g.D.CancelDesk.told c.ask.new.self) _ true c.in_ok-ask.ensures.ok c.if-branch.true)
          (some_owed (told c.loop-desk.query)),
      inl (refl, refl),
    )

pub returns-then-branch-clause-waited : goal.returns-then-branch-clause-waited
returns-then-branch-clause-waited g c = record {
  caused =
      ends_with_yes (unpolled (g.Q.QueryState.told c.args.query.now)) (unpolled (g.Q.QueryState.told c.loop-desk.query))
      (g.D.CancelDesk.told c.args.desk.now).calls
      (g.D.CancelDesk.told c.loop-desk.desk).calls c.args.turns.now c.loop-desk.turns c.loop-desk.invariant.so_far
      (g.D.CancelDesk.told c.ask.new.self).calls
      (asked_so (g.D.CancelDesk.told c.loop-desk.desk) (g.D.CancelDesk.told c.ask.new.self) _ true c.in_ok-ask.ensures.ok c.if-branch.true);
  turns =
      inl (spent_at_yes (unpolled (g.Q.QueryState.told c.args.query.now)) (unpolled (g.Q.QueryState.told c.loop-desk.query))
      (g.D.CancelDesk.told c.args.desk.now).calls
      (g.D.CancelDesk.told c.loop-desk.desk).calls c.args.turns.now c.loop-desk.turns c.loop-desk.invariant.so_far
      (g.D.CancelDesk.told c.ask.new.self).calls
      (asked_so (g.D.CancelDesk.told c.loop-desk.desk) (g.D.CancelDesk.told c.ask.new.self) _ true c.in_ok-ask.ensures.ok c.if-branch.true)
      c.spend.new.self c.if-not-spend.ensures.spent c.if-not-spend.ensures.limit);
  bounded = λ h. search rules;
  keeps = keeps_then _ _ _ c.loop-desk.invariant.keeps (keeps_after _ _ _ c.in_ok-ask.ensures.ok);
}
