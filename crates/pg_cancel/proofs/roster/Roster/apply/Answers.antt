use Rattle.std.proofs.Common.{◌≡◌, ◌+◌, ◌∷◌, ◌++◌, [], length, Some, None, w32, rules, arith, length-append, ap, sym, subst, ◌∙◌}
use mir.Val.{to_z, of_z}
use Rattle.pg_cancel.specs.LegalHistory.{entry_of}
use Rattle.pg_cancel.specs.Index.{IsCaller}
use Rattle.pg_cancel.proofs.Histories.{last_pushed}
use Rattle.pg_cancel.proofs.roster.Roster.apply.Goals as goal

pub returns-clause-ok : goal.returns-clause-ok
returns-clause-ok c =
    λ h legal roster caller.
    let before = c.args.self.now in
    let answer = c.in_ok-answer.answer in
    let e = entry_of h c.args.number c.args.call answer in
    let place : before.count ≡ length h = roster.count in
    let pid : to_z w32 (of_z w32 c.args.pid) ≡ c.args.pid = search rules in
    let notes = c.in_ok-answer.ensures.ok h c.args.number legal roster.index place
    (subst (λ p. IsCaller h c.args.number p c.args.call) (sym pid) caller) in
    let more : length (h ++ e ∷ []) ≡ length h + 1 = length-append h (e ∷ []) in
    record {
      told = notes.told;
      right = record {
        index = notes.noted;
        count = omega (arith, place, more);
        few = omega (arith, c.if-self-ge-MOST_ENTRIES.false);
        last = ap (λ n. Some (record { number = n; call = c.args.call; answer = answer })) (c.entry_number-number.ensures h place)
            ∙ sym (last_pushed None h e);
      };
    }
