use Rattle.std.proofs.Common.{◌≡◌, ◌∷◌, [], ◌++◌, length, ⊎_elim, w32, rules, ap, subst, sym, ◌∙◌}
use mir.Val.{to_z, of_z}
use Rattle.std.proofs.lemmas.Result.{err_from_is_err_and}
use Rattle.pg_cancel.specs.declared.entries.RegistryCall.TheVariants.{Register, Start, Ask, Cancel, Narrow, Unregister}
use Rattle.pg_cancel.specs.declared.entries.RegistryAnswer.TheVariants.{Registered, Taken, Done, Yes, No}
use Rattle.pg_cancel.specs.LegalHistory.{IsLegal, IsLive, IsAnswer, entry_number, entry_of}
use Rattle.pg_cancel.specs.Index.{IsIndexOf, IsCaller, Notes}
use Rattle.pg_cancel.proofs.Histories.{IsLegal-push, entry_follows, determined, answered_when, registered_lives, stays_live}
use Rattle.pg_cancel.proofs.Noting.{may_ask}
use Rattle.pg_cancel.proofs.history.Registry.apply.Goals as goal
use Rattle.pg_cancel.proofs.history.Registry.apply.Goals.{After-push_reserved}

was_legal : (c : After-push_reserved) → IsLegal c.args.self.now
was_legal c = subst IsLegal c.self.view_is c.self.invariant.0

-- how many entries there were
place : (c : After-push_reserved) → c.len-place.result ≡ length c.args.self.now
place c =
    let same : c.deref.result.now ≡ c.args.self.now = c.deref.ensures.value ∙ c.reserve.ensures.items ∙ c.self.view_is in
    c.len-place.ensures ∙ (sym c.deref.ensures.len ∙ ap length same)

-- what the index says of the history as it was
notes : (c : After-push_reserved) → Notes c.args.self.now c.args.number c.args.call c.answer.new.self c.in_ok-answer.answer
notes c =
    let h = c.args.self.now in
    let pid : to_z w32 (of_z w32 c.caller_pid-pid.result) ≡ c.caller_pid-pid.result = search rules in
    let same : c.deref.result.now ≡ h = c.deref.ensures.value ∙ c.reserve.ensures.items ∙ c.self.view_is in
    let caller = subst (λ x. IsCaller x c.args.number c.caller_pid-pid.result c.args.call) same c.caller_pid-pid.ensures in
    let index = subst (λ x. IsIndexOf x c.self.inside.holders) c.self.view_is c.self.invariant.1 in
    c.in_ok-answer.ensures.ok h c.args.number (was_legal c) index (place c)
    (subst (λ p. IsCaller h c.args.number p c.args.call) (sym pid) caller)

items : (c : After-push_reserved) → c.push_reserved.new.self.items
    ≡ c.args.self.now ++ entry_of c.args.self.now c.args.number c.args.call c.in_ok-answer.answer ∷ []
items c =
    let number : c.entry_number-number.result ≡ entry_number c.args.self.now c.args.number c.args.call =
    c.entry_number-number.ensures c.args.self.now (place c) in
    let before : c.reserve.new.self.items ≡ c.args.self.now = c.reserve.ensures.items ∙ c.self.view_is in
    rw (c.push_reserved.ensures.items, number, before)

legal : (c : After-push_reserved) → IsLegal c.push_reserved.new.self.items
legal c =
    let h = c.args.self.now in
    let may = entry_follows h c.args.number c.args.call c.in_ok-answer.answer c.requires (notes c).told in
    subst IsLegal (sym (items c)) (IsLegal-push h (entry_of h c.args.number c.args.call c.in_ok-answer.answer) (was_legal c) may)

pub answer-requires : goal.answer-requires
answer-requires c =
    let h = c.args.self.now in
    let pid : to_z w32 (of_z w32 c.caller_pid-pid.result) ≡ c.caller_pid-pid.result = search rules in
    let same : c.deref.result.now ≡ h = c.deref.ensures.value ∙ c.reserve.ensures.items ∙ c.self.view_is in
    let caller = subst (λ x. IsCaller x c.args.number c.caller_pid-pid.result c.args.call) same c.caller_pid-pid.ensures in
    let index = subst (λ x. IsIndexOf x c.self.inside.holders) c.self.view_is c.self.invariant.1 in
    may_ask h c.args.number _ c.args.call c.self.inside.holders index
    (subst (λ p. IsCaller h c.args.number p c.args.call) (sym pid) caller)

pub invariant_of-self-2 : goal.invariant_of-self-2
invariant_of-self-2 c =
    (legal c, subst (λ h. IsIndexOf h c.answer.new.self) (sym (items c)) (notes c).noted)

pub invariant_of-self : goal.invariant_of-self
invariant_of-self c =
    let same = sym c.reserve.ensures.items in
    (subst IsLegal same c.self.invariant.0, subst (λ h. IsIndexOf h c.self.inside.holders) same c.self.invariant.1)

pub returns-in_err-reserve : goal.returns-in_err-reserve
returns-in_err-reserve c =
    let p = err_from_is_err_and c.from_residual.result c.from_residual.ensures.1 in
    let same : c.reserve.new.self.items ≡ c.args.self.now = c.reserve.ensures.items ∙ c.self.view_is in
    rw p.1 (record {
      entry = tt;
      legal = subst IsLegal (sym c.reserve.ensures.items) c.self.invariant.0;
      err = same;
      answer = tt;
      determined = tt;
      registered = λ pid key is. tt;
      taken = λ pid key m is. tt;
      ask_yes = λ is. tt;
      ask_no = λ is. tt;
      cancel_yes = λ pid key is. tt;
      cancel_no = λ pid key is. tt;
      done = λ either. tt;
      lives = λ no. absurd (cc (no));
      stays = λ n live other. subst (λ h. IsLive h n) (sym same) live;
    })

pub returns-in_err-answer : goal.returns-in_err-answer
returns-in_err-answer c =
    let p = err_from_is_err_and c.from_residual-in_err-answer.result c.from_residual-in_err-answer.ensures.1 in
    let same : c.reserve.new.self.items ≡ c.args.self.now = c.reserve.ensures.items ∙ c.self.view_is in
    rw p.1 (record {
      entry = tt;
      legal = subst IsLegal (sym c.reserve.ensures.items) c.self.invariant.0;
      err = same;
      answer = tt;
      determined = tt;
      registered = λ pid key is. tt;
      taken = λ pid key m is. tt;
      ask_yes = λ is. tt;
      ask_no = λ is. tt;
      cancel_yes = λ pid key is. tt;
      cancel_no = λ pid key is. tt;
      done = λ either. tt;
      lives = λ no. absurd (cc (no));
      stays = λ n live other. subst (λ h. IsLive h n) (sym same) live;
    })

pub returns-clause-entry : goal.returns-clause-entry
returns-clause-entry c = items c

pub returns-clause-legal : goal.returns-clause-legal
returns-clause-legal c = legal c

pub returns-clause-answer : goal.returns-clause-answer
returns-clause-answer c = (notes c).told

pub returns-clause-determined : goal.returns-clause-determined
returns-clause-determined c = λ other is.
    determined c.args.self.now c.args.number c.args.call other c.in_ok-answer.answer (was_legal c) is (notes c).told

pub returns-clause-registered : goal.returns-clause-registered
returns-clause-registered c = λ pid key same.
    answered_when c.args.self.now c.args.number c.args.call (Register pid key) c.in_ok-answer.answer Registered (was_legal c) (notes c).told
    same

pub returns-clause-taken : goal.returns-clause-taken
returns-clause-taken c = λ pid key m same.
    answered_when c.args.self.now c.args.number c.args.call (Register pid key) c.in_ok-answer.answer (Taken m) (was_legal c) (notes c).told
    same

pub returns-clause-ask_yes : goal.returns-clause-ask_yes
returns-clause-ask_yes c = λ same.
    answered_when c.args.self.now c.args.number c.args.call Ask c.in_ok-answer.answer Yes (was_legal c) (notes c).told same

pub returns-clause-ask_no : goal.returns-clause-ask_no
returns-clause-ask_no c = λ same.
    answered_when c.args.self.now c.args.number c.args.call Ask c.in_ok-answer.answer No (was_legal c) (notes c).told same

pub returns-clause-cancel_yes : goal.returns-clause-cancel_yes
returns-clause-cancel_yes c = λ pid key same.
    answered_when c.args.self.now c.args.number c.args.call (Cancel pid key) c.in_ok-answer.answer Yes (was_legal c) (notes c).told same

pub returns-clause-cancel_no : goal.returns-clause-cancel_no
returns-clause-cancel_no c = λ pid key same.
    answered_when c.args.self.now c.args.number c.args.call (Cancel pid key) c.in_ok-answer.answer No (was_legal c) (notes c).told same

pub returns-clause-done : goal.returns-clause-done
returns-clause-done c =
    let h = c.args.self.now in
    let n = c.args.number in
    let call = c.args.call in
    let a = c.in_ok-answer.answer in
    let told = (notes c).told in
    λ either. ⊎_elim
    (λ same. (answered_when h n call Start a Done (was_legal c) told same).1 tt)
    (λ rest. ⊎_elim
    (λ same. (answered_when h n call Narrow a Done (was_legal c) told same).1 tt)
    (λ same. (answered_when h n call Unregister a Done (was_legal c) told same).1 tt)
    rest)
    either

pub returns-clause-lives : goal.returns-clause-lives
returns-clause-lives c = λ ok.
    let h = c.args.self.now in
    let answer : c.in_ok-answer.answer ≡ Registered = cc (ok) in
    let told : IsAnswer h c.args.number c.args.call Registered =
    subst (λ a. IsAnswer h c.args.number c.args.call a) answer (notes c).told in
    let lives : IsLive (h ++ entry_of h c.args.number c.args.call c.in_ok-answer.answer ∷ []) (length h) =
    subst (λ a. IsLive (h ++ entry_of h c.args.number c.args.call a ∷ []) (length h)) (sym answer)
    (registered_lives h c.args.number c.args.call told) in
    subst (λ xs. IsLive xs (length h)) (sym (items c)) lives

pub returns-clause-stays : goal.returns-clause-stays
returns-clause-stays c = λ n live other.
    subst (λ h. IsLive h n) (sym (items c)) (stays_live c.args.self.now c.args.number n c.args.call c.in_ok-answer.answer other live)
