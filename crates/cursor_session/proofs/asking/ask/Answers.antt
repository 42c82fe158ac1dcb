use Rattle.std.proofs.Common.{◌≡◌, ◌∷◌, ◌++◌, ◌-◌, List, [], Option, Some, None, Ok, ap, sym, subst, ◌∙◌, length, drop, arith}
use Rattle.std.specs.Option.{option_to_list}
use Rattle.std.proofs.lemmas.List.{nil_from_length, length-drop}
use Rattle.conversation_runs.specs.Steps.{IsResponse}
use Rattle.cursor_session.proofs.InTurn.{AreAsked, asked_none, asked_next, asked_ends, asked_fails, asked_all, given_next}
use Rattle.cursor_session.proofs.asking.ask.Goals as goal

-- the element that was taken off the front, and those that are left
popped : {A : Type 0} (r : Option A) (m : A) (old new : List A) → r ≡ Some m → old ≡ option_to_list r ++ new → old ≡ m ∷ new
popped r m old new is e = subst (λ r. old ≡ option_to_list r ++ new) is e

none_left : {A : Type 0} (old new : List A) → old ≡ new → new ≡ drop 1 old → old ≡ []
none_left old new same rest =
    let less = ap length (same ∙ rest) ∙ length-drop 1 old in nil_from_length old (omega (arith, less))

pub messages-init : goal.messages-init
messages-init g c =
    asked_none g.C.FrontedSession.told c.args.messages.items (g.C.FrontedSession.seen c.args.inner.now) (g.D.CancelDesk.told c.args.desk.now)
    c.args.turns.now c.requires.open c.requires.typed c.requires.sent

pub answer-requires-clause-open : goal.answer-requires-clause-open
answer-requires-clause-open g c = c.messages.invariant.opened

pub answer-requires-clause-given : goal.answer-requires-clause-given
answer-requires-clause-given g c =
    let old = g.C.FrontedSession.seen c.args.inner.now in let now = g.C.FrontedSession.seen c.messages.inner in
    let desk = g.D.CancelDesk.told c.args.desk.now in let mid = g.D.CancelDesk.told c.messages.desk in
    let all = c.args.messages.items in let left = c.pop_front.new.self.items in
    let before = c.args.turns.now in let turns = c.messages.turns in
    let m = c.in-Some.message in
    let asked : AreAsked g.C.FrontedSession.told all (m ∷ left) old now desk mid before turns =
    subst (λ l. AreAsked g.C.FrontedSession.told all l old now desk mid before turns) (popped c.pop_front.result m c.messages.messages.items
    left c.in-Some.is c.pop_front.ensures.items) c.messages.invariant in
    given_next g.C.FrontedSession.told all left m old now desk mid before turns asked

pub messages-preserved : goal.messages-preserved
messages-preserved g c =
    let old = g.C.FrontedSession.seen c.args.inner.now in let now = g.C.FrontedSession.seen c.messages.inner in
    let desk = g.D.CancelDesk.told c.args.desk.now in let mid = g.D.CancelDesk.told c.messages.desk in
    let all = c.args.messages.items in let left = c.pop_front.new.self.items in
    let before = c.args.turns.now in let turns = c.messages.turns in
    let m = c.in-Some.message in
    let asked : AreAsked g.C.FrontedSession.told all (m ∷ left) old now desk mid before turns =
    subst (λ l. AreAsked g.C.FrontedSession.told all l old now desk mid before turns) (popped c.pop_front.result m c.messages.messages.items
    left c.in-Some.is c.pop_front.ensures.items) c.messages.invariant in
    let new = g.C.FrontedSession.seen c.answer.new.self in
    let new_desk = g.D.CancelDesk.told c.answer.new.desk in
    let after = c.answer.new.turns in
    asked_next g.C.FrontedSession.told all left m old now new desk mid new_desk before turns after asked
    (subst (λ k. IsResponse g.C.FrontedSession.told m now new mid new_desk turns after (Ok k)) c.in-Ok-None.field-0-is c.in-Ok-None.ensures)

pub returns-in-Ok-Some : goal.returns-in-Ok-Some
returns-in-Ok-Some g c =
    let old = g.C.FrontedSession.seen c.args.inner.now in let now = g.C.FrontedSession.seen c.messages.inner in
    let desk = g.D.CancelDesk.told c.args.desk.now in let mid = g.D.CancelDesk.told c.messages.desk in
    let all = c.args.messages.items in let left = c.pop_front.new.self.items in
    let before = c.args.turns.now in let turns = c.messages.turns in
    let m = c.in-Some.message in
    let asked : AreAsked g.C.FrontedSession.told all (m ∷ left) old now desk mid before turns =
    subst (λ l. AreAsked g.C.FrontedSession.told all l old now desk mid before turns) (popped c.pop_front.result m c.messages.messages.items
    left c.in-Some.is c.pop_front.ensures.items) c.messages.invariant in
    let new = g.C.FrontedSession.seen c.answer.new.self in
    let new_desk = g.D.CancelDesk.told c.answer.new.desk in
    let after = c.answer.new.turns in
    asked_ends g.C.FrontedSession.told all left m old now new desk mid new_desk before turns after asked c.in-Ok-Some.kind
    (subst (λ k. IsResponse g.C.FrontedSession.told m now new mid new_desk turns after (Ok k)) c.in-Ok-Some.field-0-is c.in-Ok-Some.ensures)

pub returns-in-Err : goal.returns-in-Err
returns-in-Err g c =
    let old = g.C.FrontedSession.seen c.args.inner.now in let now = g.C.FrontedSession.seen c.messages.inner in
    let desk = g.D.CancelDesk.told c.args.desk.now in let mid = g.D.CancelDesk.told c.messages.desk in
    let all = c.args.messages.items in let left = c.pop_front.new.self.items in
    let before = c.args.turns.now in let turns = c.messages.turns in
    let m = c.in-Some.message in
    let asked : AreAsked g.C.FrontedSession.told all (m ∷ left) old now desk mid before turns =
    subst (λ l. AreAsked g.C.FrontedSession.told all l old now desk mid before turns) (popped c.pop_front.result m c.messages.messages.items
    left c.in-Some.is c.pop_front.ensures.items) c.messages.invariant in
    let new = g.C.FrontedSession.seen c.answer.new.self in
    let new_desk = g.D.CancelDesk.told c.answer.new.desk in
    let after = c.answer.new.turns in
    asked_fails g.C.FrontedSession.told all left m old now new desk mid new_desk before turns after asked c.in-Err.error c.in-Err.ensures

pub returns : goal.returns
returns g c =
    let old = g.C.FrontedSession.seen c.args.inner.now in let now = g.C.FrontedSession.seen c.messages.inner in
    let desk = g.D.CancelDesk.told c.args.desk.now in let mid = g.D.CancelDesk.told c.messages.desk in
    let all = c.args.messages.items in
    let none = none_left c.messages.messages.items c.pop_front.new.self.items c.in_default.ensures.items c.in_default.ensures.rest in
    asked_all g.C.FrontedSession.told all old now desk mid c.args.turns.now c.messages.turns
    (subst (λ l. AreAsked g.C.FrontedSession.told all l old now desk mid c.args.turns.now c.messages.turns) none c.messages.invariant)
