use Rattle.std.proofs.Common.{◌≡◌, ℕ, ◌<◌, ◌≤◌, List, ◌++◌, [], ◌⊎◌, ◌==◌, length, inl, inr, true, refl, sym, ap, subst, ◌∙◌, append-nil, arith}
use Rattle.std.proofs.lemmas.Bool.Decides.{nat_tests}
use Rattle.std.proofs.lemmas.List.{nil_from_length}
use Rattle.cursor_session.specs.Fronts.{FrontValue, IsBegun, IsBetween, IsPlaced, IsQuiet, around}
use Rattle.cursor_session.specs.Seen.{FrontTakes, front_seen}
use Rattle.cursor_session.proofs.Heads.{begun_more}
use Rattle.cursor_session.proofs.parts.Front.step.Goals as goal

-- a front within a frame, and one between two
within_frame : {H S : Type 0} (v : FrontValue H S) → IsPlaced v → 0 < v.owed
    → (v.held ≡ []) × IsBegun v.inner.state.info.state v.inner.rest v.owed
within_frame v (inl x) some = absurd (let none = x.0 in omega (arith, none, some))
within_frame v (inr x) some = (x.1, x.2)

between_frames : {H S : Type 0} (v : FrontValue H S) → IsQuiet v.inner → IsPlaced v → v.owed ≤ 0 → IsBetween v
between_frames v quiet (inl x) none = record { quiet = quiet; none = x.1; owed = x.0 }
between_frames v quiet (inr x) none = absurd (let some = x.0 in omega (arith, none, some))

none_held : (held : List ℕ) → true ≡ (length held == 0) → held ≡ []
none_held held e = nil_from_length held (grind (arith, nat_tests))

pub overflow_sub-owed : goal.overflow_sub-owed
overflow_sub-owed g c =
    let low = c.if-self-gt0.true in c.requires.part.within (λ e. omega (arith, e, low))

pub pass-requires : goal.pass-requires
pass-requires g c =
    let low = c.if-self-gt0.true in
    let x = within_frame (front_seen g.C.FrontedSession.seen c.args.self.now) c.requires.stands.placed low in
    record {
      quiet = c.requires.stands.quiet;
      held = x.0;
      begun = begun_more _ _ _ _ _ x.1 (let within = c.requires.part.within (λ e. omega (arith, e, low)) in omega (arith, low, within));
    }

pub returns-then-self-gt0 : goal.returns-then-self-gt0
returns-then-self-gt0 g c =
    let v = front_seen g.C.FrontedSession.seen c.args.self.now in
    let w = front_seen g.C.FrontedSession.seen c.pass.new.self in
    let a = around g.K.Sink.written g.K.Sink.faults g.K.Sink.origin g.D.CancelDesk.told c.args.sink.now c.args.desk.now c.args.turns.now in
    let b = around g.K.Sink.written g.K.Sink.faults g.K.Sink.origin g.D.CancelDesk.told c.pass.new.sink c.pass.new.desk c.pass.new.turns in
    let x = within_frame v c.requires.stands.placed c.if-self-gt0.true in
    subst (λ l. FrontTakes g.C.FrontedSession.told v l w a b c.pass.result)
    (ap (λ l. l ++ c.args.part.now) (sym (ap (λ l. v.inner.rest ++ l) x.0 ∙ append-nil v.inner.rest))) c.pass.ensures

pub begin-requires-clause-between : goal.begin-requires-clause-between
begin-requires-clause-between g c =
    between_frames (front_seen g.C.FrontedSession.seen c.args.self.now) c.requires.stands.quiet c.requires.stands.placed c.if-self-gt0.false

pub begin-requires-clause-header : goal.begin-requires-clause-header
begin-requires-clause-header g c = let x = c.if-not-is_short.ensures.header refl in rw c.state.ensures at x

pub begin-requires-clause-query : goal.begin-requires-clause-query
begin-requires-clause-query g c = let x = c.if-not-is_short.ensures.query refl in rw c.state.ensures at x

pub returns-then-not-is_short : goal.returns-then-not-is_short
returns-then-not-is_short g c =
    let v = front_seen g.C.FrontedSession.seen c.args.self.now in
    let w = front_seen g.C.FrontedSession.seen c.begin.new.self in
    let a = around g.K.Sink.written g.K.Sink.faults g.K.Sink.origin g.D.CancelDesk.told c.args.sink.now c.args.desk.now c.args.turns.now in
    let b = around g.K.Sink.written g.K.Sink.faults g.K.Sink.origin g.D.CancelDesk.told c.begin.new.sink c.begin.new.desk c.begin.new.turns in
    let x = between_frames v c.requires.stands.quiet c.requires.stands.placed c.if-self-gt0.false in
    let held = none_held c.args.self.now.held.items c.if-is_empty.ensures in
    subst (λ l. FrontTakes g.C.FrontedSession.told v l w a b c.begin.result)
    (ap (λ l. l ++ c.args.part.now) (sym ((λ i. x.none i ++ held i)))) c.begin.ensures

pub begin-requires-clause-held : goal.begin-requires-clause-held
begin-requires-clause-held g c = none_held c.args.self.now.held.items c.if-is_empty.ensures

pub hold-requires : goal.hold-requires
hold-requires g c =
    let x = between_frames (front_seen g.C.FrontedSession.seen c.args.self.now) c.requires.stands.quiet c.requires.stands.placed c.if-self-gt0.false in
    record { between = x; fits = c.requires.part.between x.owed }

pub returns : goal.returns
returns g c =
    let v = front_seen g.C.FrontedSession.seen c.args.self.now in
    let w = front_seen g.C.FrontedSession.seen c.hold.new.self in
    let a = around g.K.Sink.written g.K.Sink.faults g.K.Sink.origin g.D.CancelDesk.told c.args.sink.now c.args.desk.now c.args.turns.now in
    let b = around g.K.Sink.written g.K.Sink.faults g.K.Sink.origin g.D.CancelDesk.told c.hold.new.sink c.hold.new.desk c.hold.new.turns in
    let x = between_frames v c.requires.stands.quiet c.requires.stands.placed c.if-self-gt0.false in
    subst (λ l. FrontTakes g.C.FrontedSession.told v l w a b c.hold.result)
    (ap (λ l. (l ++ v.held) ++ c.args.part.now) (sym x.none)) c.hold.ensures
