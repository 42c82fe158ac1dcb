use Rattle.std.proofs.Common.{◌≡◌, ◌≢◌, ◌==◌, ℕ, List, ◌++◌, [], arith, length, length-append, true, refl, ap, sym, subst, ◌∙◌, append-nil, append_assoc, Result, Ok, Err}
use Rattle.std.proofs.lemmas.Bool.Decides.{nat_tests}
use Rattle.std.proofs.lemmas.List.{nil_from_length}
use Rattle.pg_client.specs.declared.ends.EndKind.{EndKind}
use Rattle.conversation_runs.specs.declared.ends.Progress.{Progress}
use Rattle.conversation_runs.specs.declared.ends.Progress.TheVariants as progress
use Rattle.conversation_runs.specs.declared.ends.ServeError.{ServeError}
use Rattle.cursor_table.specs.CursorTable.{cursor_rules}
use Rattle.cursor_session.specs.Fronts.{IsPart, Takes, around, rest_of}
use Rattle.cursor_session.specs.Seen.{FrontTakes, front_seen}
use Rattle.cursor_session.proofs.Taking.{takes_none, front_next, front_last, split_again}
use Rattle.cursor_session.proofs.parts.Front.take.Goals as goal

nothing_left : (rest : List ℕ) → true ≡ (length rest == 0) → rest ≡ []
nothing_left rest e = nil_from_length rest (grind (arith, nat_tests))

ended_is_not_more : (kind : EndKind) → ◌≢◌ {A = Result Progress ServeError} (Ok (progress.Ended kind)) (Ok progress.More)
ended_is_not_more kind e = absurd (let k = e in cc)

error_is_not_more : (error : ServeError) → ◌≢◌ {A = Result Progress ServeError} (Err error) (Ok progress.More)
error_is_not_more error e = absurd (let k = e in cc)

pub parts-init : goal.parts-init
parts-init g c =
    let old = front_seen g.C.FrontedSession.seen c.args.self.now in
    let rules = cursor_rules (g.C.FrontedSession.told old.inner.handlers) in
    let a = around g.K.Sink.written g.K.Sink.faults g.K.Sink.origin g.D.CancelDesk.told c.args.sink.now c.args.desk.now c.args.turns.now in
    record {
      taken = [];
      split = refl;
      took = record {
        took = subst (λ l. Takes rules old.inner.state l old.inner.state (rest_of old) a a (Ok progress.More))
            (sym (append-nil (rest_of old))) (takes_none rules old.inner.state (rest_of old) a c.requires.short);
        stands = λ more. c.requires;
        handlers = refl;
      };
    }

pub returns-in-Ok-Ended : goal.returns-in-Ok-Ended
returns-in-Ok-Ended g c =
    let i = c.parts.invariant in
    let old = front_seen g.C.FrontedSession.seen c.args.self.now in let now = front_seen g.C.FrontedSession.seen c.parts.self in
    let new = front_seen g.C.FrontedSession.seen c.step.new.self in
    let a = around g.K.Sink.written g.K.Sink.faults g.K.Sink.origin g.D.CancelDesk.told c.args.sink.now c.args.desk.now c.args.turns.now in
    let b = around g.K.Sink.written g.K.Sink.faults g.K.Sink.origin g.D.CancelDesk.told c.parts.sink c.parts.desk c.parts.turns in
    let d = around g.K.Sink.written g.K.Sink.faults g.K.Sink.origin g.D.CancelDesk.told c.step.new.sink c.step.new.desk c.step.new.turns in
    let part = c.split_at.result.0.now in let behind = c.split_at.result.1.now in
    let split : c.args.piece.now ≡ i.taken ++ (part ++ behind) = i.split ∙ ap (λ l. i.taken ++ l)
    (split_again c.parts.rest.now part behind c.part_len.result c.split_at.ensures.front c.split_at.ensures.back) in
    front_last g.C.FrontedSession.told old now new i.taken part a b d (Ok (progress.Ended c.in-Ok-Ended.kind)) i.took
    (subst (λ p. FrontTakes g.C.FrontedSession.told now (rest_of now ++ part) new b d (Ok p)) c.in-Ok-Ended.field-0-is
    c.in-Ok-Ended.ensures)
    behind c.args.piece.now split (ended_is_not_more c.in-Ok-Ended.kind)

pub returns-in-Err : goal.returns-in-Err
returns-in-Err g c =
    let i = c.parts.invariant in
    let old = front_seen g.C.FrontedSession.seen c.args.self.now in let now = front_seen g.C.FrontedSession.seen c.parts.self in
    let new = front_seen g.C.FrontedSession.seen c.step.new.self in
    let a = around g.K.Sink.written g.K.Sink.faults g.K.Sink.origin g.D.CancelDesk.told c.args.sink.now c.args.desk.now c.args.turns.now in
    let b = around g.K.Sink.written g.K.Sink.faults g.K.Sink.origin g.D.CancelDesk.told c.parts.sink c.parts.desk c.parts.turns in
    let d = around g.K.Sink.written g.K.Sink.faults g.K.Sink.origin g.D.CancelDesk.told c.step.new.sink c.step.new.desk c.step.new.turns in
    let part = c.split_at.result.0.now in let behind = c.split_at.result.1.now in
    let split : c.args.piece.now ≡ i.taken ++ (part ++ behind) = i.split ∙ ap (λ l. i.taken ++ l)
    (split_again c.parts.rest.now part behind c.part_len.result c.split_at.ensures.front c.split_at.ensures.back) in
    front_last g.C.FrontedSession.told old now new i.taken part a b d (Err c.in-Err.error) i.took c.in-Err.ensures
    behind c.args.piece.now split (error_is_not_more c.in-Err.error)

pub parts-preserved : goal.parts-preserved
parts-preserved g c =
    let i = c.parts.invariant in
    let old = front_seen g.C.FrontedSession.seen c.args.self.now in let now = front_seen g.C.FrontedSession.seen c.parts.self in
    let new = front_seen g.C.FrontedSession.seen c.step.new.self in
    let a = around g.K.Sink.written g.K.Sink.faults g.K.Sink.origin g.D.CancelDesk.told c.args.sink.now c.args.desk.now c.args.turns.now in
    let b = around g.K.Sink.written g.K.Sink.faults g.K.Sink.origin g.D.CancelDesk.told c.parts.sink c.parts.desk c.parts.turns in
    let d = around g.K.Sink.written g.K.Sink.faults g.K.Sink.origin g.D.CancelDesk.told c.step.new.sink c.step.new.desk c.step.new.turns in
    let part = c.split_at.result.0.now in let behind = c.split_at.result.1.now in
    record {
      taken = i.taken ++ part;
      split = i.split ∙ ap (λ l. i.taken ++ l)
          (split_again c.parts.rest.now part behind c.part_len.result c.split_at.ensures.front c.split_at.ensures.back)
          ∙ sym (append_assoc i.taken part behind);
      took = front_next g.C.FrontedSession.told old now new i.taken part a b d (Ok progress.More) i.took
          (subst (λ p. FrontTakes g.C.FrontedSession.told now (rest_of now ++ part) new b d (Ok p)) c.in-Ok-More.field-0-is
          c.in-Ok-More.ensures);
    }

pub returns : goal.returns
returns g c =
    let i = c.parts.invariant in
    let old = front_seen g.C.FrontedSession.seen c.args.self.now in let now = front_seen g.C.FrontedSession.seen c.parts.self in
    let a = around g.K.Sink.written g.K.Sink.faults g.K.Sink.origin g.D.CancelDesk.told c.args.sink.now c.args.desk.now c.args.turns.now in
    let b = around g.K.Sink.written g.K.Sink.faults g.K.Sink.origin g.D.CancelDesk.told c.parts.sink c.parts.desk c.parts.turns in
    let none : c.parts.rest.now ≡ [] = nothing_left c.parts.rest.now c.parts-test.ensures in
    subst (λ l. FrontTakes g.C.FrontedSession.told old (rest_of old ++ l) now a b (Ok progress.More))
    (sym (i.split ∙ ap (λ l. i.taken ++ l) none ∙ append-nil i.taken)) i.took

pub part_len-requires-clause-stands : goal.part_len-requires-clause-stands
part_len-requires-clause-stands g c = c.parts.invariant.took.stands refl

pub split_at-requires : goal.split_at-requires
split_at-requires g c = c.part_len.ensures.within

pub step-requires : goal.step-requires
step-requires g c = record {
  stands = c.parts.invariant.took.stands refl;
  part = rw c.split_at.ensures.front c.part_len.ensures.part;
}

pub parts-smaller : goal.parts-smaller
parts-smaller g c =
    let part = c.split_at.result.0.now in let behind = c.split_at.result.1.now in
    let own : IsPart (front_seen g.C.FrontedSession.seen c.parts.self) part = rw c.split_at.ensures.front c.part_len.ensures.part in
    let some = own.some in
    let all = ap length (split_again c.parts.rest.now part behind c.part_len.result c.split_at.ensures.front c.split_at.ensures.back)
    ∙ length-append part behind in
    omega (arith, all, some)
