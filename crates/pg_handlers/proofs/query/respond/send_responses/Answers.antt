use Rattle.std.proofs.Common.{◌≡◌, ◌∷◌, [], inl, inr, sym, ap, subst, ◌∙◌, append_assoc, ◌++◌}
use Rattle.std.specs.List.{AllByRecursion}
use Rattle.std.specs.Vec.Iter.{into_iter_items}
use Rattle.std.proofs.lemmas.List.{nil_from_length}
use Rattle.std.proofs.lemmas.Result.{err_from_is_err_and}
use Rattle.pg_results.specs.Responses.{told_response, told_responses}
use Rattle.conversation_table.specs.Good.{IsSendableResponse}
use Rattle.pg_replies.specs.ResponseRows.{responded}
use Rattle.pg_handlers.proofs.Answers.{IsAnswered, answering_begins, answering_goes_on, answering_refused, answering_ends, left_copying, left_next}
use Rattle.pg_messages.specs.Replies.{replies_bytes}
use Rattle.pg_replies.proofs.Sent.{kept_behind, kept_in_front}
use Rattle.pg_handlers.proofs.query.respond.send_responses.Goals as goal

pub send_response-requires : goal.send_response-requires
send_response-requires g c =
    let each = subst (λ l. AllByRecursion IsSendableResponse (told_responses g.R.RowSource.items g.C.CopySource.items l))
    c.in-Some.ensures.steps.0 c.loop-response.invariant.each in
    each.0

pub loop-response-init : goal.loop-response-init
loop-response-init g c =
    let given : into_iter_items c.into_iter-response-iterator.result ≡ c.into_vec-response-items.result.items =
    c.into_iter-response-iterator.ensures.into_iter_gives.0 in
    let all : into_iter_items c.into_iter-response-iterator.result ≡ c.args.responses = given ∙ c.into_vec-response-items.ensures in
    let R = g.R.RowSource.items in let C = g.C.CopySource.items in
    record {
      all = sym all;
      each = subst (λ l. AllByRecursion IsSendableResponse (told_responses R C l)) (sym all) c.requires;
      sent = subst (λ l. IsAnswered c.args.status (told_responses R C c.args.responses) c.args.outbox.now c.at-left.result
          (told_responses R C l) c.args.outbox.now) (sym all)
          (answering_begins c.args.status (told_responses R C c.args.responses) c.args.outbox.now c.at-left.result c.at-left.ensures);
    }

pub loop-response-preserved-then-left : goal.loop-response-preserved-then-left
loop-response-preserved-then-left g c =
    let R = g.R.RowSource.items in let C = g.C.CopySource.items in
    let taken = c.in-Some.ensures.steps.0 in
    let each = subst (λ l. AllByRecursion IsSendableResponse (told_responses R C l)) taken c.loop-response.invariant.each in
    let before = subst (λ l. IsAnswered c.args.status (told_responses R C c.args.responses) c.args.outbox.now c.loop-response.left
    (told_responses R C l) c.loop-response.outbox) taken
    c.loop-response.invariant.sent in
    record {
      all = c.loop-response.invariant.all ∙ ap (λ l. c.loop-response.yielded ++ l) taken
          ∙ sym (append_assoc c.loop-response.yielded (c.in-Some.response ∷ []) (into_iter_items c.next.new.self));
      each = each.1;
      sent = answering_goes_on c.args.status (told_responses R C c.args.responses) c.args.outbox.now c.loop-response.left
          (told_response R C c.in-Some.response)
          (told_responses R C (into_iter_items c.next.new.self)) c.loop-response.outbox before c.send_response.new.outbox
          c.in_ok-next.ensures.sent.1 c.in_ok-next.ensures.sent.0
          (record {
            status = c.in_ok-next.next.status;
            copying = c.loop-response.left.copying;
          })
          (left_copying c.loop-response.left c.in_ok-next.next
          (responded c.loop-response.left.status (told_response R C c.in-Some.response)) c.if-left.true c.in_ok-next.ensures.left);
    }

pub loop-response-preserved : goal.loop-response-preserved
loop-response-preserved g c =
    let R = g.R.RowSource.items in let C = g.C.CopySource.items in
    let taken = c.in-Some.ensures.steps.0 in
    let each = subst (λ l. AllByRecursion IsSendableResponse (told_responses R C l)) taken c.loop-response.invariant.each in
    let before = subst (λ l. IsAnswered c.args.status (told_responses R C c.args.responses) c.args.outbox.now c.loop-response.left
    (told_responses R C l) c.loop-response.outbox) taken
    c.loop-response.invariant.sent in
    record {
      all = c.loop-response.invariant.all ∙ ap (λ l. c.loop-response.yielded ++ l) taken
          ∙ sym (append_assoc c.loop-response.yielded (c.in-Some.response ∷ []) (into_iter_items c.next.new.self));
      each = each.1;
      sent = answering_goes_on c.args.status (told_responses R C c.args.responses) c.args.outbox.now c.loop-response.left
          (told_response R C c.in-Some.response)
          (told_responses R C (into_iter_items c.next.new.self)) c.loop-response.outbox before c.send_response.new.outbox
          c.in_ok-next.ensures.sent.1 c.in_ok-next.ensures.sent.0
          (record {
            status = c.in_ok-next.next.status;
            copying = c.in_ok-next.next.copying;
          }) (left_next c.loop-response.left c.in_ok-next.next
          (responded c.loop-response.left.status (told_response R C c.in-Some.response)) c.if-left.false c.in_ok-next.ensures.left);
    }

pub returns-in_err-next-clause-sent : goal.returns-in_err-next-clause-sent
returns-in_err-next-clause-sent g c =
    let R = g.R.RowSource.items in let C = g.C.CopySource.items in
    let p = err_from_is_err_and c.from_residual.result c.from_residual.ensures.1 in
    let before = subst (λ l. IsAnswered c.args.status (told_responses R C c.args.responses) c.args.outbox.now c.loop-response.left
    (told_responses R C l) c.loop-response.outbox) c.in-Some.ensures.steps.0
    c.loop-response.invariant.sent in
    rw (p.1, p.2) (elim c.in_err-next.ensures.sent [
      | inl none ↦ inl none
      | inr met ↦ inr (answering_refused c.args.status (told_responses R C c.args.responses) c.args.outbox.now c.loop-response.left
          (told_response R C c.in-Some.response)
          (told_responses R C (into_iter_items c.next.new.self)) c.loop-response.outbox before c.send_response.new.outbox met.1
          c.in_err-next.field-0.0 met.0)
    ])

pub returns-clause-left : goal.returns-clause-left
returns-clause-left g c =
    let R = g.R.RowSource.items in let C = g.C.CopySource.items in
    let none : into_iter_items c.loop-response.response-iterator ≡ [] =
    nil_from_length _ (sym c.loop-response.response-iterator.rest.ok.0 ∙ c.in-None.ensures.steps.0) in
    (answering_ends c.args.status (told_responses R C c.args.responses) c.args.outbox.now c.loop-response.left
    (told_responses R C (into_iter_items c.loop-response.response-iterator))
    c.loop-response.outbox c.loop-response.invariant.sent (ap (told_responses R C) none)).2

pub returns-clause-sent : goal.returns-clause-sent
returns-clause-sent g c =
    let R = g.R.RowSource.items in let C = g.C.CopySource.items in
    let none : into_iter_items c.loop-response.response-iterator ≡ [] =
    nil_from_length _ (sym c.loop-response.response-iterator.rest.ok.0 ∙ c.in-None.ensures.steps.0) in
    let ended = answering_ends c.args.status (told_responses R C c.args.responses) c.args.outbox.now c.loop-response.left
    (told_responses R C (into_iter_items c.loop-response.response-iterator))
    c.loop-response.outbox c.loop-response.invariant.sent (ap (told_responses R C) none) in
    (ended.0, ended.1)

pub returns-in_err-next-clause-left : goal.returns-in_err-next-clause-left
returns-in_err-next-clause-left g c =
    let p = err_from_is_err_and c.from_residual.result c.from_residual.ensures.1 in rw p.1 tt

pub returns-in_err-next-clause-answerable : goal.returns-in_err-next-clause-answerable
returns-in_err-next-clause-answerable g c =
    let p = err_from_is_err_and c.from_residual.result c.from_residual.ensures.1 in
    rw (p.1, p.2) c.in_err-next.ensures.answerable

pub returns-in_err-next-clause-kept : goal.returns-in_err-next-clause-kept
returns-in_err-next-clause-kept g c =
    let sent = c.loop-response.invariant.sent in
    kept_behind c.args.outbox.now c.loop-response.outbox c.send_response.new.outbox (replies_bytes sent.replies) sent.replied
    c.in_err-next.ensures.kept

pub returns-clause-answerable : goal.returns-clause-answerable
returns-clause-answerable g c = tt

pub returns-clause-kept : goal.returns-clause-kept
returns-clause-kept g c =
    let sent = c.loop-response.invariant.sent in
    kept_in_front c.args.outbox.now c.loop-response.outbox (replies_bytes sent.replies) sent.replied
