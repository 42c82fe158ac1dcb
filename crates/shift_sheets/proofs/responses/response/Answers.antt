use Rattle.std.proofs.Common.{codes, sym, subst, ap, ◌∙◌}
use Rattle.pg_messages.specs.Replies.{IsEncodable}
use Rattle.pg_replies.specs.Replies.{IsTag, done}
use Rattle.pg_replies.proofs.Encodable.{select_is_tag}
use Rattle.pg_results.specs.Tags.{tag_with_rows, tag_text}
use Rattle.shift_sheets.proofs.Sendable.{booked_sendable, canceled_sendable}
use Rattle.shift_sheets.proofs.responses.response.Goals as goal

pub returns-in_ok-new-in-Booked-clause-sendable : goal.returns-in_ok-new-in-Booked-clause-sendable
returns-in_ok-new-in-Booked-clause-sendable c =
    subst (λ tag. IsEncodable (done (tag_text tag))) (sym (c.with_rows.ensures ∙ ap (tag_with_rows 1) c.in_ok-new-in-Booked.ensures)) booked_sendable

pub returns-in_ok-new-in-Canceled-clause-sendable : goal.returns-in_ok-new-in-Canceled-clause-sendable
returns-in_ok-new-in-Canceled-clause-sendable c =
    subst (λ tag. IsEncodable (done (tag_text tag))) (sym (c.with_rows-in-Canceled.ensures ∙ ap (tag_with_rows 1) c.in_ok-new-in-Canceled.ensures)) canceled_sendable

pub returns-in_ok-shown-in-Shown-clause-sendable : goal.returns-in_ok-shown-in-Shown-clause-sendable
returns-in_ok-shown-in-Shown-clause-sendable c =
    (c.in_ok-shown-in-Shown.ensures.sendable, subst IsTag (sym c.in_ok-shown-in-Shown.ensures.tag) select_is_tag)
