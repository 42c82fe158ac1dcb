use Rattle.std.proofs.Common.{codes, refl, sym, ap, subst, arith}
use Rattle.pg_replies.specs.Replies.{IsTag}
use Rattle.pg_replies.proofs.Encodable.{command_is_tag, by_test}
use Rattle.pg_serve_tests.proofs.send_tests.fetched.Goals as goal

fetch_is_tag : IsTag (codes "FETCH")
fetch_is_tag = command_is_tag (codes "FETCH") (omega arith) (by_test (codes "FETCH") refl)

pub returns : goal.returns
returns c = subst IsTag (sym (ap (λ r. r.command_tag) c.in_ok-set_command_tag.ensures.ok)) fetch_is_tag
