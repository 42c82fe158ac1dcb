-- What each query is answered can be sent as a reply.
use Rattle.std.proofs.Common.{[], ◌∷◌, codes, refl, arith}
use Rattle.std.specs.List.{AllByRecursion}
use Rattle.pg_messages.specs.Replies.{IsEncodable}
use Rattle.pg_results.specs.Tags.{tag_of, tag_text}
use Rattle.conversation_table.specs.Good.{IsSendableResponse}
use Rattle.pg_replies.specs.Replies.{done}
use Rattle.pg_replies.proofs.Encodable.{by_test}
use Rattle.waiting_handlers.specs.Told.{waited}

tag_sendable : IsEncodable (done (tag_text (tag_of (codes "WAITED"))))
tag_sendable = record { body = omega arith; counts = tt; texts = (by_test (codes "WAITED") refl, tt) }

pub waited_sendable : AllByRecursion IsSendableResponse waited
waited_sendable = (tag_sendable, tt)
