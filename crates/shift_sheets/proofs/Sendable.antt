-- What sheets tell can be sent as replies.
use Rattle.std.proofs.Common.{◌≡◌, ℕ, ◌≤◌, List, [], ◌∷◌, ◌++◌, codes, decimal, inr, length, refl, arith, length-append}
use Rattle.pg_messages.specs.Replies.{IsEncodable}
use Rattle.pg_replies.specs.Replies.{done}
use Rattle.pg_replies.proofs.Encodable.{by_test, command_is_tag}
use Rattle.pg_results.specs.Tags.{tag_of, tag_with_rows, tag_text}
use Rattle.pg_results.specs.Rows.{IsAnswerableItem}
use Rattle.conversation_table.proofs.ErrorTexts.{tellable_error}
use Rattle.shift_transactions.specs.declared.outcome.Refusal.{Refusal}
use Rattle.shift_transactions.specs.declared.outcome.Refusal.TheVariants as refusal
use Rattle.shift_sheets.specs.Answers.{refused}

pub refused_answerable : (why : Refusal) → IsAnswerableItem (refused why)
refused_answerable refusal.NotPositive = inr (record {
  tellable = tellable_error (codes "22023") (codes "the length of a shift is above zero") (omega arith) (by_test (codes "22023") refl)
      (omega arith) (by_test (codes "the length of a shift is above zero") refl);
  is_own = refl;
})
refused_answerable refusal.Clash = inr (record {
  tellable = tellable_error (codes "23P01") (codes "the shift clashes with one that is booked") (omega arith) (by_test (codes "23P01") refl)
      (omega arith) (by_test (codes "the shift clashes with one that is booked") refl);
  is_own = refl;
})
refused_answerable refusal.UnknownShift = inr (record {
  tellable = tellable_error (codes "42704") (codes "no shift of this name starts then") (omega arith) (by_test (codes "42704") refl)
      (omega arith) (by_test (codes "no shift of this name starts then") refl);
  is_own = refl;
})
refused_answerable refusal.Changed = inr (record {
  tellable = tellable_error (codes "40001") (codes "could not serialize access due to concurrent update") (omega arith)
      (by_test (codes "40001") refl) (omega arith) (by_test (codes "could not serialize access due to concurrent update") refl);
  is_own = refl;
})
refused_answerable refusal.Failed = inr (record {
  tellable = tellable_error (codes "25P02") (codes "current transaction is aborted, commands ignored until end of transaction block")
      (omega arith) (by_test (codes "25P02") refl) (omega arith)
      (by_test (codes "current transaction is aborted, commands ignored until end of transaction block") refl);
  is_own = refl;
})

pub booked_sendable : IsEncodable (done (tag_text (tag_with_rows 1 (tag_of (codes "BOOK")))))
booked_sendable = command_is_tag (codes "BOOK") (omega arith) (by_test (codes "BOOK") refl) 1 (omega arith)

pub canceled_sendable : IsEncodable (done (tag_text (tag_with_rows 1 (tag_of (codes "CANCEL")))))
canceled_sendable = command_is_tag (codes "CANCEL") (omega arith) (by_test (codes "CANCEL") refl) 1 (omega arith)
