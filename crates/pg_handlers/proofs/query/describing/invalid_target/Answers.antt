use Rattle.std.proofs.Common.{inr, arith}
use Rattle.conversation_table.proofs.ErrorTexts.{tellable_target}
use Rattle.pg_handlers.proofs.query.describing.invalid_target.Goals as goal

pub returns-clause-answerable : goal.returns-clause-answerable
returns-clause-answerable c = inr (tellable_target c.args.message.target_type (omega arith))
