use Rattle.relation_tables.proofs.ShortTexts.{trimmed_short}
use Rattle.relation_handlers.proofs.handler.RelationHandlerOverSimpleQueryHandler.do_query.Goals as goal

pub other_query-requires-clause-short_text : goal.other_query-requires-clause-short_text
other_query-requires-clause-short_text g c = rw c.trimmed-text.ensures (trimmed_short c.args.query.now c.requires.short_query)
