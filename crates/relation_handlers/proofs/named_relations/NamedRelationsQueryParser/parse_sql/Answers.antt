use Rattle.std.proofs.Common.{inr}
use Rattle.relation_tables.proofs.Sendable.{unknown_tellable}
use Rattle.relation_tables.proofs.ShortTexts.{trimmed_short}
use Rattle.relation_handlers.proofs.named_relations.NamedRelationsQueryParser.parse_sql.Goals as goal

pub returns-in_ok-unknown_relation-in-None-clause-answerable : goal.returns-in_ok-unknown_relation-in-None-clause-answerable
returns-in_ok-unknown_relation-in-None-clause-answerable c =
    inr (rw (c.in_ok-unknown_relation-in-None.ensures, c.trimmed-text.ensures)
    (unknown_tellable _ (trimmed_short c.args.sql.now c.requires.short_query)))
