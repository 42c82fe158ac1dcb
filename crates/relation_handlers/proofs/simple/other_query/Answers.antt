use Rattle.std.proofs.Common.{sym, ap, ◌∙◌}
use Rattle.std.specs.Option.{option_copied}
use Rattle.relation_tables.proofs.ShortTexts.{copied_short}
use Rattle.relation_handlers.proofs.simple.other_query.Goals as goal

pub copy_query-requires-clause-short_name : goal.copy_query-requires-clause-short_name
copy_query-requires-clause-short_name g c =
    copied_short c.args.text.now c.in-Some.name.now c.requires.short_text
    (sym c.copied_name.ensures ∙ ap option_copied c.in-Some.is)
