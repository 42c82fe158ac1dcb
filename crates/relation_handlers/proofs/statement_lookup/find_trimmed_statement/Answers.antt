use Rattle.std.proofs.Common.{sym, ◌∙◌, arith}
use Rattle.std.proofs.lemmas.Bool.Decides.{nat_tests}
use Rattle.relation_tables.proofs.Meanings.{place_inside}
use Rattle.relation_handlers.proofs.statement_lookup.find_trimmed_statement.Goals as goal

pub returns-in-Some-clause-given : goal.returns-in-Some-clause-given
returns-in-Some-clause-given c =
    let inside = place_inside c.args.relations.now c.args.text.now c.in-Some.place (sym c.find.ensures ∙ c.in-Some.is) in
    grind (arith, nat_tests)
