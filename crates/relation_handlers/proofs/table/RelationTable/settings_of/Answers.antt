use Rattle.std.proofs.Common.{◌≡◌, ℕ, List, Option, Some, subst, codes, unwrap_or, rules}
use Rattle.std.specs.FinMap as fin
use Rattle.pg_results.specs.Texts.{IsShortText}
use Rattle.relation_tables.proofs.ShortTexts.{style_short}
use Rattle.relation_handlers.proofs.table.RelationTable.settings_of.Goals as goal

pub named-requires : goal.named-requires
named-requires c =
    let client = c.args.client.now in
    let found : fin.get client.metadata (codes "intervalstyle") ≡ Some c.as_str.result.now = search rules in
    subst (λ (text : Option (List ℕ)). IsShortText (unwrap_or text (codes "postgres"))) found (style_short client c.requires)
