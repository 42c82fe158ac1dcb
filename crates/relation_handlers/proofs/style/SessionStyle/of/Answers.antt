use Rattle.std.proofs.Common.{◌≡◌, ℕ, List, IfOk, subst, sym, ap, codes, ◌∙◌}
use Rattle.std.specs.FinMap as fin
use Rattle.std.specs.Option.{unwrap_or}
use Rattle.pg_text.specs.Words.{interval_style_of}
use Rattle.pg_results.specs.declared.client.ClientInfo.{ClientInfo}
use Rattle.pg_results.specs.Texts.{IsShortText}
use Rattle.relation_tables.specs.RelationHandler.{or_refused, style_text}
use Rattle.relation_tables.proofs.ShortTexts.{style_short}
use Rattle.relation_handlers.proofs.style.SessionStyle.of.Goals as goal

-- the text under the name `intervalstyle`
text_is : (client : ClientInfo) (name text : List ℕ) → text ≡ unwrap_or (fin.get client.metadata name) (codes "postgres")
    → name ≡ codes "intervalstyle" → text ≡ style_text client
text_is client name text e n = e ∙ ap (λ n. unwrap_or (fin.get client.metadata n) (codes "postgres")) n

pub named-requires : goal.named-requires
named-requires c =
    let client = c.args.client.now in
    subst IsShortText (sym (text_is client c.in_ok-name.name c.text_under.result.now c.text_under.ensures c.in_ok-name.ensures))
    (style_short client c.requires)

pub returns : goal.returns
returns c =
    let client = c.args.client.now in
    subst (λ text. IfOk c.named.result (λ style. style ≡ or_refused text (interval_style_of text)))
    (text_is client c.in_ok-name.name c.text_under.result.now c.text_under.ensures c.in_ok-name.ensures) c.named.ensures
