use Rattle.std.proofs.Common.{rules, ap, ◌∙◌, ◌≡◌, sym, ◌++◌, ◌∷◌, [], lit<}
use Rattle.std.proofs.lemmas.Str.Pattern.{split_once_first, strip_prefix_char}
use Rattle.std.specs.List.{before_first}
use Rattle.std.specs.String.{string_bytes}
use Rattle.shift_orders.specs.Stops.{tokens_within}
use Rattle.shift_orders.specs.Tokens.{is_quote, tokens}
use Rattle.shift_orders.specs.declared.tokens.Token.TheVariants.{Quoted}
use Rattle.shift_orders.proofs.Scanning.{doubled, ended, onto_nothing, onto_quoted, unended}
use Rattle.shift_orders.proofs.tokens.quoted.Goals as goal

pub pieces-init : goal.pieces-init
pieces-init c =
    let text = c.args.text.now in
    record { utf8 = c.utf8.text; same = ap (λ t. onto_quoted t (tokens_within text)) c.new-content.ensures.bytes ∙ onto_nothing text }

pub returns-in_default-strip_prefix : goal.returns-in_default-strip_prefix
returns-in_default-strip_prefix c =
    let rest = c.pieces.rest.now in let front = string_bytes c.pieces.content in
    let cut = rw c.in-Some.is at (split_once_first 39 rest c.split_once.result c.split_once.ensures.cases (lit< tt)) in
    let off = rw c.in_default-strip_prefix.is at (strip_prefix_char 39 c.in-Some.behind.now c.strip_prefix.result c.strip_prefix.ensures.cases (lit< tt)) in
    let whole : front ++ before_first is_quote rest ≡ c.from_string.result = cc (c.in_ok-push_str.ensures.bytes, cut.1) in
    sym c.pieces.invariant.same ∙ ended front rest cut.0 (λ t e. off t (cut.2 ∙ e))
    ∙ ap (λ t. Quoted (front ++ before_first is_quote rest) ∷ tokens t) (sym cut.2)
    ∙ ap (λ t. Quoted t ∷ tokens c.in-Some.behind.now) whole

pub pieces-preserved : goal.pieces-preserved
pieces-preserved c =
    let rest = c.pieces.rest.now in let front = string_bytes c.pieces.content in let more = c.in-Some-strip_prefix.more.now in
    let cut = rw c.in-Some.is at (split_once_first 39 rest c.split_once.result c.split_once.ensures.cases (lit< tt)) in
    let on = rw c.in-Some-strip_prefix.is at (strip_prefix_char 39 c.in-Some.behind.now c.strip_prefix.result c.strip_prefix.ensures.cases (lit< tt)) in
    let whole : string_bytes c.push.new.self ≡ (front ++ before_first is_quote rest) ++ 39 ∷ [] =
    c.in_ok-push.ensures.bytes ∙ ap (λ t. string_bytes c.push_str.new.self ++ t) (c.in_ok-push.ensures.ascii (lit< tt))
    ∙ ap (λ t. t ++ 39 ∷ []) (c.in_ok-push_str.ensures.bytes ∙ ap (λ t. front ++ t) cut.1) in
    record {
      utf8 = search rules;
      same = ap (λ t. onto_quoted t (tokens_within more)) whole ∙ sym (doubled front rest more cut.0 (sym cut.2 ∙ on))
          ∙ c.pieces.invariant.same;
    }

pub returns : goal.returns
returns c =
    let rest = c.pieces.rest.now in let front = string_bytes c.pieces.content in
    let none = rw c.in_default.is at (split_once_first 39 rest c.split_once.result c.split_once.ensures.cases (lit< tt)) in
    let whole : front ++ rest ≡ c.from_string-2.result = cc (c.in_ok-push_str-2.ensures.bytes) in
    sym c.pieces.invariant.same ∙ unended front rest none ∙ ap (λ t. Quoted t ∷ []) whole
