use Rattle.std.proofs.Common.{◌≡◌, true, false, Option, Result, Ok, Err, IfSome, ℕ, ◌∷◌, ◌++◌, [], sym, ap, ◌∙◌, subst}
use Rattle.std.specs.Prelude.{MatchResult}
use Rattle.std.specs.Result.{result_ok}
use Rattle.std.specs.Str.{IsUtf8}
use Rattle.pg_messages.specs.Fields.{string, IsText}
use Rattle.pg_messages.proofs.ZeroBytes.{has_zero, no_zero_in, no_zero_found, same_end}
use Rattle.pg_messages.proofs.simplequery.text_of_string.Goals as goal
use Rattle.pg_messages.proofs.simplequery.text_of_string.Goals.{then-last-ne0-via-then-last-ne0, then-last-ne0-via-else-last-ne0+then-contains}

-- what holds of a text that was read
read_as : {T E : Type 0} (r : Result T E) (o : Option T) (P Q : T → Type 0) (N : E → Type 0) → o ≡ result_ok r → MatchResult r P N
    → ((x : T) → P x → Q x) → IfSome o Q
read_as (Ok x) o P Q N e m f = subst (λ o. IfSome o Q) (sym e) (f x m)
read_as (Err d) o P Q N e m f = subst (λ o. IfSome o Q) (sym e) tt

pub returns-then-last-ne0-clause-none : goal.returns-then-last-ne0-clause-none
returns-then-last-ne0-clause-none c text e good =
    let same = same_end c.in_ok-last.text.now text c.in_ok-last.last.now (sym c.in_ok-last.ensures.cases.0 ∙ e) in
    elim c.then-last-ne0.branch [
      | then-last-ne0-via-then-last-ne0 w ↦ w.if-last-ne0.true same.1
      | then-last-ne0-via-else-last-ne0+then-contains w ↦
          let none : has_zero c.in_ok-last.text.now ≡ false = ap has_zero same.0 ∙ no_zero_found text good.no_zero in
          let found : has_zero c.in_ok-last.text.now ≡ true = sym w.contains.ensures.value ∙ w.if-contains.true in
          let both : true ≡ false = sym found ∙ none in
          cc
    ]

pub returns-clause-some : goal.returns-clause-some
returns-clause-some c =
    let bytes = c.args.bytes.now in
    let text = c.in_ok-last.text.now in
    let ended : bytes ≡ text ++ 0 ∷ [] = c.in_ok-last.ensures.cases.0 ∙ ap (λ (last : ℕ). text ++ last ∷ []) c.if-last-ne0.false in
    let none : has_zero text ≡ false = sym c.contains.ensures.value ∙ c.if-contains.false in
    read_as c.from_utf8.result c.ok.result (λ x. (x.now ≡ text) × IsUtf8 text) (λ x. (bytes ≡ string x.now) × IsText x.now) _
    c.ok.ensures.value c.from_utf8.ensures.cases
    (λ x p. (
      ended ∙ ap (λ l. l ++ 0 ∷ []) (sym p.0),
      subst IsText (sym p.0) (record { utf8 = p.1; no_zero = no_zero_in text none }),
    ))
