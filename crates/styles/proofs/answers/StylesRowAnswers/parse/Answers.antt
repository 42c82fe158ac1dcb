use Rattle.std.proofs.Common.{◌≡◌, ◌⊎◌, None, Ok, Err, codes, false, inl, inr, ◌∙◌, subst, rules}
use Rattle.std.specs.Option.{option_copied}
use Rattle.std.specs.Str.{bytes_eq}
use Rattle.pg_results.specs.Told.{IsOutcome}
use Rattle.query_texts.specs.QueryTexts.{trimmed}
use Rattle.interval_texts.specs.Reading.{interval_of}
use Rattle.styles.proofs.Sendable.{text_read, text_refused}
use Rattle.styles.proofs.answers.StylesRowAnswers.parse.Goals.{else-is_some-via-then-is_some+else-eq, else-is_some-via-else-is_some}
use Rattle.styles.proofs.answers.StylesRowAnswers.parse.Goals as goal

pub returns-in-Err-clause-outcome : goal.returns-in-Err-clause-outcome
returns-in-Err-clause-outcome c =
    let text = trimmed c.args.query.now in let types = option_copied c.args.types in
    let apart : (types ≡ None) ⊎ (bytes_eq text (codes "$1") ≡ false) = elim c.else-is_some.branch [
      | else-is_some-via-then-is_some+else-eq w ↦ inr (search rules)
      | else-is_some-via-else-is_some w ↦ inl (search rules)
    ] in
    text_refused text types c.in-Err.error apart
    (subst (λ t. IsOutcome (interval_of t) (Err c.in-Err.error)) (c.as_bytes.ensures.value ∙ c.trimmed-text.ensures) c.in-Err.ensures.outcome)

pub returns-in-Ok-clause-outcome : goal.returns-in-Ok-clause-outcome
returns-in-Ok-clause-outcome c =
    let text = trimmed c.args.query.now in let types = option_copied c.args.types in
    let apart : (types ≡ None) ⊎ (bytes_eq text (codes "$1") ≡ false) = elim c.else-is_some.branch [
      | else-is_some-via-then-is_some+else-eq w ↦ inr (search rules)
      | else-is_some-via-else-is_some w ↦ inl (search rules)
    ] in
    text_read text types c.in-Ok.interval apart
    (subst (λ t. IsOutcome (interval_of t) (Ok c.in-Ok.interval)) (c.as_bytes.ensures.value ∙ c.trimmed-text.ensures) c.in-Ok.ensures.outcome)
