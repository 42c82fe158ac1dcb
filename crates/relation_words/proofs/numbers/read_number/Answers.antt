use Rattle.std.proofs.Common.{sym, ap, ◌∙◌}
use Rattle.relation_words.specs.Numbers.{is_numeral}
use Rattle.relation_words.proofs.NumberLemmas.{result_ok-numeral}
use Rattle.relation_words.proofs.numbers.read_number.Goals as goal

pub returns-then-is_numeral : goal.returns-then-is_numeral
returns-then-is_numeral c =
    let numeral = sym (ap is_numeral c.as_bytes.ensures.value) ∙ (sym c.is_numeral.ensures ∙ c.if-is_numeral.true) in
    c.ok.ensures.value ∙ result_ok-numeral c.args.word.now c.parse.result c.parse.ensures.value.0 numeral
