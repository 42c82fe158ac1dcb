use Rattle.std.proofs.Common.{◌∙◌, ap}
use Rattle.pg_text.specs.Words.{interval_style_of}
use Rattle.rota_words.proofs.WordLemmas.{style_read, style_refused}
use Rattle.rota_words.proofs.words.read_style.Goals as goal
use Rattle.rota_words.proofs.words.read_style.Goals.{in-Ok, in-Err}

pub returns : goal.returns
returns c = elim c.match-try_from_text.branch [
  | in-Ok w ↦ w.result-is ∙ style_read c.as_str.result.now _ _ w.in-Ok.ensures ∙ ap interval_style_of c.as_str.ensures
  | in-Err w ↦ w.result-is ∙ style_refused c.as_str.result.now _ _ w.in-Err.ensures ∙ ap interval_style_of c.as_str.ensures
]
