use Rattle.std.proofs.Common.{sym, ap, ◌∙◌}
use Rattle.cursor_commands.specs.Limits.{is_count}
use Rattle.cursor_commands.proofs.CountLemmas.{result_ok-count}
use Rattle.cursor_commands.proofs.limit.read_count.Goals as goal

pub returns-then-is_count : goal.returns-then-is_count
returns-then-is_count c =
    let count = sym (ap is_count c.as_bytes.ensures.value) ∙ (sym c.is_count.ensures ∙ c.if-is_count.true) in
    c.ok.ensures.value ∙ result_ok-count c.args.word.now c.parse.result c.parse.ensures.value.0 count
