use Rattle.cursor_table.proofs.CursorLaws.{cursors_lawful}
use Rattle.cursor_table.proofs.laws.cursor_table_is_lawful.Goals as goal

pub returns : goal.returns
returns g c = λ ready awaits table lawful. cursors_lawful ready awaits table lawful
