use Rattle.conversation_table.proofs.Awaiting.{row_keeps}
use Rattle.conversation_table.proofs.Steady.{row_same, settled_row_takes}
use Rattle.conversation_table.specs.Table.{scope_in}
use Rattle.std.proofs.Common.{[], refl}
use Rattle.conversation_table.proofs.laws.whole_table_is_lawful.Goals as goal

pub returns : goal.returns
returns g c = λ h. record {
  same = λ answers more s m made. row_same h answers more s (scope_in s.info.state m) m s.info.state made;
  taken = λ answers s m. settled_row_takes h answers [] s (scope_in s.info.state m) m s.info.state;
  follows = λ answers s t m e. row_keeps h answers s t m s.info.state refl e;
}
