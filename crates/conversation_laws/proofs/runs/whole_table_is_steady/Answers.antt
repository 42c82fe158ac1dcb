use Rattle.conversation_laws.proofs.TableSteady as table
use Rattle.conversation_laws.proofs.runs.whole_table_is_steady.Goals as goal

pub returns : goal.returns
returns g c h = table.whole_steady h
