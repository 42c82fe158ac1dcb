use Rattle.std.proofs.lemmas.List.{drop-drop}
use Rattle.std.proofs.Common.{sym}
use Rattle.pg_client.proofs.desk.behind_next.Goals as goal

pub returns-then-taken-answers : goal.returns-then-taken-answers
returns-then-taken-answers c = sym (drop-drop 1 c.args.taken c.args.answers.now)
