use Rattle.relation_server.proofs.Registering.{file_served}
use Rattle.relation_server.proofs.one_client_program.serve_file.Goals as goal

pub returns-in-Ok-clause-served : goal.returns-in-Ok-clause-served
returns-in-Ok-clause-served g c =
    file_served c.args.manager.now c.args.service c.in-Ok.relations c.serve_table.result.0 c.serve_table.result.1 _ _ c.in-Ok.ensures.ok
    (c.serve_table.ensures.served (g.F.Source.left c.args.file.now) (g.F.Source.left c.read_relations.new.file)
    (g.F.Source.faults c.args.file.now) (g.F.Source.faults c.read_relations.new.file))
