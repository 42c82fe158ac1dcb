use Rattle.std.proofs.Common.{Some, sym, ap, ◌∙◌}
use Rattle.relation_server.proofs.Loads.{few}
use Rattle.relation_server.proofs.one_client_program.carry_out.Goals as goal

pub show_demo-requires-clause-few : goal.show_demo-requires-clause-few
show_demo-requires-clause-few g c =
    let demo = c.in-Ok-Some-Demo in few c.args.words.now demo.load (sym demo.ensures.ok ∙ demo.field-0-is ∙ ap Some demo.field-0-0-is)
