use Rattle.std.proofs.Common.{◌∙◌, ap}
use Rattle.std.specs.FinMap as fin
use Rattle.named_entries.proofs.NameMaps.{key_map-insert}
use Rattle.pg_results.proofs.client.Metadata.insert.Goals as goal

pub returns-clause-ok : goal.returns-clause-ok
returns-clause-ok c =
    key_map-insert c.args.name c.self.inside.parameters c.insert.new.self c.args.value c.in_ok-insert.ensures.updates
    ∙ ap (λ m. fin.insert m c.args.name c.args.value) c.self.view_is
