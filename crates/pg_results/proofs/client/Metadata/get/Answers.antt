use Rattle.std.proofs.Common.{◌∙◌, sym, ap}
use Rattle.std.specs.FinMap as fin
use Rattle.named_entries.proofs.NameMaps.{get-key_map}
use Rattle.pg_results.proofs.client.Metadata.get.Goals as goal

pub returns : goal.returns
returns c = c.get.ensures.value ∙ sym (get-key_map c.self.inside.parameters.entries c.args.name.now)
    ∙ ap (λ m. fin.get m c.args.name.now) c.self.view_is
