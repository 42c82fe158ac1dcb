use Rattle.pg_replay.proofs.Outcomes.{of_verified}
use Rattle.pg_replay.proofs.running.verify_file.Goals as goal

pub returns-in-Ok : goal.returns-in-Ok
returns-in-Ok g c =
    let falls = c.verify_input.ensures.never_falls in
    record {
      came = of_verified c.verify_input.result c.in-Ok.relations _ _ c.in-Ok.ensures.ok c.verify_input.ensures.verified;
      never_falls = (c.read_relations.ensures.never_falls, (falls.read_faults, (falls.write_faults, tt)));
    }
