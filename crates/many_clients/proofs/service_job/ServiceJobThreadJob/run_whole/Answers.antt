use Rattle.pg_engine.specs.Serving.{counts_of}
use Rattle.many_clients.proofs.service_job.ServiceJobThreadJob.run_whole.Goals as goal

pub returns : goal.returns
returns g c =
    let told = c.run.result in
    record {
      answer = told.0;
      new_left = g.S.Source.left told.1;
      new = g.K.Sink.written told.2;
      after = counts_of g.S.Source.reads g.S.Source.faults g.K.Sink.faults told.1 told.2;
      note = told.3;
      served = c.run.ensures;
    }
