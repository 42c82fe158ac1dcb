use Rattle.job_threads.specs.declared.job.Ended.{Ended}
use Rattle.job_threads.proofs.threads.JobThreads.start_thread.Given as goal

-- what is to be done may be called, and runs the job
abbrev pub invariant-loop : goal.invariant-loop
invariant-loop g l =
    (g.F.FnOnce.pre l.work tt)
    × ((ended : Ended) → g.F.FnOnce.post l.work tt ended → g.J.ThreadJob.has_run l.fn.same.value ended)
