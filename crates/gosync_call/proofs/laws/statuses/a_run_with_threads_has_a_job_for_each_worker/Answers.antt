use Rattle.std.proofs.Common.{Some, refl, subst}
use Rattle.sync_outside.specs.Faults.{RoseBy}
use Rattle.workload.specs.Plan.{Plan}
use Rattle.workload.specs.declared.keyword.Dialect.TheVariants.{Runs}
use Rattle.gosync_call.proofs.Runs.{plan_is}
use Rattle.gosync_call.proofs.laws.statuses.a_run_with_threads_has_a_job_for_each_worker.Goals as goal

pub returns-clause-ended : goal.returns-clause-ended
returns-clause-ended c bytes plan ran ran_now old new ending reads comes =
    subst (λ (p : Plan). RoseBy p.workers ran ran_now) (plan_is Runs bytes plan (Some bytes) c.run_texts_are_read_or_refused.ensures.one comes.0 refl reads comes.1) comes.2.1.1

pub returns-clause-begun : goal.returns-clause-begun
returns-clause-begun c bytes plan ran ran_now old new reads comes =
    subst (λ (p : Plan). RoseBy p.workers ran ran_now) (plan_is Runs bytes plan (Some bytes) c.run_texts_are_read_or_refused.ensures.one comes.0 refl reads comes.1) comes.2.1.1
