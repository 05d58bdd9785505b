-- The jobs that are left and those of the threads are all.
use Rattle.std.proofs.Common.{◌≡◌, ◌≤◌, ◌+◌, ◌++◌, All, vec_len, vec_capacity}
use Rattle.sync_outside.specs.Told.{owed}
use Rattle.sync_outside.proofs.starting.begin_each.Given as goal

abbrev pub decreases-loop-job : goal.decreases-loop-job
decreases-loop-job g l = vec_len l.jobs

abbrev pub invariant-loop-job : goal.invariant-loop-job
invariant-loop-job g l =
    All (λ h. h.promise.word.now.id ≡ l.word.id) l.handles.items
    × (vec_len l.jobs + vec_len l.handles ≡ vec_len l.initial.jobs)
    × (vec_len l.initial.jobs ≤ vec_capacity l.handles)
    × (vec_capacity l.jobs ≡ vec_capacity l.initial.jobs)
    × (vec_len l.handles ≤ l.admitted)
    × All g.W.Work.ready l.jobs.items
    × (l.jobs.items ++ owed (λ h. h.promise.job.value) l.handles.items ≡ l.initial.jobs.items)
