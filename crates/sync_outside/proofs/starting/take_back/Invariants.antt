-- The jobs that came back and those that are still owed are all.
use Rattle.std.proofs.Common.{◌≡◌, ◌≤◌, ◌+◌, ◌++◌, All, vec_len, vec_capacity}
use Rattle.sync_outside.specs.Told.{owed}
use Rattle.sync_outside.proofs.starting.take_back.Given as goal

abbrev pub decreases-loop-handle : goal.decreases-loop-handle
decreases-loop-handle g l = vec_len l.handles

abbrev pub invariant-loop-handle : goal.invariant-loop-handle
invariant-loop-handle g l =
    All (λ h. h.promise.word.now.id ≡ l.token.of) l.handles.items
    × (vec_len l.jobs + vec_len l.handles ≤ vec_capacity l.jobs)
    × (l.jobs.items ++ owed (λ h. h.promise.job.value) l.handles.items ≡ l.fn.jobs.items ++ owed (λ h. h.promise.job.value) l.fn.handles.items)
