-- What the jobs that are still owed come to is what all come to behind the results.
use Rattle.std.proofs.Common.{◌≡◌, ◌≤◌, ◌+◌, All, vec_len, vec_capacity}
use Rattle.sync_outside.specs.Told.{owed}
use Rattle.sync_outside.proofs.Threads.{Completes}
use Rattle.sync_outside.proofs.starting.collect.Given as goal

abbrev pub decreases-loop-handle : goal.decreases-loop-handle
decreases-loop-handle g l = vec_len l.handles

abbrev pub invariant-loop-handle : goal.invariant-loop-handle
invariant-loop-handle g l =
    All (λ h. h.promise.word.now.id ≡ l.token.of) l.handles.items
    × (vec_len l.results + vec_len l.handles ≤ vec_capacity l.results)
    × Completes g.W.Work.gives (λ h. h.promise.job.value) (owed (λ h. h.promise.job.value) l.fn.handles.items) l.handles.items l.results.items
