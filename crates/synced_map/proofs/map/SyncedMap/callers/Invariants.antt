use Rattle.std.proofs.Common.{◌≡◌, ◌+◌, All, vec_len}
use Rattle.sync_model.specs.Shared.{IsCallerAt}
use Rattle.shared_table.specs.Notes.{own_by, IsNoteOf}
use Rattle.go_locks.specs.Mutexes.{IsPassOfMutex}
use Rattle.go_waits.specs.Groups.{IsPassOf}
use Rattle.synced_map.proofs.map.SyncedMap.callers.Given as goal

abbrev pub invariant-loop-caller : goal.invariant-loop-caller
invariant-loop-caller g l =
    All (IsCallerAt IsNoteOf own_by l.self.table) l.passes.callers.items × All (IsPassOfMutex l.self.mutex) l.passes.locks.items × All (IsPassOf l.self.group) l.passes.members.items
    × (vec_len l.passes.locks ≡ vec_len l.passes.callers) × (vec_len l.passes.members ≡ vec_len l.passes.callers)
    × (vec_len l.callers + vec_len l.passes.callers ≡ vec_len l.fn.passes.callers) × All (λ caller. caller.map.now ≡ l.self) l.callers.items

abbrev pub decreases-loop-caller : goal.decreases-loop-caller
decreases-loop-caller g l = vec_len l.passes.callers
