use Rattle.std.proofs.Common.{◌≡◌, ◌+◌, All, vec_len}
use Rattle.sync_model.specs.Shared.{IsCallerAt}
use Rattle.shared_table.specs.Notes.{own_by, IsNoteOf}
use Rattle.go_sync.proofs.atomic.atomic_callers.Given as goal

abbrev pub invariant-loop-member : goal.invariant-loop-member
invariant-loop-member g l = All (IsCallerAt IsNoteOf own_by l.table) l.callers.items × (vec_len l.members + vec_len l.callers ≡ vec_len l.fn.callers) × All (λ member. (member.atomic.table.now ≡ l.table) × (member.atomic.number ≡ l.number)) l.members.items

abbrev pub decreases-loop-member : goal.decreases-loop-member
decreases-loop-member g l = vec_len l.callers
