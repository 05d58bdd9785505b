use Rattle.std.proofs.Common.{◌≡◌, ◌+◌, All, vec_len}
use Rattle.go_waits.specs.Groups.{IsPassOf}
use Rattle.go_waits.specs.Startings as startings
use Rattle.go_sync.proofs.go_group.GoGroup.callers.Given as goal

abbrev pub invariant-loop-caller : goal.invariant-loop-caller
invariant-loop-caller g l =
    All (IsPassOf l.self.group) l.passes.members.items × All (startings.IsPassOf l.self.starts) l.passes.workers.items × (vec_len l.passes.members ≡ vec_len l.passes.workers)
    × (vec_len l.callers + vec_len l.passes.members ≡ vec_len l.fn.passes.members) × All (λ caller. (caller.member.group.now ≡ l.self.group) × (caller.starts.now ≡ l.self.starts)) l.callers.items

abbrev pub decreases-loop-caller : goal.decreases-loop-caller
decreases-loop-caller g l = vec_len l.passes.members
