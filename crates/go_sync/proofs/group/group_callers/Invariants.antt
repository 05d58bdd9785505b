use Rattle.std.proofs.Common.{◌≡◌, ◌+◌, All, vec_len}
use Rattle.go_waits.specs.Groups.{IsPassOf}
use Rattle.go_sync.proofs.group.group_callers.Given as goal

abbrev pub invariant-loop-caller : goal.invariant-loop-caller
invariant-loop-caller g l = All (IsPassOf l.group) l.passes.items × (vec_len l.callers + vec_len l.passes ≡ vec_len l.fn.passes) × All (λ caller. caller.group.now ≡ l.group) l.callers.items

abbrev pub decreases-loop-caller : goal.decreases-loop-caller
decreases-loop-caller g l = vec_len l.passes
