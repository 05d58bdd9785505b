use Rattle.go_sync.specs.GuardedCallers.{WaitsFor}
use Rattle.go_sync.proofs.guarded.waits.changed_unblocked.Given as goal

abbrev pub invariant-loop : goal.invariant-loop
invariant-loop g l = WaitsFor g.C.Clock.shows l.fn.cond l.fn.mutex l.cond l.mutex
