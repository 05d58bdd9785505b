use Rattle.go_sync.specs.GuardedCallers.{at_once, woken}
use Rattle.go_sync.proofs.Locked.{still_locked}
use Rattle.go_sync.proofs.Otherwise.{halted_is_other, misused_is_other}
use Rattle.go_sync.proofs.guarded.waits.changed_unblocked.Goals as goal

pub loop-init : goal.loop-init
loop-init g c = at_once

pub hold-held-requires : goal.hold-held-requires
hold-held-requires g c = still_locked _ _ _ _ _ c.requires.locked c.loop.invariant

pub loop-preserved : goal.loop-preserved
loop-preserved g c = woken _ _ _ _ c.loop.invariant (rw c.in-Done-Ok.field-0-is at c.in-Done-Ok.ensures)

pub returns-in-Done-Err-clause-unchanged : goal.returns-in-Done-Err-clause-unchanged
returns-in-Done-Err-clause-unchanged g c = record {
  mid = c.loop.cond;
  between = c.loop.mutex;
  waits = c.loop.invariant;
  answer = c.wait.result;
  cut = c.wait.ensures;
  other = misused_is_other _ _ _ c.in-Done-Err.is c.in-Done-Err.field-0-is;
}

pub returns-in-Halted-clause-unchanged : goal.returns-in-Halted-clause-unchanged
returns-in-Halted-clause-unchanged g c = record {
  mid = c.loop.cond;
  between = c.loop.mutex;
  waits = c.loop.invariant;
  answer = c.wait.result;
  cut = c.wait.ensures;
  other = halted_is_other _ _ _ c.in-Halted.is;
}
