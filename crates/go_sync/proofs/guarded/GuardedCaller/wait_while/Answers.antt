use Rattle.std.proofs.Common.{inl, inr}
use Rattle.go_sync.proofs.guarded.GuardedCaller.wait_while.Goals as goal

pub changed_unblocked-requires-clause-locked : goal.changed_unblocked-requires-clause-locked
changed_unblocked-requires-clause-locked g c = inl (c.args.self.now.caller, c.in-Done.ensures)

pub returns-in_default-changed_unblocked-clause-unchanged : goal.returns-in_default-changed_unblocked-clause-unchanged
returns-in_default-changed_unblocked-clause-unchanged g c = inr (c.lock_soon.new.self, c.in-Done.ensures, c.in_default-changed_unblocked.ensures.unchanged)
