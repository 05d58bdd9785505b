use Rattle.std.proofs.Common.{◌≡◌, replicate}
use Rattle.scheduled_record.proofs.items.new_journals.Given as goal

abbrev pub invariant-loop : goal.invariant-loop
invariant-loop l = l.journals.items ≡ replicate l.counter (record { entries = 0; released = replicate l.workload.workers 0 })
