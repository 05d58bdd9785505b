use Rattle.object_checks.specs.JournalItems.{journals_in}
use Rattle.object_checks.specs.JournalParts.{PoolFollows}
use Rattle.object_checks.proofs.journals.walk.pool_follows.Given as goal

abbrev pub invariant-loop-part : goal.invariant-loop-part
invariant-loop-part l = PoolFollows l.room l.first l.part (journals_in l.journals)
