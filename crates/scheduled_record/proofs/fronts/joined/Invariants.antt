use Rattle.std.proofs.Common.{◌≡◌, ◌++◌, drop}
use Rattle.kept_record.specs.Keeping.{joined}
use Rattle.scheduled_record.proofs.fronts.joined.Given as goal

abbrev pub invariant-loop-place : goal.invariant-loop-place
invariant-loop-place l = l.both.items ++ joined (drop l.place l.front) (drop l.place l.other) ≡ joined l.front l.other
