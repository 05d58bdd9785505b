use Rattle.std.proofs.Common.{◌≡◌, ◌+◌, drop}
use Rattle.workload.specs.Puts.{puts_at}
use Rattle.workload.proofs.puts.puts_at.Given as goal

abbrev pub invariant-loop-script : goal.invariant-loop-script
invariant-loop-script l = l.puts + puts_at l.place (drop l.script-index l.scripts) ≡ puts_at l.place l.scripts
