use Rattle.std.proofs.Common.{drop, arith}
use Rattle.workload.specs.Puts.{puts_at}
use Rattle.workload.proofs.PutCounts.{counted, counted_all}
use Rattle.workload.proofs.puts.puts_at.Goals as goal

pub overflow_add-puts : goal.overflow_add-puts
overflow_add-puts c = rw (c.puts_in-puts.ensures, c.as_slice.ensures)
    (omega (arith, counted c.args.place c.loop-script.script-index c.loop-script.puts c.args.scripts.now c.script-item.result c.loop-script-test.true c.script-item.is c.loop-script.invariant, c.requires))

pub overflow_cast-result : goal.overflow_cast-result
overflow_cast-result c =
    omega (arith, counted_all c.args.place c.loop-script.puts (puts_at c.args.place (drop c.loop-script.script-index c.args.scripts.now)) c.args.scripts.now c.loop-script.invariant, c.requires)
