use Rattle.run_check.proofs.HaltWalks.{found_here}
use Rattle.run_check.proofs.stops.first_halt_of.Goals as goal

pub returns-in-Halt : goal.returns-in-Halt
returns-in-Halt c = found_here c.args.journal.now c.loop-row.row-index c.row-item.result c.in-Halt.misuse c.loop-row-test.true c.row-item.is c.in-Halt.is c.loop-row.invariant
