use Rattle.std.proofs.Common.{take}
use Rattle.race_clocks.specs.Handing.{AreOf}
use Rattle.race_clocks.specs.Passing.{AreTold}
use Rattle.race_clocks.proofs.seen.Seen.pass_all.Given as goal

abbrev pub invariant-loop-item : goal.invariant-loop-item
invariant-loop-item l = record {
  are : AreOf l.workload.workers l.self.conds;
  told : AreTold l.workload (take l.item-index l.items) l.call l.initial.self l.self l.passing;
}
