use Rattle.std.proofs.Common.{drop}
use Rattle.step_runner.specs.Noted.{noted}
use Rattle.step_runner.specs.Places.{IsKeptFor}
use Rattle.step_runner.specs.Traces.{traced_from}
use Rattle.step_runner.specs.Turns.{items_of}
use Rattle.step_runner.proofs.TraceLemmas.{RunsSoFar}
use Rattle.step_runner.proofs.run.take_schedule.Given as goal

abbrev pub invariant-loop-item : goal.invariant-loop-item
invariant-loop-item l = record {
  of : IsKeptFor l.workload l.state;
  so_far : RunsSoFar l.workload (drop l.item-index l.item-items) l.state.state l.so_far l.trace (items_of l.workload l.item-items l.initial.state.state) (noted (traced_from l.workload l.item-items l.initial.state.state) l.initial.trace);
}
