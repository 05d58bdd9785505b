use Rattle.std.proofs.Common.{◌-◌}
use Rattle.std.specs.List.{range_with_len}
use Rattle.step_runner.specs.Noted.{noted}
use Rattle.step_runner.specs.Places.{IsKeptFor}
use Rattle.step_runner.specs.Traces.{traced_from}
use Rattle.step_runner.specs.Turns.{items_of, round}
use Rattle.step_runner.proofs.RunLemmas.{SoFar, turns_of}
use Rattle.step_runner.proofs.TraceLemmas.{ToldSoFar}
use Rattle.step_runner.proofs.run.take_round.Given as goal

abbrev pub invariant-loop-worker : goal.invariant-loop-worker
invariant-loop-worker l = record {
  of : IsKeptFor l.workload l.state;
  so_far : SoFar l.workload (turns_of (range_with_len l.worker (l.workload.workers - l.worker))) l.state.state l.so_far (items_of l.workload (round l.workload.workers) l.initial.state.state);
  told : ToldSoFar l.workload (turns_of (range_with_len l.worker (l.workload.workers - l.worker))) l.state.state l.trace (noted (traced_from l.workload (round l.workload.workers) l.initial.state.state) l.initial.trace);
}
