use Rattle.std.proofs.Common.{◌≡◌}
use Rattle.step_runner.specs.LeftToDo.{left_to_do}
use Rattle.step_runner.specs.Noted.{noted}
use Rattle.step_runner.specs.Places.{IsKeptFor}
use Rattle.step_runner.specs.Computed.{all_rounds}
use Rattle.step_runner.specs.Traces.{all_rounds_traced}
use Rattle.step_runner.proofs.run.take_rounds.Given as goal

abbrev pub invariant-loop-alloc : goal.invariant-loop-alloc
invariant-loop-alloc l = record {
  of : IsKeptFor l.workload l.state;
  rest : all_rounds l.workload l.state.state ≡ all_rounds l.workload l.initial.state.state;
  told : noted (all_rounds_traced l.workload l.state.state) l.trace ≡ noted (all_rounds_traced l.workload l.initial.state.state) l.initial.trace;
}

abbrev pub decreases-loop-alloc : goal.decreases-loop-alloc
decreases-loop-alloc l = left_to_do l.workload l.state.state
