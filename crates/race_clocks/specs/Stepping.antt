-- What the steps so far are to the turns so far.
use Rattle.std.specs.Prelude.{◌≡◌, ℕ, ◌<◌, Contains, List, [], length, Some, None, option_map, slice_get}
use Rattle.vector_clocks.specs.declared.step.Step.{Step}
use Rattle.workload.specs.Plan.{Plan}
use Rattle.step_runner.specs.declared.trace.TraceItem.{TraceItem}
use Rattle.race_clocks.specs.Agreement.{step_access, AgreeSoFar}
use Rattle.race_clocks.specs.Channels as all
use Rattle.race_clocks.specs.HappensBefore.{done_before, Stands}
use Rattle.race_clocks.specs.Numbering.{number_of, numbers_of, HandedOn, IsNumbered}
use Rattle.race_clocks.specs.Passing.{AreTold, IsSeen}
use Rattle.race_clocks.specs.Races.{access_of}
use Rattle.race_clocks.specs.declared.numbers.Numbers.{Numbers}
use Rattle.race_clocks.specs.declared.seen.Passing.{Passing}
use Rattle.race_clocks.specs.declared.seen.Seen.{Seen}

-- the step of a turn: what its items tell, by the numbers of channels
pub record IsStepOf (plan : Plan) (turn : TraceItem) (old : Seen) (before : Numbers) (new : Seen) (after : Numbers) (step : Step) : Type 0 where
  pub worker : step.worker ≡ turn.worker
  pub access : step.access ≡ option_map step_access (access_of turn)
  pub sets : step.sets.items ≡ []
  pub passing : Passing
  pub told : AreTold plan turn.made turn.call old new passing
  pub takes : step.takes.items ≡ numbers_of before.tables passing.takes
  pub gives : HandedOn before after step.gives.items passing.gives

-- A channel's number is in the steps of just those turns of which what they handed on through it is still there when turn n comes; a channel without
-- a number has nothing
pub record Holds (plan : Plan) (trace : List TraceItem) (n : ℕ) (steps : List Step) (numbers : Numbers) : Type 0 where
  pub there : (channel : all.Channel) (number i : ℕ) (step : Step) → number_of numbers.tables channel ≡ Some number → slice_get steps i ≡ Some step → Contains step.gives.items number → Stands plan trace channel i n
  pub back : (channel : all.Channel) (number i : ℕ) (step : Step) → number_of numbers.tables channel ≡ Some number → slice_get steps i ≡ Some step → Stands plan trace channel i n → Contains step.gives.items number
  pub none : (channel : all.Channel) (i : ℕ) → number_of numbers.tables channel ≡ None → Stands plan trace channel i n → ⊥

pub record AreSteps (plan : Plan) (trace : List TraceItem) (steps : List Step) (seen : Seen) (numbers : Numbers) : Type 0 where
  pub agree : AgreeSoFar plan trace steps
  pub comes : IsSeen plan (done_before trace (length steps)) seen
  pub numbered : IsNumbered numbers
  pub holds : Holds plan trace (length steps) steps numbers
  pub worker : (i : ℕ) (step : Step) → slice_get steps i ≡ Some step → step.worker < plan.workers
  pub takes : (i : ℕ) (step : Step) → slice_get steps i ≡ Some step → (number : ℕ) → Contains step.takes.items number → number < numbers.next
  pub below : (i : ℕ) (step : Step) → slice_get steps i ≡ Some step → (number : ℕ) → Contains step.gives.items number → number < numbers.next
  pub unset : (i : ℕ) (step : Step) → slice_get steps i ≡ Some step → step.sets.items ≡ []
