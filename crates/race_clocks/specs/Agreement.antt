-- When the numbered steps that vector clocks take tell the same as the turns of a trace: of each turn its worker, its access, and from which earlier turns it takes in.
use Rattle.std.specs.Prelude.{◌≡◌, ℕ, true, List, length, Some, option_map, slice_get}
use Rattle.workload.specs.Plan.{Plan}
use Rattle.vector_clocks.specs.declared.race.Race.{Race as StepRace}
use Rattle.vector_clocks.specs.declared.step.Access.{Access as StepAccess}
use Rattle.vector_clocks.specs.declared.step.Step.{Step}
use Rattle.vector_clocks.specs.Before as clocks
use Rattle.step_runner.specs.declared.trace.TraceItem.{TraceItem}
use Rattle.race_clocks.specs.Channels.{Channel, takes_in}
use Rattle.race_clocks.specs.HappensBefore.{done_before, Stands}
use Rattle.race_clocks.specs.Races.{Access, access_of, Pair, pair}

-- an access in the words of a step
abbrev pub step_access : Access → StepAccess
step_access access = record { variable = access.variable; writes = access.writes }

-- turn j takes in what turn i handed on: by some channel
abbrev pub TurnTakes : Plan → List TraceItem → ℕ → ℕ → TraceItem → Type 0
TurnTakes plan trace i j turn = (channel : Channel) × (takes_in plan (done_before trace j) turn channel ≡ true) × Stands plan trace channel i j

-- step j takes in what step i handed on: by some number of a channel
abbrev pub StepTakes : List Step → ℕ → ℕ → Step → Type 0
StepTakes steps i j step = (number : ℕ) × (clocks.takes step number ≡ true) × clocks.Stands steps number i j

-- step j tells what turn j tells
pub record AgreesAt (plan : Plan) (trace : List TraceItem) (steps : List Step) (j : ℕ) (turn : TraceItem) (step : Step) : Type 0 where
  pub worker : step.worker ≡ turn.worker
  pub access : step.access ≡ option_map step_access (access_of turn)
  pub taken : (i : ℕ) → TurnTakes plan trace i j turn → StepTakes steps i j step
  pub only : (i : ℕ) → StepTakes steps i j step → TurnTakes plan trace i j turn

-- each step tells what its turn tells; there may be fewer steps than turns
abbrev pub AgreeSoFar : Plan → List TraceItem → List Step → Type 0
AgreeSoFar plan trace steps = (j : ℕ) (turn : TraceItem) (step : Step) → slice_get trace j ≡ Some turn → slice_get steps j ≡ Some step → AgreesAt plan trace steps j turn step

-- and there is one for each turn
pub record Agree (plan : Plan) (trace : List TraceItem) (steps : List Step) : Type 0 where
  pub all : length steps ≡ length trace
  pub each : AgreeSoFar plan trace steps

-- a race of steps in the words of the trace
abbrev pub pair_of : StepRace → Pair
pair_of r = pair r.earlier r.later
