-- What the code of a run keeps between two turns.
use Rattle.std.specs.Prelude.{◌≡◌, ℕ, ◌+◌, List, [], drop, length, get_or, set, cond, Option, None}
use Rattle.script_calls.specs.Runs.{passed_over, left_of}
use Rattle.script_calls.specs.Starts.{group_of}
use Rattle.script_calls.specs.declared.call.Call.{Call}
use Rattle.workload.specs.Plan.{Plan, is_dormant}
use Rattle.step_runner.specs.declared.turns.answer.Answer.{Answer}
use Rattle.step_runner.specs.declared.turns.answer.Answer.TheVariants as answers
use Rattle.step_runner.specs.State.{State, IsStateOf}
use Rattle.step_runner.specs.Turns.{done_calls, closing_calls}

pub record Kept : Type 0 where
  pub state : State
  pub places : List ℕ  -- for each worker, of its next call in its script
  pub groups : List (Option ℕ)  -- for each worker, the place of the group on which it is done behind its script, if it may be started

-- the state is one of the plan, what is left of a worker's script behind its replies is what stands there from its place on, and behind it stands the `done` on its group
pub record IsKeptFor (plan : Plan) (kept : Kept) : Type 0 where
  pub of : IsStateOf plan kept.state
  pub count : length kept.places ≡ plan.workers
  pub left : (worker : ℕ) → drop (get_or kept.places worker 0) (get_or plan.scripts worker []) ≡ left_of (get_or plan.scripts worker []) (get_or kept.state.replies worker [])
  pub groups_count : length kept.groups ≡ plan.workers
  pub last : (worker : ℕ) → done_calls (get_or kept.groups worker None) ≡ closing_calls plan worker

-- the place of the group on which a worker is done behind its script, if it may be started
abbrev pub closing_group : Plan → ℕ → Option ℕ
closing_group plan worker = cond (is_dormant plan worker) (group_of worker plan.scripts) None

-- a completed call of the script moves its worker's place behind it and the calls that it passes over
abbrev pub places_behind : ℕ → Call → Answer → List ℕ → List ℕ
places_behind worker call answers.Still places = places
places_behind worker call answers.Unfinished places = places
places_behind worker call (answers.Completed reply) places = set places worker (get_or places worker 0 + 1 + passed_over call reply)
places_behind worker call (answers.Misused misuse) places = places
