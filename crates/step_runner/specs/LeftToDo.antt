-- What is left to do in a run: a number that each event lowers.
use Rattle.std.specs.Prelude.{ℕ, ◌+◌, ◌-◌, ◌*◌, length, sum_by}
use Rattle.std.specs.List.{range_with_len}
use Rattle.workload.specs.Draft.{tries_of}
use Rattle.workload.specs.Plan.{Plan}
use Rattle.step_runner.specs.ObjectLeft.{object_left}
use Rattle.step_runner.specs.State.{State}
use Rattle.step_runner.specs.Turns.{begun_by, all_left}

-- how many calls are left, all workers together, whether they are started yet or not: a start raises nothing
abbrev pub calls_left : Plan → State → ℕ
calls_left plan s = sum_by (λ worker. length (all_left plan worker s)) (range_with_len 0 plan.workers)

-- how many waits a worker may still begin: those of the calls that are left, but those that were begun
abbrev pub waits_left_for : Plan → State → ℕ → ℕ
waits_left_for plan s worker = sum_by (λ call. tries_of call.operation) (all_left plan worker s) - begun_by worker s

abbrev pub waits_left : Plan → State → ℕ
waits_left plan s = sum_by (waits_left_for plan s) (range_with_len 0 plan.workers)

-- an event that completes a call, or with which a wait of a `waitfor` begins, raises what can be done at the objects by less than 4, and any other event lowers it
abbrev pub left_to_do : Plan → State → ℕ
left_to_do plan s = 4 * (calls_left plan s + waits_left plan s) + sum_by object_left s.objects
