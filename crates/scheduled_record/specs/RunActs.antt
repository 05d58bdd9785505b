-- What a run by schedule makes, in order, as a record has it: the items of its turns, and on Starts what stands before and behind them.
use Rattle.std.specs.Prelude.{ℕ, ◌&&◌, Bool, true, false, not, cond, List, [], ◌∷◌, ◌++◌, map, filter, length, fold}
use Rattle.std.specs.List.{range_with_len, flat_map}
use Rattle.starts_core.specs.declared.starts.StartEvent.TheVariants as starts
use Rattle.starts_core.specs.declared.starts.StartReply.TheVariants as told
use Rattle.workload.specs.Plan.{Plan, is_dormant, has_dormant}
use Rattle.run_record.specs.declared.made.Made.{Made}
use Rattle.run_record.specs.Record.{Record, shared_in}
use Rattle.kept_record.specs.Keeping.{Act, made_by, record_of}
use Rattle.step_runner.specs.declared.turns.item.Item.{Item}
use Rattle.step_runner.specs.declared.trace.TraceItem.{TraceItem}
use Rattle.step_runner.specs.Recorded.{recorded_item}
use Rattle.step_runner.specs.Spelt.{made_on_starts}
use Rattle.step_runner.specs.Traces.{items_told, trace_of}

-- what one worker made
abbrev pub acts_by : ℕ → List Made → List Act
acts_by worker made = map (λ one. record { worker = worker; made = one }) made

abbrev pub is_nothing : List Made → Bool
is_nothing [] = true
is_nothing (one ∷ made) = false

-- a worker that waits to be started has made nothing yet
abbrev pub waits_still : Plan → List Act → ℕ → Bool
waits_still plan acts worker = is_dormant plan worker && is_nothing (made_by worker acts)

-- it goes before the first item that it makes
abbrev pub going_acts : Plan → List Act → ℕ → List Act
going_acts plan acts worker = acts_by worker (cond (waits_still plan acts worker) (made_on_starts plan worker starts.Leave told.Go) [])

-- the acts behind one item more. A `range` is a cursor that begins as the worker's call of this number on maps and atomics
abbrev pub with_item : Plan → List Act → Item → List Act
with_item plan acts item = acts ++ (going_acts plan acts item.caller ++ acts_by item.caller (recorded_item plan (length (shared_in (made_by item.caller acts))) item))

abbrev pub acts_of : Plan → List Item → List Act
acts_of plan items = fold (with_item plan) [] items

-- Where some workers wait to be started, whoever came to its script tells at the end of the run that it has ended, from worker 0 up
abbrev pub ending_acts : Plan → List Act → List Act
ending_acts plan acts = flat_map (λ worker. acts_by worker (made_on_starts plan worker starts.End told.Done)) (filter (λ worker. not (waits_still plan acts worker)) (range_with_len 0 plan.workers))

-- and then those leave that were never started
abbrev pub leaving_acts : Plan → List Act → List Act
leaving_acts plan acts = flat_map (λ worker. acts_by worker (made_on_starts plan worker starts.Leave told.Never)) (filter (waits_still plan acts) (range_with_len 0 plan.workers))

abbrev pub closing_acts : Plan → List Act → List Act
closing_acts plan acts = cond (has_dormant plan) (ending_acts plan acts ++ leaving_acts plan acts) []

-- of a run that is done
abbrev pub closed_acts : Plan → List Act → List Act
closed_acts plan acts = acts ++ closing_acts plan acts

abbrev pub run_acts : Plan → List TraceItem → List Act
run_acts plan trace = closed_acts plan (acts_of plan (items_told trace))

-- the record of a trace, and that of a run by schedule that is done
abbrev pub record_of_trace : Plan → List TraceItem → Record
record_of_trace plan trace = record_of plan (run_acts plan trace)

abbrev pub scheduled_record : Plan → Record
scheduled_record plan = record_of_trace plan (trace_of plan)
