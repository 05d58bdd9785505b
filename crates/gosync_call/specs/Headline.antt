-- The headline: what a run with a thread for each worker writes is explained by one record, all of which stands in one order.
--
-- For every workload and interleaving in which the run returns there is one record that explains what is written: one
-- history of all maps and atomics, one journal of each other object, and one list of what each worker made (`Record`).
-- `Explains` says of it, in `run_record`:
--
-- * each worker's list spells its calls, in its order, and the replies are those that the items of the list were answered (`AreLines`);
-- * each call on a map or an atomic but a `range` is answered what the one-thread object answers at its place in the history, each
--   once, never before what its worker had seen itself or through an edge; a `range` shows no key twice (`Lawful`);
-- * each other object's journal follows its machine, and an acquiring entry knows what each releasing entry before it knew (`IsJournalOf`);
-- * the run is done where each script is at its end, but those of workers that were never started, and then the ends are what stands after the whole history; else it was
--   misused, and the misuse is the first that halted it (`Agrees`).
--
-- And `InOneOrder` says that each item of each worker's list has a number, be it an event on an object or a call on a map or an
-- atomic. The numbers rise along each worker's list, along each journal and along the history, and each call has its place in the
-- history by its number. So all that was made stands in one order, in which each event and each call but a `range` is answered by
-- what comes before it.
use Rattle.std.specs.Prelude.{◌≡◌, ◌⊎◌, ℕ, true, false, List, [], Option, Some, slice_get, get_or, map, length}
use Rattle.sync_outside.specs.Faults.{RoseBy}
use Rattle.script_calls.specs.Runs.{have_tests, left_of}
use Rattle.script_calls.specs.declared.outcome.Outcome.{Outcome}
use Rattle.script_calls.specs.declared.outcome.Report.{Report}
use Rattle.sync_types.specs.declared.misuse.Misuse.{Misuse}
use Rattle.workload.specs.Plan.{Plan, is_dormant, has_dormant}
use Rattle.run_record.specs.Record.{Record}
use Rattle.run_record.specs.Explains.{Explains}
use Rattle.run_record.specs.InOneOrder.{InOneOrder}
use Rattle.run_record.specs.Lines.{Line, misused}
use Rattle.gosync_call.specs.declared.status.Status.{Status}
use Rattle.gosync_call.specs.ComesTo.{ComesTo}

-- a run with threads comes to this outcome of a workload: one record explains it, and all its items stand in one order
abbrev pub RunsTo : Plan → Outcome → Type 0
RunsTo plan outcome = (r : Record) × Explains plan outcome r × InOneOrder r

-- the headline, of the bytes of a file, where they are told, of what was written before and after, and of the program's status
abbrev pub Headline : Option (List ℕ) → Option (List ℕ) → Option (List ℕ) → Status → Type 0
Headline told old new status = ComesTo RunsTo told old new status

-- it comes to the outcome by at least one job for each worker, as the spawner counts the jobs that were done
abbrev pub RunsInJobs : ℕ → ℕ → Plan → Outcome → Type 0
RunsInJobs ran ran_now plan outcome = RunsTo plan outcome × RoseBy plan.workers ran ran_now

-- nothing is left of the worker's script, or it waits to be started, and made no call
abbrev pub WorkerEnded : Plan → Report → ℕ → Type 0
WorkerEnded plan left worker = (left_of (get_or plan.scripts worker []) (get_or left.replies worker []) ≡ []) ⊎ ((is_dormant plan worker ≡ true) × (get_or left.replies worker [] ≡ []))

-- every worker that was live has ended; and where no call may pass others over, and no worker waits to be started, each call has its reply
abbrev pub HasEnded : Plan → Report → Type 0
HasEnded plan left = ((worker : ℕ) → WorkerEnded plan left worker) × (have_tests plan.scripts ≡ false → has_dormant plan ≡ false → map length left.replies ≡ map length plan.scripts)

-- the record explains this outcome, and some worker's list ends in this misuse
abbrev pub HasMet : Plan → Outcome → Record → Misuse → Type 0
HasMet plan outcome r misuse = (explains : Explains plan outcome r) × (worker : ℕ) × (line : Line) × (slice_get explains.lines worker ≡ Some line) × (line.ending ≡ misused misuse)
