-- When a record explains the outcome of a run of a workload.
use Rattle.std.specs.Prelude.{◌≡◌, ℕ, ◌+◌, ◌<◌, ◌≤◌, true, List, [], map, length, take, All, Some, slice_get, slice_index, get_or}
use Rattle.script_calls.specs.declared.outcome.Outcome.{Outcome}
use Rattle.script_calls.specs.declared.outcome.Outcome.TheVariants.{Done, Misused, Deadlocked}
use Rattle.sync_model.specs.Front.{AtLeast}
use Rattle.sync_model.specs.Journal.{by, halt_of}
use Rattle.script_calls.specs.Outcome.{left_by}
use Rattle.script_calls.specs.Runs.{RunsAlong}
use Rattle.sync_model.specs.SharedCalls.{Lawful}
use Rattle.sync_model.specs.SharedHistory.{contents_after}
use Rattle.workload.specs.declared.object.ObjectKind.TheVariants.{Pool}
use Rattle.workload.specs.declared.object.ObjectLine.{ObjectLine}
use Rattle.workload.specs.Plan.{Plan, has_dormant}
use Rattle.workload.specs.Puts.{puts_at}
use Rattle.run_record.specs.declared.made.Made.{Made}
use Rattle.run_record.specs.Calls.{IsJournalOf}
use Rattle.run_record.specs.Journals.{IsStops}
use Rattle.run_record.specs.Lines.{Line, LineEnd, whole, misused, halted, unfinished, stayed, never, stopped, waits, calls_made, items_of, replies_of, IsLineOf}
use Rattle.run_record.specs.Objects.{contents_of, ends_in, first_part, object_count, starts_number}
use Rattle.run_record.specs.PoolKind.{IsPartJournal}
use Rattle.run_record.specs.Record.{Record, stop, object_number, journal_of, list_of, shared_in, entries_in, calls_of, front_of}
use Rattle.run_record.specs.StartsKind.{IsStartsJournal}

-- The front law along a worker's list. No worker forgets what it knew, and it knows all its own earlier calls; nobody knows of a call that wasn't made.
pub record KeepsFronts (r : Record) : Type 0 where
  pub rises : (worker i j : ℕ) (x y : Made) → i < j → slice_get (list_of r worker) i ≡ Some x → slice_get (list_of r worker) j ≡ Some y → AtLeast (front_of y) (front_of x)
  pub own : (worker i : ℕ) (x : Made) → slice_get (list_of r worker) i ≡ Some x → slice_index (front_of x) worker ≡ length (shared_in (take i (list_of r worker)))
  pub made : (worker i other : ℕ) (x : Made) → slice_get (list_of r worker) i ≡ Some x → slice_index (front_of x) other ≤ length (calls_of r other)

-- the record is a lawful one of the workload's objects, whoever calls them
pub record IsRecordOf (plan : Plan) (r : Record) : Type 0 where
  -- the history is legal, and the workers' own calls on maps and atomics explain it: the front law and the Range law are among this
  pub shared : Lawful (contents_of plan) r.history (calls_of r)
  pub objects : length r.journals ≡ object_count plan
  pub stops : IsStops (journal_of r stop)
  pub journals : (place : ℕ) (object : ObjectLine) → slice_get plan.objects place ≡ Some object → IsJournalOf plan place object.kind (journal_of r (object_number place))
  -- each part of a pool has a journal of its own, and room for all items that the scripts put into the pool
  pub parts : (place part : ℕ) (object : ObjectLine) → slice_get plan.objects place ≡ Some object → object.kind ≡ Pool → part < plan.workers → IsPartJournal (puts_at place plan.scripts) (journal_of r (first_part plan place + part))
  pub starts : has_dormant plan ≡ true → IsStartsJournal plan.dormant (journal_of r (starts_number plan))
  -- each entry of a journal stands in exactly one list, once, which is that of its caller, in the order of the journal
  pub once : (worker object : ℕ) → entries_in object (list_of r worker) ≡ by worker (journal_of r object)
  pub fronts : KeepsFronts r

-- the lists are these lines, part by part: each spells the first part of a run of its worker's script, with what stands before and behind it, and the replies are those of the calls that were completed
pub record AreLines (plan : Plan) (r : Record) (outcome : Outcome) (lines : List Line) : Type 0 where
  pub count : length lines ≡ length plan.scripts
  pub runs : (worker : ℕ) (line : Line) → slice_get lines worker ≡ Some line → RunsAlong (get_or plan.scripts worker []) (calls_made line) line.rest
  pub lists : map items_of lines ≡ r.lists
  pub replies : map replies_of lines ≡ (left_by outcome).replies
  pub each : (worker : ℕ) (line : Line) → slice_get lines worker ≡ Some line → IsLineOf plan worker line

-- the worker has ended: its script is at its end, it was never started, or its last call is a misuse or was halted
abbrev pub HasEnded : LineEnd → Type 0
HasEnded whole = Unit {0}
HasEnded (misused misuse) = Unit {0}
HasEnded (halted misuse) = Unit {0}
HasEnded unfinished = ⊥
HasEnded (stayed never) = Unit {0}
HasEnded (stayed (stopped misuse)) = Unit {0}
HasEnded (stayed waits) = ⊥

-- the script is at its end, or the worker was never started
abbrev pub IsAtEnd : LineEnd → Type 0
IsAtEnd whole = Unit {0}
IsAtEnd (misused misuse) = ⊥
IsAtEnd (halted misuse) = ⊥
IsAtEnd unfinished = ⊥
IsAtEnd (stayed never) = Unit {0}
IsAtEnd (stayed (stopped misuse)) = ⊥
IsAtEnd (stayed waits) = ⊥

-- what a run comes to that left these lines. Where it is done, each script is at its end but those of workers that were never started, and the ends are what the maps and atomics contain after the whole history. Where it was misused, the misuse is the first that halted Stop. With threads none is seen to be deadlocked
abbrev pub Agrees : Plan → Record → List Line → Outcome → Type 0
Agrees plan r lines (Done left) = All (λ line. IsAtEnd line.ending) lines × (left.ends ≡ ends_in plan (contents_after (contents_of plan) r.history))
Agrees plan r lines (Misused left misuse) = All (λ line. HasEnded line.ending) lines × (left.ends ≡ []) × (halt_of (journal_of r stop) ≡ Some misuse)
Agrees plan r lines (Deadlocked left) = ⊥

-- the record explains the outcome
pub record Explains (plan : Plan) (outcome : Outcome) (r : Record) : Type 0 where
  pub lines : List Line
  pub are : AreLines plan r outcome lines
  pub lawful : IsRecordOf plan r
  pub agrees : Agrees plan r lines outcome
