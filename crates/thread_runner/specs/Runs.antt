-- What a run by threads comes to, over shared maps and atomics that keep their history.
use Rattle.std.specs.Prelude.{◌≡◌, ℕ, List, [], Option, Some, slice_get}
use Rattle.sync_model.specs.declared.caller.Caller.{Caller}
use Rattle.sync_model.specs.declared.item.Item.{Item}
use Rattle.sync_model.specs.declared.item.SharedEntry.{SharedEntry}
use Rattle.sync_types.specs.declared.end.End.{End}
use Rattle.script_calls.specs.declared.outcome.Outcome.{Outcome}
use Rattle.script_calls.specs.declared.outcome.Outcome.TheVariants.{Done, Misused, Deadlocked}
use Rattle.sync_model.specs.Front.{Front}
use Rattle.sync_model.specs.Note.{Holding}
use Rattle.script_calls.specs.Outcome.{left_by}
use Rattle.sync_model.specs.Shared.{AreAllCallers, Settled}
use Rattle.sync_model.specs.Shared as shared
use Rattle.sync_model.specs.SharedHistory.{contents_after}
use Rattle.workload.specs.Plan.{Plan}
use Rattle.run_record.specs.Explains.{Explains}
use Rattle.run_record.specs.InOneOrder.{InOneOrder}
use Rattle.run_record.specs.Lines.{Line, HaltsEach}
use Rattle.run_record.specs.Objects.{contents_of, ends_in}
use Rattle.run_record.specs.Record.{Record, calls_of}

-- the outcome with these ends, which only a run has that is done
abbrev pub with_ends : List End → Outcome → Outcome
with_ends ends (Done left) = Done (record left { ends = ends })
with_ends ends (Misused left misuse) = Misused left misuse
with_ends ends (Deadlocked left) = Deadlocked left

-- what a report shows of the maps and atomics after this history
abbrev pub ends_after : Plan → List SharedEntry → List End
ends_after plan history = ends_in plan (contents_after (contents_of plan) history)

-- A record explains the outcome, once the ends are filled in. Its history is this one, and its workers' calls on maps and atomics are these. A worker that met a misuse has halted Stop and then each object in order. All its items stand in one order.
pub record IsExplained (plan : Plan) (outcome : Outcome) (history : List SharedEntry) (calls : ℕ → List Item) : Type 0 where
  pub run : Record
  pub history_is : run.history ≡ history
  pub calls_are : (worker : ℕ) → calls_of run worker ≡ calls worker
  pub explains : Explains plan (with_ends (ends_after plan history) outcome) run
  pub halts : (worker : ℕ) (line : Line) → slice_get explains.lines worker ≡ Some line → HaltsEach plan line
  pub order : InOneOrder run

-- What a run over shared maps and atomics leaves: all their callers, who have seen the whole history, and an outcome without its ends. A record explains it whose history is this one, and whose workers' calls on maps and atomics are the callers' own.
pub record HasRun {H N : Type 0} (at : H → N → Type 0) (own : N → Option Holding) (front : N → Front) (seen : N → List SharedEntry) (home : H) (plan : Plan) (outcome : Outcome) (callers : List (Caller N)) : Type 0 where
  pub all : AreAllCallers at own home callers plan.workers
  pub settled : Settled own front seen (contents_of plan) callers
  pub explained : IsExplained plan outcome settled.history (shared.calls_of own callers)
  pub none : (left_by outcome).ends ≡ []
