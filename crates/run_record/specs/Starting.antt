-- What a `go` has made, by its items, and how the list of a worker ends that one has started.
use Rattle.std.specs.Prelude.{◌≡◌, ◌⊎◌, ℕ, pos, negsuc, List, [], ◌∷◌, ◌++◌, Some, slice_get}
use Rattle.script_calls.specs.declared.call.Call.{Call}
use Rattle.script_calls.specs.declared.call.ComposedCall.TheVariants.{Go}
use Rattle.script_calls.specs.declared.call.Operation.TheVariants as operations
use Rattle.starts_core.specs.declared.starts.StartEvent.{StartEvent}
use Rattle.starts_core.specs.declared.starts.StartEvent.TheVariants.{Start, End}
use Rattle.starts_core.specs.declared.starts.StartReply.{StartReply}
use Rattle.starts_core.specs.declared.starts.StartReply.TheVariants.{Done}
use Rattle.sync_model.specs.declared.journal.Deed.TheVariants.{Event, Refused}
use Rattle.sync_types.specs.declared.misuse.Misuse.{Misuse}
use Rattle.wait_cores.specs.declared.group.GroupEvent.TheVariants.{Add}
use Rattle.wait_cores.specs.declared.group.GroupReply.TheVariants as grouped
use Rattle.workload.specs.declared.object.ObjectKind.TheVariants as kinds
use Rattle.workload.specs.declared.object.ObjectLine.{ObjectLine}
use Rattle.workload.specs.Plan.{Plan}
use Rattle.run_record.specs.declared.entered.ObjectEvent.{ObjectEvent}
use Rattle.run_record.specs.declared.entered.ObjectEvent.TheVariants as event
use Rattle.run_record.specs.declared.entered.ObjectReply.TheVariants as reply
use Rattle.run_record.specs.declared.made.Made.{Made}
use Rattle.run_record.specs.declared.made.Made.TheVariants.{Entered}
use Rattle.run_record.specs.Record.{Record, ObjectEntry, journal_of, list_of}
use Rattle.run_record.specs.Returns.{IsOnce, EndsTaking}
use Rattle.run_record.specs.Waits.{IsOnGroup}

-- the call is a `go` on a wait group, of this worker
pub record IsGo (plan : Plan) (call : Call) (started : ℕ) : Type 0 where
  pub object : ObjectLine
  pub declared : ℕ
  pub there : slice_get plan.objects call.object ≡ Some object
  pub on_group : object.kind ≡ kinds.WaitGroup declared
  pub goes : call.operation ≡ operations.Composed (Go started)

-- the entry is this event of Starts, and was answered this
abbrev pub IsOnStarts : StartEvent → StartReply → ObjectEntry → Type 0
IsOnStarts e answer entry = entry.deed ≡ Event (event.Starts e) (reply.Starts answer)

-- A `go` that returned: it added 1 to its group, and then started its worker
pub record HasGone (group starts started : ℕ) (items : List Made) : Type 0 where
  pub added : ObjectEntry
  pub start : ObjectEntry
  pub are : items ≡ Entered group added ∷ (Entered starts start ∷ [])
  pub adds : IsOnGroup (Add (pos 1)) grouped.Done added
  pub starts_it : IsOnStarts (Start started) Done start

-- a `go` that is a misuse: its addition is, and nobody is started
abbrev pub HasMisused : (group : ℕ) → Misuse → List Made → Type 0
HasMisused group misuse items = IsOnce group (event.WaitGroup (Add (pos 1))) (reply.WaitGroup (grouped.Misused misuse)) items

-- the one item is this event on the object, which refused it, since it was halted by this misuse
pub record IsRefused (object : ℕ) (e : ObjectEvent) (misuse : Misuse) (items : List Made) : Type 0 where
  pub entry : ObjectEntry
  pub are : items ≡ Entered object entry ∷ []
  pub deed : entry.deed ≡ Refused e misuse

-- a `go` that added 1 to its group, and met a halt at Starts
pub record HasAdded (group starts started : ℕ) (misuse : Misuse) (items : List Made) : Type 0 where
  pub added : ObjectEntry
  pub behind : List Made
  pub are : items ≡ Entered group added ∷ behind
  pub adds : IsOnGroup (Add (pos 1)) grouped.Done added
  pub refused : IsRefused starts (event.Starts (Start started)) misuse behind

-- A `go` that met a halt: at its group, or behind its addition at Starts. Neither way is anybody started
abbrev pub HasMetHalt : (group starts started : ℕ) → Misuse → List Made → Type 0
HasMetHalt group starts started misuse items = IsRefused group (event.WaitGroup (Add (pos 1))) misuse items ⊎ HasAdded group starts started misuse items

-- the list of a worker that is done on its group: its last two items are a `done` on the group, which was made, and its end on Starts
pub record EndsDone (group starts : ℕ) (list : List Made) : Type 0 where
  pub earlier : List Made
  pub done : ObjectEntry
  pub ended : ObjectEntry
  pub are : list ≡ earlier ++ Entered group done ∷ (Entered starts ended ∷ [])
  pub is_done : IsOnGroup (Add (negsuc 0)) grouped.Done done
  pub is_end : IsOnStarts End Done ended

-- the worker's `done` on the group, with which its list ends, stands at this place of the group's journal
pub record IsDoneAt (r : Record) (group starts worker place : ℕ) : Type 0 where
  pub ends : EndsDone group starts (list_of r worker)
  pub at : slice_get (journal_of r group) place ≡ Some ends.done
  pub caller : ends.done.caller ≡ worker

-- the return of a wait on the group, with which its items end, stands at this place of the group's journal
pub record ReturnsAt (r : Record) (group worker place : ℕ) (items : List Made) : Type 0 where
  pub ends : EndsTaking group items
  pub at : slice_get (journal_of r group) place ≡ Some ends.last
  pub caller : ends.last.caller ≡ worker
