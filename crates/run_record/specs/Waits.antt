-- What returns a wait on a cond, and one on a wait group.
use Rattle.std.specs.Prelude.{◌≡◌, ◌≢◌, ◌⊎◌, ℕ, ◌^◌, ◌<◌, pos, ◌+ℤ◌, List, ◌∷◌, ◌++◌, Some, slice_get}
use Rattle.sync_model.specs.declared.journal.Deed.TheVariants.{Event}
use Rattle.sync_model.specs.Front.{AtLeast}
use Rattle.sync_model.specs.Log.{after}
use Rattle.wait_cores.specs.declared.group.GroupEvent.{GroupEvent}
use Rattle.wait_cores.specs.declared.group.GroupReply.{GroupReply}
use Rattle.wait_cores.specs.declared.group.GroupReply.TheVariants as grouped
use Rattle.wait_cores.specs.declared.notify.NotifyEvent.{NotifyEvent}
use Rattle.wait_cores.specs.declared.notify.NotifyEvent.TheVariants.{Ticket, Signal, Broadcast, Leave}
use Rattle.wait_cores.specs.declared.notify.NotifyReply.TheVariants as notified
use Rattle.wait_cores.specs.GroupLaws.{Log, additions, wait_by, leave_by}
use Rattle.wait_cores.specs.GroupMachine.{next}
use Rattle.run_record.specs.declared.entered.ObjectEvent.TheVariants as event
use Rattle.run_record.specs.declared.entered.ObjectReply.TheVariants as reply
use Rattle.run_record.specs.declared.made.Made.{Made}
use Rattle.run_record.specs.declared.made.Made.TheVariants.{Entered}
use Rattle.run_record.specs.Record.{Record, ObjectEntry, journal_of}
use Rattle.run_record.specs.WaitGroupKind.{group_start}

-- the entry is this event of a cond, and it was made
abbrev pub IsOnCond : NotifyEvent → ObjectEntry → Type 0
IsOnCond e entry = entry.deed ≡ Event (event.Cond e) (reply.Cond notified.Done)

-- the entry is this event of a wait group, and was answered this
abbrev pub IsOnGroup : GroupEvent → GroupReply → ObjectEntry → Type 0
IsOnGroup e answer entry = entry.deed ≡ Event (event.WaitGroup e) (reply.WaitGroup answer)

-- Between two places of a cond's journal somebody signals or broadcasts, and the entry at the second one knows all that this caller knew.
pub record WasNotified (journal : List ObjectEntry) (taken left : ℕ) (leaving : ObjectEntry) : Type 0 where
  pub at : ℕ
  pub notice : ObjectEntry
  pub is : slice_get journal at ≡ Some notice
  pub notifies : IsOnCond Signal notice ⊎ IsOnCond Broadcast notice
  pub after_ticket : taken < at
  pub before_leaving : at < left
  pub knows : AtLeast leaving.front notice.front

-- A wait on the cond that is this object, by its items: the first one takes a ticket, and a later one leaves. Between the two, in the cond's journal, somebody signals or broadcasts, and the waiter knows from then on what that one knew.
pub record IsNotifiedWait (r : Record) (object : ℕ) (items : List Made) : Type 0 where
  pub ticket : ObjectEntry
  pub leaving : ObjectEntry
  pub between : List Made
  pub later : List Made
  pub items_are : items ≡ Entered object ticket ∷ (between ++ Entered object leaving ∷ later)
  pub takes : IsOnCond Ticket ticket
  pub leaves : IsOnCond Leave leaving
  pub taken : ℕ
  pub left : ℕ
  pub at_ticket : slice_get (journal_of r object) taken ≡ Some ticket
  pub at_leaving : slice_get (journal_of r object) left ≡ Some leaving
  pub notified : WasNotified (journal_of r object) taken left leaving

-- the counter of a wait group of so many callers after the events of a log: it begins as the workload declares
abbrev pub counter_after : (callers declared : ℕ) → Log → ℕ
counter_after callers declared log = (after next (group_start callers declared) log).counter

-- When a wait group's waits return, by its log.
pub record ReturnsAtZero (callers declared : ℕ) (log : Log) : Type 0 where
  -- one that returns at once finds the counter at 0
  pub at_once : (earlier later : Log) (caller : ℕ) → log ≡ earlier ++ wait_by caller grouped.Done ∷ later → counter_after callers declared earlier ≡ 0
  -- one that waited leaves only after the counter was 0 at a moment since it came, also where the leaving is a misuse
  pub waited : (earlier between later : Log) (caller : ℕ) (answer : GroupReply) → answer ≢ grouped.Still → log ≡ earlier ++ wait_by caller grouped.Queued ∷ (between ++ leave_by caller answer ∷ later)
      → (done : Log) × (left : Log) × (between ≡ done ++ left) × (counter_after callers declared (earlier ++ wait_by caller grouped.Queued ∷ done) ≡ 0)
  -- the counter is what was declared and all that was added: of a group that has callers, with a counter in its range
  pub sum : (earlier later : Log) → 0 < callers → declared < 2 ^ 31 → log ≡ earlier ++ later → pos (counter_after callers declared earlier) ≡ pos declared +ℤ additions earlier
