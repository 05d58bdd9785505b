-- What one call did of a caller of a map with a mutex and a wait group.
use Rattle.std.specs.Prelude.{◌≡◌, ℕ, Bool, true, false, List, Option, Some, None}
use Rattle.sync_types.specs.declared.map_object.MapCall.{MapCall}
use Rattle.sync_types.specs.declared.map_object.MapReply.{MapReply}
use Rattle.sync_types.specs.declared.map_object.MapReply.TheVariants as reply
use Rattle.sync_model.specs.declared.answer.Answer.{Answer}
use Rattle.sync_model.specs.declared.journal.Deed.{Deed}
use Rattle.sync_outside.specs.declared.clock.Clock.{Ghosts}
use Rattle.mutex_core.specs.declared.event.MutexEvent.{MutexEvent}
use Rattle.mutex_core.specs.declared.reply.MutexReply.{MutexReply}
use Rattle.mutex_core.specs.Edges as mutex
use Rattle.mutex_core.specs.MutexMachine.{next}
use Rattle.wait_cores.specs.declared.group.GroupEvent.{GroupEvent}
use Rattle.wait_cores.specs.declared.group.GroupReply.{GroupReply}
use Rattle.ruled_object.specs.Growth.{Placed, IsLawful, MeetsHalt, deeds_of}
use Rattle.go_locks.specs.Calls.{Did}
use Rattle.go_locks.specs.MutexCalls.{MutexDeed, AreClocked}
use Rattle.go_locks.specs.Mutexes.{mutex_start}
use Rattle.go_waits.specs.GroupCalls.{GroupDeeds}
use Rattle.go_waits.specs.Groups.{GroupGrows, IsGroupLawful}
use Rattle.go_map.specs.Maps.{MakesCall, HasSpare}
use Rattle.shared_table.specs.Notes.{counts_by, front_by, own_by}
use Rattle.synced_map.specs.declared.map.SyncedMapCaller.{SyncedMapCaller}

-- whether an event at the mutex is an unlock that isn't a misuse, and whether one gives the mutex to its caller
abbrev pub unlocks : MutexEvent → MutexReply → Bool
unlocks event answer = mutex.releases answer

abbrev pub locks : MutexEvent → MutexReply → Bool
locks event answer = mutex.acquires answer

module _ {C : Type 0} {clock : Ghosts C} where
  -- for each caller of the map the number of its calls that this one knows
  abbrev pub known_by : SyncedMapCaller C clock → List ℕ
  known_by caller = counts_by caller.caller.note

  -- The caller made this call on the map, and was answered so. It is still at its map, and did nothing else.
  pub record Calls (call : MapCall ℕ) (answer : MapReply) (old new : SyncedMapCaller C clock) : Type 0 where
    pub map : new.map ≡ old.map
    pub at : new.clock ≡ old.clock
    pub lock : new.lock_pass ≡ old.lock_pass
    pub member : new.group_pass ≡ old.group_pass
    pub made : MakesCall old.map.now.table 0 call answer old.caller.note new.caller.note

  -- it made this call exactly where it had a unit of room left, and else nothing was done
  abbrev pub CallsSome : {A : Type 0} → MapCall ℕ → (A → MapReply) → SyncedMapCaller C clock → Option A → SyncedMapCaller C clock → Type 0
  CallsSome call replied old (Some answer) new = HasSpare old.caller.note × Calls call (replied answer) old new
  CallsSome call replied old None new = (HasSpare old.caller.note → ⊥) × (new ≡ old)

  -- the same of a call that answers nothing more
  abbrev pub CallsIf : MapCall ℕ → SyncedMapCaller C clock → Bool → SyncedMapCaller C clock → Type 0
  CallsIf call old true new = HasSpare old.caller.note × Calls call reply.Done old new
  CallsIf call old false new = (HasSpare old.caller.note → ⊥) × (new ≡ old)

  -- The caller made the events of a call on the mutex that is spelt so, and no others, each the machine's at its place. It is still at its map, made no call there, and what it has now seen follows the machine.
  pub record OnMutex {A : Type 0} (spells : List MutexDeed → Answer A → Type 0) (shows : ℕ → Type 0) (old : SyncedMapCaller C clock) (answer : Answer A) (new : SyncedMapCaller C clock) : Type 0 where
    pub map : new.map ≡ old.map
    pub at : new.clock ≡ old.clock
    pub member : new.group_pass ≡ old.group_pass
    pub own : own_by new.caller.note ≡ own_by old.caller.note
    pub did : Did next (mutex_start old.map.now.mutex) spells (AreClocked shows) old.lock_pass (front_by old.caller.note) answer new.lock_pass (front_by new.caller.note)
    pub lawful : IsLawful next true unlocks locks (mutex_start old.map.now.mutex) new.lock_pass

  -- the same of a call on the wait group
  pub record OnGroup {A : Type 0} (spells : GroupDeeds → Answer A → Type 0) (old : SyncedMapCaller C clock) (answer : Answer A) (new : SyncedMapCaller C clock) : Type 0 where
    pub map : new.map ≡ old.map
    pub at : new.clock ≡ old.clock
    pub lock : new.lock_pass ≡ old.lock_pass
    pub own : own_by new.caller.note ≡ own_by old.caller.note
    pub did : (es : List (Placed GroupEvent GroupReply)) × GroupGrows old.map.now.group old.group_pass (front_by old.caller.note) es new.group_pass (front_by new.caller.note) × spells (deeds_of es) answer × MeetsHalt es answer
    pub lawful : IsGroupLawful old.map.now.group new.group_pass
