-- What halting enters in the journals of the parts, and what all passes to a part tell together.
use Rattle.std.specs.Prelude.{◌≡◌, ◌<◌, ℕ, true, List, length, Some, slice_get, set}
use Rattle.sync_types.specs.declared.misuse.Misuse.{Misuse}
use Rattle.sync_model.specs.declared.journal.Deed.TheVariants.{Halt}
use Rattle.sync_model.specs.Front.{Front}
use Rattle.sync_model.specs.Journal.{front_at}
use Rattle.pool_core.specs.declared.pool_event.PoolEvent.{PoolEvent}
use Rattle.pool_core.specs.declared.pool_event.PoolReply.{PoolReply}
use Rattle.pool_core.specs.Edges.{pool_releases, pool_acquires}
use Rattle.pool_core.specs.PartMachine.{PartState, part_start, part_next}
use Rattle.protocols.specs.PoolStages.{pool_stands}
use Rattle.ruled_object.specs.declared.object.Object.{Object}
use Rattle.ruled_object.specs.Gathered as gathered
use Rattle.ruled_object.specs.Passes as object
use Rattle.call_loop.specs.Between.{AreAllBetween}
use Rattle.go_pool.specs.declared.pass.PoolPass.{PoolPass}
use Rattle.go_pool.specs.declared.pool.Pool.{Pool}
use Rattle.go_pool.specs.Parts.{PoolEntry, PartPass, PartJournal, pass_at}
use Rattle.go_pool.specs.Pools.{Journal, journal_at, parts_of, room_of}

module _ {N H : Type 0} where
  -- one entry more in the journal of a part, which halts it by this misuse, of a caller who knows this
  pub record HaltsAt (pool : Pool N H) (part : ℕ) (misuse : Misuse) (front : Front) (old new : PoolPass N) : Type 0 where
    pub before : PartPass N
    pub after : PartPass N
    pub entry : PoolEntry
    pub was : pass_at part old ≡ Some before
    pub set_is : new.parts.items ≡ set old.parts.items part after
    pub adds : object.Adds part_next true pool_releases pool_acquires (part_start (room_of pool)) before entry after
    pub deed : entry.deed ≡ Halt misuse
    pub known : front_at entry ≡ front

module _ {M N H : Type 0} where
  -- the journal is all that these passes' callers did on the part, and each of those has seen all of it
  pub record IsTold (part : Object M N (PartState ℕ) (PoolEvent ℕ) (PoolReply ℕ) H) (journal : PartJournal) (old new : List (PartPass N)) : Type 0 where
    pub count : length new ≡ length old
    pub whole : gathered.IsWhole part_next true pool_releases pool_acquires (object.start_of part) journal old
    pub seen : gathered.IsSeen part_next true pool_releases pool_acquires (object.start_of part) journal new

  -- all passes to each of these parts, of which there are so many
  pub record AreColumnsOf (parts : List (Object M N (PartState ℕ) (PoolEvent ℕ) (PoolReply ℕ) H)) (columns : List (PoolPass N)) : Type 0 where
    pub count : length columns ≡ length parts
    pub each : (part : ℕ) (o : Object M N (PartState ℕ) (PoolEvent ℕ) (PoolReply ℕ) H) (column : PoolPass N) → slice_get parts part ≡ Some o → slice_get columns part ≡ Some column → AreAllBetween tt pool_stands o column.parts.items

  -- the journals of the first so many parts are all that was done on them
  pub record AreToldOf (parts : List (Object M N (PartState ℕ) (PoolEvent ℕ) (PoolReply ℕ) H)) (journal : Journal) (old new : List (PoolPass N)) : Type 0 where
    pub each : (part : ℕ) (o : Object M N (PartState ℕ) (PoolEvent ℕ) (PoolReply ℕ) H) (before after : PoolPass N) → part < length journal → slice_get parts part ≡ Some o → slice_get old part ≡ Some before → slice_get new part ≡ Some after
        → IsTold o (journal_at part journal) before.parts.items after.parts.items

module _ {N H : Type 0} where
  -- each row has all passes to a part
  abbrev pub AreColumns : Pool N H → List (PoolPass N) → Type 0
  AreColumns pool columns = AreColumnsOf pool.parts.items columns

  -- the journals are all that was done on the parts
  abbrev pub AreTold : Pool N H → Journal → List (PoolPass N) → List (PoolPass N) → Type 0
  AreTold pool journal old new = (length journal ≡ parts_of pool) × AreToldOf pool.parts.items journal old new
