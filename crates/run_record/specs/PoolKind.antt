-- The calls of a pool and the journals of its parts in a record. Each part is an object of its own, and a worker's own part is that of its number.
use Rattle.std.specs.Prelude.{ℕ, ◌+◌, ◌*◌, List, [], ◌∷◌, map, unwrap_or}
use Rattle.std.specs.List.{range_with_len}
use Rattle.script_calls.specs.declared.call.Reply.{Reply}
use Rattle.script_calls.specs.declared.call.Reply.TheVariants as replies
use Rattle.sync_types.specs.declared.pool_call.PoolCall.{PoolCall}
use Rattle.sync_types.specs.declared.pool_call.PoolCall.TheVariants as calls
use Rattle.sync_types.specs.declared.pool_call.PoolCallReply.TheVariants as pool_replies
use Rattle.pool_core.specs.declared.pool_event.PoolEvent.{PoolEvent}
use Rattle.pool_core.specs.declared.pool_event.PoolEvent.TheVariants as pool_event
use Rattle.pool_core.specs.Edges.{pool_releases, pool_acquires}
use Rattle.pool_core.specs.Looks.{look}
use Rattle.pool_core.specs.PartLaws.{about}
use Rattle.pool_core.specs.PartMachine.{part_next, part_start}
use Rattle.protocols.specs.declared.pool.PoolOutcome.{PoolOutcome}
use Rattle.protocols.specs.declared.pool.PoolOutcome.TheVariants.{Kept, Dropped, Item, Nothing, Swept}
use Rattle.protocols.specs.declared.pool.PoolStage.{PoolStage}
use Rattle.protocols.specs.declared.pool.PoolStage.TheVariants as stage
use Rattle.protocols.specs.PoolStages as protocol
use Rattle.run_record.specs.declared.entered.ObjectEvent.TheVariants as event
use Rattle.run_record.specs.declared.entered.ObjectReply.TheVariants as reply
use Rattle.run_record.specs.Journals.{FollowsFrom}
use Rattle.run_record.specs.Parts.{Part, and_then, never, read_as, returns, stages}
use Rattle.run_record.specs.Record.{ObjectEntry}

-- one event of the protocol on the part of a pool that is this object
abbrev pub pool_part : ℕ → PoolStage → Part PoolOutcome
pool_part object from = stages event.Pool reply.Pool protocol.pool_event protocol.pool_meaning object from

-- the stage of an event
abbrev pub stage_of : PoolEvent ℕ → PoolStage
stage_of (pool_event.Put item) = stage.Put item
stage_of pool_event.LookOwn = stage.LookOwn
stage_of (pool_event.LookOther part) = stage.LookOther part
stage_of (pool_event.LookVictim part) = stage.LookVictim part
stage_of pool_event.Sweep = stage.Sweep

-- the item that a look took, or what the rest comes to where it found nothing
abbrev pub found_or : Part (Reply ℕ) → PoolOutcome → Part (Reply ℕ)
found_or rest (Item item) = returns (replies.Pool (pool_replies.Put item))
found_or rest Nothing = rest
found_or rest Kept = never
found_or rest (Dropped item) = never
found_or rest Swept = never

-- the part that an event of a worker is about: the one that it names, or the worker's own
abbrev pub part_of : ℕ → PoolEvent ℕ → ℕ
part_of worker event = unwrap_or (about worker event) worker

-- looks up to the first that takes an item, each at the part that it is about; a new one, where all find nothing. The pool's parts are the objects from this one on
abbrev pub found_by : ℕ → ℕ → List (PoolEvent ℕ) → Part (Reply ℕ)
found_by worker first [] = returns (replies.Pool pool_replies.New)
found_by worker first (event ∷ looks) = and_then (pool_part (first + part_of worker event) (stage_of event)) (found_or (found_by worker first looks))

-- all looks of a worker: at each part, and at each part's victims
abbrev pub looks_of : ℕ → ℕ → List (PoolEvent ℕ)
looks_of workers worker = map (look workers worker) (range_with_len 0 (2 * workers))

-- these parts are swept, one after the other
abbrev pub swept_by : ℕ → List ℕ → Part (Reply ℕ)
swept_by first [] = returns (replies.Pool pool_replies.Done)
swept_by first (part ∷ parts) = and_then (pool_part (first + part) stage.Sweep) (λ swept. swept_by first parts)

-- a put is made at the worker's own part, and a sweep at each part, from 0 up
abbrev pub pool_call : ℕ → ℕ → ℕ → PoolCall → Part (Reply ℕ)
pool_call workers worker first (calls.Put item) = read_as (λ put. replies.Pool pool_replies.Done) (pool_part (first + worker) (stage.Put item))
pool_call workers worker first calls.Get = found_by worker first (looks_of workers worker)
pool_call workers worker first calls.Sweep = swept_by first (range_with_len 0 workers)

-- a part begins empty, with this much room
abbrev pub IsPartJournal : ℕ → List ObjectEntry → Type 0
IsPartJournal room journal = FollowsFrom event.Pool reply.Pool part_next pool_releases pool_acquires (part_start room) journal
