-- What conds, pools and maps have come to by the items made on them so far.
use Rattle.std.specs.Prelude.{ℕ, ◌+◌, ◌==◌, ◌&&◌, Bool, true, false, List, cond}
use Rattle.std.specs.List.{fold}
use Rattle.std.specs.FinMap.{FinMap, empty}
use Rattle.std.specs.Ordering.{nat_cmp}
use Rattle.std.specs.Cmp.Lexicographic.{slice_cmp}
use Rattle.sync_types.specs.SequentialMap.{map_after, is_map_entry}
use Rattle.script_calls.specs.declared.call.Operation.TheVariants as operations
use Rattle.wait_cores.specs.NotifyMachine as notify
use Rattle.wait_cores.specs.declared.notify.NotifyPlace.{NotifyPlace}
use Rattle.wait_cores.specs.declared.notify.NotifyPlace.TheVariants as places
use Rattle.pool_core.specs.PoolMachine as pool
use Rattle.pool_core.specs.Edges.{pool_releases}
use Rattle.pool_core.specs.declared.pool_event.PoolEvent.{PoolEvent}
use Rattle.pool_core.specs.declared.pool_event.PoolEvent.TheVariants as pool_events
use Rattle.pool_core.specs.declared.pool_event.PoolReply.{PoolReply}
use Rattle.pool_core.specs.declared.pool_event.PoolReply.TheVariants as pool_replies
use Rattle.workload.specs.Plan.{Plan}
use Rattle.workload.specs.Puts.{puts_at}
use Rattle.run_record.specs.declared.entered.ObjectEvent.TheVariants as events
use Rattle.run_record.specs.declared.entered.ObjectReply.TheVariants as answered
use Rattle.step_runner.specs.declared.turns.item.Deed.{Deed}
use Rattle.step_runner.specs.declared.turns.item.Deed.TheVariants as deeds
use Rattle.step_runner.specs.declared.turns.item.Item.{Item}
use Rattle.race_clocks.specs.Deeds.{is_on}

-- ---- a cond

-- what an item makes of the cond at a place; an item on another object makes nothing of it
abbrev pub cond_made : notify.NotifyState → ℕ → Deed → notify.NotifyState
cond_made state caller (deeds.Entered (events.Cond event) answer) = (notify.next state caller event).0
cond_made state caller deed = state

abbrev pub cond_by : ℕ → notify.NotifyState → Item → notify.NotifyState
cond_by place state item = cond (item.object == place) (cond_made state item.caller item.deed) state

-- the cond after these items. The workers are its callers
abbrev pub cond_behind : Plan → ℕ → List Item → notify.NotifyState
cond_behind plan place items = fold (cond_by place) (notify.start plan.workers) items

abbrev pub is_waiting : NotifyPlace → Bool
is_waiting places.Waiting = true
is_waiting places.Notified = false
is_waiting places.Out = false

abbrev pub is_notified : NotifyPlace → Bool
is_notified places.Notified = true
is_notified places.Waiting = false
is_notified places.Out = false

-- a worker's ticket wasn't notified before, and is now
abbrev pub is_told : (worker : ℕ) → (before after : notify.NotifyState) → Bool
is_told worker before after = is_waiting (notify.place_of before worker) && is_notified (notify.place_of after worker)

-- the item notifies the ticket with which the worker waits at the cond: a signal that of the worker that has waited longest, a broadcast all
abbrev pub notifies : Plan → (place worker : ℕ) → List Item → Item → Bool
notifies plan place worker earlier item = is_told worker (cond_behind plan place earlier) (cond_by place (cond_behind plan place earlier) item)

-- ---- a pool

-- The machine of the pool, with the number of its put in place of each item. So two items are told apart that are equal
pub record NumberedPool : Type 0 where
  pub pool : pool.PoolState ℕ
  pub count : ℕ  -- how many puts there were

abbrev pub numbered : ℕ → PoolEvent ℕ → PoolEvent ℕ
numbered number (pool_events.Put item) = pool_events.Put number
numbered number pool_events.LookOwn = pool_events.LookOwn
numbered number (pool_events.LookOther part) = pool_events.LookOther part
numbered number (pool_events.LookVictim part) = pool_events.LookVictim part
numbered number pool_events.Sweep = pool_events.Sweep

abbrev pub is_put : PoolEvent ℕ → Bool
is_put (pool_events.Put item) = true
is_put pool_events.LookOwn = false
is_put (pool_events.LookOther part) = false
is_put (pool_events.LookVictim part) = false
is_put pool_events.Sweep = false

-- what the machine makes of an event, and what it answers: the number of a put for an item that is taken
abbrev pub pool_step : NumberedPool → ℕ → PoolEvent ℕ → pool.PoolState ℕ × PoolReply ℕ
pool_step puts caller event = pool.next puts.pool caller (numbered puts.count event)

abbrev pub pool_made : NumberedPool → ℕ → Deed → NumberedPool
pool_made puts caller (deeds.Entered (events.Pool event) answer) = record { pool = (pool_step puts caller event).0; count = cond (is_put event) (puts.count + 1) puts.count }
pool_made puts caller deed = puts

abbrev pub pool_by : ℕ → NumberedPool → Item → NumberedPool
pool_by place puts item = cond (item.object == place) (pool_made puts item.caller item.deed) puts

-- the pool after these items. Each worker has a part of it, with room for every put of the scripts
abbrev pub pool_behind : Plan → ℕ → List Item → NumberedPool
pool_behind plan place items = fold (pool_by place) (record { pool = pool.start plan.workers (puts_at place plan.scripts); count = 0 }) items

-- the item is the put of this number, which is kept
abbrev pub is_kept_put : ℕ → NumberedPool → Deed → Bool
is_kept_put number puts (deeds.Entered (events.Pool event) (answered.Pool answer)) = is_put event && (puts.count == number) && pool_releases event answer
is_kept_put number puts deed = false

abbrev pub is_item : ℕ → PoolReply ℕ → Bool
is_item number (pool_replies.Item item) = item == number
is_item number pool_replies.Kept = false
is_item number (pool_replies.Dropped item) = false
is_item number pool_replies.Nothing = false
is_item number pool_replies.Swept = false
is_item number pool_replies.Still = false

-- a look takes the item of the put of this number
abbrev pub takes_put : ℕ → NumberedPool → ℕ → Deed → Bool
takes_put number puts caller (deeds.Entered (events.Pool event) answer) = is_item number (pool_step puts caller event).1
takes_put number puts caller deed = false

-- ---- a map

abbrev pub Named : Type 0
Named = FinMap (slice_cmp nat_cmp) ℕ

abbrev pub map_made : Named → Deed → Named
map_made m (deeds.Placed (operations.Map call) reply) = map_after call m
map_made m deed = m

abbrev pub map_by : ℕ → Named → Item → Named
map_by place m item = cond (item.object == place) (map_made m item.deed) m

-- what the map at a place contains after these items, as the map for one thread does
abbrev pub map_behind : ℕ → List Item → Named
map_behind place items = fold (map_by place) empty items

-- an entry on this key, or a clear, which is one on every key
abbrev pub enters_key : List ℕ → Named → Deed → Bool
enters_key key m (deeds.Placed (operations.Map call) reply) = is_on key call && is_map_entry call m
enters_key key m deed = false
