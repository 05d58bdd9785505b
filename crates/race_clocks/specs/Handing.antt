-- What the code tells of an item: the channels through which it hands on and from which it takes in, by what the objects came to before it.
use Rattle.std.specs.Prelude.{◌≡◌, ℕ, ◌+◌, ◌==◌, ◌&&◌, Bool, true, false, List, [], ◌∷◌, map, get_or, Option, Some, None, cond, unwrap_or}
use Rattle.std.specs.List.{list_any, flat_map, range_with_len}
use Rattle.std.specs.Str.{bytes_eq}
use Rattle.std.specs.FinMap.{empty}
use Rattle.sync_types.specs.SequentialMap.{map_key}
use Rattle.sync_types.specs.declared.map_object.MapCall.{MapCall}
use Rattle.sync_types.specs.declared.map_object.MapCall.TheVariants as map_calls
use Rattle.pool_core.specs.PoolMachine as pool
use Rattle.pool_core.specs.declared.pool_event.PoolEvent.{PoolEvent}
use Rattle.pool_core.specs.declared.pool_event.PoolEvent.TheVariants as pool_events
use Rattle.pool_core.specs.declared.pool_event.PoolReply.{PoolReply}
use Rattle.pool_core.specs.declared.pool_event.PoolReply.TheVariants as pool_replies
use Rattle.starts_core.specs.declared.starts.StartEvent.TheVariants as start_events
use Rattle.starts_core.specs.declared.starts.StartReply.TheVariants as start_replies
use Rattle.wait_cores.specs.NotifyMachine as notify
use Rattle.wait_cores.specs.declared.notify.NotifyEvent.{NotifyEvent}
use Rattle.run_record.specs.declared.entered.ObjectEvent.TheVariants as events
use Rattle.run_record.specs.declared.entered.ObjectReply.TheVariants as answered
use Rattle.step_runner.specs.declared.turns.item.Deed.{Deed}
use Rattle.step_runner.specs.declared.turns.item.Deed.TheVariants as deeds
use Rattle.wait_cores.specs.declared.notify.NotifyPlace.{NotifyPlace}
use Rattle.wait_cores.specs.declared.notify.NotifyPlace.TheVariants as notify_places
use Rattle.workload.specs.Plan.{Plan}
use Rattle.workload.specs.Puts.{puts_at}
use Rattle.race_clocks.specs.Channels as all
use Rattle.race_clocks.specs.Places.{at}
use Rattle.race_clocks.specs.Seen.{NumberedPool, Named, pool_step, is_put, is_waiting, is_notified}
use Rattle.race_clocks.specs.declared.channel.Channel.{Channel}
use Rattle.race_clocks.specs.declared.channel.Channel.TheVariants as channels

-- ---- which channel stands for which

-- whether the code's channel stands for this one: that of each key of a map stands for every key
abbrev pub is_for : all.Channel → Channel → Bool
is_for (all.MutexUnlock mutex) (channels.MutexUnlock place) = place == mutex
is_for (all.WriterUnlock lock) (channels.WriterUnlock place) = place == lock
is_for (all.ReaderUnlock lock) (channels.ReaderUnlock place) = place == lock
is_for (all.Notice place worker) (channels.Notice other caller) = (other == place) && (caller == worker)
is_for (all.Lowering group) (channels.Lowering place) = place == group
is_for (all.FunctionEnd once) (channels.FunctionEnd place) = place == once
is_for (all.PutItem pool number) (channels.PutItem place count) = (place == pool) && (count == number)
is_for (all.Start worker) (channels.Start started) = started == worker
is_for (all.Atomic atomic) (channels.Atomic place) = place == atomic
is_for (all.MapKey map key) (channels.MapKey place other) = (place == map) && bytes_eq key other
is_for (all.MapKey map key) (channels.EachKey place) = place == map
is_for channel other = false

abbrev pub are_for : all.Channel → List Channel → Bool
are_for channel list = list_any (is_for channel) list

-- whether it stands for each key of a map
abbrev pub is_each : Channel → Bool
is_each (channels.MutexUnlock mutex) = false
is_each (channels.WriterUnlock lock) = false
is_each (channels.ReaderUnlock lock) = false
is_each (channels.Notice place worker) = false
is_each (channels.Lowering group) = false
is_each (channels.FunctionEnd once) = false
is_each (channels.PutItem pool number) = false
is_each (channels.Start worker) = false
is_each (channels.Atomic atomic) = false
is_each (channels.MapKey map key) = false
is_each (channels.EachKey map) = true

-- ---- what an item is

-- the worker that a `go` starts
abbrev pub started_by : Deed → Option ℕ
started_by (deeds.Entered (events.Starts (start_events.Start worker)) (answered.Starts start_replies.Done)) = Some worker
started_by deed = None

-- the key of which a call of a map finds what it has
abbrev pub found_key : MapCall (List ℕ) → Option (List ℕ)
found_key (map_calls.Store key value) = None
found_key (map_calls.Delete key) = None
found_key map_calls.Clear = None
found_key (map_calls.Load key) = Some key
found_key (map_calls.LoadOrStore key value) = Some key
found_key (map_calls.LoadAndDelete key) = Some key
found_key (map_calls.Swap key value) = Some key
found_key (map_calls.CompareAndSwap key old new) = Some key
found_key (map_calls.CompareAndDelete key old) = Some key

abbrev pub cond_event : Deed → Option NotifyEvent
cond_event (deeds.Entered (events.Cond event) answer) = Some event
cond_event deed = None

abbrev pub pool_event : Deed → Option (PoolEvent ℕ)
pool_event (deeds.Entered (events.Pool event) answer) = Some event
pool_event deed = None

abbrev pub is_kept : Deed → Bool
is_kept (deeds.Entered (events.Pool (pool_events.Put item)) (answered.Pool pool_replies.Kept)) = true
is_kept deed = false

-- ---- conds, pools and maps as they are kept: one that isn't there is new

abbrev pub cond_at : ℕ → List (Option notify.NotifyState) → ℕ → notify.NotifyState
cond_at workers conds place = unwrap_or (at conds place) (notify.start workers)

abbrev pub new_pool : Plan → ℕ → NumberedPool
new_pool plan place = record { pool = pool.start plan.workers (puts_at place plan.scripts); count = 0 }

abbrev pub pool_at : Plan → List (Option NumberedPool) → ℕ → NumberedPool
pool_at plan pools place = unwrap_or (at pools place) (new_pool plan place)

abbrev pub map_at : List (Option Named) → ℕ → Named
map_at maps place = unwrap_or (at maps place) empty

-- the workers are the callers of each cond
abbrev pub AreOf : ℕ → List (Option notify.NotifyState) → Type 0
AreOf workers conds = (place : ℕ) → notify.callers_of (cond_at workers conds place) ≡ workers

abbrev pub stepped_by : NumberedPool → ℕ → PoolEvent ℕ → NumberedPool
stepped_by puts caller event = record { pool = (pool_step puts caller event).0; count = cond (is_put event) (puts.count + 1) puts.count }

-- ---- what is told of an item

-- of each worker whose place was the first and is the second
abbrev pub was_told : NotifyPlace → NotifyPlace → Bool
was_told before after = is_waiting before && is_notified after

abbrev pub notice : ℕ → List NotifyPlace → notify.NotifyState → ℕ → List Channel
notice place before after worker = cond (was_told (get_or before worker notify_places.Out) (notify.place_of after worker)) (channels.Notice place worker ∷ []) []

abbrev pub notices : ℕ → ℕ → List NotifyPlace → notify.NotifyState → List Channel
notices workers place before after = flat_map (notice place before after) (range_with_len 0 workers)

abbrev pub put_given : Bool → ℕ → ℕ → List Channel
put_given kept pool number = cond kept (channels.PutItem pool number ∷ []) []

abbrev pub put_taken : ℕ → PoolReply ℕ → List Channel
put_taken pool (pool_replies.Item number) = channels.PutItem pool number ∷ []
put_taken pool reply = []

abbrev pub on_key : ℕ → Option (List ℕ) → List Channel
on_key map (Some key) = channels.MapKey map key ∷ []
on_key map None = channels.EachKey map ∷ []

abbrev pub key_given : Bool → ℕ → MapCall (List ℕ) → List Channel
key_given enters map call = cond enters (on_key map (map_key call)) []

abbrev pub found_on : ℕ → Option (List ℕ) → List Channel
found_on map (Some key) = channels.MapKey map key ∷ []
found_on map None = []

abbrev pub key_taken : ℕ → MapCall (List ℕ) → List Channel
key_taken map call = found_on map (found_key call)

abbrev pub pairs_taken : ℕ → List (List ℕ × ℕ) → List Channel
pairs_taken place pairs = map (λ pair. channels.MapKey place pair.0) pairs
