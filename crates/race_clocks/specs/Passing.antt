-- The channels of items in order, as the code tells them.
use Rattle.std.specs.Prelude.{◌≡◌, ℕ, ◌==◌, ◌&&◌, Bool, true, false, not, List, [], ◌∷◌, ◌++◌, map, Option, Some, None, is_some, cond}
use Rattle.std.specs.List.{list_any, range_with_len}
use Rattle.std.specs.Option.{option_map_or}
use Rattle.sync_types.specs.SequentialMap.{is_map_entry, map_after}
use Rattle.script_calls.specs.declared.call.Call.{Call}
use Rattle.script_calls.specs.declared.call.Operation.TheVariants as operations
use Rattle.script_calls.specs.declared.call.Reply.TheVariants as replies
use Rattle.wait_cores.specs.NotifyMachine as notify
use Rattle.workload.specs.Plan.{Plan}
use Rattle.step_runner.specs.declared.turns.item.Deed.{Deed}
use Rattle.step_runner.specs.declared.turns.item.Deed.TheVariants as deeds
use Rattle.step_runner.specs.declared.turns.item.Item.{Item}
use Rattle.race_clocks.specs.Deeds.{unlocks_mutex, locks_mutex, unlocks_as_writer, unlocks_as_reader, locks_rw_mutex, is_writers_call, leaves_cond, lowers_count, passes_count, ends_function, knows_function, enters_atomic, finds_atomic}
use Rattle.race_clocks.specs.Handing.{are_for, is_each, AreOf, started_by, cond_event, pool_event, is_kept, cond_at, pool_at, map_at, stepped_by, notices, put_given, put_taken, key_given, key_taken, pairs_taken}
use Rattle.race_clocks.specs.Places.{at}
use Rattle.race_clocks.specs.Channels as all
use Rattle.race_clocks.specs.Seen.{NumberedPool, Named, pool_step}
use Rattle.race_clocks.specs.Seen as run
use Rattle.race_clocks.specs.declared.channel.Channel.{Channel}
use Rattle.race_clocks.specs.declared.channel.Channel.TheVariants as channels
use Rattle.race_clocks.specs.declared.seen.Passing.{Passing}
use Rattle.race_clocks.specs.declared.seen.Seen.{Seen}

-- a channel more where a test holds
abbrev pub if_so : Bool → Channel → List Channel → List Channel
if_so test channel list = list ++ cond test (channel ∷ []) []

abbrev pub started_given : Option ℕ → List Channel → List Channel
started_given (Some worker) list = list ++ channels.Start worker ∷ []
started_given None list = list

-- through which channels an item hands on that the item itself tells
abbrev pub plain_given : ℕ → Deed → List Channel → List Channel
plain_given object deed list =
    started_given (started_by deed)
    (if_so (enters_atomic deed) (channels.Atomic object) (if_so (ends_function deed) (channels.FunctionEnd object) (if_so (lowers_count deed) (channels.Lowering object)
    (if_so (unlocks_as_reader deed) (channels.ReaderUnlock object) (if_so (unlocks_as_writer deed) (channels.WriterUnlock object) (if_so (unlocks_mutex deed) (channels.MutexUnlock object) list))))))

-- and from which it takes in
abbrev pub plain_taken : ℕ → ℕ → Deed → Option Call → List Channel → List Channel
plain_taken object caller deed call list =
    if_so (finds_atomic deed) (channels.Atomic object) (if_so (knows_function deed) (channels.FunctionEnd object) (if_so (passes_count deed) (channels.Lowering object)
    (if_so (leaves_cond deed) (channels.Notice object caller) (if_so (locks_rw_mutex deed && is_writers_call call) (channels.ReaderUnlock object) (if_so (locks_rw_mutex deed) (channels.WriterUnlock object)
    (if_so (locks_mutex deed) (channels.MutexUnlock object) list))))))

-- the keys that it finds
abbrev pub placed_taken : ℕ → Deed → List Channel
placed_taken object (deeds.Placed (operations.Map call) reply) = key_taken object call
placed_taken object (deeds.Placed operations.Range (replies.Pairs pairs)) = pairs_taken object pairs
placed_taken object deed = []

-- ---- by what conds, pools and maps have come to

abbrev pub cond_behind : Item → ℕ → notify.NotifyState → notify.NotifyState
cond_behind item place state = cond (item.object == place) (option_map_or (λ event. (notify.next state item.caller event).0) (cond_event item.deed) state) state

abbrev pub cond_given : ℕ → Item → notify.NotifyState → List Channel
cond_given workers item state =
    option_map_or (λ event. notices workers item.object (map (notify.place_of state) (range_with_len 0 workers)) (notify.next state item.caller event).0) (cond_event item.deed) []

abbrev pub pool_behind : Item → ℕ → NumberedPool → NumberedPool
pool_behind item place puts = cond (item.object == place) (option_map_or (λ event. stepped_by puts item.caller event) (pool_event item.deed) puts) puts

abbrev pub pool_given : Item → NumberedPool → List Channel
pool_given item puts = option_map_or (λ event. put_given (is_kept item.deed) item.object puts.count) (pool_event item.deed) []

abbrev pub pool_taken : Item → NumberedPool → List Channel
pool_taken item puts = option_map_or (λ event. put_taken item.object (pool_step puts item.caller event).1) (pool_event item.deed) []

abbrev pub map_made : Deed → Named → Named
map_made (deeds.Placed (operations.Map call) reply) m = map_after call m
map_made deed m = m

abbrev pub map_behind : Item → ℕ → Named → Named
map_behind item place m = cond (item.object == place) (map_made item.deed m) m

abbrev pub map_given_by : ℕ → Deed → Named → List Channel
map_given_by object (deeds.Placed (operations.Map call) reply) m = key_given (is_map_entry call m) object call
map_given_by object deed m = []

abbrev pub map_given : Item → Named → List Channel
map_given item m = map_given_by item.object item.deed m

-- ---- an item

abbrev pub new_seen : Seen
new_seen = record { conds = []; pools = []; maps = []; callers = [] }

abbrev pub taken_with : Plan → Item → Option Call → Seen → List Channel → List Channel
taken_with plan item call seen list =
    (plain_taken item.object item.caller item.deed call (if_so (not (is_some (at seen.callers item.caller))) (channels.Start item.caller) list) ++ placed_taken item.object item.deed)
    ++ pool_taken item (pool_at plan seen.pools item.object)

abbrev pub given_with : Plan → Item → Seen → List Channel → List Channel
given_with plan item seen list =
    ((plain_given item.object item.deed list ++ cond_given plan.workers item (cond_at plan.workers seen.conds item.object)) ++ pool_given item (pool_at plan seen.pools item.object)) ++ map_given item (map_at seen.maps item.object)

-- what has come to be and what is told behind an item
pub record IsPassed (plan : Plan) (item : Item) (call : Option Call) (old : Seen) (before : Passing) (new : Seen) (after : Passing) : Type 0 where
  pub takes : after.takes ≡ taken_with plan item call old before.takes
  pub gives : after.gives ≡ given_with plan item old before.gives
  pub are : AreOf plan.workers new.conds
  pub conds : (place : ℕ) → cond_at plan.workers new.conds place ≡ cond_behind item place (cond_at plan.workers old.conds place)
  pub pools : (place : ℕ) → pool_at plan new.pools place ≡ pool_behind item place (pool_at plan old.pools place)
  pub maps : (place : ℕ) → map_at new.maps place ≡ map_behind item place (map_at old.maps place)
  pub callers : (other : ℕ) → at new.callers other ≡ cond (item.caller == other) (Some true) (at old.callers other)

-- ---- what that means, by all that was done before

-- conds, pools and maps have come to what these items make of them, and these are the callers
pub record IsSeen (plan : Plan) (earlier : List Item) (seen : Seen) : Type 0 where
  pub are : AreOf plan.workers seen.conds
  pub conds : (place : ℕ) → cond_at plan.workers seen.conds place ≡ run.cond_behind plan place earlier
  pub pools : (place : ℕ) → pool_at plan seen.pools place ≡ run.pool_behind plan place earlier
  pub maps : (place : ℕ) → map_at seen.maps place ≡ run.map_behind place earlier
  pub callers : (worker : ℕ) → is_some (at seen.callers worker) ≡ list_any (λ other. other.caller == worker) earlier

-- the channels that are told of items of a turn of this call are those of their edges
pub record IsTold (plan : Plan) (earlier items : List Item) (call : Option Call) (seen : Seen) (passing : Passing) : Type 0 where
  pub comes : IsSeen plan (earlier ++ items) seen
  pub keyed : list_any is_each passing.takes ≡ false
  pub takes : (channel : all.Channel) → are_for channel passing.takes ≡ all.some_item (λ before item. all.takes plan before item call channel) earlier items
  pub gives : (channel : all.Channel) → are_for channel passing.gives ≡ all.some_item (λ before item. all.gives plan before item channel) earlier items

abbrev pub AreTold : Plan → List Item → Option Call → Seen → Seen → Passing → Type 0
AreTold plan items call old new passing = (earlier : List Item) → IsSeen plan earlier old → IsTold plan earlier items call new passing
