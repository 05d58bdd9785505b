-- Through what one turn of a trace hands on to another: the edges of Go's memory model, as the documentation of `sync` and `sync/atomic` has them, one channel a line.
use Rattle.std.specs.Prelude.{ℕ, ◌==◌, ◌&&◌, ◌||◌, Bool, true, false, not, List, [], ◌∷◌, ◌++◌, Option}
use Rattle.std.specs.List.{list_any}
use Rattle.script_calls.specs.declared.call.Call.{Call}
use Rattle.workload.specs.Plan.{Plan}
use Rattle.step_runner.specs.declared.trace.TraceItem.{TraceItem}
use Rattle.step_runner.specs.declared.turns.item.Item.{Item}
use Rattle.race_clocks.specs.Deeds.{unlocks_mutex, locks_mutex, unlocks_as_writer, unlocks_as_reader, locks_rw_mutex, is_writers_call, leaves_cond, lowers_count, passes_count, ends_function, knows_function, starts_worker, enters_atomic, finds_atomic, finds_in_map}
use Rattle.race_clocks.specs.Seen.{notifies, pool_behind, is_kept_put, takes_put, map_behind, enters_key}

-- Objects are named by their places in order of declaration.
pub data Channel : Type 0 where
  MutexUnlock : (mutex : ℕ) → Channel
  WriterUnlock : (lock : ℕ) → Channel
  ReaderUnlock : (lock : ℕ) → Channel
  Notice : (place worker : ℕ) → Channel  -- of the worker's ticket at a cond
  Lowering : (group : ℕ) → Channel  -- of a wait group's counter, or of what is held of a semaphore
  FunctionEnd : (once : ℕ) → Channel  -- of a once, or of a group of flights
  PutItem : (pool number : ℕ) → Channel  -- of so many puts before it into the pool
  Start : (worker : ℕ) → Channel
  Atomic : (atomic : ℕ) → Channel
  MapKey : (map : ℕ) → (key : List ℕ) → Channel

-- ---- of an item, by what was done before it

-- the first item that the worker makes
abbrev pub is_first_of : ℕ → List Item → Item → Bool
is_first_of worker earlier item = (item.caller == worker) && not (list_any (λ other. other.caller == worker) earlier)

module _ (plan : Plan) (earlier : List Item) (item : Item) where
  -- it hands on what its worker knows
  abbrev pub gives : Channel → Bool
  gives (MutexUnlock mutex) = (item.object == mutex) && unlocks_mutex item.deed
  gives (WriterUnlock lock) = (item.object == lock) && unlocks_as_writer item.deed
  gives (ReaderUnlock lock) = (item.object == lock) && unlocks_as_reader item.deed
  gives (Notice place worker) = notifies plan place worker earlier item
  gives (Lowering group) = (item.object == group) && lowers_count item.deed
  gives (FunctionEnd once) = (item.object == once) && ends_function item.deed
  gives (PutItem pool number) = (item.object == pool) && is_kept_put number (pool_behind plan pool earlier) item.deed
  gives (Start worker) = starts_worker worker item.deed
  gives (Atomic atomic) = (item.object == atomic) && enters_atomic item.deed
  gives (MapKey map key) = (item.object == map) && enters_key key (map_behind map earlier) item.deed

  -- its worker takes in what was handed on; the call is that of its turn
  abbrev pub takes : Option Call → Channel → Bool
  takes call (MutexUnlock mutex) = (item.object == mutex) && locks_mutex item.deed
  takes call (WriterUnlock lock) = (item.object == lock) && locks_rw_mutex item.deed
  takes call (ReaderUnlock lock) = (item.object == lock) && locks_rw_mutex item.deed && is_writers_call call
  takes call (Notice place worker) = (item.object == place) && (item.caller == worker) && leaves_cond item.deed
  takes call (Lowering group) = (item.object == group) && passes_count item.deed
  takes call (FunctionEnd once) = (item.object == once) && knows_function item.deed
  takes call (PutItem pool number) = (item.object == pool) && takes_put number (pool_behind plan pool earlier) item.caller item.deed
  takes call (Start worker) = is_first_of worker earlier item
  takes call (Atomic atomic) = (item.object == atomic) && finds_atomic item.deed
  takes call (MapKey map key) = (item.object == map) && finds_in_map key item.deed

-- An entry takes the place of the one before it: whoever finds it doesn't find what the earlier one left. All else is beside what was handed on before
abbrev pub is_replaced : Channel → Bool
is_replaced (Atomic atomic) = true
is_replaced (MapKey map key) = true
is_replaced (MutexUnlock mutex) = false
is_replaced (WriterUnlock lock) = false
is_replaced (ReaderUnlock lock) = false
is_replaced (Notice place worker) = false
is_replaced (Lowering group) = false
is_replaced (FunctionEnd once) = false
is_replaced (PutItem pool number) = false
is_replaced (Start worker) = false

-- ---- of a turn, which takes in first and then hands on

-- an item of these passes a test, by what was done before it
abbrev pub some_item : (List Item → Item → Bool) → List Item → List Item → Bool
some_item test earlier [] = false
some_item test earlier (item ∷ made) = test earlier item || some_item test (earlier ++ item ∷ []) made

module _ (plan : Plan) (earlier : List Item) (turn : TraceItem) (channel : Channel) where
  abbrev pub hands_on : Bool
  hands_on = some_item (λ before item. gives plan before item channel) earlier turn.made

  abbrev pub takes_in : Bool
  takes_in = some_item (λ before item. takes plan before item turn.call channel) earlier turn.made

  -- what was in the channel is gone, and what the turn hands on is there
  abbrev pub sets : Bool
  sets = is_replaced channel && hands_on
