-- What a pool is made of: an object for each part, and in each caller's pass a pass to each of these.
use Rattle.std.specs.Prelude.{◌≡◌, ℕ, List, [], length, Option, Some, slice_get}
use Rattle.std.specs.Option.{option_and_then, option_map_or}
use Rattle.sync_model.specs.declared.journal.Entry.{Entry}
use Rattle.pool_core.specs.declared.pool_event.PoolEvent.{PoolEvent}
use Rattle.pool_core.specs.declared.pool_event.PoolReply.{PoolReply}
use Rattle.pool_core.specs.PartMachine.{PartState, part_start}
use Rattle.ruled_object.specs.declared.object.Object.{Object}
use Rattle.ruled_object.specs.declared.pass.Pass.{Pass}
use Rattle.ruled_object.specs.Passes as object
use Rattle.go_pool.specs.declared.pass.PoolPass.{PoolPass}

-- a caller's pass to one part
abbrev pub PartPass : Type 0 → Type 0
PartPass N = Pass (PartState ℕ) N (PoolEvent ℕ) (PoolReply ℕ)

-- an entry of a part's journal
abbrev pub PoolEntry : Type 0
PoolEntry = Entry (PoolEvent ℕ) (PoolReply ℕ)

-- what was done on a part, in its one order
abbrev pub PartJournal : Type 0
PartJournal = List PoolEntry

module _ {N : Type 0} where
  -- the pass to a part
  abbrev pub pass_at : ℕ → PoolPass N → Option (PartPass N)
  pass_at part pass = slice_get pass.parts.items part

  -- what the caller has seen of the journal of a part, and what it made there
  abbrev pub seen_of : ℕ → PoolPass N → PartJournal
  seen_of part pass = option_map_or object.seen_by (pass_at part pass) []

  abbrev pub own_of : ℕ → PoolPass N → PartJournal
  own_of part pass = option_map_or object.own_by (pass_at part pass) []

  -- one caller's pass to a part, of all callers' passes
  abbrev pub cell : List (PoolPass N) → ℕ → ℕ → Option (PartPass N)
  cell passes caller part = option_and_then (pass_at part) (slice_get passes caller)

  -- all callers' passes to a part, in order of caller
  pub record IsColumn (passes : List (PoolPass N)) (part : ℕ) (column : List (PartPass N)) : Type 0 where
    pub count : length column ≡ length passes
    pub each : (caller : ℕ) → slice_get column caller ≡ cell passes caller part

module _ {M N H : Type 0} where
  -- the objects are parts of a pool of so many callers, with so much room
  pub record AreParts (callers room : ℕ) (objects : List (Object M N (PartState ℕ) (PoolEvent ℕ) (PoolReply ℕ) H)) : Type 0 where
    pub count : length objects ≡ callers
    pub callers_are : (part : ℕ) (o : Object M N (PartState ℕ) (PoolEvent ℕ) (PoolReply ℕ) H) → slice_get objects part ≡ Some o → object.callers_of o ≡ callers
    pub begun : (part : ℕ) (o : Object M N (PartState ℕ) (PoolEvent ℕ) (PoolReply ℕ) H) → slice_get objects part ≡ Some o → object.start_of o ≡ part_start room

  -- it is the home of the notes that the objects were made with
  abbrev pub AreOfHome : (H → N → Type 0) → List (Object M N (PartState ℕ) (PoolEvent ℕ) (PoolReply ℕ) H) → H → Type 0
  AreOfHome at objects home = (part : ℕ) (o : Object M N (PartState ℕ) (PoolEvent ℕ) (PoolReply ℕ) H) → slice_get objects part ≡ Some o → object.IsHomeOf at o home

  -- one caller's passes, one to each object, in their order
  pub record AreSeatsOf (objects : List (Object M N (PartState ℕ) (PoolEvent ℕ) (PoolReply ℕ) H)) (caller : ℕ) (passes : List (PartPass N)) : Type 0 where
    pub count : length passes ≡ length objects
    pub each : (part : ℕ) (o : Object M N (PartState ℕ) (PoolEvent ℕ) (PoolReply ℕ) H) (p : PartPass N) → slice_get objects part ≡ Some o → slice_get passes part ≡ Some p → object.IsPassOf o p × (object.number_of p ≡ caller)
