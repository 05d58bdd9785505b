-- What is said of the logs of a pool.
use Rattle.std.specs.Prelude.{ℕ, zero, suc, ◌≡◌, ◌<◌, ◌≤◌, ◌+◌, ◌==◌, nat_lt, ◌&&◌, Bool, true, false, if◌then◌else◌, List, [], ◌∷◌, length, take, slice_get, Option, Some, None, is_some, option_map, count_by}
use Rattle.std.specs.List.{sum_by}
use Rattle.std.specs.Option.{option_and_then}
use Rattle.pool_core.specs.declared.pool_event.PoolEvent.{PoolEvent}
use Rattle.pool_core.specs.declared.pool_event.PoolEvent.TheVariants.{Put, LookOwn, LookOther, LookVictim, Sweep}
use Rattle.pool_core.specs.declared.pool_event.PoolReply.{PoolReply}
use Rattle.pool_core.specs.declared.pool_event.PoolReply.TheVariants.{Kept, Dropped, Item, Nothing, Swept, Still}
use Rattle.sync_model.specs.Log.{Entry, entry, after, Follows}
use Rattle.pool_core.specs.PoolParts.{PoolPart}
use Rattle.pool_core.specs.PoolMachine.{PoolState, start, next, callers_of}

abbrev pub PoolEntry : Type 0 → Type 0
PoolEntry X = Entry (PoolEvent X) (PoolReply X)

abbrev pub Log : Type 0 → Type 0
Log X = List (PoolEntry X)

module _ {X : Type 0} where
  -- the log is one of a pool for so many callers with so much room, from its start on
  abbrev pub IsLog : ℕ → ℕ → Log X → Type 0
  IsLog callers room log = Follows next (start callers room) log

  -- the state after it
  abbrev pub state_after : ℕ → ℕ → Log X → PoolState X
  state_after callers room log = after next (start callers room) log

  -- the caller puts an item, and is answered this
  abbrev pub put_by : ℕ → X → PoolReply X → PoolEntry X
  put_by caller item reply = entry caller (Put item) reply

  -- the item that an entry puts, where it is kept
  abbrev pub kept_if : PoolReply X → X → Option X
  kept_if Kept item = Some item
  kept_if _ item = None

  abbrev pub kept_in : PoolEvent X → PoolReply X → Option X
  kept_in (Put item) reply = kept_if reply item
  kept_in _ reply = None

  abbrev pub kept_by : PoolEntry X → Option X
  kept_by e = kept_in e.event e.reply

  -- the item that an entry's look takes
  abbrev pub got_in : PoolReply X → Option X
  got_in (Item item) = Some item
  got_in _ = None

  abbrev pub got_by : PoolEntry X → Option X
  got_by e = got_in e.reply

  -- the entry is a sweep
  abbrev pub is_swept : PoolReply X → Bool
  is_swept Swept = true
  is_swept _ = false

  abbrev pub is_sweep : PoolEntry X → Bool
  is_sweep e = is_swept e.reply

  -- 1 where there is an item and it passes a test
  abbrev pub one_of : (X → Bool) → Option X → ℕ
  one_of test (Some item) = if test item then 1 else 0
  one_of test None = 0

  -- how many items of a part pass a test
  abbrev pub held_in : (X → Bool) → PoolPart X → ℕ
  held_in test part = one_of test part.private + count_by test part.shared

  -- how many of all parts of a generation
  abbrev pub held_by : (X → Bool) → List (PoolPart X) → ℕ
  held_by test parts = sum_by (held_in test) parts

  -- how many of the pool
  abbrev pub held : (X → Bool) → PoolState X → ℕ
  held test state = held_by test state.primary + held_by test state.victims

  -- how many that pass a test a log keeps, takes, and sweeps away from this state on
  abbrev pub kept_count : (X → Bool) → Log X → ℕ
  kept_count test log = sum_by (λ e. one_of test (kept_by e)) log

  abbrev pub got_count : (X → Bool) → Log X → ℕ
  got_count test log = sum_by (λ e. one_of test (got_by e)) log

  abbrev pub swept_count : (X → Bool) → PoolState X → Log X → ℕ
  swept_count test state [] = 0
  swept_count test state (e ∷ log) = (if is_sweep e then held_by test state.victims else 0) + swept_count test (next state e.caller e.event).0 log

  -- the item that is put at a place of a log and kept, with the number of sweeps after it
  abbrev pub put_at : Log X → ℕ → Option (X × ℕ)
  put_at [] place = None
  put_at (e ∷ log) zero = option_map (λ item. (item, count_by is_sweep log)) (kept_by e)
  put_at (e ∷ log) (suc place) = put_at log place

  -- the item that a look at a place of a log takes
  abbrev pub got_at : Log X → ℕ → Option X
  got_at log place = option_and_then got_by (slice_get log place)

  -- each item that a look takes comes from a put before it that was kept, with at most one sweep between, and no other look takes it
  pub record ComeFrom (log : Log X) (origin : ℕ → ℕ) : Type 0 where
    pub earlier : (look : ℕ) (item : X) → got_at log look ≡ Some item
        → (sweeps : ℕ) × (put_at (take look log) (origin look) ≡ Some (item, sweeps)) × (sweeps ≤ 1)
    pub once : (look other : ℕ) (item another : X) → got_at log look ≡ Some item → got_at log other ≡ Some another → origin look ≡ origin other → look ≡ other

  -- a part with this much room takes no more
  abbrev pub is_full : ℕ → PoolPart X → Bool
  is_full room part = is_some part.private && (length part.shared == room)

  -- the private item of a part
  abbrev pub private_at : List (PoolPart X) → ℕ → Option X
  private_at parts part = option_and_then (λ (p : PoolPart X). p.private) (slice_get parts part)

  -- an event that names a part names one of so many
  abbrev pub NamesPart : ℕ → PoolEvent X → Type 0
  NamesPart parts (Put item) = Unit {0}
  NamesPart parts LookOwn = Unit {0}
  NamesPart parts (LookOther part) = part < parts
  NamesPart parts (LookVictim part) = part < parts
  NamesPart parts Sweep = Unit {0}

  -- the part that an event names, where it names one, is there
  abbrev pub has_part : PoolState X → PoolEvent X → Bool
  has_part state (Put item) = true
  has_part state LookOwn = true
  has_part state (LookOther part) = nat_lt part (length state.primary)
  has_part state (LookVictim part) = nat_lt part (length state.victims)
  has_part state Sweep = true

  -- the caller may make the event: it is one of the pool's, and a part that the event names is there
  abbrev pub may_make : PoolState X → ℕ → PoolEvent X → Bool
  may_make state caller event = nat_lt caller (callers_of state) && has_part state event

  abbrev pub answers_put : PoolReply X → Bool
  answers_put Kept = true
  answers_put (Dropped item) = true
  answers_put (Item item) = false
  answers_put Nothing = false
  answers_put Swept = false
  answers_put Still = false

  abbrev pub answers_look : PoolReply X → Bool
  answers_look (Item item) = true
  answers_look Nothing = true
  answers_look Kept = false
  answers_look (Dropped item) = false
  answers_look Swept = false
  answers_look Still = false

  -- what an event of a caller of the pool, about one of its parts, may be answered
  abbrev pub answers : PoolEvent X → PoolReply X → Bool
  answers (Put item) reply = answers_put reply
  answers LookOwn reply = answers_look reply
  answers (LookOther part) reply = answers_look reply
  answers (LookVictim part) reply = answers_look reply
  answers Sweep reply = is_swept reply
