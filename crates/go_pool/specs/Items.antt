-- Which items a part holds, and which of them a caller may take.
use Rattle.std.specs.Prelude.{◌≡◌, ℕ, ◌==◌, Bool, true, false, if◌then◌else◌, List, [], ◌∷◌, ◌++◌}
use Rattle.std.specs.Option.{option_to_list}
use Rattle.sync_model.specs.declared.answer.Answer.{Answer}
use Rattle.sync_model.specs.declared.answer.Answer.TheVariants.{Done, Halted}
use Rattle.sync_model.specs.Journal.{log_of}
use Rattle.pool_core.specs.declared.pool_event.PoolEvent.{PoolEvent}
use Rattle.pool_core.specs.declared.pool_event.PoolEvent.TheVariants.{Put, LookOwn, LookOther, LookVictim, Sweep}
use Rattle.pool_core.specs.declared.pool_event.PoolPut.{PoolPut}
use Rattle.pool_core.specs.declared.pool_event.PoolPut.TheVariants.{Kept, Dropped}
use Rattle.pool_core.specs.PoolLaws.{is_full, ComeFrom}
use Rattle.pool_core.specs.PartMachine.{PartState}
use Rattle.pool_core.specs.PoolParts.{PoolPart}
use Rattle.go_pool.specs.declared.pass.PoolPass.{PoolPass}
use Rattle.go_pool.specs.declared.pool.Pool.{Pool}
use Rattle.go_pool.specs.Parts.{PartJournal}
use Rattle.go_pool.specs.Pools.{PoolEntry, held_after, seen_of, number_of, room_of}

-- what a put found: the last entry that the caller has seen of its part's journal is the put's, and before that the part held this
pub record Found {N H : Type 0} (pool : Pool N H) (pass : PoolPass N) (own : PoolPart ℕ) : Type 0 where
  pub before : PartJournal
  pub entry : PoolEntry
  pub seen : seen_of (number_of pass) pass ≡ before ++ entry ∷ []
  pub held : (held_after pool before).primary ≡ own

-- a put is dropped exactly where its caller's part is full: it holds a private item and as many shared ones as it has room for
abbrev pub DropsWhereFull : {N H : Type 0} → Pool N H → PoolPass N → ℕ → Answer PoolPut → Type 0
DropsWhereFull pool pass item (Done Kept) = (own : PoolPart ℕ) × Found pool pass own × (is_full (room_of pool) own ≡ false)
DropsWhereFull pool pass item (Done (Dropped other)) = (own : PoolPart ℕ) × Found pool pass own × (is_full (room_of pool) own ≡ true) × (other ≡ item)
DropsWhereFull pool pass item (Halted misuse) = Unit {0}

-- the private item of a part with its shared ones, or the shared ones alone
abbrev pub items_of : Bool → PoolPart ℕ → List ℕ
items_of private part = if private then option_to_list part.private ++ part.shared else part.shared

-- the items that a caller may take by a look at a part
abbrev pub takeable : PartState ℕ → ℕ → PoolEvent ℕ → List ℕ
takeable state caller LookOwn = items_of true state.primary
takeable state caller (LookOther part) = items_of false state.primary
takeable state caller (LookVictim part) = items_of (part == caller) state.victims
takeable state caller (Put item) = []
takeable state caller Sweep = []

-- the event is a look
abbrev pub IsLook : PoolEvent ℕ → Type 0
IsLook LookOwn = Unit {0}
IsLook (LookOther part) = Unit {0}
IsLook (LookVictim part) = Unit {0}
IsLook (Put item) = ⊥
IsLook Sweep = ⊥

-- in each part's journal, so far as the caller has seen it, each item that a look took was put there by one put before it, of which no other look took it, with at most one sweep between
abbrev pub ComesFromPuts : {N : Type 0} → PoolPass N → Type 0
ComesFromPuts pass = (part : ℕ) → (origin : ℕ → ℕ) × ComeFrom (log_of (seen_of part pass)) origin
