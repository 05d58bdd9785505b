-- Which events a call makes, in order, and how it answers by them.
use Rattle.std.specs.Prelude.{◌≡◌, ℕ, zero, suc, ◌*◌, ◌<◌, [], ◌∷◌, ◌++◌, Option}
use Rattle.sync_model.specs.declared.answer.Answer.{Answer}
use Rattle.sync_model.specs.declared.answer.Answer.TheVariants.{Done, Halted}
use Rattle.sync_model.specs.declared.journal.Deed.TheVariants.{Event, Refused}
use Rattle.pool_core.specs.declared.pool_event.PoolEvent.{PoolEvent}
use Rattle.pool_core.specs.declared.pool_event.PoolEvent.TheVariants.{Put, Sweep}
use Rattle.pool_core.specs.declared.pool_event.PoolPut.{PoolPut}
use Rattle.pool_core.specs.declared.pool_event.PoolReply.{PoolReply}
use Rattle.pool_core.specs.declared.pool_event.PoolReply.TheVariants as reply
use Rattle.pool_core.specs.Looks.{look}
use Rattle.pool_core.specs.PoolParts.{reply_of_put, reply_of_look}
use Rattle.go_pool.specs.declared.pool_get.PoolGet.{PoolGet}
use Rattle.go_pool.specs.declared.pool_get.PoolGet.TheVariants.{Item, New}
use Rattle.go_pool.specs.Pools.{Deeds}

-- a call is this one event, and answers what that is answered
abbrev pub Single : {A : Type 0} → PoolEvent ℕ → (A → PoolReply ℕ) → Deeds → Answer A → Type 0
Single event reply deeds (Done given) = deeds ≡ Event event (reply given) ∷ []
Single event reply deeds (Halted misuse) = deeds ≡ Refused event misuse ∷ []

abbrev pub Puts : ℕ → Deeds → Answer PoolPut → Type 0
Puts item deeds answer = Single (Put item) reply_of_put deeds answer

abbrev pub Sweeps : Deeds → Answer Unit → Type 0
Sweeps deeds answer = Single Sweep (λ done. reply.Swept) deeds answer

-- a look answers with the item that it took, where it found one
abbrev pub Looks : PoolEvent ℕ → Deeds → Answer (Option ℕ) → Type 0
Looks event deeds answer = Single event reply_of_look deeds answer

-- the first k looks, each of which finds nothing
abbrev pub nothing_in : ℕ → ℕ → ℕ → Deeds
nothing_in callers caller zero = []
nothing_in callers caller (suc k) = nothing_in callers caller k ++ Event (look callers caller k) reply.Nothing ∷ []

-- A get is its looks. Each finds nothing, up to the first that takes an item; new is answered where all find nothing.
abbrev pub Gets : ℕ → ℕ → ℕ → Deeds → Answer PoolGet → Type 0
Gets callers caller fresh deeds (Done (Item item)) = (k : ℕ) × (k < 2 * callers) × (deeds ≡ nothing_in callers caller k ++ Event (look callers caller k) (reply.Item item) ∷ [])
Gets callers caller fresh deeds (Done (New value)) = (value ≡ fresh) × (deeds ≡ nothing_in callers caller (2 * callers))
Gets callers caller fresh deeds (Halted misuse) = (k : ℕ) × (k < 2 * callers) × (deeds ≡ nothing_in callers caller k ++ Refused (look callers caller k) misuse ∷ [])
