-- That a pool has room for puts.
use Rattle.std.specs.Prelude.{◌≡◌, ℕ, ◌+◌, ◌-◌, ◌≤◌, if◌then◌else◌, List, length, slice_get, Some}
use Rattle.script_calls.specs.declared.call.Call.{Call}
use Rattle.pool_core.specs.PoolParts.{PoolPart}
use Rattle.pool_core.specs.PoolMachine as pool
use Rattle.workload.specs.Puts.{is_put_at}
use Rattle.step_runner.specs.declared.turns.answer.Answer.{Answer}
use Rattle.step_runner.specs.declared.turns.answer.Answer.TheVariants as answers
use Rattle.step_runner.specs.declared.turns.object_state.ObjectState.{ObjectState}
use Rattle.step_runner.specs.declared.turns.object_state.ObjectState.TheVariants as states

-- 1 where a call puts an item into the pool at a place
abbrev pub put_of : ℕ → Call → ℕ
put_of place call = if is_put_at place call then 1 else 0

-- each part has room for so many items more
abbrev pub HavePartsRoom : ℕ → List (PoolPart ℕ) → Type 0
HavePartsRoom left parts = (k : ℕ) (part : PoolPart ℕ) → slice_get parts k ≡ Some part → length part.shared + left ≤ part.room

-- each part of a pool has, in its primary and in its victim generation
pub record HasPoolRoom (left : ℕ) (p : pool.PoolState ℕ) : Type 0 where
  pub primary : HavePartsRoom left p.primary
  pub victims : HavePartsRoom left p.victims

-- the same of an object: only a pool needs room
abbrev pub HasRoomFor : ℕ → ObjectState → Type 0
HasRoomFor left (states.Pool p) = HasPoolRoom left p
HasRoomFor left object = Unit {0}

-- how many puts are left to make behind a turn, of so many before it, where its call makes this many: only a call that is completed is made
abbrev pub left_behind : Answer → ℕ → ℕ → ℕ
left_behind answers.Still made left = left
left_behind answers.Unfinished made left = left
left_behind (answers.Completed reply) made left = left - made
left_behind (answers.Misused misuse) made left = left
