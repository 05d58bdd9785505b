-- Which calls a worker makes on maps and atomics, and what one has seen that gives up.
use Rattle.std.specs.Prelude.{◌≡◌, ℕ, ℤ, ◌<◌, ◌⊎◌, List, ◌++◌, length, All, Some, slice_get}
use Rattle.sync_types.specs.declared.atomic_object.AtomicCall.TheVariants.{Add}
use Rattle.sync_types.specs.declared.atomic_object.AtomicReply.TheVariants.{Held}
use Rattle.sync_types.specs.declared.atomic_object.Number.TheVariants.{Int64}
use Rattle.sync_model.specs.declared.item.Item.{Item}
use Rattle.sync_model.specs.declared.item.SharedCall.{SharedCall}
use Rattle.sync_model.specs.declared.item.SharedCall.TheVariants as calls
use Rattle.sync_model.specs.declared.item.SharedReply.TheVariants as answers
use Rattle.workload.specs.Keys.{keys_in}
use Rattle.workload.specs.Plan.{Plan}
use Rattle.run_record.specs.Limits.{HasShown}

-- Behind a caller's earlier calls stand its new ones, each of which is such a call.
pub record MakesOnly (is : SharedCall → Type 0) (old new : List Item) : Type 0 where
  pub made : List Item
  pub are : new ≡ old ++ made
  pub each : All (λ x. is x.call) made

-- a cursor has shown more pairs than there are keys
pub record ShowedTooMany (keys : ℕ) (items : List Item) : Type 0 where
  pub shown : List (ℕ × ℕ)
  pub has : HasShown items shown
  pub many : keys < length shown

-- an `add` to an int64 was answered by no int64
pub record AnsweredAmiss (items : List Item) : Type 0 where
  pub i : ℕ
  pub a : ℕ
  pub amount : ℤ
  pub x : Item
  pub at : slice_get items i ≡ Some x
  pub call : x.call ≡ calls.Atomic a (Add (Int64 amount))
  pub amiss : (sum : ℤ) → x.reply ≡ answers.Atomic (Held (Int64 sum)) → ⊥

-- what a worker of the workload has seen that gives up: the laws of maps and atomics say that neither can be
abbrev pub GaveUp : Plan → List Item → Type 0
GaveUp plan items = ShowedTooMany (length (keys_in plan.scripts)) items ⊎ AnsweredAmiss items
