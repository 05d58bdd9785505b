-- Which calls on maps and atomics a workload has, and what a cursor has shown.
use Rattle.std.specs.Prelude.{◌≡◌, ℕ, ◌<◌, List, ◌∷◌, ◌++◌, map, length, Some}
use Rattle.std.specs.List.{flat_map}
use Rattle.sync_types.specs.declared.atomic_object.AtomicKind.{AtomicKind}
use Rattle.sync_model.specs.declared.item.Item.{Item}
use Rattle.sync_model.specs.declared.item.SharedCall.{SharedCall}
use Rattle.sync_model.specs.declared.item.SharedCall.TheVariants as calls
use Rattle.sync_model.specs.declared.item.SharedReply.{SharedReply}
use Rattle.sync_model.specs.declared.item.SharedReply.TheVariants as answers
use Rattle.sync_types.specs.SequentialMap.{map_key}
use Rattle.sync_model.specs.Shared.{IsAtomicCall}
use Rattle.workload.specs.Keys.{keys_in}
use Rattle.workload.specs.Plan.{Plan}
use Rattle.run_record.specs.Objects.{types_of}

-- a key by its number, of a workload with so many
abbrev pub IsKeyOf : Plan → ℕ → Type 0
IsKeyOf plan key = key < length (keys_in plan.scripts)

-- the types of the atomics, by number
abbrev pub atomic_types : Plan → List AtomicKind
atomic_types plan = flat_map (λ object. types_of object.kind) plan.objects

-- a call on a map by a key that the workload has, a call that its atomic has, or a cursor's
abbrev pub IsCallOf : Plan → SharedCall → Type 0
IsCallOf plan (calls.Map m call) = (key : ℕ) → map_key call ≡ Some key → IsKeyOf plan key
IsCallOf plan (calls.Begin m) = Unit {0}
IsCallOf plan (calls.Next begin) = Unit {0}
IsCallOf plan (calls.Atomic a call) = IsAtomicCall (atomic_types plan) a call

-- a step of the cursor that call number `begin` began, which shows a pair
abbrev pub step_of : ℕ → ℕ × ℕ → SharedCall × SharedReply
step_of begin pair = (calls.Next begin, answers.Shown (Some pair))

-- what a caller asked, and what it was answered
abbrev pub told : Item → SharedCall × SharedReply
told x = (x.call, x.reply)

-- a cursor among a caller's calls that has shown these pairs, one step after the other
pub record HasShown (items : List Item) (shown : List (ℕ × ℕ)) : Type 0 where
  pub m : ℕ
  pub before : List Item
  pub made : List Item
  pub after : List Item
  pub more : List (SharedCall × SharedReply)  -- what stands behind these steps in `made`
  pub are : items ≡ before ++ (made ++ after)
  pub steps : map told made ≡ (calls.Begin m, answers.Begun) ∷ (map (step_of (length before)) shown ++ more)
