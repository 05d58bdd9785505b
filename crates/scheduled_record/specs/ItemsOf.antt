-- The items that a run may make: by the workload's workers, on objects that are there.
use Rattle.std.specs.Prelude.{◌≡◌, ℕ, ◌<◌, Bool, true, List, length, Some, slice_get}
use Rattle.std.specs.List.{AllByRecursion, list_any}
use Rattle.std.specs.Str.{bytes_eq}
use Rattle.sync_types.specs.Renaming.{is_call_at}
use Rattle.script_calls.specs.declared.call.Operation.{Operation}
use Rattle.script_calls.specs.declared.call.Operation.TheVariants as operations
use Rattle.pool_core.specs.declared.pool_event.PoolEvent.{PoolEvent}
use Rattle.pool_core.specs.declared.pool_event.PoolEvent.TheVariants as pool_events
use Rattle.workload.specs.declared.object.ObjectKind.TheVariants as kinds
use Rattle.workload.specs.declared.object.ObjectLine.{ObjectLine}
use Rattle.workload.specs.Draft.{all_keys}
use Rattle.workload.specs.Plan.{Plan, has_dormant}
use Rattle.run_record.specs.declared.entered.ObjectEvent.{ObjectEvent}
use Rattle.run_record.specs.declared.entered.ObjectEvent.TheVariants as events
use Rattle.step_runner.specs.declared.turns.item.Deed.{Deed}
use Rattle.step_runner.specs.declared.turns.item.Deed.TheVariants as deeds
use Rattle.step_runner.specs.declared.turns.item.Item.{Item}

-- a look names a part that is there
abbrev pub NamesPart : ℕ → PoolEvent ℕ → Type 0
NamesPart workers (pool_events.LookOther part) = part < workers
NamesPart workers (pool_events.LookVictim part) = part < workers
NamesPart workers (pool_events.Put item) = Unit {0}
NamesPart workers pool_events.LookOwn = Unit {0}
NamesPart workers pool_events.Sweep = Unit {0}

abbrev pub HasPool : Plan → ℕ → Type 0
HasPool plan place = (line : ObjectLine) × (slice_get plan.objects place ≡ Some line) × (line.kind ≡ kinds.Pool)

-- an event is on an object that is there: a pool's on a pool, and one of Starts where there is one
abbrev pub IsEventOn : Plan → ℕ → ObjectEvent → Type 0
IsEventOn plan place (events.Pool event) = HasPool plan place × NamesPart plan.workers event
IsEventOn plan place (events.Starts event) = has_dormant plan ≡ true
IsEventOn plan place event = place < length plan.objects

-- the keys of the workload's calls
abbrev pub is_key : Plan → List ℕ → Bool
is_key plan name = list_any (bytes_eq name) (all_keys plan.scripts)

-- a call on a map is at one of them
abbrev pub has_key : Plan → Operation → Bool
has_key plan (operations.Map call) = is_call_at (is_key plan) call
has_key plan operation = true

abbrev pub IsDeedOn : Plan → ℕ → Deed → Type 0
IsDeedOn plan place (deeds.Placed operation reply) = (place < length plan.objects) × (has_key plan operation ≡ true)
IsDeedOn plan place (deeds.Entered event answer) = IsEventOn plan place event

pub record IsItemOf (plan : Plan) (item : Item) : Type 0 where
  pub caller : item.caller < plan.workers
  pub on : IsDeedOn plan item.object item.deed

abbrev pub AreItemsOf : Plan → List Item → Type 0
AreItemsOf plan items = AllByRecursion (IsItemOf plan) items
