-- Objects as the workload declares them.
use Rattle.std.specs.Prelude.{◌≡◌, ℕ, ◌+◌, ◌<◌, true, List, length, MatchOption, Some, slice_get}
use Rattle.pool_core.specs.PartMachine.{part_start}
use Rattle.workload.specs.declared.object.ObjectKind.{ObjectKind}
use Rattle.workload.specs.declared.object.ObjectKind.TheVariants as kinds
use Rattle.workload.specs.declared.object.ObjectLine.{ObjectLine}
use Rattle.workload.specs.Plan.{Plan, has_dormant}
use Rattle.workload.specs.Puts.{puts_at}
use Rattle.ruled_object.specs.declared.object.Object.{Object}
use Rattle.ruled_object.specs.Passes.{callers_of, start_of, IsHomeOf}
use Rattle.run_record.specs.Objects.{first_part, object_count, starts_number}
use Rattle.starts_core.specs.StartsMachine.{begun}
use Rattle.run_record.specs.Record.{stop, object_number}
use Rattle.thread_objects.specs.declared.object.AnyObject.{AnyObject}
use Rattle.thread_objects.specs.declared.object.AnyObject.TheVariants as objects
use Rattle.thread_objects.specs.ByKind.{of_object}
use Rattle.thread_objects.specs.EachKind.{Kind}

-- the object has so many callers, began in this state, and its notes are of this home
pub record Began {M N S E R H : Type 0} (at : H → N → Type 0) (home : H) (workers : ℕ) (start : S) (object : Object M N S E R H) : Type 0 where
  pub callers : callers_of object ≡ workers
  pub begun : start_of object ≡ start
  pub homed : IsHomeOf at object home

-- the same of an object of this kind, where it is one of the kind that is declared so, and as such ones begin
abbrev pub BeganAs : {M N S E R W H : Type 0} → Kind S E R W → (H → N → Type 0) → H → ℕ → ObjectKind → Object M N S E R H → Type 0
BeganAs kind at home workers declared object = MatchOption (kind.starts workers declared) ⊥ (λ start. Began at home workers start object)

-- nothing is here for it: a map or an atomic, a pool beside its parts, or a plain variable, which no run with threads has
abbrev pub IsElsewhere : ObjectKind → Type 0
IsElsewhere kinds.Map = Unit {0}
IsElsewhere (kinds.Atomic type) = Unit {0}
IsElsewhere kinds.Pool = Unit {0}
IsElsewhere kinds.Var = Unit {0}
IsElsewhere kind = ⊥

module _ {N H : Type 0} (at : H → N → Type 0) (home : H) where
  -- it is Stop, of so many workers
  abbrev pub IsStopOf : ℕ → AnyObject N H → Type 0
  IsStopOf workers object = of_object (record { shared = ⊥; stop = λ o. Began at home workers tt o; each = λ kind o. ⊥ }) object

  -- it is what the workload declares at this place: of this kind, and as it begins. Maps and atomics are shared as one, which isn't here, and of a pool there are only the parts
  abbrev pub IsDeclared : Plan → ℕ → ObjectKind → AnyObject N H → Type 0
  IsDeclared plan place declared object = of_object (record {
    shared = IsElsewhere declared;
    stop = λ o. ⊥;
    each = λ kind o. BeganAs kind at home plan.workers declared o;
  }) object

  -- it is a part of the pool that the workload declares at this place, as it begins: it has room for all items that the scripts put into the pool
  abbrev pub IsPartOf : Plan → ℕ → AnyObject N H → Type 0
  IsPartOf plan place (objects.PoolPart o) = Began at home plan.workers (part_start (puts_at place plan.scripts)) o
  IsPartOf plan place object = ⊥

  -- it is Starts, of the workload's workers, of whom those wait to be started that it says
  abbrev pub IsStartsOf : Plan → AnyObject N H → Type 0
  IsStartsOf plan (objects.Starts o) = Began at home plan.workers (begun plan.dormant) o
  IsStartsOf plan object = ⊥

  -- the objects of a run: Stop, those that the workload declares, in order of declaration, the parts of its pools, and Starts where some workers wait to be started
  pub record AreDeclared (plan : Plan) (all : List (AnyObject N H)) : Type 0 where
    pub count : length all ≡ object_count plan
    pub stops : (object : AnyObject N H) → slice_get all stop ≡ Some object → IsStopOf plan.workers object
    pub each : (place : ℕ) (line : ObjectLine) (object : AnyObject N H) → slice_get plan.objects place ≡ Some line → slice_get all (object_number place) ≡ Some object → IsDeclared plan place line.kind object
    pub parts : (place part : ℕ) (line : ObjectLine) (object : AnyObject N H) → slice_get plan.objects place ≡ Some line → line.kind ≡ kinds.Pool → part < plan.workers → slice_get all (first_part plan place + part) ≡ Some object → IsPartOf plan place object
    pub starts : (object : AnyObject N H) → has_dormant plan ≡ true → slice_get all (starts_number plan) ≡ Some object → IsStartsOf plan object
