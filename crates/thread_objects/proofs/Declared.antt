-- Objects that are as the workload declares them.
use Rattle.std.proofs.Common.{◌≡◌, ℕ, ◌+◌, ◌<◌, true, List, length, refl, subst, arith, ◌∙◌}
use Rattle.std.proofs.lemmas.Option.{slice_get_within}
use Rattle.workload.specs.declared.object.ObjectKind.{ObjectKind}
use Rattle.workload.specs.declared.object.ObjectKind.TheVariants as kinds
use Rattle.workload.specs.declared.object.ObjectWord.TheVariants as words
use Rattle.workload.specs.Plan.{Plan, has_dormant}
use Rattle.run_record.specs.Objects.{first_part, object_count, starts_number}
use Rattle.thread_objects.specs.Catalog.{IsAt}
use Rattle.run_record.specs.Record.{stop, object_number}
use Rattle.thread_objects.specs.declared.object.AnyObject.{AnyObject}
use Rattle.thread_objects.specs.declared.object.AnyObject.TheVariants as those
use Rattle.thread_objects.specs.AsDeclared.{AreDeclared, IsDeclared, IsPartOf, IsStartsOf, IsStopOf}
use Rattle.thread_objects.specs.Desks.{IsObjectAt}
use Rattle.thread_objects.specs.Kinds.{HasWord, IsStarts, IsStop, IsOfKind}
use Rattle.thread_objects.proofs.ColumnLists.{there_is}

module _ {N H : Type 0} (at : H → N → Type 0) (home : H) (plan : Plan) where
  of_kind : (place : ℕ) (kind : ObjectKind) (object : AnyObject N H) → IsDeclared at home plan place kind object → IsOfKind kind object
  of_kind place kinds.Map object is = tt
  of_kind place kind those.Shared is = search
  of_kind place kind object is = search refl

  stop_of : (object : AnyObject N H) → IsStopOf at home plan.workers object → IsStop object
  stop_of (those.Stop o) is = tt
  stop_of object is = absurd is

  -- the first object of a run is Stop
  pub stop_is_first : (all : List (AnyObject N H)) → AreDeclared at home plan all → IsObjectAt IsStop all stop
  stop_is_first all declared =
      let object = there_is all stop (omega (arith, declared.count)) in
      (object.0, object.1, stop_of object.0 (declared.stops object.0 object.1))

  module _ (all : List (AnyObject N H)) (declared : AreDeclared at home plan all) (place : ℕ) (kind : ObjectKind) (is : IsAt plan place kind) where
    pub has_room : place + 1 < length all
    has_room = omega (arith, slice_get_within plan.objects place is.0 is.1, declared.count)

    -- the object at a place is of the kind that was declared there
    pub declared_at : IsObjectAt (IsOfKind kind) all (object_number place)
    declared_at =
        let object = there_is all (object_number place) has_room in
        (object.0, object.1, subst (λ (k : ObjectKind). IsOfKind k object.0) is.2 (of_kind place is.0.kind object.0 (declared.each place is.0 object.0 is.1 object.1)))

  part_of : (place : ℕ) (object : AnyObject N H) → IsPartOf at home plan place object → HasWord words.Pool object
  part_of place (those.PoolPart o) is = refl
  part_of place object is = absurd is

  -- the object with a part's number is a part of a pool
  pub part_at : (all : List (AnyObject N H)) (place part : ℕ) → AreDeclared at home plan all → IsAt plan place kinds.Pool → part < plan.workers → first_part plan place + part < starts_number plan
      → (first_part plan place + part < length all) × IsObjectAt (HasWord words.Pool) all (first_part plan place + part)
  part_at all place part declared is below room =
      let within : first_part plan place + part < length all = omega (arith, room, declared.count) in
      let object = there_is all (first_part plan place + part) within in
      (within, (object.0, object.1, part_of place object.0 (declared.parts place part is.0 object.0 is.1 is.2 below object.1)))

  starts_of : (object : AnyObject N H) → IsStartsOf at home plan object → IsStarts object
  starts_of (those.Starts o) is = tt
  starts_of object is = absurd is

  -- where some workers wait to be started, the last object is Starts
  pub starts_is_last : (all : List (AnyObject N H)) → AreDeclared at home plan all → has_dormant plan ≡ true → object_count plan ≡ starts_number plan + 1 → (length all ≡ starts_number plan + 1) × IsObjectAt IsStarts all (starts_number plan)
  starts_is_last all declared waits last =
      let sized = declared.count ∙ last in
      let object = there_is all (starts_number plan) (omega (arith, sized)) in
      (sized, (object.0, object.1, starts_of object.0 (declared.starts object.0 waits object.1)))
