-- A worker's passes to objects of whatever kind.
use Rattle.std.specs.Prelude.{ℕ, List, get_or, MatchOption}
use Rattle.ruled_object.specs.declared.object.Object.{Object}
use Rattle.ruled_object.specs.declared.pass.Pass.{Pass}
use Rattle.run_record.specs.Journals.{IsStops}
use Rattle.run_record.specs.Record.{ObjectEntry}
use Rattle.thread_objects.specs.declared.object.AnyObject.{AnyObject}
use Rattle.thread_objects.specs.declared.pass.AnyPass.{AnyPass}
use Rattle.thread_objects.specs.declared.pass.AnyPass.TheVariants as passes
use Rattle.thread_objects.specs.ByKind.{of_object, own_of}
use Rattle.thread_objects.specs.EachKind.{Kind, own_in}
use Rattle.thread_objects.specs.Seats.{IsSeat}
use Rattle.thread_objects.specs.StopKind.{stop}

-- the entries that a worker with these passes made on each object
abbrev pub owns_of : {N : Type 0} → List (AnyPass N) → ℕ → List ObjectEntry
owns_of all object = own_of (get_or all object passes.None)

-- there is no pass
abbrev pub IsNone : {N : Type 0} → AnyPass N → Type 0
IsNone passes.None = Unit {0}
IsNone pass = ⊥

module _ {N H : Type 0} (at : H → N → Type 0) (home : H) (workers worker : ℕ) where
  -- it is the worker's pass to the object, which is of this kind
  abbrev pub SeatOf : {M S E R W : Type 0} → Kind S E R W → Object M N S E R H → Pass S N E R → Type 0
  SeatOf kind object pass = IsSeat kind.begins kind.out kind.stands at home workers worker object pass

  -- it is the worker's pass to the object, and the worker is between two calls. On Stop it did nothing but halt it
  abbrev pub IsSeatAt : AnyObject N H → AnyPass N → Type 0
  IsSeatAt object pass = of_object (record {
    shared = IsNone pass;
    stop = λ o. MatchOption (stop.pass pass) ⊥ (λ p. SeatOf stop o p × IsStops (own_in stop p));
    each = λ kind o. MatchOption (kind.pass pass) ⊥ (λ p. SeatOf kind o p);
  }) object
