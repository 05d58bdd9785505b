-- Starts among the objects of a run, and a worker's pass to it.
use Rattle.std.proofs.Common.{◌≡◌, ℕ, ◌+◌, ◌-◌, ◌<◌, List, length, get_or, Some, slice_get, sym, ap, ◌∙◌, subst, arith}
use Rattle.std.specs.Prelude.{slice_set}
use Rattle.std.proofs.lemmas.Option.{slice_get-get_or, get_or_from_slice_get}
use Rattle.workload.specs.Plan.{Plan}
use Rattle.run_record.specs.Objects.{starts_number}
use Rattle.thread_objects.specs.declared.object.AnyObject.{AnyObject}
use Rattle.thread_objects.specs.declared.pass.AnyPass.{AnyPass}
use Rattle.thread_objects.specs.Desks.{AreSeats, IsObjectAt}
use Rattle.thread_objects.specs.Kinds.{IsStarts}
use Rattle.thread_objects.specs.Passes.{IsSeatAt}
use Rattle.thread_runner.proofs.Slots.{seats_kept}

module _ {N H : Type 0} (plan : Plan) (objects : List (AnyObject N H)) (last : (length objects ≡ starts_number plan + 1) × IsObjectAt IsStarts objects (starts_number plan)) where
  -- its number is that of the last object
  pub number_is : length objects - 1 ≡ starts_number plan
  number_is = omega (arith, last.0)

  pub within : length objects - 1 < length objects
  within = omega (arith, last.0)

  pub starts_there : slice_get objects (length objects - 1) ≡ Some last.1.0
  starts_there = ap (λ n. slice_get objects n) number_is ∙ last.1.1

  -- the last object is Starts
  pub is_starts : (d : AnyObject N H) → IsStarts (get_or objects (length objects - 1) d)
  is_starts d = subst (λ o. IsStarts o) (sym (get_or_from_slice_get objects (length objects - 1) last.1.0 d starts_there)) last.1.2

  module _ (at : H → N → Type 0) (home : H) (workers worker : ℕ) (passes : List (AnyPass N)) (seats : AreSeats at home workers worker objects passes) (d : AnyObject N H) where
    pub pass_within : length objects - 1 < length passes
    pass_within = omega (arith, last.0, seats.count)

    here : slice_get objects (length objects - 1) ≡ Some (get_or objects (length objects - 1) d)
    here = slice_get-get_or objects (length objects - 1) d within

    -- the worker's last pass is its pass to Starts
    pub seat_here : (e : AnyPass N) → IsSeatAt at home workers worker (get_or objects (length objects - 1) d) (get_or passes (length objects - 1) e)
    seat_here e = seats.each (length objects - 1) (get_or objects (length objects - 1) d) (get_or passes (length objects - 1) e) here (slice_get-get_or passes (length objects - 1) e pass_within)

    -- and stays one of its passes
    pub seats_behind : (new : AnyPass N) → IsSeatAt at home workers worker (get_or objects (length objects - 1) d) new → AreSeats at home workers worker objects (slice_set passes (length objects - 1) new)
    seats_behind new seat = seats_kept at home workers worker objects passes (length objects - 1) (get_or objects (length objects - 1) d) new here seat seats
