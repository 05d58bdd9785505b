-- The callers of new maps and atomics.
use Rattle.std.specs.Prelude.{◌≡◌, ℕ, List, [], Some, slice_get, slice_index}
use Rattle.sync_model.specs.declared.caller.Caller.{Caller}
use Rattle.sync_model.specs.Shared.{AreAllCallers}
use Rattle.shared_plain.specs.declared.mark.Mark.{Mark}
use Rattle.shared_plain.specs.declared.plain.Plain.{Plain}
use Rattle.shared_plain.specs.Marks.{counts_by, own_by, seen_of, IsMarkOf}
use Rattle.shared_plain.specs.Plains.{caller_count}

-- all callers, in order of number, each with its own spare entries. None has made a call, and none has seen or knows one
pub record AreNewCallers (plain : Plain) (spare : List ℕ) (callers : List (Caller Mark)) : Type 0 where
  pub all : AreAllCallers IsMarkOf own_by plain callers (caller_count plain)
  pub own : (i : ℕ) (caller : Caller Mark) → slice_get callers i ≡ Some caller → own_by caller.note ≡ Some (record { number = i; items = []; times = []; spare = slice_index spare i })
  pub seen : (i : ℕ) (caller : Caller Mark) → slice_get callers i ≡ Some caller → seen_of caller.note ≡ []
  pub knows : (i c : ℕ) (caller : Caller Mark) → slice_get callers i ≡ Some caller → slice_index (counts_by caller.note) c ≡ 0
