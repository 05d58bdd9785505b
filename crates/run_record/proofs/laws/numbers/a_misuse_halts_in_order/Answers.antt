use Rattle.std.proofs.Common.{◌≡◌, ◌⊎◌, inl, inr, ℕ, true, Some, slice_get, refl, sym, subst, arith}
use Rattle.std.specs.Prelude.{Contains}
use Rattle.workload.specs.declared.object.ObjectLine.{ObjectLine}
use Rattle.workload.specs.Plan.{has_dormant}
use Rattle.run_record.specs.Halts.{halted_numbers, IsNumberAt}
use Rattle.run_record.specs.Objects.{starts_number}
use Rattle.run_record.specs.Record.{stop}
use Rattle.run_record.proofs.HaltedNumbers.{in_order, kept_once, numbered, parts_in_order, placed, starts_placed, starts_second}
use Rattle.run_record.proofs.laws.numbers.a_misuse_halts_in_order.Goals as goal

pub returns-clause-stop : goal.returns-clause-stop
returns-clause-stop c plan = refl

pub returns-clause-starts : goal.returns-clause-starts
returns-clause-starts c plan some = starts_second plan some

pub returns-clause-all : goal.returns-clause-all
returns-clause-all c plan number = (numbered plan number, back) where
  back : (number ≡ stop) ⊎ ((has_dormant plan ≡ true) × (number ≡ starts_number plan)) ⊎ ((place : ℕ) × (object : ObjectLine) × (slice_get plan.objects place ≡ Some object) × IsNumberAt plan place object.kind number) → Contains (halted_numbers plan) number
  back (inl is) = (0, omega arith, sym is)
  back (inr (inl (some, is))) = subst (Contains (halted_numbers plan)) (sym is) (starts_placed plan some)
  back (inr (inr (place, object, here, is))) = placed plan place number object here is

pub returns-clause-once : goal.returns-clause-once
returns-clause-once c plan number has = kept_once plan number has

pub returns-clause-order : goal.returns-clause-order
returns-clause-order c plan i j place other first later object one here is there also less at_first at_later = in_order plan i j place other first later object one here is there also less at_first at_later

pub returns-clause-parts : goal.returns-clause-parts
returns-clause-parts c plan i j place part another object here pool less below at_first at_later = parts_in_order plan i j place part another object here pool less below at_first at_later
