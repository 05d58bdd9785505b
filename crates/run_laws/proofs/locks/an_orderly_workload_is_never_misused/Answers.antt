use Rattle.std.proofs.Common.{◌≡◌, refl}
use Rattle.script_calls.specs.declared.outcome.Outcome.{Outcome}
use Rattle.script_calls.specs.declared.outcome.Outcome.TheVariants.{Done, Misused, Deadlocked}
use Rattle.script_calls.specs.declared.outcome.Report.{Report}
use Rattle.run_record.specs.Explains.{Explains}
use Rattle.run_laws.proofs.Orderly.{nobody_misuses}
use Rattle.run_laws.proofs.locks.an_orderly_workload_is_never_misused.Goals as goal

pub returns : goal.returns
returns c plan outcome r keeps none explains = by_outcome outcome explains where
  by_outcome : (outcome : Outcome) → Explains plan outcome r → (left : Report) × (outcome ≡ Done left)
  by_outcome (Done left) explains = (left, refl)
  by_outcome (Misused left misuse) explains =
      let met = c.a_run_is_done_unless_it_was_misused.ensures.misused plan r left misuse explains in
      absurd (nobody_misuses c.validity.ensures.goes_on c.validity.ensures.begins plan keeps r (Misused left misuse) explains.lines ((c.scripts_without_tests_are_spelt_call_by_call.ensures plan r (Misused left misuse) explains.lines none).0 explains.are) explains.lawful met.0 met.1 misuse met.2 met.3)
  by_outcome (Deadlocked left) explains = absurd (c.a_run_is_done_unless_it_was_misused.ensures.never_deadlocked plan r left explains)
