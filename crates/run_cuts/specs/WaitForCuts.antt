-- How a `waitfor` is cut from a list: loads of its atomic and waits on its cond by turns.
use Rattle.std.specs.Prelude.{ℕ, zero, suc, Bool, true, false}
use Rattle.script_calls.specs.declared.call.Reply.{Reply}
use Rattle.sync_types.specs.declared.atomic_object.Number.{Number}
use Rattle.sync_types.specs.declared.wait_call.CondCall.TheVariants.{Wait}
use Rattle.run_record.specs.Tests.{compared}
use Rattle.run_cuts.specs.CondCuts.{cond_cut}
use Rattle.run_cuts.specs.Cuts.{Cutter, read_cut, returns_cut, then_cut}
use Rattle.run_cuts.specs.SharedCuts.{tests_cut}

-- nothing comes behind a test that found the number
abbrev pub unless_met_cut : Cutter Bool → Bool → Cutter Bool
unless_met_cut next true = returns_cut true
unless_met_cut next false = next

-- tests, with a wait on the cond behind each that didn't find the number, as long as so many waits may still be made
abbrev pub waits_for_cut : (cond mutex a : ℕ) → Number → ℕ → Cutter Bool
waits_for_cut cond mutex a value zero = tests_cut a value
waits_for_cut cond mutex a value (suc tries) = then_cut (tests_cut a value) (unless_met_cut (then_cut (cond_cut cond mutex Wait) (λ waited. waits_for_cut cond mutex a value tries)))

-- of the cond that is this object, whose mutex is that one
abbrev pub wait_for_cut : (cond mutex a : ℕ) → Number → ℕ → Cutter (Reply ℕ)
wait_for_cut cond mutex a value tries = read_cut compared (waits_for_cut cond mutex a value tries)
