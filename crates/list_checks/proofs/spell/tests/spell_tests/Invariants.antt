use Rattle.std.proofs.Common.{◌≡◌, ◌≤◌, ◌-◌, length, drop}
use Rattle.std.specs.List.{slice_range}
use Rattle.run_cuts.specs.Cuts.{behind}
use Rattle.run_cuts.specs.WaitForCuts.{waits_for_cut}
use Rattle.list_checks.proofs.spell.tests.spell_tests.Given as goal

abbrev pub invariant-loop-made : goal.invariant-loop-made
invariant-loop-made l = record {
  inside : l.at ≤ length l.items;
  from : l.fn.from ≤ l.at;
  is : waits_for_cut l.on.cond l.on.mutex l.on.atomic l.value l.tries (drop l.fn.from l.items) ≡ behind (slice_range l.items l.fn.from l.at) (waits_for_cut l.on.cond l.on.mutex l.on.atomic l.value (l.tries - l._made) (drop l.at l.items));
}
