use Rattle.std.proofs.Common.{◌≡◌, ◌≤◌, drop}
use Rattle.std.specs.List.{slice_range}
use Rattle.run_cuts.specs.Cuts.{behind, stages_cut}
use Rattle.list_checks.proofs.spell.automaton.spell_stages.Given as goal

abbrev pub invariant-loop-next : goal.invariant-loop-next
invariant-loop-next g l = record {
  from : l.fn.from ≤ l.next;
  is : stages_cut g.A.Automaton.moves l.object l.fn.stage (drop l.fn.from l.items) ≡ behind (slice_range l.items l.fn.from l.next) (stages_cut g.A.Automaton.moves l.object l.at (drop l.next l.items));
}
