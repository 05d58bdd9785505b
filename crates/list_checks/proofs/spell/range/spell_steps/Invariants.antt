use Rattle.std.proofs.Common.{◌≤◌}
use Rattle.list_checks.proofs.SpellRanges.{HasShown}
use Rattle.list_checks.proofs.spell.range.spell_steps.Given as goal

abbrev pub invariant-loop-next : goal.invariant-loop-next
invariant-loop-next l = record {
  from : l.fn.from ≤ l.next;
  so : HasShown l.begin l.items l.fn.from l.next l.pairs;
}
