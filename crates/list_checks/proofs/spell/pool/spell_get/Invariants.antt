use Rattle.std.proofs.Common.{◌≡◌, ◌≤◌, length, drop}
use Rattle.std.specs.List.{slice_range}
use Rattle.run_cuts.specs.Cuts.{behind}
use Rattle.run_cuts.specs.PoolCuts.{found_by_cut}
use Rattle.run_record.specs.PoolKind.{looks_of}
use Rattle.list_checks.proofs.SpellTurns.{looks_from}
use Rattle.list_checks.proofs.spell.pool.spell_get.Given as goal

abbrev pub invariant-loop-number : goal.invariant-loop-number
invariant-loop-number l = record {
  inside : l.at ≤ length l.items;
  from : l.fn.from ≤ l.at;
  is : found_by_cut l.pool.worker l.pool.first (looks_of l.pool.workers l.pool.worker) (drop l.fn.from l.items) ≡ behind (slice_range l.items l.fn.from l.at) (found_by_cut l.pool.worker l.pool.first (looks_from l.pool.workers l.pool.worker l.pool.first l.number) (drop l.at l.items));
}
