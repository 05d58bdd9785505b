use Rattle.std.proofs.Common.{◌≡◌, ◌≤◌, ◌-◌, length, drop}
use Rattle.std.specs.List.{range_with_len, slice_range}
use Rattle.run_cuts.specs.Cuts.{behind}
use Rattle.run_cuts.specs.PoolCuts.{swept_by_cut}
use Rattle.list_checks.proofs.spell.pool.spell_sweep.Given as goal

abbrev pub invariant-loop-part : goal.invariant-loop-part
invariant-loop-part l = record {
  inside : l.at ≤ length l.items;
  from : l.fn.from ≤ l.at;
  is : swept_by_cut l.pool.first (range_with_len 0 l.pool.workers) (drop l.fn.from l.items) ≡ behind (slice_range l.items l.fn.from l.at) (swept_by_cut l.pool.first (range_with_len l.part (l.pool.workers - l.part)) (drop l.at l.items));
}
