use Rattle.std.proofs.Common.{◌≡◌, ◌-◌, List}
use Rattle.table_rule.specs.declared.view.CutNode.{CutNode}
use Rattle.shared_table.specs.Pruning.{NowHolds, HoldsAt}
use Rattle.shared_table.proofs.table.SharedTable.prune.Given as goal

abbrev pub invariant-loop-up : goal.invariant-loop-up
invariant-loop-up g l = record {
  table : l.seat.table_id ≡ l.fn.seat.table_id;
  comes : (cut : List CutNode) × NowHolds l.node cut l.fn.seat.me l.seat.me;
  holds : HoldsAt l.self.words.table.shared.key l.seat.me l.key l.node (l.level - l.up);
}
