use Rattle.std.proofs.Common.{◌≡◌, ◌+◌, ◌<◌}
use Rattle.shared_table.proofs.Walks.{IsAt}
use Rattle.table_rule.specs.Walking.{told_at}
use Rattle.shared_table.proofs.table.SharedTable.walk.Given as goal

abbrev pub invariant-loop-level : goal.invariant-loop-level
invariant-loop-level g l = record {
  table : l.seat.table_id ≡ l.fn.seat.table_id;
  at : IsAt (told_at l.fn.time.time l.fn.seat.me) l.map l.key l.seat.me l.node l.level;
  below : l.level < 8;
  cost : l.steps ≡ l.fn.steps + 1 + l.level;
}
