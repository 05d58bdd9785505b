use Rattle.std.proofs.Common.{◌≡◌}
use Rattle.shared_table.proofs.Prunings.{LooksOn}
use Rattle.shared_table.proofs.table.SharedTable.look_at_slots.Given as goal

abbrev pub invariant-loop-slot : goal.invariant-loop-slot
invariant-loop-slot l = record {
  table : l.seat.table_id ≡ l.fn.seat.table_id;
  on : LooksOn l.fn.seat.me l.seat.me l.words l.slot;
}
