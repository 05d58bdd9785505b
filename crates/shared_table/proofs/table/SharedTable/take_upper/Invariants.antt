use Rattle.std.proofs.Common.{◌≡◌}
use Rattle.shared_table.proofs.table.SharedTable.take_upper.Given as goal

abbrev pub invariant-loop : goal.invariant-loop
invariant-loop g l = record { table : l.seat.table_id ≡ l.initial.seat.table_id; same : l.seat.me ≡ l.initial.seat.me }
