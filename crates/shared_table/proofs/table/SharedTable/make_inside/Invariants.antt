use Rattle.std.proofs.Common.{◌≡◌, Option, None}
use Rattle.table_rule.specs.declared.view.Walk.{Walk}
use Rattle.table_rule.specs.Walking.{standing}
use Rattle.shared_table.proofs.table.SharedTable.make_inside.Given as goal

abbrev pub invariant-loop : goal.invariant-loop
invariant-loop g l = record {
  table : l.seat.table_id ≡ l.initial.seat.table_id;
  stands : (walk : Option Walk) × (l.seat.me ≡ (standing l.initial.seat.me.0 walk None, l.initial.seat.me.1));
}
