use Rattle.std.proofs.Common.{◌≤◌, drop, map, vec_capacity}
use Rattle.std.specs.List.{list_all}
use Rattle.record_text.specs.ItemLines.{item_text}
use Rattle.record_text.specs.Told.{is_short_line, joined}
use Rattle.scheduled_record.proofs.Gaining.{Going}
use Rattle.scheduled_record.proofs.pieces.push_items.Given as goal

abbrev pub invariant-loop-item : goal.invariant-loop-item
invariant-loop-item l = record {
  goes : Going l.initial.text.items l.text.items
      (joined (map (item_text l.workload) l.items)) (joined (map (item_text l.workload) (drop l.item-index l.items)))
      (list_all is_short_line (map (item_text l.workload) l.items)) (list_all is_short_line (map (item_text l.workload) (drop l.item-index l.items)));
  room : vec_capacity l.initial.line ≤ vec_capacity l.line;
}
