use Rattle.std.proofs.Common.{◌≡◌}
use Rattle.trie_nodes.specs.PlaceLists.{slots_of}
use Rattle.trie_nodes.specs.Places.{steps_left}
use Rattle.shared_table.proofs.Ranges.{IsOn}
use Rattle.shared_table.proofs.cursor.step.Given as goal

abbrev pub invariant-loop-shown : goal.invariant-loop-shown
invariant-loop-shown l = record {
  table : l.seat.table_id ≡ l.fn.seat.table_id;
  on : IsOn l.fn.seat.me l.fn.place l.seat.me l.place;
}

abbrev pub decreases-loop-shown : goal.decreases-loop-shown
decreases-loop-shown l = steps_left (slots_of l.place)
