use Rattle.std.proofs.Common.{◌≡◌, ℕ, ◌+◌, ◌*◌, ◌≤◌, [], Some, length, drop, sum, slice_get, vec_len, vec_capacity}
use Rattle.trie_nodes.specs.Layout.{unit_words}
use Rattle.table_words.specs.Seats.{IsSeatOf, begin_of}
use Rattle.shared_table.specs.Dealing.{left_view, IsNewCaller}
use Rattle.table_rule.specs.Layout.{size_of}
use Rattle.shared_table.proofs.table.SharedTable.first_callers.Given as goal

abbrev pub invariant-loop-number : goal.invariant-loop-number
invariant-loop-number l = record {
  table : IsSeatOf l.self.words l.all;
  left : l.all.me ≡ (left_view (begin_of l.self.words) l.number l.next, []);
  room : l.next + unit_words * sum (drop l.number (begin_of l.self.words).spares) ≡ size_of (begin_of l.self.words);
  made : vec_len l.callers ≡ l.number;
  count : length l.callers.items ≡ l.number;
  space : length (begin_of l.self.words).spares ≤ vec_capacity l.callers;
  dealt : (i : ℕ) (caller : _) → slice_get l.callers.items i ≡ Some caller → IsNewCaller l.self (begin_of l.self.words).spares i caller;
}
