use Rattle.std.proofs.Common.{◌≡◌}
use Rattle.shared_table.specs.Drafts.{Drafted}
use Rattle.table_rule.specs.Units.{unit_word}
use Rattle.shared_table.proofs.publish.draft_chain.Given as goal

abbrev pub invariant-loop-index : goal.invariant-loop-index
invariant-loop-index l = record {
  table : l.seat.table_id ≡ l.initial.seat.table_id;
  drafted : Drafted l.initial.seat.me l.seat.me l.index (unit_word l.chain.seed l.chain.key l.chain.value l.chain.level l.chain.above l.chain.held l.chain.unit l.chain.plan);
}
