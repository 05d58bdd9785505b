use Rattle.std.proofs.Common.{refl, arith}
use Rattle.shared_table.proofs.Payments.{has_unit}
use Rattle.shared_table.proofs.tests.prunes.store_by.Goals as goal

pub store_over_a_pruning-requires-clause-unit : goal.store_over_a_pruning-requires-clause-unit
store_over_a_pruning-requires-clause-unit g c = has_unit c.args.writer 1 c.requires.writer.1 c.requires.writer.0.unwritten refl
    (λ holding is. let spare = c.spare.ensures holding is in let some_left = c.if-spare-eq0.false in omega arith)
