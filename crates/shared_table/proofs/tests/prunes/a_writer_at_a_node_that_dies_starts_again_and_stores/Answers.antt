use Rattle.shared_table.proofs.Noting.{all_callers}
use Rattle.shared_table.proofs.tests.prunes.a_writer_at_a_node_that_dies_starts_again_and_stores.Goals as goal

pub take-requires : goal.take-requires
take-requires g c = all_callers _ _ _ c.in_ok-table.ensures.callers
