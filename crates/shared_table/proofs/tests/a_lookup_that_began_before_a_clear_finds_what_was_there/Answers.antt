use Rattle.shared_table.proofs.Noting.{all_callers}
use Rattle.shared_table.proofs.tests.a_lookup_that_began_before_a_clear_finds_what_was_there.Goals as goal

pub take-requires : goal.take-requires
take-requires g c = all_callers _ _ _ c.in_ok-table.ensures.callers
