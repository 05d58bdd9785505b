use Rattle.shared_table.proofs.Noting.{all_callers}
use Rattle.shared_table.proofs.tests.a_lookup_waits_for_no_gate.Goals as goal

pub take-requires : goal.take-requires
take-requires g c = all_callers _ _ _ c.in_ok-table.ensures.callers
