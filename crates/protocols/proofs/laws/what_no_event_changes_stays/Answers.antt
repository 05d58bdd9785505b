use Rattle.protocols.proofs.StandLemmas.{size_stays}
use Rattle.protocols.proofs.laws.what_no_event_changes_stays.Goals as goal

pub returns : goal.returns
returns g c = size_stays g.M.Machine.next
