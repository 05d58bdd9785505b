use Rattle.sync_types.proofs.MapLemmas.{found_apart}
use Rattle.sync_types.proofs.laws.maps.calls_leave_other_keys.Goals as goal

pub returns : goal.returns
returns g c = λ R order. found_apart order
