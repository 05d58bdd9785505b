use Rattle.sync_types.proofs.MapLemmas.{unchanged}
use Rattle.sync_types.proofs.laws.maps.only_entries_change.Goals as goal

pub returns : goal.returns
returns g c = λ R order. unchanged order
