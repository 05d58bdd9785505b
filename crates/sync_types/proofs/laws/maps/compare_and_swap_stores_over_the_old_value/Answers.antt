use Rattle.std.proofs.Common.{ap}
use Rattle.sync_types.specs.declared.map_object.MapReply.TheVariants.{Compared}
use Rattle.sync_types.proofs.MapLemmas.{value_there, swap_made}
use Rattle.sync_types.proofs.laws.maps.compare_and_swap_stores_over_the_old_value.Goals as goal

pub returns-clause-there : goal.returns-clause-there
returns-clause-there g c = λ R order m key old new finds.
    let there = value_there m key old finds in
    (ap Compared there, swap_made order m key old new there)
