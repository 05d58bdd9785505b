use Rattle.std.proofs.Common.{ap}
use Rattle.std.specs.FinMap.{get-empty}
use Rattle.sync_types.specs.declared.map_object.MapReply.TheVariants.{Found}
use Rattle.sync_types.proofs.MapLemmas.{found_removed}
use Rattle.sync_types.proofs.laws.maps.removed_keys_are_absent.Goals as goal

pub returns-clause-delete : goal.returns-clause-delete
returns-clause-delete g c = λ R order. found_removed order

pub returns-clause-load_and_delete : goal.returns-clause-load_and_delete
returns-clause-load_and_delete g c = λ R order. found_removed order

pub returns-clause-clear : goal.returns-clause-clear
returns-clause-clear g c = λ R m key. ap Found (get-empty R key)
