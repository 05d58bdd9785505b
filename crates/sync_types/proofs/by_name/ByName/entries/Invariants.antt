use Rattle.std.proofs.Common.{◌≡◌, true, ◌++◌}
use Rattle.sync_types.specs.ByName.{all_names}
use Rattle.sync_types.proofs.ByNameLemmas.{pairs}
use Rattle.sync_types.proofs.by_name.ByName.entries.Given as goal

abbrev pub invariant-loop-name : goal.invariant-loop-name
invariant-loop-name g l = (l.entries ++ pairs l.name-iterator ≡ pairs l.initial.name-iterator) × (all_names l.name-iterator ≡ true)
