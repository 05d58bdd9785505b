use Rattle.shared_checks.proofs.PlacedLemmas.{sorted_are_all}
use Rattle.shared_checks.proofs.placed.by_place.Goals as goal

pub returns-clause-all : goal.returns-clause-all
returns-clause-all c = sorted_are_all c.args.lists.now c.in_ok-placed.placed.items _ c.in_ok-placed.ensures c.sort_by_place.ensures.same
