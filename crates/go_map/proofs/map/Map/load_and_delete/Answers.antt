use Rattle.std.proofs.Common.{subst}
use Rattle.go_map.specs.Values.{IsSmallReply}
use Rattle.go_map.proofs.map.Map.load_and_delete.Goals as goal

pub returns-clause-found : goal.returns-clause-found
returns-clause-found g c = subst IsSmallReply c.found_in.ensures c.change.ensures.found
