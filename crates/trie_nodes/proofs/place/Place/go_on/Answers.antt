use Rattle.trie_nodes.proofs.PlaceLemmas.{goes_on_less}
use Rattle.trie_nodes.proofs.place.Place.go_on.Goals as goal

pub returns-clause-less : goal.returns-clause-less
returns-clause-less c = let p = c.args.self.now in goes_on_less p.slots p.wide.1 p.depth p.some p.few p.slots_end c.requires
