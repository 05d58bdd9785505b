use Rattle.std.proofs.Common.{arith}
use Rattle.trie_nodes.proofs.PlaceLemmas.{goes_up_less, front_nodes, long_take}
use Rattle.trie_nodes.proofs.place.Place.go_up.Goals as goal

pub returns-clause-nodes : goal.returns-clause-nodes
returns-clause-nodes c = let p = c.args.self.now in let wide = p.wide.0 in let few = p.few in front_nodes p.nodes p.depth p.some (omega arith)

pub returns-clause-less : goal.returns-clause-less
returns-clause-less c =
    let p = c.args.self.now in
    let wide = p.wide.1 in
    let few = p.few in
    let long = long_take p.slots p.depth (omega arith) in
    let deep = c.requires in
    goes_up_less p.slots p.wide.1 p.depth p.some p.few p.slots_end (omega arith) p.entered
