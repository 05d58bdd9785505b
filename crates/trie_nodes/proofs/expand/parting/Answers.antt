use Rattle.std.proofs.Common.{◌≡◌, subst, arith}
use Rattle.trie_nodes.specs.Paths.{route}
use Rattle.trie_nodes.proofs.PathLemmas.{route-join, route-one_to_one}
use Rattle.trie_nodes.proofs.expand.parting.Goals as goal

pub returns-clause-part : goal.returns-clause-part
returns-clause-part c same =
    let last : c.loop-last.last ≡ 7 = omega arith in
    let together = subst (λ n. route c.args.seed n c.args.held ≡ route c.args.seed n c.args.key) last c.loop-last.invariant in
    c.requires.differ (route-one_to_one c.args.seed c.args.held c.args.key c.ranges.seed.fits c.ranges.held.fits c.ranges.key.fits (route-join c.args.seed 7 c.args.held c.args.key together same))
