use Rattle.std.proofs.Common.{◌≡◌, ◌+◌, ◌-◌, sym, ap, ◌∙◌, subst, arith}
use Rattle.trie_nodes.specs.Paths.{nibble, route}
use Rattle.trie_nodes.proofs.PlanLemmas.{expansion-keeps}
use Rattle.trie_nodes.proofs.expand.expansion.Goals as goal

pub returns-clause-plan : goal.returns-clause-plan
returns-clause-plan c =
    let last = c.parting-last.result in
    let from = c.parting-last.ensures.from in
    let to = c.parting-last.ensures.to in
    let e : last ≡ c.args.level + (last - c.args.level + 1) - 1 = omega arith in
    record {
      some = omega arith;
      within = omega arith;
      together = subst (λ n. route c.args.seed n c.args.held ≡ route c.args.seed n c.args.key) e c.parting-last.ensures.together;
      held_slot = c.nibble.ensures.is ∙ ap (nibble c.args.held c.args.seed) e;
      key_slot = c.nibble-2.ensures.is ∙ ap (nibble c.args.key c.args.seed) e;
      part = λ same. c.parting-last.ensures.part (sym c.nibble.ensures.is ∙ same ∙ c.nibble-2.ensures.is);
    }

pub returns-clause-keeps : goal.returns-clause-keeps
returns-clause-keeps c old new node value other expands =
    expansion-keeps old new c.args.seed c.args.level node c.args.held c.args.key value
    record { nodes = c.parting-last.result - c.args.level + 1; held_slot = c.nibble.result; key_slot = c.nibble-2.result }
    c.requires.below_a_root (returns-clause-plan c) expands other
