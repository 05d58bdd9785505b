use Rattle.std.proofs.Common.{◌≡◌, ◌^◌, ◌<◌}
use Rattle.trie_nodes.specs.Nodes.{stands_for}
use Rattle.table_words.specs.EndContents.{words_of}
use Rattle.table_words.proofs.ended.TableEnds.find.Given as goal

abbrev pub invariant-loop-level : goal.invariant-loop-level
invariant-loop-level l = record {
  place : l.node < 2 ^ 63;
  same : stands_for (words_of l.self) l.self.seed l.level l.node l.key ≡ stands_for (words_of l.self) l.self.seed 0 l.root l.key;
}
