use Rattle.std.proofs.Common.{length, sym, ap, ◌∙◌}
use Rattle.trie_nodes.specs.Walks.{pairs_within}
use Rattle.table_words.specs.EndContents.{words_of}
use Rattle.table_words.proofs.Contained.{count_is}
use Rattle.table_words.proofs.ended.TableEnds.count.Goals as goal

pub returns : goal.returns
returns c =
    let ends = c.args.self.now in
    c.count_below.ensures ∙ ap (λ root. length (pairs_within (words_of ends) 8 root)) c.root.ensures.is ∙ sym (count_is ends.kinds (words_of ends) ends.maps c.args.map c.requires ends.seed ends.row)
