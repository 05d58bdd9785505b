use Rattle.std.proofs.Common.{sym, ap, ◌∙◌}
use Rattle.trie_nodes.specs.Nodes.{stands_for}
use Rattle.table_words.specs.EndContents.{words_of}
use Rattle.table_words.proofs.Contained.{value_is}
use Rattle.table_words.proofs.ended.TableEnds.value.Goals as goal

pub returns : goal.returns
returns c =
    let ends = c.args.self.now in
    c.find.ensures ∙ ap (λ root. stands_for (words_of ends) ends.seed 0 root c.args.key) c.root.ensures.is
    ∙ sym (value_is ends.kinds (words_of ends) ends.maps c.args.map c.requires ends.seed c.args.key c.ranges.key.fits ends.row)
