use Rattle.std.proofs.Common.{◌≡◌, ◌<◌, ◌^◌, length, slice_index, sym, ap, ◌∙◌, subst, arith}
use Rattle.trie_nodes.specs.Layout.{root_word}
use Rattle.table_words.specs.EndContents.{words_of}
use Rattle.table_words.proofs.Contained.{root_small}
use Rattle.table_words.proofs.ended.TableEnds.root.Goals as goal

pub returns : goal.returns
returns c =
    let ends = c.args.self.now in
    let few = ends.few in
    let long = c.len.ensures in
    let word = c.root_word.ensures in
    let at : c.root_word.result ≡ root_word (length ends.kinds) c.args.map = omega arith in
    let is = c.word.ensures ∙ ap (slice_index (words_of ends)) at in
    record { is = is; place = subst (λ n. n < 2 ^ 63) (sym is) (root_small ends.kinds (words_of ends) ends.maps c.args.map c.requires ends.seed ends.row) }
