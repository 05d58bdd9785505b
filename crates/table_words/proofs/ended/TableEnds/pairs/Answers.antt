use Rattle.std.proofs.Common.{◌<◌, ◌^◌, ◌++◌, ℕ, List, length, sym, ap, ◌∙◌, subst, arith}
use Rattle.std.specs.Prelude.{All}
use Rattle.std.specs.List.Sorted.{IsPermutation}
use Rattle.trie_nodes.specs.Walks.{pairs_within}
use Rattle.table_words.specs.EndContents.{words_of}
use Rattle.table_words.proofs.Contained.{keys_small, count_is, sorted_is}
use Rattle.table_words.proofs.ended.TableEnds.pairs.Goals as goal

pub push_below-requires-clause-keys : goal.push_below-requires-clause-keys
push_below-requires-clause-keys c = subst (λ root. All (λ (pair : ℕ × ℕ). pair.0 < 2 ^ 32) (pairs_within (words_of c.args.self.now) 8 root)) (sym c.root.ensures.is) (keys_small c.args.self.now.kinds (words_of c.args.self.now) c.args.self.now.maps c.args.map c.requires.map c.args.self.now.seed c.args.self.now.row)

pub push_below-requires-clause-room : goal.push_below-requires-clause-room
push_below-requires-clause-room c =
    let ends = c.args.self.now in
    let there = ap (λ root. length (pairs_within (words_of ends) 8 root)) c.root.ensures.is ∙ sym (count_is ends.kinds (words_of ends) ends.maps c.args.map c.requires.map ends.seed ends.row) in
    let room = c.requires.room in
    let none = c.clear.ensures.len in
    let same = c.clear.ensures.capacity in
    omega arith

pub returns-clause-pairs : goal.returns-clause-pairs
returns-clause-pairs c =
    let ends = c.args.self.now in
    let all = c.push_below.ensures.pairs ∙ ap (λ (l : List (ℕ × ℕ)). l ++ pairs_within (words_of ends) 8 c.root.result) c.clear.ensures.items ∙ ap (pairs_within (words_of ends) 8) c.root.ensures.is in
    sorted_is ends.kinds (words_of ends) ends.maps c.args.map c.requires.map ends.seed c.sort_by_key.new.pairs.items ends.row (subst (λ l. IsPermutation l c.sort_by_key.new.pairs.items) all c.sort_by_key.ensures.same) c.sort_by_key.ensures.rise
