use Rattle.std.proofs.Common.{◌≡◌, vec_len}
use Rattle.table_rule.specs.Layout.{size_of}
use Rattle.table_words.proofs.FirstWords.{HasRoots}
use Rattle.table_words.proofs.new.first_words.Given as goal

abbrev pub invariant-loop-map : goal.invariant-loop-map
invariant-loop-map l = record {
  wide : vec_len l.words ≡ size_of l.begin;
  roots : HasRoots l.begin l.map l.words.items;
}
