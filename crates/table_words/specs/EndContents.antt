-- What contracts see of a table that has ended.
use Rattle.std.specs.Prelude.{ℕ, List}
use Rattle.std.specs.Mem.Slots.{slots_items}
use Rattle.sync_model.specs.SharedHistory.{Contents}
use Rattle.table_words.specs.declared.ended.TableEnds.{TableEnds}
use Rattle.table_words.specs.EndWords.{contents_in}

abbrev pub words_of : TableEnds → List ℕ
words_of ends = slots_items ends.closed.words

-- what its maps and atomics contain
abbrev pub contents_of : TableEnds → Contents
contents_of ends = contents_in ends.kinds (words_of ends) ends.maps
