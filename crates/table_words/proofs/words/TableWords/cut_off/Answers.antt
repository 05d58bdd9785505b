use Rattle.table_words.proofs.Prunes.{may_cut_off}
use Rattle.table_words.proofs.words.TableWords.cut_off.Goals as goal

pub store-requires : goal.store-requires
store-requires c =
    let may = may_cut_off c.args.self.now c.args.seat.now.id c.args.seat.now.me c.slot_word.result c.history_laws.ensures c.trie_laws.ensures c.args.parent c.args.slot c.to_word.result c.requires.both c.requires.words c.slot_word.ensures c.to_word.ensures in
    (c.requires.table, may.0, may.1)
