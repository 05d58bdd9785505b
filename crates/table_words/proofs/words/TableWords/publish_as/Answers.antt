use Rattle.table_words.proofs.Slots.{may_publish}
use Rattle.table_words.proofs.words.TableWords.publish_as.Goals as goal

pub store-requires : goal.store-requires
store-requires g c =
    let may = may_publish c.args.self.now c.args.seat.now.id c.args.seat.now.me c.slot_word-word.result c.history_laws.ensures c.trie_laws.ensures g.C.Making.call g.C.Making.map c.args.key c.args.node c.args.level c.nibble.result c.args.new c.requires.may c.requires.words
    c.nibble.ensures.is c.nibble.ensures.slot c.slot_word-word.ensures in
    (c.requires.table, may.0, may.1)
