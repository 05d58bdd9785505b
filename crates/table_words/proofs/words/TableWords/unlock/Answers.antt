use Rattle.table_words.proofs.Writes.{may_unlock}
use Rattle.table_words.proofs.words.TableWords.unlock.Goals as goal

pub store-requires : goal.store-requires
store-requires c =
    let may = may_unlock c.args.self.now c.args.seat.now.id c.args.seat.now.me c.lock_word.result c.history_laws.ensures c.args.node c.requires.lock c.requires.words c.lock_word.ensures in
    (c.requires.table, may.0, may.1)
