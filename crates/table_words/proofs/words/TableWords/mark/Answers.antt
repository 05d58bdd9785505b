use Rattle.table_words.proofs.Prunes.{may_mark}
use Rattle.table_words.proofs.words.TableWords.mark.Goals as goal

pub store-requires : goal.store-requires
store-requires c =
    let may = may_mark c.args.self.now c.args.seat.now.id c.args.seat.now.me c.lock_word.result c.history_laws.ensures c.args.node c.requires.both c.requires.words c.lock_word.ensures in
    (c.requires.table, may.0, may.1)
