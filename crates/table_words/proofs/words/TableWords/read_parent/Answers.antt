use Rattle.table_words.proofs.Prunes.{may_read_parent}
use Rattle.table_words.proofs.words.TableWords.read_parent.Goals as goal

pub load-requires : goal.load-requires
load-requires c =
    let may = may_read_parent c.args.self.now c.args.seat.now.id c.args.seat.now.me c.parent_word.result c.history_laws.ensures c.args.node c.requires.lock c.requires.words c.parent_word.ensures in
    (c.requires.table, may.0, may.1)
