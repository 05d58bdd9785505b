use Rattle.table_words.proofs.CursorReads.{may_sweep}
use Rattle.table_words.proofs.words.TableWords.sweep.Goals as goal

pub load-requires : goal.load-requires
load-requires c =
    let cursor = c.requires.cursor in
    let may = may_sweep c.args.self.now c.history_laws.ensures c.sweep_laws.ensures c.args.seat.now.id c.args.seat.now.me cursor.0 c.args.node c.args.slot c.slot_word.result cursor.1 cursor.2 c.requires.words c.requires.slot c.slot_word.ensures in
    (c.requires.table, may.0, may.1)
