use Rattle.table_words.proofs.CursorReads.{may_rise}
use Rattle.table_words.proofs.words.TableWords.rise.Goals as goal

pub load-requires : goal.load-requires
load-requires c =
    let cursor = c.requires.cursor in
    let may = may_rise c.args.self.now c.history_laws.ensures c.sweep_laws.ensures c.args.seat.now.id c.args.seat.now.me cursor.0 cursor.4 cursor.1 cursor.2 cursor.3 cursor.5 cursor.6 cursor.7 in
    (c.requires.table, may.0, may.1)
