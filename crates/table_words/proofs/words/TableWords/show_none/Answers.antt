use Rattle.table_words.proofs.CursorReads.{may_show_none}
use Rattle.table_words.proofs.words.TableWords.show_none.Goals as goal

pub load-requires : goal.load-requires
load-requires c =
    let cursor = c.requires.cursor in
    let may = may_show_none c.args.self.now c.history_laws.ensures c.sweep_laws.ensures c.args.seat.now.id c.args.seat.now.me cursor.0 cursor.1 cursor.2 in
    (c.requires.table, may.0, may.1)
