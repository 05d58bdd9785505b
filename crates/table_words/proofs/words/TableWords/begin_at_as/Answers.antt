use Rattle.table_words.proofs.CursorReads.{may_begin}
use Rattle.table_words.proofs.words.TableWords.begin_at_as.Goals as goal

pub load-requires : goal.load-requires
load-requires g c =
    let live = c.requires.live in
    let may = may_begin c.args.self.now c.history_laws.ensures c.sweep_laws.ensures c.args.seat.now.id c.args.seat.now.me c.args.map g.W.Way.map g.W.Timed.time c.root_word-word.result live.0 live.1 live.2 live.3 c.requires.map c.requires.told c.root_word-word.ensures in
    (c.requires.table, may.0, may.1)
