use Rattle.table_words.proofs.Clears.{may_clear}
use Rattle.table_words.proofs.words.TableWords.replace_root_as.Goals as goal

pub store-requires : goal.store-requires
store-requires g c = let may = may_clear c.args.self.now c.args.seat.now.id c.args.seat.now.me c.root_word-word.result c.history_laws.ensures c.args.map g.W.Way.map c.args.next c.requires.closed c.requires.unit c.requires.map c.requires.told c.root_word-word.ensures in (c.requires.table, may.0, may.1)
