use Rattle.table_words.proofs.Clears.{may_open}
use Rattle.table_words.proofs.words.TableWords.open.Goals as goal

pub store-requires : goal.store-requires
store-requires c = let may = may_open c.args.self.now c.args.seat.now.id c.args.seat.now.me c.gate_word-word.result c.history_laws.ensures c.args.map c.requires.closed c.requires.map c.gate_word-word.ensures in (c.requires.table, may.0, may.1)
