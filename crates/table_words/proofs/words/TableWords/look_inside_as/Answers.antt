use Rattle.table_words.proofs.Clears.{may_look_inside}
use Rattle.table_words.proofs.words.TableWords.look_inside_as.Goals as goal

pub load-requires : goal.load-requires
load-requires g c = let may = may_look_inside c.args.self.now c.args.seat.now.id c.args.seat.now.me c.gate_word-word.result c.history_laws.ensures c.args.map g.W.Way.map c.requires.closed c.requires.map c.requires.told c.gate_word-word.ensures in (c.requires.table, may.0, may.1)
