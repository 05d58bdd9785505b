use Rattle.table_words.proofs.Reading.{may_enter}
use Rattle.table_words.proofs.words.TableWords.enter_as.Goals as goal

pub load-requires : goal.load-requires
load-requires g c = let may = may_enter c.args.self.now c.args.seat.now.id c.args.seat.now.me c.root_word-word.result c.args.map g.W.Way.map g.W.Way.key g.W.Timed.time c.requires.may c.requires.map c.requires.told.1 c.requires.told.0 c.root_word-word.ensures in (c.requires.table, may.0, may.1)
