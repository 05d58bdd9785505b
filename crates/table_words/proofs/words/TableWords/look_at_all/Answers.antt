use Rattle.table_words.proofs.Joining.{some_word, may_look}
use Rattle.table_words.proofs.words.TableWords.look_at_all.Goals as goal

pub load-requires : goal.load-requires
load-requires c = let seat = c.args.seat.now in (c.requires.table, some_word c.args.self.now, may_look c.args.self.now seat.id seat.me c.history_laws.ensures c.requires.live.0 c.requires.live.1)
