use Rattle.table_words.proofs.Joining.{may_copy}
use Rattle.table_words.proofs.words.TableWords.copy.Goals as goal

pub split_seat-requires : goal.split_seat-requires
split_seat-requires c = let may = may_copy c.args.self.now c.args.seat.now.id c.args.seat.now.me.0 c.requires.idle.0 c.requires.idle.1 in (c.requires.table, may.0, may.1)
