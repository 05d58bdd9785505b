use Rattle.table_words.proofs.Joining.{may_deal}
use Rattle.table_words.proofs.words.TableWords.deal.Goals as goal

pub split_seat-requires : goal.split_seat-requires
split_seat-requires c = let seat = c.args.all.now in let may = may_deal c.args.self.now seat.id seat.me.0 c.requires.idle.0 c.requires.idle.1 c.requires.some in (c.requires.table, may.0, may.1)
