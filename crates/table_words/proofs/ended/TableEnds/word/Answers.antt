use Rattle.std.specs.Mem.Slots.{slots_items}
use Rattle.table_words.proofs.Readings.{word_at}
use Rattle.table_words.proofs.ended.TableEnds.word.Goals as goal

pub returns-then-index-len : goal.returns-then-index-len
returns-then-index-len c = word_at (slots_items c.args.self.now.closed.words) c.args.index c.word.result c.word.ensures
