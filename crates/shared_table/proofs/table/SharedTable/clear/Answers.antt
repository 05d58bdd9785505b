use Rattle.table_words.specs.Seats.{begin_of}
use Rattle.table_rule.specs.Walking.{told_at}
use Rattle.shared_table.proofs.MapCalls.{clears_between}
use Rattle.shared_table.proofs.Walks.{free_told}
use Rattle.shared_table.proofs.table.SharedTable.clear.Goals as goal

pub returns-clause-made : goal.returns-clause-made
returns-clause-made g c =
    clears_between (begin_of c.args.self.now.words) c.args.map (told_at c.args.time.time c.args.seat.now.me) c.close.new.seat.me c.wait_alone.new.seat.me c.replace_root.new.seat.me c.open.new.seat.me (free_told (begin_of c.args.self.now.words) c.args.seat.now.me c.args.time.time c.requires.free) c.close.ensures.closed c.wait_alone.ensures.alone c.replace_root.ensures.cleared c.open.ensures.opened
