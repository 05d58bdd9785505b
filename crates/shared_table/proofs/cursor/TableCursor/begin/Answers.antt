use Rattle.std.proofs.Common.{◌∙◌}
use Rattle.table_rule.specs.Walking.{told_at}
use Rattle.table_words.specs.Seats.{begin_of}
use Rattle.shared_table.proofs.Walks.{free_told}
use Rattle.shared_table.proofs.CursorBegins.{begins}
use Rattle.shared_table.proofs.cursor.TableCursor.begin.Goals as goal

pub returns-clause-begun : goal.returns-clause-begun
returns-clause-begun c =
    begins c.args.words.now (told_at c.args.time.time c.args.seat.now.me) c.begin_at-root.new.seat.me c.unmount.new.seat.me c.begin_at-root.result c.args.map (record { seat = c.unmount.result; place = c.first.result }) (free_told (begin_of c.args.words.now) c.args.seat.now.me c.args.time.time c.requires.free) c.begin_at-root.ensures.begun
    c.unmount.ensures.seats.0 c.unmount.ensures.seats.1 (c.unmount.ensures.table.1 ∙ c.begin_at-root.ensures.table ∙ c.requires.table) c.first.ensures.nodes c.first.ensures.slots
