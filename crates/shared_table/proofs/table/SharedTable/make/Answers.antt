use Rattle.std.proofs.Common.{◌∙◌}
use Rattle.table_words.specs.Seats.{begin_of}
use Rattle.table_rule.specs.Walking.{told_at}
use Rattle.shared_table.proofs.MapCalls.{made_between}
use Rattle.shared_table.proofs.Walks.{free_told}
use Rattle.shared_table.proofs.table.SharedTable.make.Goals as goal

pub returns-clause-made : goal.returns-clause-made
returns-clause-made g c =
    let made = c.make_inside-made.ensures.made in (
      c.go_out.ensures.out.0 ∙ made.0 ∙ c.come_in.ensures.inside.0,
      made_between (begin_of c.args.self.now.words) c.args.map c.args.call c.make_inside-made.result.reply c.make_inside-made.result.words (told_at c.args.time.time c.args.seat.now.me) c.come_in.new.seat.me.0 c.make_inside-made.new.seat.me.0 c.go_out.new.seat.me.0 (free_told (begin_of c.args.self.now.words) c.args.seat.now.me c.args.time.time c.requires.free.0) c.come_in.ensures.inside.1 made.1 c.go_out.ensures.out.1,
    )
