use Rattle.std.proofs.Common.{length, ap, ◌∙◌}
use Rattle.ruled_object.proofs.Holding.{one_held, shows_after}
use Rattle.ruled_object.proofs.object.Object.word.Goals as goal

pub returns-clause-journal : goal.returns-clause-journal
returns-clause-journal g c =
    let m = g.M.Machine in
    let n = g.N.Note in
    let pass = c.args.pass.now in
    let found = c.look.ensures.looked in
    let me = pass.seat.me in
    let shows = shows_after m.next m.HALTS m.frees m.takes n.front n.at g.M.Worded.tells g.M.Worded.means c.args.self.now.table.shared.key record { number = pass.number; left = pass.left; turns = pass.turns; seat = c.look.new.seat } me.0 me.1 found.0 found.1 c.requires.pass.number found.2 in
    record { own = shows.own _ (one_held c.look.new.seat.me.0.owns (ap (λ x. length x.0.owns) found.1 ∙ c.requires.pass.one)); follows = shows.follows; edges = shows.edges; times = shows.times }
