use Rattle.std.proofs.Common.{rules}
use Rattle.ruled_object.proofs.Steps.{deals}
use Rattle.ruled_object.proofs.object.Object.deal.Goals as goal

pub split_seat-requires : goal.split_seat-requires
split_seat-requires g c =
    let m = g.M.Machine in
    let n = g.N.Note in
    let seat = c.args.all.now in
    (search rules, search rules, deals m.next m.HALTS m.frees m.takes n.front n.at g.M.Worded.tells g.M.Worded.means c.args.self.now.table.shared.key seat.id seat.me.0 c.requires.idle c.requires.some)
