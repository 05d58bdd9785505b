use Rattle.std.proofs.Common.{rules}
use Rattle.ruled_object.proofs.Looking.{copies}
use Rattle.ruled_object.proofs.object.Object.copy_of.Goals as goal

pub split_seat-requires : goal.split_seat-requires
split_seat-requires g c =
    let m = g.M.Machine in
    let n = g.N.Note in
    let seat = c.args.seat.now in
    (search rules, search rules, copies m.next m.HALTS m.frees m.takes n.front n.at g.M.Worded.tells g.M.Worded.means c.args.self.now.table.shared.key seat.id seat.me.0)
