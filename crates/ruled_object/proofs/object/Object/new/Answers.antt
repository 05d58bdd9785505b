use Rattle.ruled_object.proofs.Steps.{opens}
use Rattle.ruled_object.proofs.object.Object.new.Goals as goal

pub vacant-requires : goal.vacant-requires
vacant-requires g c =
    let m = g.M.Machine in
    let n = g.N.Note in
    opens m.next m.HALTS m.frees m.takes n.front n.at g.M.Worded.tells g.M.Worded.means record { state = c.args.start; note = c.args.note; callers = c.args.callers } c.requires.callers.0
