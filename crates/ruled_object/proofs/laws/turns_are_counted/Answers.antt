use Rattle.std.proofs.Common.{arith}
use Rattle.ruled_object.proofs.Counting.{tells_none, tells_one}
use Rattle.ruled_object.proofs.laws.turns_are_counted.Goals as goal

pub returns-clause-free : goal.returns-clause-free
returns-clause-free g c begin now turns kept have without =
    let m = g.M.Machine in
    let n = g.N.Note in
    tells_none m.next m.HALTS m.frees m.takes n.front n.at g.M.Worded.tells g.M.Worded.means begin now turns kept have without

pub returns-clause-out : goal.returns-clause-out
returns-clause-out g c begin now turns kept have out =
    let m = g.M.Machine in
    let n = g.N.Note in
    tells_one m.next m.HALTS m.frees m.takes n.front n.at g.M.Worded.tells g.M.Worded.means begin now turns kept have out

pub returns-clause-counted : goal.returns-clause-counted
returns-clause-counted g c begin before now turns kept have without kept_now have_now out more =
    let was = returns-clause-free g c begin before turns kept have without in
    let is = returns-clause-out g c begin now turns kept_now have_now out in
    absurd (omega arith)
