use Rattle.std.proofs.Common.{◌≡◌, true}
use Rattle.ruled_object.specs.Growth.{KeepsNote}
use Rattle.ruled_object.specs.Passes.{own_by, start_of, IsPassOf, SamePass}
use Rattle.ruled_object.specs.Standing.{stand_by}
use Rattle.call_loop.proofs.SoFar.{SoFar}
use Rattle.call_loop.proofs.calls.go_on.Given as goal

abbrev pub invariant-loop : goal.invariant-loop
invariant-loop g l =
    let p = g.P.Protocol in
    let m = g.P.Machine in
    let front = g.N.Note.front in
    let start = start_of l.fn.object in
    ((goal.iterator-loop g).can_next l.iterator' × (goal.iterator-loop g).is_finite l.iterator')
    × IsPassOf l.fn.object l.pass
    × SamePass l.fn.pass l.pass
    × KeepsNote g.N.Note.at g.N.Note.own front l.fn.note l.note
    × (p.allows start (stand_by p.out p.stands (own_by l.pass)) l.due ≡ true)
    × SoFar m.next m.HALTS start p.event p.moment p.meaning (g.C.Clock.shows l.fn.at.clock.now) p.gives p.gains l.fn.stage l.fn.pass (front l.fn.note) l.due l.pass (front l.note)
