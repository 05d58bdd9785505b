use Rattle.go_pool.proofs.Rounds.{AtRound}
use Rattle.go_pool.proofs.Sweeping.{AreSwept}
use Rattle.go_pool.proofs.pool.Pool.sweep.Given as goal

abbrev pub invariant-loop-part : goal.invariant-loop-part
invariant-loop-part g l = AtRound g.N.Note.at g.N.Note.own g.N.Note.front l.self (AreSwept l.self l.part) l.fn.pass l.fn.note l.pass l.note
