use Rattle.go_pool.proofs.Looking.{AreLooks}
use Rattle.go_pool.proofs.Rounds.{AtRound}
use Rattle.go_pool.proofs.pool.Pool.get.Given as goal

abbrev pub invariant-loop-number : goal.invariant-loop-number
invariant-loop-number g l = AtRound g.N.Note.at g.N.Note.own g.N.Note.front l.self (AreLooks l.self l.fn.pass l.number) l.fn.pass l.fn.note l.pass l.note
