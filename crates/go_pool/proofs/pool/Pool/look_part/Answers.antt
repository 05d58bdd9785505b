use Rattle.go_pool.proofs.Looking.{look_about}
use Rattle.go_pool.proofs.pool.Pool.look_part.Goals as goal

pub returns-clause-about : goal.returns-clause-about
returns-clause-about g c = look_about c.args.self.now.callers c.args.caller c.args.number c.requires.caller
