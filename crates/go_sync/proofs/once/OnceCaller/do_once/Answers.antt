use Rattle.go_sync.proofs.Running.{begun_so}
use Rattle.go_sync.proofs.once.OnceCaller.do_once.Goals as goal

pub do_once-requires-clause-function : goal.do_once-requires-clause-function
do_once-requires-clause-function g c = λ runner begun. c.requires runner (begun_so _ _ _ runner _ c.ready.ensures.same c.new.ensures begun)
