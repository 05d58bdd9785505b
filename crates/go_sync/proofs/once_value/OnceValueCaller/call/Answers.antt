use Rattle.go_sync.proofs.Running.{may_run_so}
use Rattle.go_sync.proofs.once_value.OnceValueCaller.call.Goals as goal

pub kept-requires-clause-function : goal.kept-requires-clause-function
kept-requires-clause-function g c = λ runner run. c.requires runner (may_run_so _ _ _ runner c.ready.ensures.same run)
