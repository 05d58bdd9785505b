use Rattle.wait_cores.proofs.OnceLemmas.{returns_what_is_kept}
use Rattle.wait_cores.proofs.laws.once.returns_what_is_kept.Goals as goal

pub returns : goal.returns
returns g c = returns_what_is_kept c.logs_go_on.ensures.apart
