use Rattle.std.proofs.lemmas.Option.{slice_get-get_or}
use Rattle.go_sync.proofs.pool.new_pool.Goals as goal

pub returns-clause-passes : goal.returns-clause-passes
returns-clause-passes c = λ k d below. (c.in_ok-pool.ensures.passes.all.each k _ (slice_get-get_or _ k d below)).0
