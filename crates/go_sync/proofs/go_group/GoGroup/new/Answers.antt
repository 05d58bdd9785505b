use Rattle.std.proofs.lemmas.Option.{slice_get-get_or}
use Rattle.go_sync.proofs.go_group.GoGroup.new.Goals as goal

pub returns-clause-workers : goal.returns-clause-workers
returns-clause-workers c = λ k d below. (c.in_ok-starts.ensures.passes.all.each k _ (slice_get-get_or _ k d below)).0
