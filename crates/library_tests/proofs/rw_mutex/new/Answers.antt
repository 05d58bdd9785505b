use Rattle.std.proofs.lemmas.Option.{slice_get-get_or}
use Rattle.library_tests.proofs.rw_mutex.new.Goals as goal

pub returns : goal.returns
returns c = λ k d below. (c.in_ok-lock.ensures.passes.all.each k _ (slice_get-get_or _ k d below)).0
