use Rattle.std.proofs.Common.{◌≡◌, ℕ, ◌<◌, map, Some, slice_get}
use Rattle.sync_model.specs.Front.{AtLeast}
use Rattle.run_check.specs.declared.fronts.Known.{Known}
use Rattle.run_check.proofs.fronts.are_made.Given as goal

abbrev pub invariant-loop-one : goal.invariant-loop-one
invariant-loop-one l = (worker : ℕ) (one : Known) → worker < l.one-index → slice_get l.known worker ≡ Some one → AtLeast (map (λ (k : Known). k.calls) l.known) one.front.now
