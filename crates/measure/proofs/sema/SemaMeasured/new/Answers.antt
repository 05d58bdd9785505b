use Rattle.std.proofs.Common.{◌≤◌, sym, subst}
use Rattle.std.proofs.lemmas.Option.{slice_get-get_or}
use Rattle.sema_core.specs.SemaMachine.{SemaState}
use Rattle.measure.proofs.sema.SemaMeasured.new.Goals as goal

pub returns : goal.returns
returns g c = λ k d below. (
  (c.in_ok-sema.ensures.passes.all.each k _ (slice_get-get_or c.in_ok-sema.passes.items k d below)).0,
  subst (λ (start : SemaState). 1 ≤ start.size) (sym c.in_ok-sema.ensures.sema.1) c.room_of-size.ensures.0,
)
