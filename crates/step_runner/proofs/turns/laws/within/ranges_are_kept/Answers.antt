use Rattle.step_runner.specs.AtomicRange.{IsInRange}
use Rattle.step_runner.specs.Objects.{EachAt}
use Rattle.step_runner.proofs.WithinLemmas.{keeps}
use Rattle.step_runner.proofs.turns.laws.within.ranges_are_kept.Goals as goal

pub returns : goal.returns
returns c workers worker moment begun call objects ready =
    keeps c.turns_keep_kinds_and_machines.ensures.ready workers worker moment (EachAt (λ place. IsInRange)) (λ call objects r. c.numbers_stay_in_range.ensures.goes_on workers worker moment call objects r) call begun objects ready
