use Rattle.step_runner.specs.Objects.{IsMachineOf, EachAt}
use Rattle.step_runner.proofs.WithinLemmas.{keeps, kinds_kept}
use Rattle.step_runner.proofs.turns.laws.within.kinds_and_machines_are_kept.Goals as goal

pub returns-clause-kinds : goal.returns-clause-kinds
returns-clause-kinds c workers worker moment begun call objects ready =
    kinds_kept c.turns_keep_kinds_and_machines.ensures.ready c.turns_keep_kinds_and_machines.ensures.kinds workers worker moment begun call objects ready

pub returns-clause-machines : goal.returns-clause-machines
returns-clause-machines c workers worker moment begun call objects ready =
    keeps c.turns_keep_kinds_and_machines.ensures.ready workers worker moment (EachAt (λ place. IsMachineOf workers)) (λ call objects r. c.turns_keep_kinds_and_machines.ensures.machines workers worker moment call objects r) call begun objects ready
