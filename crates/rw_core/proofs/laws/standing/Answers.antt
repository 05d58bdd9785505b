use Rattle.rw_core.proofs.Answers.{answers}
use Rattle.rw_core.proofs.Runs.{MutexLaws}
use Rattle.rw_core.proofs.Standing.{stands, waits}
use Rattle.rw_core.proofs.laws.standing.Goals as goal

pub returns-clause-answered : goal.returns-clause-answered
returns-clause-answered c = answers

pub returns-clause-out : goal.returns-clause-out
returns-clause-out c callers log caller follows is =
    let laws : MutexLaws = record { begins = c.validity.ensures.begins; goes_on = c.validity.ensures.goes_on } in
    stands laws callers log caller follows is

pub returns-clause-waits : goal.returns-clause-waits
returns-clause-waits c callers log caller follows is =
    let laws : MutexLaws = record { begins = c.validity.ensures.begins; goes_on = c.validity.ensures.goes_on } in
    waits laws callers log caller follows is
