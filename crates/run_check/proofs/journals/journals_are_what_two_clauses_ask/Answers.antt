use Rattle.run_check.proofs.JournalClauses.{machine_is_two, numbers_are_journals}
use Rattle.run_check.proofs.journals.journals_are_what_two_clauses_ask.Goals as goal

pub returns-clause-numbers : goal.returns-clause-numbers
returns-clause-numbers c = numbers_are_journals

pub returns-clause-machine : goal.returns-clause-machine
returns-clause-machine c claim account entries are =
    machine_is_two (record { declared = c.follows_without_fronts.ensures.declared; part = c.follows_without_fronts.ensures.part; starts = c.follows_without_fronts.ensures.starts }) claim account entries are

pub returns-clause-edge : goal.returns-clause-edge
returns-clause-edge c claim account = (λ has. has, λ keep. keep)
