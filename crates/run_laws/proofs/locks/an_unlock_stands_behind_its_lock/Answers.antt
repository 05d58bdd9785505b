use Rattle.run_laws.proofs.LockTurns.{before_unlock, before_lock, no_try, once_more}
use Rattle.run_laws.proofs.locks.an_unlock_stands_behind_its_lock.Goals as goal

pub returns-clause-unlock : goal.returns-clause-unlock
returns-clause-unlock c place earlier later call keeps unlocks = before_unlock place earlier later call keeps unlocks

pub returns-clause-lock : goal.returns-clause-lock
returns-clause-lock c place earlier later call keeps locks = before_lock place earlier later call keeps locks

pub returns-clause-tries_none : goal.returns-clause-tries_none
returns-clause-tries_none c place earlier later call keeps on tries = no_try place earlier later call keeps on tries

pub returns-clause-again : goal.returns-clause-again
returns-clause-again c place between later first last locks none unlocks = once_more place between later first last locks none unlocks
