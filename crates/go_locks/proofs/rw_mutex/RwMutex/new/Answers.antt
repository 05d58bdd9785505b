use Rattle.go_locks.proofs.rw_mutex.RwMutex.new.Goals as goal

pub returns-clause-passes : goal.returns-clause-passes
returns-clause-passes g c = let new = c.in_ok-object.ensures.passes in record { all = new.all; each = λ i pass at. (new.left i pass at, new.seen i pass at, new.own i pass at) }
