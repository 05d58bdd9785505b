use Rattle.sync_model.specs.Log.{after}
use Rattle.rw_core.specs.RwMachine.{start, next}
use Rattle.rw_core.proofs.Runs.{MutexLaws, keeps, run-valid}
use Rattle.rw_core.proofs.Turns.{released_first}
use Rattle.rw_core.proofs.laws.announced_writer.Goals as goal

pub returns : goal.returns
returns c callers earlier between later second follows announced =
    let laws : MutexLaws = record { begins = c.validity.ensures.begins; goes_on = c.validity.ensures.goes_on } in
    released_first (keeps laws) (after next (start callers) earlier) between later second (run-valid laws callers earlier) announced (c.logs_go_on.ensures.apart (start callers) earlier _ follows).1
