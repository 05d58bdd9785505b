use Rattle.sync_model.specs.Log.{after}
use Rattle.rw_core.specs.RwMachine.{start, next}
use Rattle.rw_core.proofs.Runs.{MutexLaws, keeps, run-valid}
use Rattle.rw_core.proofs.Turns.{after_writer, after_reader, readers_first}
use Rattle.rw_core.proofs.laws.exclusion.Goals as goal

pub returns-clause-after_writer : goal.returns-clause-after_writer
returns-clause-after_writer c callers earlier between later first second follows =
    let laws : MutexLaws = record { begins = c.validity.ensures.begins; goes_on = c.validity.ensures.goes_on } in
    after_writer (keeps laws) (after next (start callers) earlier) between later first second (run-valid laws callers earlier) (c.logs_go_on.ensures.apart (start callers) earlier _ follows).1

pub returns-clause-after_reader : goal.returns-clause-after_reader
returns-clause-after_reader c callers earlier between later first second follows =
    let laws : MutexLaws = record { begins = c.validity.ensures.begins; goes_on = c.validity.ensures.goes_on } in
    after_reader (keeps laws) (after next (start callers) earlier) between later first second (run-valid laws callers earlier) (c.logs_go_on.ensures.apart (start callers) earlier _ follows).1

pub returns-clause-beside_readers : goal.returns-clause-beside_readers
returns-clause-beside_readers c callers earlier between later second follows =
    let laws : MutexLaws = record { begins = c.validity.ensures.begins; goes_on = c.validity.ensures.goes_on } in
    readers_first (keeps laws) (after next (start callers) earlier) between later second (run-valid laws callers earlier) (c.logs_go_on.ensures.apart (start callers) earlier _ follows).1
