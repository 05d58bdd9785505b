use Rattle.record_clauses.proofs.FrontsAside.{seen, unseen}
use Rattle.record_clauses.proofs.laws.a_machine_sees_no_fronts.Goals as goal

pub returns : goal.returns
returns g c = λ event reply start journal.
    (seen event reply g.M.Machine.next start g.M.Machine.frees g.M.Machine.takes journal, unseen event reply g.M.Machine.next start g.M.Machine.frees g.M.Machine.takes journal)
