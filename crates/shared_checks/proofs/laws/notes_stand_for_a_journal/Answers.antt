use Rattle.shared_checks.proofs.NotedJournals.{noted, from_notes}
use Rattle.shared_checks.proofs.laws.notes_stand_for_a_journal.Goals as goal

pub returns : goal.returns
returns g c = λ frees takes journal notes are. (noted frees takes journal notes are, from_notes frees takes journal notes are)
