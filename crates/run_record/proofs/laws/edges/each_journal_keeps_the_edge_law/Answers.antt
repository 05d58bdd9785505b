use Rattle.run_record.proofs.EdgeLemmas.{of_object}
use Rattle.run_record.proofs.laws.edges.each_journal_keeps_the_edge_law.Goals as goal

pub returns : goal.returns
returns c plan r object lawful = of_object plan r lawful object
