use Rattle.sync_model.proofs.Journals.{edge_on}
use Rattle.sync_model.proofs.laws.journals.edges_lead_to_later_entries.Goals as goal

pub returns : goal.returns
returns g c = edge_on g.M.Machine.frees g.M.Machine.takes
