use Rattle.sync_model.proofs.Journals.{answered, refused}
use Rattle.sync_model.proofs.laws.journals.a_halt_refuses_events.Goals as goal

pub returns-clause-answered : goal.returns-clause-answered
returns-clause-answered g c = answered g.M.Machine.next g.M.Machine.HALTS

pub returns-clause-refused : goal.returns-clause-refused
returns-clause-refused g c = refused g.M.Machine.next g.M.Machine.HALTS
