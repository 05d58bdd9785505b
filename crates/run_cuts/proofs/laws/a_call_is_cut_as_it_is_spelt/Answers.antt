use Rattle.run_cuts.proofs.CallCut.{call_cuts, calls_cut}
use Rattle.run_cuts.proofs.laws.a_call_is_cut_as_it_is_spelt.Goals as goal

pub returns-clause-told : goal.returns-clause-told
returns-clause-told c plan worker before call told = call_cuts plan worker before call told

pub returns-clause-each : goal.returns-clause-each
returns-clause-each c plan worker = calls_cut plan worker
