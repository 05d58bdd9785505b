use Rattle.std.proofs.Common.{ap}
use Rattle.sync_model.specs.Journal.{is_such}
use Rattle.run_record.specs.Edges.{frees, takes}
use Rattle.run_record.specs.Record.{object_number}
use Rattle.run_record.proofs.EdgeLemmas.{of_object}
use Rattle.run_record.proofs.laws.flights.a_landing_makes_known.Goals as goal

pub returns-clause-left : goal.returns-clause-left
returns-clause-left c plan r place m n value other shared landing leaving lawful before at_landing at_leaving is_landing is_leaving =
    of_object plan r lawful (object_number place) m n landing leaving before at_landing at_leaving (ap (is_such frees) is_landing) (ap (is_such takes) is_leaving)

pub returns-clause-led : goal.returns-clause-led
returns-clause-led c plan r place m n key value shared landing lead lawful before at_landing at_lead is_landing is_lead =
    of_object plan r lawful (object_number place) m n landing lead before at_landing at_lead (ap (is_such frees) is_landing) (ap (is_such takes) is_lead)
