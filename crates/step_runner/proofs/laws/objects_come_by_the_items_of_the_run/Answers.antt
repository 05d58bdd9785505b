use Rattle.step_runner.proofs.RunLogs.{Leads, run_leads, ends_lead}
use Rattle.step_runner.proofs.laws.objects_come_by_the_items_of_the_run.Goals as goal

abbrev leads : goal.After-items_lead_on → Leads
leads c = record {
  turn = λ workers worker moment place begun call objects old new ready at there. c.items_lead_on.ensures workers worker moment place begun call objects old new ready at there;
  nowhere = c.items_lead_from_turn_to_turn.ensures.nowhere;
  on = c.items_lead_from_turn_to_turn.ensures.on;
}

pub returns-clause-always : goal.returns-clause-always
returns-clause-always c plan items valid place line object at there = run_leads (leads c) plan (c.validity.ensures.goes_on plan) (c.validity.ensures.begins plan valid) items place line object at there

pub returns-clause-ends : goal.returns-clause-ends
returns-clause-ends c plan report valid done = ends_lead (leads c) plan (c.validity.ensures.goes_on plan) (c.validity.ensures.begins plan valid) report done
