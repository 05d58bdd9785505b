use Rattle.std.proofs.Common.{List, [], ◌++◌, get_or, sym, ap, ◌∙◌, append_assoc}
use Rattle.std.specs.Prelude.{Ok}
use Rattle.sync_model.specs.declared.answer.Answer.TheVariants.{Done}
use Rattle.script_calls.specs.declared.call.Operation.TheVariants as operations
use Rattle.workload.specs.declared.object.ObjectKind.TheVariants as kinds
use Rattle.workload.specs.Keys.{keys_in, key_number}
use Rattle.run_record.specs.declared.made.Made.{Made}
use Rattle.run_record.specs.Lines.{items_of}
use Rattle.run_record.specs.Objects.{atomic_number}
use Rattle.run_record.specs.Record.{object_number}
use Rattle.run_record.proofs.CondWaits.{spelt_at}
use Rattle.run_record.proofs.FlightFinds.{FlightLaws, flies_once}
use Rattle.run_record.proofs.FlightReturns.{flight_returns}
use Rattle.run_record.proofs.Having.{get_at}
use Rattle.run_record.proofs.Returning.{spelt_on}
use Rattle.run_record.proofs.laws.flights.each_fly_is_of_one_flight.Goals as goal

pub returns : goal.returns
returns c plan r outcome lines worker i atomic amount key line fly object are lawful at_line at_fly some kind is_fly =
    let laws : FlightLaws = record {
      logs = λ s journal is. (c.journal_is_log.ensures s journal is).0;
      apart = c.logs_go_on.ensures.apart;
      gives = c.calls_give_what_they_may.ensures;
      joined = c.joins_one_flight.ensures.joined;
      alone = c.joins_one_flight.ensures.alone;
      tells = c.tells_whether_it_was_shared.ensures.joined;
    } in
    let s = spelt_at plan worker 0 line.spelt i fly (are.each worker line at_line).calls at_fly in
    let list = sym (ap (λ (lists : List (List Made)). get_or lists worker []) are.lists) ∙ get_at items_of [] lines worker line at_line in
    let behind = line.last ++ line.halts in
    let own = ap (λ (l : List Made). l ++ behind) s.are ∙ (append_assoc s.front (fly.items ++ s.rest) behind ∙ ap (λ (l : List Made). s.front ++ l) (append_assoc fly.items s.rest behind)) in
    let parts = list ∙ (ap (λ (l : List Made). line.first ++ l) own ∙ sym (append_assoc line.first s.front (fly.items ++ (s.rest ++ behind)))) in
    let number = key_number (keys_in plan.scripts) key in
    flies_once laws plan r lawful fly.call.object atomic amount object some kind outcome lines are worker number (line.first ++ s.front) (s.rest ++ behind) fly.items fly.reply parts
    (flight_returns (object_number fly.call.object) number c.calls_give_what_they_may.ensures (atomic_number plan.objects atomic) amount fly.items fly.reply
    (spelt_on plan worker s.before object fly.call (kinds.Flight atomic amount) (operations.Fly key) fly.items (Done (Ok fly.reply)) some kind is_fly s.spells))
