use Rattle.std.proofs.Common.{List, [], ◌++◌, get_or, Option, sym, ap, ◌∙◌, subst, append_assoc}
use Rattle.std.specs.Prelude.{Ok}
use Rattle.sync_model.specs.declared.answer.Answer.TheVariants.{Done}
use Rattle.script_calls.specs.declared.call.Operation.{Operation}
use Rattle.workload.specs.declared.object.ObjectKind.{ObjectKind}
use Rattle.workload.specs.declared.object.ObjectKind.TheVariants as kinds
use Rattle.workload.specs.declared.object.ObjectLine.{ObjectLine}
use Rattle.run_record.specs.declared.made.Made.{Made}
use Rattle.run_record.specs.declared.made.Made.TheVariants.{Entered}
use Rattle.run_record.specs.Calls.{call_at, call_on}
use Rattle.run_record.specs.Lines.{items_of}
use Rattle.run_record.specs.Record.{object_number}
use Rattle.run_record.proofs.CondWaits.{of_wait, within, spelt_at}
use Rattle.run_record.proofs.Having.{get_at}
use Rattle.run_record.proofs.laws.waits.a_wait_that_returned_was_notified.Goals as goal

pub returns-clause-in_a_list : goal.returns-clause-in_a_list
returns-clause-in_a_list c plan r worker before mutex object call given items earlier later lawful some kind is_wait parts spelt =
    let found = subst (λ (o : Option ObjectLine). call_at plan worker before call.object o call.operation items (Done (Ok given))) some spelt in
    let of_kind = subst (λ (k : ObjectKind). call_on plan worker before call.object k call.operation items (Done (Ok given))) kind found in
    let wait = subst (λ (o : Operation). call_on plan worker before call.object (kinds.Cond mutex) o items (Done (Ok given))) is_wait of_kind in
    let place = object_number call.object in
    let w = of_wait place (object_number mutex) items given wait in
    let stands = c.a_list_keeps_the_order_of_its_journals.ensures plan r worker place w.ticket w.leaving earlier w.between (w.later ++ later) lawful
    (parts ∙ within earlier w.between w.later later items (Entered place w.ticket) (Entered place w.leaving) w.are) in
    let notified = c.whoever_leaves_a_cond_was_notified.ensures.notified plan r call.object mutex stands.0 stands.1 object w.ticket w.leaving lawful some kind stands.2 stands.3 stands.4 w.takes w.leaves (stands.5 ∙ sym stands.6) in
    record {
      ticket = w.ticket;
      leaving = w.leaving;
      between = w.between;
      later = w.later;
      items_are = w.are;
      takes = w.takes;
      leaves = w.leaves;
      taken = stands.0;
      left = stands.1;
      at_ticket = stands.3;
      at_leaving = stands.4;
      notified = notified;
    }

pub returns-clause-completed : goal.returns-clause-completed
returns-clause-completed c plan outcome r explains worker i mutex line wait object at_line at_wait some kind is_wait =
    let s = spelt_at plan worker 0 line.spelt i wait (explains.are.each worker line at_line).calls at_wait in
    let list = sym (ap (λ (lists : List (List Made)). get_or lists worker []) explains.are.lists) ∙ get_at items_of [] explains.lines worker line at_line in
    let behind = line.last ++ line.halts in
    let own = ap (λ (l : List Made). l ++ behind) s.are ∙ (append_assoc s.front (wait.items ++ s.rest) behind ∙ ap (λ (l : List Made). s.front ++ l) (append_assoc wait.items s.rest behind)) in
    let parts = list ∙ (ap (λ (l : List Made). line.first ++ l) own ∙ sym (append_assoc line.first s.front (wait.items ++ (s.rest ++ behind)))) in
    returns-clause-in_a_list c plan r worker s.before mutex object wait.call wait.reply wait.items (line.first ++ s.front) (s.rest ++ behind) explains.lawful some kind is_wait parts s.spells
