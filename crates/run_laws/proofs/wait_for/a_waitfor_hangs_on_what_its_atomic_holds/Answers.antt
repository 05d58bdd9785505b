use Rattle.std.proofs.Common.{◌≡◌, List, [], ◌∷◌, ◌++◌, sym, ap, ◌∙◌, subst, append_assoc}
use Rattle.std.specs.Prelude.{Ok}
use Rattle.std.specs.List.{flat_map}
use Rattle.script_calls.specs.declared.call.Reply.{Reply}
use Rattle.sync_model.specs.declared.answer.Answer.TheVariants.{Done}
use Rattle.run_record.specs.declared.made.Made.{Made}
use Rattle.run_record.specs.declared.made.Made.TheVariants.{Shared}
use Rattle.run_record.specs.Calls.{SpellsCall}
use Rattle.run_record.specs.Objects.{atomic_number}
use Rattle.run_record.specs.Record.{list_of, object_number}
use Rattle.run_record.specs.Rounds.{round_items, tickets_of}
use Rattle.run_laws.specs.WaitedFor.{held_at}
use Rattle.run_laws.proofs.IfEqual.{spelt_at}
use Rattle.run_laws.proofs.WaitFor.{found_where, not_where, where_found, rounds_miss}
use Rattle.run_laws.proofs.wait_for.a_waitfor_hangs_on_what_its_atomic_holds.Goals as goal

pub returns : goal.returns
returns c plan r outcome explains worker i mutex atomic tries line spelt value there at is =
    let a = atomic_number plan.objects atomic in
    let cond = object_number spelt.call.object in
    let found = spelt_at plan worker 0 line.spelt i spelt (explains.are.each worker line there).calls at in
    let ends : List Made = line.last ++ line.halts in
    let earlier : List Made = line.first ++ found.earlier in
    let whole : list_of r worker ≡ earlier ++ (spelt.items ++ (found.later ++ ends)) =
    c.a_call_that_was_passed_over_leaves_no_item.ensures.list plan r outcome explains.lines worker line explains.are there
    ∙ (ap (λ (l : List Made). line.first ++ l) (ap (λ (l : List Made). l ++ ends) found.items ∙ (append_assoc found.earlier (spelt.items ++ found.later) ends
    ∙ ap (λ (l : List Made). found.earlier ++ l) (append_assoc spelt.items found.later ends))) ∙ sym (append_assoc line.first found.earlier (spelt.items ++ (found.later ++ ends)))) in
    let one = c.a_waitfor_waits_until_a_load_finds_the_value.ensures.returned plan worker found.before mutex atomic tries value spelt.call spelt.items spelt.reply is found.spells in
    let met = one.0 in
    let made = one.2 in
    let counted = c.a_waitfor_waits_until_a_load_finds_the_value.ensures.counted plan worker found.before mutex atomic tries value spelt.call spelt.items met is
    (subst (λ (reply : Reply _). SpellsCall plan worker found.before spelt.call spelt.items (Done (Ok reply))) one.1 found.spells) in
    let rounds = flat_map round_items made.rounds in
    let behind : List Made = found.later ++ ends in
    let by_rounds : list_of r worker ≡ earlier ++ (rounds ++ (Shared made.last ∷ behind)) =
    whole ∙ ap (λ (l : List Made). earlier ++ l) (ap (λ (l : List Made). l ++ behind) made.are ∙ append_assoc rounds (Shared made.last ∷ []) behind) in
    let holds = found_where met _ (held_at plan r a made.last ≡ value) (sym made.found)
    (where_found plan r explains.lawful worker a value (earlier ++ rounds) behind made.last (by_rounds ∙ sym (append_assoc earlier rounds (Shared made.last ∷ behind))) made.loads) in
    record {
      met = met;
      answers = one.1;
      made = made;
      holds = holds;
      held_another = rounds_miss plan r explains.lawful worker a value cond (object_number mutex) made.rounds earlier (Shared made.last ∷ behind) by_rounds made.each;
      loads = counted.0;
      few = counted.1;
      fails = not_where met (held_at plan r a made.last ≡ value) (tickets_of cond spelt.items ≡ tries) holds counted.2;
    }
