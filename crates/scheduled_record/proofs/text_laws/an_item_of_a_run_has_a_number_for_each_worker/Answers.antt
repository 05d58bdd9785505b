use Rattle.std.proofs.Common.{◌≡◌, List, Some, length, slice_get, sym, subst}
use Rattle.run_record.specs.declared.made.Made.{Made}
use Rattle.run_record.specs.Record.{front_of}
use Rattle.kept_record.specs.Acts.{AreActsOf}
use Rattle.kept_record.specs.Keeping.{Act, account_of}
use Rattle.step_runner.specs.Traces.{trace_of}
use Rattle.scheduled_record.specs.ToldItems.{acts_in, told_run}
use Rattle.scheduled_record.proofs.WideFronts.{each_act, wide_lines}
use Rattle.scheduled_record.proofs.text_laws.an_item_of_a_run_has_a_number_for_each_worker.Goals as goal

pub returns : goal.returns
returns c plan valid =
    let told = told_run plan (trace_of plan) in
    let acts = acts_in told in
    let of : AreActsOf plan acts = subst (λ (acts : List Act). AreActsOf plan acts) (sym (c.the_items_of_a_run_are_lines_of_its_record.ensures.acts plan)) (c.the_acts_of_a_run_are_the_workloads.ensures plan valid) in
    wide_lines plan.workers told (account_of plan acts).acts
    (each_act (λ (x : Made). length (front_of x) ≡ plan.workers) (account_of plan acts).acts
    (λ w i x at. c.a_front_has_a_number_for_each_worker.ensures plan acts w i x of (subst (λ (l : List Made). slice_get l i ≡ Some x) (sym (c.a_record_has_what_was_made.ensures.lists plan acts w of)) at)))
