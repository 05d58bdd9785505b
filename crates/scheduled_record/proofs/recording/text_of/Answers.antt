use Rattle.std.proofs.Common.{◌≡◌, true, sym, subst, ◌∙◌}
use Rattle.workload.specs.declared.limits.TheConstants.{MAX_WORKERS}
use Rattle.scheduled_record.specs.Pushed.{have_few_numbers}
use Rattle.scheduled_record.specs.ToldItems.{told_items}
use Rattle.scheduled_record.proofs.WideFronts.{few_where_wide}
use Rattle.scheduled_record.proofs.recording.text_of.Goals as goal

pub written-requires-clause-few : goal.written-requires-clause-few
written-requires-clause-few c =
    let plan = c.args.workload.now in
    let few = few_where_wide plan.workers MAX_WORKERS (told_items plan) c.workers.ensures.readable.few_workers (c.an_item_of_a_run_has_a_number_for_each_worker.ensures plan c.workers.ensures.valid) in
    subst (λ items. have_few_numbers items ≡ true) (sym (c.as_slice.ensures.value ∙ c.in_ok-items.ensures.items)) few
