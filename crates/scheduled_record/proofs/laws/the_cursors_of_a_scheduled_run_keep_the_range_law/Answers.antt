use Rattle.std.proofs.Common.{◌≡◌, ℕ, true, List, ◌++◌, Some, slice_get, sym, ap, ◌∙◌, subst}
use Rattle.std.specs.FinMap.{FinMap, empty, nat_cmp-IsAntisymmetric, slice_cmp-IsAntisymmetric}
use Rattle.std.specs.Ordering.{nat_cmp}
use Rattle.std.specs.Cmp.Lexicographic.{slice_cmp}
use Rattle.std.proofs.lemmas.Cmp.{nat_cmp_total, nat_list_cmp_total}
use Rattle.sync_types.proofs.MapLemmas.{unchanged}
use Rattle.sync_types.specs.Renaming.{IsOneToOne, IsRenamed}
use Rattle.sync_model.specs.declared.item.Item.{Item as Call}
use Rattle.workload.specs.declared.turn.Turn.{Turn}
use Rattle.workload.specs.Keys.{keys_in, key_number, key_name}
use Rattle.workload.specs.Plan.{Plan, is_valid}
use Rattle.run_record.specs.Objects.{contents_of}
use Rattle.run_record.specs.Record.{shared_in, list_of}
use Rattle.kept_record.specs.Keeping.{account_of}
use Rattle.step_runner.specs.declared.turns.item.Item.{Item}
use Rattle.step_runner.specs.Outcomes.{rounds}
use Rattle.step_runner.specs.RunItems.{all_made}
use Rattle.step_runner.specs.State.{start}
use Rattle.step_runner.specs.Traces.{items_told, trace_of}
use Rattle.step_runner.specs.Turns.{after_items}
use Rattle.scheduled_record.specs.RunActs.{acts_of, run_acts, closed_acts, scheduled_record}
use Rattle.scheduled_record.proofs.Contents.{ByKey, ContentLaws}
use Rattle.scheduled_record.proofs.ContentsBegin.{lined, there, begin}
use Rattle.scheduled_record.proofs.CursorKept.{calls_kept, HasCursors}
use Rattle.scheduled_record.proofs.CursorRun.{run_kept}
use Rattle.scheduled_record.proofs.Cursors.{IsCursor, keeps_range}
use Rattle.scheduled_record.specs.ItemsOf.{is_key}
use Rattle.scheduled_record.proofs.RunInRange.{run_in}
use Rattle.scheduled_record.proofs.laws.the_cursors_of_a_scheduled_run_keep_the_range_law.Goals as goal

module _ (c : goal.After-a_record_has_what_was_made) (plan : Plan) where
  one_to_one : IsOneToOne (key_number (keys_in plan.scripts)) (is_key plan)
  one_to_one key other known also same = sym (c.keys_are_numbered_by_first_appearance.ensures.named plan.scripts key known)
      ∙ (ap (key_name (keys_in plan.scripts)) same ∙ c.keys_are_numbered_by_first_appearance.ensures.named plan.scripts other also)

  content_laws : ContentLaws plan
  content_laws = record {
    reply = λ m n call named keyed. c.maps_with_renamed_keys_answer_the_same.ensures.reply (slice_cmp nat_cmp) nat_cmp (key_number (keys_in plan.scripts)) (is_key plan) m n call named keyed;
    after = λ m n call named keyed. c.maps_with_renamed_keys_answer_the_same.ensures.after (slice_cmp nat_cmp) nat_cmp (nat_list_cmp_total, slice_cmp-IsAntisymmetric nat_cmp-IsAntisymmetric) (nat_cmp_total, nat_cmp-IsAntisymmetric)
        (key_number (keys_in plan.scripts)) (is_key plan) one_to_one m n call named keyed;
    entries = λ n call none. unchanged (nat_cmp_total, nat_cmp-IsAntisymmetric) n call none;
    numbers = λ held call none. c.only_entries_change.ensures call held none;
  }

  begins_none : (m : ByKey) (n : FinMap nat_cmp ℕ) → m ≡ empty → n ≡ empty → IsRenamed (key_number (keys_in plan.scripts)) (is_key plan) m n
  begins_none m n none nothing = c.maps_with_renamed_keys_answer_the_same.ensures.starts (slice_cmp nat_cmp) nat_cmp (key_number (keys_in plan.scripts)) (is_key plan) m n none nothing

  has_cursors : is_valid plan ≡ true → HasCursors (contents_of plan) (account_of plan (run_acts plan (trace_of plan)))
  has_cursors valid =
      let whole = c.a_trace_tells_what_turns_made.ensures.whole plan in
      let turns : List Turn = plan.schedule ++ rounds whole.0 plan.workers in
      let same : items_told (trace_of plan) ≡ all_made plan turns (start plan) = ap items_told whole.1 ∙ c.a_trace_tells_what_turns_made.ensures.items plan turns in
      let objects = (after_items plan turns (start plan)).objects in
      let kinds = (c.validity.ensures.always plan turns valid).objects in
      subst (λ (l : List Item). HasCursors (contents_of plan) (account_of plan (closed_acts plan (acts_of plan l)))) (sym same)
      (run_kept plan content_laws objects (lined plan begins_none content_laws objects kinds) (there plan begins_none content_laws objects kinds)
      (λ word known. c.keys_are_numbered_by_first_appearance.ensures.named plan.scripts word known)
      (λ acts. c.a_record_has_what_was_made.ensures.acts plan acts) (all_made plan turns (start plan))
      (run_in plan (λ worker s of. c.validity.ensures.goes_on plan worker s of) turns (start plan) (c.validity.ensures.begins plan valid))
      (begin plan begins_none content_laws objects kinds (all_made plan turns (start plan)) (c.objects_come_by_the_items_of_the_run.ensures.always plan turns valid)))

pub returns : goal.returns
returns c plan worker b m x valid at is =
    let acts = run_acts plan (trace_of plan) in
    let list : list_of (scheduled_record plan) worker ≡ _ = c.a_record_has_what_was_made.ensures.lists plan acts worker (c.the_acts_of_a_run_are_the_workloads.ensures plan valid) in
    let same : shared_in (list_of (scheduled_record plan) worker) ≡ calls_kept (account_of plan acts) worker = ap shared_in list in
    keeps_range (contents_of plan) (scheduled_record plan).history (λ v. shared_in (list_of (scheduled_record plan) v)) worker b m x
    (subst (λ (l : List Call). IsCursor (contents_of plan) (scheduled_record plan).history l b m x) (sym same) ((has_cursors c plan valid).each worker b m x (subst (λ (l : List Call). slice_get l b ≡ Some x) same at) is))
    (c.the_calls_of_a_scheduled_run_stand_at_their_places.ensures.knows plan worker b x valid at)
