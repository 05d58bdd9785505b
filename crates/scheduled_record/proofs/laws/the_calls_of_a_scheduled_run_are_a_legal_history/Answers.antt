use Rattle.std.proofs.Common.{◌≡◌, ℕ, true, List, [], ◌++◌, sym, ap, ◌∙◌, subst}
use Rattle.std.specs.FinMap.{FinMap, empty, nat_cmp-IsAntisymmetric, slice_cmp-IsAntisymmetric}
use Rattle.std.specs.Ordering.{nat_cmp}
use Rattle.std.specs.Cmp.Lexicographic.{slice_cmp}
use Rattle.std.proofs.lemmas.Cmp.{nat_cmp_total, nat_list_cmp_total}
use Rattle.sync_types.proofs.MapLemmas.{unchanged}
use Rattle.sync_types.specs.Renaming.{IsOneToOne, IsRenamed}
use Rattle.script_calls.specs.declared.outcome.Outcome.TheVariants as outcomes
use Rattle.script_calls.specs.declared.outcome.Report.{Report}
use Rattle.sync_model.specs.SharedHistory.{Contents, map_at, number_at, contents_after}
use Rattle.workload.specs.declared.turn.Turn.{Turn}
use Rattle.workload.specs.Keys.{keys_in, key_number, key_name}
use Rattle.workload.specs.Plan.{Plan, is_valid}
use Rattle.run_record.specs.Objects.{contents_of, map_number, atomic_number, ends_in}
use Rattle.kept_record.specs.Acts.{AreAnswered}
use Rattle.step_runner.specs.declared.turns.item.Item.{Item}
use Rattle.step_runner.specs.declared.turns.object_state.ObjectState.TheVariants as states
use Rattle.kept_record.specs.Keeping.{record_of}
use Rattle.step_runner.specs.Ends.{scheduled_ends}
use Rattle.step_runner.specs.Outcomes.{rounds}
use Rattle.step_runner.specs.RunItems.{all_made}
use Rattle.step_runner.specs.State.{State, start}
use Rattle.step_runner.specs.Traces.{items_told, trace_of}
use Rattle.step_runner.specs.Turns.{after_items}
use Rattle.scheduled_record.specs.RunActs.{acts_of, run_acts}
use Rattle.scheduled_record.proofs.Contents.{ByKey, behind_all, ContentLaws, Holds, closed_answered, closed_behind}
use Rattle.scheduled_record.proofs.ContentsBegin.{history_makes, lined, run_holds}
use Rattle.scheduled_record.proofs.EndContents.{same_ends}
use Rattle.scheduled_record.proofs.RunEnds.{ends_in as ends_of_run}
use Rattle.scheduled_record.specs.ItemsOf.{is_key}
use Rattle.scheduled_record.proofs.RunInRange.{run_in}
use Rattle.scheduled_record.proofs.laws.the_calls_of_a_scheduled_run_are_a_legal_history.Goals as goal

module _ (c : goal.After-answered_calls_are_a_legal_history) (plan : Plan) where
  one_to_one : IsOneToOne (key_number (keys_in plan.scripts)) (is_key plan)
  one_to_one key other known also same = sym (c.keys_are_numbered_by_first_appearance.ensures.named plan.scripts key known)
      ∙ (ap (key_name (keys_in plan.scripts)) same ∙ c.keys_are_numbered_by_first_appearance.ensures.named plan.scripts other also)

  content_laws : ContentLaws plan
  content_laws = record {
    reply = λ m n call named keyed. c.maps_with_renamed_keys_answer_the_same.ensures.reply (slice_cmp nat_cmp) nat_cmp (key_number (keys_in plan.scripts)) (is_key plan) m n call named keyed;
    after = λ m n call named keyed. c.maps_with_renamed_keys_answer_the_same.ensures.after (slice_cmp nat_cmp) nat_cmp (nat_list_cmp_total, slice_cmp-IsAntisymmetric nat_cmp-IsAntisymmetric) (nat_cmp_total, nat_cmp-IsAntisymmetric)
        (key_number (keys_in plan.scripts)) (is_key plan) one_to_one m n call named keyed;
    entries = λ n call none. unchanged (nat_cmp_total, nat_cmp-IsAntisymmetric) n call none;
    numbers = λ held call none. c.only_entries_change.ensures call held none;
  }

  begins_none : (m : ByKey) (n : FinMap nat_cmp ℕ) → m ≡ empty → n ≡ empty → IsRenamed (key_number (keys_in plan.scripts)) (is_key plan) m n
  begins_none m n none nothing = c.maps_with_renamed_keys_answer_the_same.ensures.starts (slice_cmp nat_cmp) nat_cmp (key_number (keys_in plan.scripts)) (is_key plan) m n none nothing

  always : (turns : List Turn) → is_valid plan ≡ true → AreAnswered (contents_of plan) (acts_of plan (all_made plan turns (start plan))) × Holds plan (after_items plan turns (start plan)).objects [] (behind_all (contents_of plan) (acts_of plan (all_made plan turns (start plan))))
  always turns valid = run_holds plan begins_none content_laws
      (after_items plan turns (start plan)).objects (c.validity.ensures.always plan turns valid).objects (all_made plan turns (start plan))
      (run_in plan (λ worker s of. c.validity.ensures.goes_on plan worker s of) turns (start plan) (c.validity.ensures.begins plan valid))
      (c.objects_come_by_the_items_of_the_run.ensures.always plan turns valid)

  are_answered : is_valid plan ≡ true → AreAnswered (contents_of plan) (run_acts plan (trace_of plan))
  are_answered valid =
      let whole = c.a_trace_tells_what_turns_made.ensures.whole plan in
      let list : List Turn = plan.schedule ++ rounds whole.0 plan.workers in
      let same : items_told (trace_of plan) ≡ all_made plan list (start plan) = ap items_told whole.1 ∙ c.a_trace_tells_what_turns_made.ensures.items plan list in
      closed_answered plan (contents_of plan) (acts_of plan (items_told (trace_of plan))) (subst (λ (items : List Item). AreAnswered (contents_of plan) (acts_of plan items)) (sym same) (always list valid).0)

pub returns-clause-answered : goal.returns-clause-answered
returns-clause-answered c plan valid = are_answered c plan valid

pub returns-clause-legal : goal.returns-clause-legal
returns-clause-legal c plan valid = c.answered_calls_are_a_legal_history.ensures.legal plan (run_acts plan (trace_of plan)) (are_answered c plan valid)

pub returns-clause-replies : goal.returns-clause-replies
returns-clause-replies c plan worker j x valid at = c.answered_calls_are_a_legal_history.ensures.replies plan (run_acts plan (trace_of plan)) worker j x (c.the_acts_of_a_run_are_the_workloads.ensures plan valid) (are_answered c plan valid) at

pub returns-clause-maps : goal.returns-clause-maps
returns-clause-maps c plan turns place m valid at =
    let acts = acts_of plan (all_made plan turns (start plan)) in
    let holds = (always c plan turns valid).1.at place (states.Map m) at in
    subst (λ (contents : Contents). IsRenamed (key_number (keys_in plan.scripts)) (is_key plan) m (map_at contents (map_number plan.objects place))) (sym (history_makes plan acts))
    (subst (λ last. IsRenamed (key_number (keys_in plan.scripts)) (is_key plan) last (map_at (behind_all (contents_of plan) acts) (map_number plan.objects place))) (sym holds.2) holds.1)

pub returns-clause-numbers : goal.returns-clause-numbers
returns-clause-numbers c plan turns place number valid at =
    let acts = acts_of plan (all_made plan turns (start plan)) in
    ap (λ (contents : Contents). number_at contents (atomic_number plan.objects place)) (history_makes plan acts) ∙ sym ((always c plan turns valid).1.at place (states.Atomic number) at)

pub returns-clause-ends : goal.returns-clause-ends
returns-clause-ends c plan report valid done =
    let whole = c.a_trace_tells_what_turns_made.ensures.whole plan in
    let list : List Turn = plan.schedule ++ rounds whole.0 plan.workers in
    let s : State = after_items plan list (start plan) in
    let same : items_told (trace_of plan) ≡ all_made plan list (start plan) = ap items_told whole.1 ∙ c.a_trace_tells_what_turns_made.ensures.items plan list in
    let acts = acts_of plan (all_made plan list (start plan)) in
    let ended = ends_of_run plan report ((c.each_run_has_one_outcome.ensures.exact plan (outcomes.Done report) valid).1 done) in
    let shown : report.ends ≡ scheduled_ends plan s.objects = ap (λ (r : Report). r.ends) ended.leaves ∙ ap (λ (t : State). scheduled_ends plan t.objects) whole.2 in
    let makes : contents_after (contents_of plan) (record_of plan (run_acts plan (trace_of plan))).history ≡ behind_all (contents_of plan) acts =
    history_makes plan (run_acts plan (trace_of plan)) ∙ (closed_behind plan (contents_of plan) (acts_of plan (items_told (trace_of plan))) ∙ ap (λ (l : List Item). behind_all (contents_of plan) (acts_of plan l)) same) in
    let kinds = (c.validity.ensures.always plan list valid).objects in
    shown ∙ (same_ends plan s.objects kinds (behind_all (contents_of plan) acts) (always c plan list valid).1 (lined plan (begins_none c plan) (content_laws c plan) s.objects kinds)
    (λ word known. c.keys_are_numbered_by_first_appearance.ensures.named plan.scripts word known)
    (λ n. record {
      value = λ has key is. c.maps_by_name_have_the_same_values.ensures.value (key_name (keys_in plan.scripts)) (key_number (keys_in plan.scripts)) n has key is;
      none = λ has word is. c.maps_by_name_have_the_same_values.ensures.none (key_name (keys_in plan.scripts)) (key_number (keys_in plan.scripts)) n has word is;
    }) ∙ ap (ends_in plan) (sym makes))
