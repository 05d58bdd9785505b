use Rattle.std.proofs.Common.{◌≡◌, ℕ, pos, List, map, length, sym, ap, ◌∙◌}
use Rattle.std.specs.Prelude.{sum, sum_by}
use Rattle.std.proofs.lemmas.List.{length-map}
use Rattle.std.proofs.lemmas.List.FromFn.{length-map-range_with_len}
use Rattle.std.proofs.lemmas.List.Sums.{sum-map}
use Rattle.sync_types.specs.declared.atomic_object.Number.TheVariants.{Int64}
use Rattle.script_calls.specs.declared.call.Call.{Call}
use Rattle.script_calls.specs.declared.call.Reply.{Reply}
use Rattle.sync_model.specs.SharedHistory.{map_at, number_at, contents_after}
use Rattle.workload.specs.Draft.{call_count}
use Rattle.workload.specs.Keys.{keys_in}
use Rattle.run_record.specs.Objects.{contents_of, named}
use Rattle.made_workload.specs.Generated.{generated_plan}
use Rattle.workload.specs.OwnMaps.{union_of}
use Rattle.made_workload.specs.Summary.{Summary, summary}
use Rattle.made_workload.proofs.Amounts.{total_after}
use Rattle.made_workload.proofs.EndsOfRuns.{first_number, first_map, ends_are, lines_are}
use Rattle.made_workload.proofs.RunRounds.{script_of_worker, scripts_are, only_adds, no_tests, plain, apart, int64_at, map_is_at}
use Rattle.made_workload.proofs.laws.runs.every_run_of_a_seed_comes_to_its_summary.Goals as goal

workers_are : (seed : ℕ) (replies : List (List (Reply ℕ))) → map length replies ≡ map length (generated_plan seed).scripts → length replies ≡ 8
workers_are seed replies answered = sym (length-map replies length) ∙ (ap (λ (l : List ℕ). length l) answered ∙ (length-map (generated_plan seed).scripts length
    ∙ (ap (λ (scripts : List (List Call)). length scripts) (scripts_are seed) ∙ length-map-range_with_len (script_of_worker seed) 0 8)))

calls_are : (seed : ℕ) (replies : List (List (Reply ℕ))) → call_count (generated_plan seed).scripts ≡ 16000 → map length replies ≡ map length (generated_plan seed).scripts → sum_by length replies ≡ 16000
calls_are seed replies count answered = sym (sum-map length replies) ∙ (ap (λ (l : List ℕ). sum l) answered ∙ (sum-map length (generated_plan seed).scripts ∙ count))

pub returns-clause-workers : goal.returns-clause-workers
returns-clause-workers c seed left r explains = workers_are seed left.replies (c.a_run_that_is_done_answers_each_call.ensures.all (generated_plan seed) r left (no_tests seed) (c.workload_of_a_seed.ensures.no_dormant seed) explains)

pub returns-clause-calls : goal.returns-clause-calls
returns-clause-calls c seed left r explains = calls_are seed left.replies (c.workload_of_a_seed.ensures.calls seed) (c.a_run_that_is_done_answers_each_call.ensures.all (generated_plan seed) r left (no_tests seed) (c.workload_of_a_seed.ensures.no_dormant seed) explains)

pub returns-clause-ends : goal.returns-clause-ends
returns-clause-ends c seed left r explains =
    let plan = generated_plan seed in
    let contents = contents_after (contents_of plan) r.history in
    let int64 = int64_at seed in
    let the_map = map_is_at seed in
    let held = c.an_int64_holds_the_sum_of_all_adds.ensures.holds plan 1 int64.0 left r (only_adds seed) (no_tests seed) (c.workload_of_a_seed.ensures.no_dormant seed) int64.1 int64.2 explains in
    let unions = c.a_map_is_the_union_of_its_workers_maps.ensures plan 2 the_map.0 left r (plain seed) (no_tests seed) (c.workload_of_a_seed.ensures.no_dormant seed) the_map.1 the_map.2 (apart c.workload_of_a_seed.ensures.scripts seed (c.keys_tell_their_workers.ensures.apart seed)) explains in
    explains.agrees.1 ∙ ends_are seed r.history (Int64 (pos (summary seed).total)) (union_of 2 plan.scripts)
    (c.calls_leave_as_many_maps_and_atomics.ensures.maps (contents_of plan) r.history) (c.calls_leave_as_many_maps_and_atomics.ensures.numbers (contents_of plan) r.history)
    (ap (λ n. number_at contents n) (sym (first_number seed)) ∙ (held ∙ (total_after c.sums_in_range_are_exact.ensures.int64 seed (c.workload_of_a_seed.ensures.calls seed) ∙ ap (λ (s : Summary). Int64 (pos s.total)) (sym (c.summary_of_a_seed.ensures.summary seed)))))
    (ap (λ n. named (keys_in plan.scripts) (map_at contents n)) (sym (first_map seed)) ∙ unions)

pub returns-clause-lines : goal.returns-clause-lines
returns-clause-lines c seed left r explains =
    let answered = c.a_run_that_is_done_answers_each_call.ensures.all (generated_plan seed) r left (no_tests seed) (c.workload_of_a_seed.ensures.no_dormant seed) explains in
    lines_are seed left (c.summary_of_a_seed.ensures.summary seed) (workers_are seed left.replies answered) (calls_are seed left.replies (c.workload_of_a_seed.ensures.calls seed) answered) (returns-clause-ends c seed left r explains)
