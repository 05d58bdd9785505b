use Rattle.std.proofs.Common.{◌≡◌, ℕ, ◌+◌, true, false, List, [], ◌++◌, map, length, get_or, replicate, Some, None, sym, ap, ◌∙◌, subst, arith}
use Rattle.script_calls.specs.Runs.{RunsAlong}
use Rattle.script_calls.specs.declared.call.Call.{Call}
use Rattle.script_calls.specs.declared.call.Reply.{Reply}
use Rattle.script_calls.specs.declared.outcome.Outcome.TheVariants as outcomes
use Rattle.workload.specs.Keys.{keys_in, key_number}
use Rattle.workload.specs.declared.turn.Turn.{Turn}
use Rattle.run_cuts.specs.Blind as blind
use Rattle.run_cuts.specs.CallCuts.{call_cut}
use Rattle.run_cuts.specs.CallsAlong.{calls_from, calls_along}
use Rattle.run_cuts.specs.LineCuts.{line_cut}
use Rattle.run_cuts.specs.StartsCuts.{opening_cut, closing_cut}
use Rattle.run_record.specs.declared.made.Made.{Made}
use Rattle.run_record.specs.Lines.{calls_made, items_of}
use Rattle.run_record.specs.Record.{list_of, shared_in}
use Rattle.kept_record.specs.Keeping.{Act, made_by, account_of}
use Rattle.step_runner.specs.declared.trace.TraceItem.{TraceItem}
use Rattle.step_runner.specs.declared.turns.item.Item.{Item}
use Rattle.step_runner.specs.Outcomes.{rounds, is_misused}
use Rattle.step_runner.specs.Recorded.{recorded}
use Rattle.step_runner.specs.RunItems.{all_made}
use Rattle.step_runner.specs.Spelt.{by_worker, came, count_before, ending_of, made_for, misuse_of, Falls, list_of as list_by}
use Rattle.step_runner.specs.State.{State, start}
use Rattle.step_runner.specs.Traces.{items_told, traced_from, trace_of}
use Rattle.step_runner.specs.Turns.{items_of as after_all, after_items, has_ended, next_call}
use Rattle.scheduled_record.specs.RunActs.{acts_of, run_acts, closing_acts, closed_acts, scheduled_record}
use Rattle.scheduled_record.specs.ToldItems.{acts_in, told_run}
use Rattle.scheduled_record.proofs.CalledItems.{Called, called_in, called_by, called_along}
use Rattle.scheduled_record.proofs.CalledLines.{spelt_items, along_line}
use Rattle.scheduled_record.proofs.CalledLists.{calls_by, by_items, items_in, recorded_calls, run_calls}
use Rattle.scheduled_record.proofs.CalledRun.{trace_items, with_calls, all_alike, line_is, one_line}
use Rattle.scheduled_record.proofs.CalledTurns.{TurnsAre, trace_along}
use Rattle.scheduled_record.proofs.RunEnds.{ends_in, none_met, nobody_stands}
use Rattle.scheduled_record.proofs.RunInRange.{is_worker}
use Rattle.scheduled_record.proofs.RunLists.{before, closed_lists}
use Rattle.scheduled_record.proofs.ToldPlaces.{bare_workers}
use Rattle.scheduled_record.proofs.told_laws.each_item_of_a_run_is_told_its_call.Goals as goal

no_call : {call : Call} → None ≡ Some call → ⊥
no_call same = cc

pub returns : goal.returns
returns c plan report w line readable plain done within is runs same =
    let valid = readable.valid in
    let whole = c.a_trace_tells_what_turns_made.ensures.whole plan in
    let list : List Turn = plan.schedule ++ rounds whole.0 plan.workers in
    let s : State = after_items plan list (start plan) in
    let made : List Item = all_made plan list (start plan) in
    let trace : List TraceItem = traced_from plan list (start plan) in
    let parts : ℕ → List Item = λ number. made_for plan w number list (start plan) in
    let given : List (Reply (List ℕ)) = get_or s.replies w [] in
    let script : List Call = get_or plan.scripts w [] in
    let own : List Called = called_by w (called_in trace) in
    let ends = ends_in plan report ((c.each_run_has_one_outcome.ensures.exact plan (outcomes.Done report) valid).1 done) in
    let over : has_ended plan s ≡ true = ap (has_ended plan) (sym whole.2) ∙ ends.over in
    let of = c.validity.ensures.always plan list valid in
    let nobody : next_call plan w s ≡ None = nobody_stands plan s w over within in
    let met : is_misused (after_all plan list (start plan)).1 ≡ false =
    none_met plan list (start plan) (λ stands. absurd (no_call (sym (nobody_stands plan s stands.worker over (is_worker plan s of stands.worker stands.call stands.next)) ∙ stands.next))) in
    let nothing : misuse_of plan w list (start plan) ≡ None = c.a_misuse_is_met_by_its_worker.ensures.none plan list w met in
    let f : Falls plan (has_ended plan s) w made parts given (next_call plan w s) (misuse_of plan w list (start plan)) = c.the_items_of_each_call_spell_it.ensures.always plan list w valid plain in
    let ending : f.line.ending ≡ ending_of (came plan made w) true None None = f.ends ∙ (λ i. ending_of (came plan made w) (over i) (nobody i) (nothing i)) in
    let turns : TurnsAre plan = record {
      goes_on = c.validity.ensures.goes_on plan;
      own = c.items_are_of_their_workers.ensures.own;
      others = λ worker other moment begun call objects apart. c.items_are_of_their_workers.ensures.others worker other moment begun call objects apart;
    } in
    let along : own ≡ called_along parts 0 0 script given = trace_along plan w turns (c.validity.ensures.begins plan valid) list in
    let from : (n : ℕ) → n ≡ 0 + n = λ n. omega arith in
    let last : List Made = recorded plan (length (shared_in (spelt_items f.line.spelt))) (parts (length f.line.spelt)) in
    let calls : recorded_calls plan 0 own ≡ calls_from 0 f.line.spelt f.line.rest last =
    ap (recorded_calls plan 0) along
    ∙ (along_line plan parts (c.runs_do_not_hang_on_names.ensures.passed (key_number (keys_in plan.scripts))) 0 0 0 f.line.spelt given script f.line.rest f.runs f.replies
    (λ k one at. f.turns k one at ∙ (λ i. recorded plan (from (count_before k f.line.spelt) i) (parts (from k i))))
    ∙ (λ i. calls_from 0 f.line.spelt f.line.rest (recorded plan (sym (from (length (shared_in (spelt_items f.line.spelt)))) i) (parts (sym (from (length f.line.spelt)) i))))) in
    let told : items_in (called_in trace) ≡ made = trace_items trace ∙ c.a_trace_tells_what_turns_made.ensures.items plan list in
    let mine : by_worker w made ≡ items_in own = ap (by_worker w) (sym told) ∙ by_items w (called_in trace) in
    let told_is : calls_by w (told_run plan (trace_of plan)) ≡ calls_along f.line =
    ap (λ (t : List TraceItem). calls_by w (told_run plan t)) whole.1
    ∙ (run_calls plan trace w
    ∙ (ap (λ (items : List Item). (replicate (length (before plan items w)) None ++ recorded_calls plan 0 own) ++ replicate (length (made_by w (closing_acts plan (acts_of plan items)))) None) told
    ∙ line_is plan w within made own f.line last mine f.before f.behind calls f.is ending)) in
    let run = told_run plan (trace_of plan) in
    let kept = (account_of plan (acts_in run)).acts in
    let workers = sym (sym (bare_workers plan kept) ∙ (ap (map (λ (act : Act). act.worker)) (c.a_record_has_what_was_made.ensures.acts plan (acts_in run)) ∙ bare_workers plan (acts_in run))) in
    let acts : List Act = run_acts plan (trace_of plan) in
    let items : List Made = list_of (scheduled_record plan) w in
    let whole_told : made ≡ items_told (trace_of plan) = sym (ap items_told whole.1 ∙ c.a_trace_tells_what_turns_made.ensures.items plan list) in
    let list_is : made_by w acts ≡ items_of f.line =
    sym (f.items ∙ (ap (list_by plan made w) ending ∙ (sym (closed_lists plan made w within) ∙ ap (λ (l : List Item). made_by w (closed_acts plan (acts_of plan l))) whole_told))) in
    let alike : blind.AreAlike (items_of f.line) items = subst (λ (l : List Made). blind.AreAlike l items) list_is
    (all_alike (made_by w acts) items (c.a_record_has_what_was_made.ensures.alike plan acts w (c.the_acts_of_a_run_are_the_workloads.ensures plan valid))) in
    let like = c.a_spelling_is_blind.ensures.lines plan w f.line items alike f.is in
    let runs_like : RunsAlong script (calls_made like.like) like.like.rest =
    subst (λ (made : List (Call × Reply ℕ)). RunsAlong script made like.like.rest) (sym like.calls) (subst (λ (rest : List Call). RunsAlong script (calls_made f.line) rest) (sym like.rest) f.runs) in
    let one : calls_along like.like ≡ calls_along line =
    one_line (line_cut (opening_cut plan w) (closing_cut plan w) (call_cut plan w) 0 script) line like.like (like.items_are ∙ sym same)
    (c.a_list_tells_of_which_call_each_item_is.ensures.some plan w line valid plain runs is)
    (λ told at. c.a_list_tells_of_which_call_each_item_is.ensures.same plan w script line told runs is at)
    (λ told at. c.a_list_tells_of_which_call_each_item_is.ensures.same plan w script like.like told runs_like like.is at) in
    with_calls w run kept workers ∙ (told_is ∙ (sym like.along ∙ one))
