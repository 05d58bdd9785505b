use Rattle.std.proofs.Common.{◌≡◌, ℕ, ◌<◌, ◌≤◌, ◌++◌, List, [], length, take, drop, map, get_or, sym, ap, ◌∙◌, subst, arith}
use Rattle.std.specs.Prelude.{count_by}
use Rattle.std.proofs.lemmas.List.{take-append-le, take_all}
use Rattle.sync_model.specs.declared.caller.Caller.{Caller}
use Rattle.script_calls.specs.declared.outcome.Outcome.{Outcome}
use Rattle.script_calls.specs.declared.outcome.Outcome.TheVariants.{Done, Misused}
use Rattle.script_calls.specs.declared.outcome.Report.{Report}
use Rattle.script_calls.specs.Outcome.{left_by}
use Rattle.sync_model.specs.Shared.{AreAllCallers, SameCalls, Settled, calls_of}
use Rattle.sync_model.specs.SharedHistory.{first_contents}
use Rattle.run_record.specs.Objects.{is_map, contents_of}
use Rattle.sync_model.specs.Journal.{by}
use Rattle.thread_objects.specs.Desks.{AreSeats}
use Rattle.thread_objects.specs.Passes.{owns_of}
use Rattle.thread_runner.specs.Runs.{HasRun, IsExplained}
use Rattle.thread_runner.proofs.ScriptCalls.{one_script_each}
use Rattle.thread_runner.proofs.Ended.{seats_of, callers_stay, none_gave_up, all_done}
use Rattle.thread_runner.proofs.Explaining.{done, stopped}
use Rattle.thread_runner.proofs.Joining.{Knowing}
use Rattle.thread_runner.proofs.run.outcome_of.Goals.{in-None, in-Some}
use Rattle.thread_runner.proofs.run.outcome_of.Goals as goal

pub collect-requires-clause-seats : goal.collect-requires-clause-seats
collect-requires-clause-seats g c worker row found =
    let mark = g.S.Mark.Note in
    let plan = c.args.workload.now in
    let home = g.S.Shared.home_of c.args.shared.now in
    let of = c.requires.gone in
    subst (λ h. AreSeats mark.at h c.args.crew.now.workers worker c.args.objects.now row) (sym c.requires.home)
    (subst (λ n. AreSeats mark.at home n worker c.args.objects.now row) (sym c.requires.workers.0)
    (seats_of mark.at mark.own mark.front home plan c.args.objects.now of.0 (map (λ r. r.items) c.args.left.passes.items) of.1 c.args.left.callers.items c.args.left.replies.items of.3 of.5 worker row found))

pub settle-requires : goal.settle-requires
settle-requires g c =
    let mark = g.S.Mark.Note in
    let plan = c.args.workload.now in
    let home = g.S.Shared.home_of c.args.shared.now in
    let of = c.requires.gone in
    let all = callers_stay mark.at mark.own mark.front home plan c.args.objects.now of.0 (map (λ r. r.items) c.args.left.passes.items) of.1 c.args.left.callers.items c.args.left.replies.items of.3 of.5 in
    subst (λ (l : List (Caller g.row.S-Mark.Denot)). AreAllCallers mark.at mark.own home l (g.S.Shared.count c.args.shared.now)) (sym c.deref_mut.ensures.value)
    (subst (λ n. AreAllCallers mark.at mark.own home c.args.left.callers.items n) (sym c.requires.workers.1) all)

pub returns : goal.returns
returns g c =
    let mark = g.S.Mark.Note in
    let plan = c.args.workload.now in
    let home = g.S.Shared.home_of c.args.shared.now in
    let of = c.requires.gone in
    let now = c.args.left.callers.items in
    let new = c.settle.new.callers in
    let replies = c.args.left.replies.items in
    let rows = map (λ r. r.items) c.args.left.passes.items in
    let begun : first_contents (g.S.Shared.maps c.args.shared.now) (g.S.Shared.kinds c.args.shared.now) ≡ contents_of plan =
    ap (λ n. first_contents n (g.S.Shared.kinds c.args.shared.now)) c.requires.shared.all_maps ∙ ap (λ types. first_contents (count_by (λ object. is_map object.kind) plan.objects) types) c.requires.shared.all_types in
    let settled : Settled mark.own mark.front g.S.Shared.seen (contents_of plan) new = subst (λ s. Settled mark.own mark.front g.S.Shared.seen s new) begun c.settle.ensures.settled in
    let same : SameCalls mark.own mark.front g.S.Shared.seen now new = subst (λ (l : List (Caller g.row.S-Mark.Denot)). SameCalls mark.own mark.front g.S.Shared.seen l new) c.deref_mut.ensures.value c.settle.ensures.same in
    let callers : AreAllCallers mark.at mark.own home new plan.workers = subst (λ n. AreAllCallers mark.at mark.own home new n) c.requires.workers.1 c.settle.ensures.callers in
    let told = c.journals-stopped.ensures.journals in
    let parts : (object worker : ℕ) → worker < plan.workers → owns_of (get_or rows worker []) object ≡ by worker (get_or told.0 object []) =
    λ object worker low. sym (c.collect.ensures.made object worker (omega (arith, low, c.requires.workers.0))) ∙ told.3 object worker in
    let beyond : (object worker : ℕ) → plan.workers ≤ worker → by worker (get_or told.0 object []) ≡ [] =
    λ object worker high. sym (told.3 object worker) ∙ c.collect.ensures.others object worker (omega (arith, high, c.requires.workers.0)) ∙ c.requires.nothing object worker high in
    let few = c.a_range_shows_no_key_but_the_workloads.ensures in
    let int64 = c.an_int64_answers_an_int64.ensures in
    let never = none_gave_up mark.at mark.own mark.front g.S.Shared.seen home plan c.args.objects.now of.0 rows of.1 now new replies of.3 of.5 same settled
    (λ caller shown all has. few plan settled.history (calls_of mark.own new) caller shown settled.lawful all has)
    (λ caller i a amount x all at is. int64 plan settled.history (calls_of mark.own new) caller i a amount x settled.lawful all at is) in
    let all = all_done mark.at mark.own mark.front g.S.Shared.seen home plan c.args.objects.now of.0 rows of.1 now new replies of.2 of.3 of.4 of.5 same settled (one_script_each plan c.workers-workers.ensures.valid) never told.0 told.1 parts beyond in
    let knowing : Knowing = record { own = c.a_worker_knows_its_own_calls.ensures.own; rises = c.a_worker_knows_its_own_calls.ensures.rises; ends = c.a_worker_knows_its_own_calls.ensures.ends; times = c.a_worker_knows_its_own_calls.ensures.times; rise = c.numbers_that_rise_item_by_item_rise.ensures } in
    let law = c.one_more_call_keeps_the_law.ensures.same in
    let report : Report = record { replies = c.into_seq.result; ends = c.new.result } in
    let Leaves : Outcome → List (Caller g.row.S-Mark.Denot) → Type 0 = λ outcome list. HasRun mark.at mark.own mark.front g.S.Shared.seen home plan outcome list in
    let long : c.args.left.callers.len ≡ length new = omega (arith, c.args.left.callers.ok.0, same.count) in
    let list : take c.args.left.callers.len (new ++ drop (length new) c.args.left.callers.items) ≡ new = take-append-le c.args.left.callers.len new (drop (length new) c.args.left.callers.items) (omega (arith, long)) ∙ take_all c.args.left.callers.len new (omega (arith, long)) in
    let leaves : (outcome : Outcome) → IsExplained plan outcome settled.history (calls_of mark.own new) → (left_by outcome).ends ≡ [] → Leaves outcome new =
    λ outcome explained none. record { all = callers; settled = settled; explained = explained; none = none } in
    let leaves_it : (outcome : Outcome) → c.match-stopped.outcome ≡ outcome → Leaves outcome new → Leaves c.match-stopped.outcome (take c.args.left.callers.len (new ++ drop (length new) c.args.left.callers.items)) =
    λ outcome is it. subst (λ (l : List (Caller g.row.S-Mark.Denot)). Leaves c.match-stopped.outcome l) (sym list) (subst (λ (o : Outcome). Leaves o new) (sym is) it) in
    record {
      comes = elim c.match-stopped.branch [
        | in-None w ↦ leaves_it (Done report) w.outcome-is (leaves (Done report) (done _ _ _ _ _ _ _ _ _ _ all knowing law c.stop_says_how_a_run_ended.ensures.done (sym told.2 ∙ w.in-None.is) report c.into_seq.ensures) c.new.ensures)
        | in-Some w ↦ leaves_it (Misused report w.in-Some.misuse) w.outcome-is (leaves (Misused report w.in-Some.misuse) (stopped _ _ _ _ _ _ _ _ _ _ all knowing law w.in-Some.misuse (sym told.2 ∙ w.in-Some.is) report c.into_seq.ensures c.new.ensures) c.new.ensures)
      ];
    }
