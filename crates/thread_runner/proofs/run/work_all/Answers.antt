use Rattle.std.proofs.Common.{◌≡◌, ℕ, ◌^◌, ◌<◌, List, [], length, get_or, map, Some, slice_get, sym, ap, ◌∙◌, subst, arith, rules}
use Rattle.std.specs.List.{range_with_len}
use Rattle.std.specs.Prelude.{vec_len}
use Rattle.std.proofs.lemmas.List.Sums.{get_or-le-sum_by}
use Rattle.std.proofs.lemmas.Option.{slice_get-get_or, slice_get_within, get_or_from_slice_get}
use Rattle.script_calls.specs.declared.call.Reply.{Reply}
use Rattle.sync_model.specs.declared.caller.Caller.{Caller}
use Rattle.sync_outside.specs.Faults.{RoseBy}
use Rattle.workload.specs.Plan.{Plan}
use Rattle.thread_objects.specs.declared.object.AnyObject.{AnyObject}
use Rattle.thread_objects.specs.declared.pass.AnyPass.{AnyPass}
use Rattle.workload.specs.Keys.{keys_in}
use Rattle.thread_runner.specs.Sites.{IsSite}
use Rattle.thread_runner.specs.AllGone.{HaveGone}
use Rattle.thread_runner.specs.Jobs.{HasRoom, IsReady, HasGone}
use Rattle.thread_runner.proofs.AllReady.{ready_at, have_gone, number_at_place, zipped_long}
use Rattle.thread_runner.proofs.ScriptCalls.{one_script_each}
use Rattle.thread_runner.proofs.Dealt.{mapped_found}
use Rattle.thread_runner.proofs.run.work_all.Goals as goal

pub start_all-requires-after_bounds : goal.start_all-requires-after_bounds
start_all-requires-after_bounds g c κs within k d low =
    let mark = g.S.Mark.Note in
    let made = c.in_ok-jobs.ensures in
    let jobs = c.in_ok-jobs.jobs.items in
    let job = get_or jobs k d in
    let plan = c.args.workload.now in
    let shared = c.args.shared.now in
    let objects = c.args.objects.now in
    let home = g.S.Shared.home_of shared in
    let rows = map (λ r. r.items) c.args.rows.items in
    let found : slice_get jobs k ≡ Some job = slice_get-get_or jobs k d low in
    let each = made.each k d low in
    let plan_is : job.site.now.catalog.workload.now ≡ plan = ap (λ s. s.catalog.workload.now) each.0 in
    let shared_is : job.site.now.catalog.shared.now ≡ shared = ap (λ s. s.catalog.shared.now) each.0 in
    let objects_is : job.site.now.objects.now ≡ objects = ap (λ s. s.objects.now) each.0 in
    let numbers_is : job.site.now.catalog.numbers.now ≡ c.args.numbers.now = ap (λ s. s.catalog.numbers.now) each.0 in
    let number : job.worker.number ≡ k = number_at_place (λ j. j.worker.number) jobs (vec_len c.in_ok-jobs.jobs) k job made.numbers found in
    let at_caller : slice_get c.args.callers.items k ≡ Some job.caller = ap (λ (l : List (Caller g.row.S-Mark.Denot)). slice_get l k) (sym made.callers) ∙ mapped_found (λ j. j.caller) jobs k job found in
    let at_row : slice_get rows k ≡ Some job.passes.items = ap (λ (l : List (List (AnyPass g.row.S-Mark.Denot))). slice_get l k) (sym made.passes) ∙ mapped_found (λ j. j.passes.items) jobs k job found in
    let in_scripts : k < length plan.scripts = omega (arith, slice_get_within c.args.callers.items k job.caller at_caller, c.requires.callers.all, one_script_each plan c.workers-workers.ensures.valid) in
    let most = get_or-le-sum_by (λ s. length s) plan.scripts k [] in_scripts in
    let few : length (get_or plan.scripts k []) < 2 ^ 32 = omega (arith, most, c.workers-workers.ensures.readable.call_room) in
    let by_place : get_or plan.scripts job.worker.number [] ≡ get_or plan.scripts k [] = ap (λ n. get_or plan.scripts n []) number in
    let Site : g.row.S-Mark-Home.Denot → Plan → g.row.S.Denot → List (AnyObject g.row.S-Mark.Denot g.row.S-Mark-Home.Denot) → List ℕ → Type 0 = λ h p s o n. IsSite mark.at h p (g.S.Shared.maps s) (g.S.Shared.kinds s) (g.S.Shared.takes s) o n in
    let is_site : Site job.worker.at.home.now job.site.now.catalog.workload.now job.site.now.catalog.shared.now job.site.now.objects.now job.site.now.catalog.numbers.now =
    subst (λ n. Site job.worker.at.home.now job.site.now.catalog.workload.now job.site.now.catalog.shared.now job.site.now.objects.now n) (sym numbers_is)
    (subst (λ o. Site job.worker.at.home.now job.site.now.catalog.workload.now job.site.now.catalog.shared.now o c.args.numbers.now) (sym objects_is)
    (subst (λ s. Site job.worker.at.home.now job.site.now.catalog.workload.now s objects c.args.numbers.now) (sym shared_is)
    (subst (λ p. Site job.worker.at.home.now p shared objects c.args.numbers.now) (sym plan_is)
    (subst (λ h. Site h plan shared objects c.args.numbers.now) (sym each.1) c.requires.site)))) in
    let room = subst (λ s. HasRoom (length (keys_in plan.scripts)) s job.room.replies job.room.pairs.items) by_place each.3 in
    let ready = ready_at mark.at mark.own mark.front home plan objects rows c.args.callers.items c.requires.rows c.requires.callers c.requires.unused c.requires.spare k job.passes.items job.caller job.room.replies job.room.pairs.items at_row at_caller few room in
    let Ready : g.row.S-Mark-Home.Denot → Plan → List (AnyObject g.row.S-Mark.Denot g.row.S-Mark-Home.Denot) → ℕ → Type 0 = λ h p o n. IsReady mark.at mark.own mark.front h p o n job.passes.items job.caller job.room.replies job.room.pairs.items in
    let is_ready : Ready job.worker.at.home.now job.site.now.catalog.workload.now job.site.now.objects.now job.worker.number =
    subst (λ n. Ready job.worker.at.home.now job.site.now.catalog.workload.now job.site.now.objects.now n) (sym number)
    (subst (λ o. Ready job.worker.at.home.now job.site.now.catalog.workload.now o k) (sym objects_is)
    (subst (λ p. Ready job.worker.at.home.now p objects k) (sym plan_is)
    (subst (λ h. Ready h plan objects k) (sym each.1) ready))) in
    (record { site = is_site; homes = ap g.S.Shared.home_of shared_is ∙ sym each.1; counted = ap (λ (p : Plan). p.workers) plan_is ∙ sym each.2 }, is_ready)

pub gather-requires-clause-room : goal.gather-requires-clause-room
gather-requires-clause-room g c =
    let long = zipped_long _ c.in_ok-jobs.jobs.items c.in-Done.gone.items c.in-Done.ensures.jobs in
    let gone : vec_len c.in-Done.gone ≡ length c.in-Done.gone.items = search rules in
    let jobs : vec_len c.in_ok-jobs.jobs ≡ length c.in_ok-jobs.jobs.items = search rules in
    let all : vec_len c.in-Done.gone ≡ c.args.workload.now.workers = omega (arith, long, gone, jobs, c.in_ok-jobs.ensures.count) in
    (omega (arith, all, c.requires.room.0), omega (arith, all, c.requires.room.1), omega (arith, all, c.requires.room.2))

pub returns-in-Done-clause-gone : goal.returns-in-Done-clause-gone
returns-in-Done-clause-gone g c =
    let mark = g.S.Mark.Note in
    let made = c.in_ok-jobs.ensures in
    let jobs = c.in_ok-jobs.jobs.items in
    let plan = c.args.workload.now in
    let objects = c.args.objects.now in
    let home = g.S.Shared.home_of c.args.shared.now in
    let rows = map (λ r. r.items) c.args.rows.items in
    let callers = c.args.callers.items in
    let gone = c.in-Done.gone.items in
    let long : vec_len c.in_ok-jobs.jobs ≡ length jobs = search rules in
    let count : length jobs ≡ plan.workers = sym long ∙ made.count in
    let numbers : map (λ j. j.worker.number) jobs ≡ range_with_len 0 (length jobs) = made.numbers ∙ ap (range_with_len 0) long in
    let Left : List (List (AnyPass g.row.S-Mark.Denot)) → List (Caller g.row.S-Mark.Denot) → List (List (Reply ℕ)) → Type 0 = λ p k r. HaveGone mark.at mark.own mark.front home plan objects rows callers p k r in
    let all = have_gone mark.at mark.own mark.front home plan objects rows callers (λ j. j.worker.number) (λ j. j.passes.items) (λ j. j.caller) jobs (λ o. o.passes.items) (λ o. o.caller) (λ o. o.replies) gone _ count numbers made.callers made.passes c.in-Done.ensures.jobs
    (λ k job o found it.
    let low = slice_get_within jobs k job found in
    let is : get_or jobs k job ≡ job = get_or_from_slice_get jobs k job job found in
    let each = made.each k job low in
    let Gone-by : g.row.S-Mark-Home.Denot → Plan → List (AnyObject g.row.S-Mark.Denot g.row.S-Mark-Home.Denot) → Type 0 = λ h p b. HasGone mark.at mark.own mark.front h p b job.worker.number job.passes.items job.caller o.passes.items o.caller o.replies in
    subst (λ h. Gone-by h plan objects) (sym (ap (λ j. j.worker.at.home.now) is) ∙ each.1)
    (subst (λ p. Gone-by job.worker.at.home.now p objects) (sym (ap (λ j. j.site.now.catalog.workload.now) is) ∙ ap (λ s. s.catalog.workload.now) each.0)
    (subst (λ b. Gone-by job.worker.at.home.now job.site.now.catalog.workload.now b) (sym (ap (λ j. j.site.now.objects.now) is) ∙ ap (λ s. s.objects.now) each.0) it))) in
    let passes_now = map (λ o. o.passes.items) gone in
    let callers_now = map (λ o. o.caller) gone in
    let replies_now = map (λ o. o.replies) gone in
    let passes_left = map (λ r. r.items) c.gather.new.self.passes.items in
    let callers_left = c.gather.new.self.callers.items in
    subst (λ (r : List (List (Reply ℕ))). Left passes_left callers_left r) (sym c.gather.ensures.replies)
    (subst (λ (k : List (Caller g.row.S-Mark.Denot)). Left passes_left k replies_now) (sym c.gather.ensures.callers)
    (subst (λ (p : List (List (AnyPass g.row.S-Mark.Denot))). Left p callers_now replies_now) (sym c.gather.ensures.passes) all))

pub returns-in-Done-clause-ran : goal.returns-in-Done-clause-ran
returns-in-Done-clause-ran g c = subst (λ n. RoseBy n (g.P.Spawner.ran c.args.spawner.now) (g.P.Spawner.ran c.start_all.new.self)) c.in_ok-jobs.ensures.count c.in-Done.ensures.ran
