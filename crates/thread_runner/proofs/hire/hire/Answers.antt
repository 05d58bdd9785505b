use Rattle.std.proofs.Common.{◌≡◌, ℕ, ◌+◌, ◌<◌, ◌≤◌, [], get_or, length, sym, ap, ◌∙◌, subst, arith}
use Rattle.std.proofs.lemmas.Iterator.{YieldsList-from_zip}
use Rattle.std.proofs.lemmas.Iterator.Adapters.{YieldsList-from_vec}
use Rattle.std.proofs.lemmas.Iterator.Consumers.{YieldsList-turn, YieldsList-end, YieldsList-at}
use Rattle.std.proofs.lemmas.List.{length_push, map_push}
use Rattle.workload.specs.Keys.{keys_in}
use Rattle.thread_runner.specs.Jobs.{HasRoom}
use Rattle.thread_runner.proofs.Hiring.{all_firsts, all_seconds, sized, mapped_more, all_more, counted_more}
use Rattle.thread_runner.proofs.hire.hire.Goals as goal

pub job_of-requires : goal.job_of-requires
job_of-requires g c =
    let road = YieldsList-at c.into_iter-caller-iterator.ensures.into_iter_gives (YieldsList-from_zip (YieldsList-at c.zip-caller-items.ensures.first (YieldsList-from_vec c.args.callers.items c.into_iter.ensures.rest (c.into_iter.ensures.len ∙ c.args.callers.ok.0))) (YieldsList-from_vec c.args.dealt.items c.zip-caller-items.ensures.second.0 (c.zip-caller-items.ensures.second.1 ∙ c.args.dealt.ok.0))) in
    let turn = YieldsList-turn road c.loop-caller.yielded _ c.loop-caller.yielded_by c.next.result c.next.new.self (c.in-Some.caller, c.in-Some.passes) c.in-Some.is c.next.ensures.steps in
    let same = sym c.args.callers.ok.0 ∙ c.requires.callers ∙ sym c.requires.dealt ∙ c.args.dealt.ok.0 in
    omega (arith, turn.0, sized c.args.callers.items c.args.dealt.items same, c.args.callers.ok.0, c.requires.callers, c.len-number.ensures, c.loop-caller.invariant.count)

pub loop-caller-preserved : goal.loop-caller-preserved
loop-caller-preserved g c =
    let road = YieldsList-at c.into_iter-caller-iterator.ensures.into_iter_gives (YieldsList-from_zip (YieldsList-at c.zip-caller-items.ensures.first (YieldsList-from_vec c.args.callers.items c.into_iter.ensures.rest (c.into_iter.ensures.len ∙ c.args.callers.ok.0))) (YieldsList-from_vec c.args.dealt.items c.zip-caller-items.ensures.second.0 (c.zip-caller-items.ensures.second.1 ∙ c.args.dealt.ok.0))) in
    let turn = YieldsList-turn road c.loop-caller.yielded _ c.loop-caller.yielded_by c.next.result c.next.new.self (c.in-Some.caller, c.in-Some.passes) c.in-Some.is c.next.ensures.steps in
    let same = sym c.args.callers.ok.0 ∙ c.requires.callers ∙ sym c.requires.dealt ∙ c.args.dealt.ok.0 in
    let within : length c.loop-caller.yielded < length c.args.callers.items = omega (arith, turn.0, sized c.args.callers.items c.args.dealt.items same) in
    let before = c.loop-caller.invariant in
    let jobs = c.loop-caller.jobs.items in
    let job = c.in_ok-job.job in
    let is = c.in_ok-job.ensures in
    let now = c.push_reserved.new.self.items in
    let items = c.push_reserved.ensures.items in
    let longer = length_push c.loop-caller.yielded (c.in-Some.caller, c.in-Some.passes) in
    let plan = c.args.site.now.catalog.workload.now in
    let room : HasRoom (length (keys_in plan.scripts)) (get_or plan.scripts job.worker.number []) job.room.replies job.room.pairs.items =
    subst (λ (n : ℕ). HasRoom (length (keys_in plan.scripts)) (get_or plan.scripts n []) job.room.replies job.room.pairs.items) (sym is.number) is.room in
    record {
      count = c.push_reserved.ensures.len ∙ ap (λ n. n + 1) before.count ∙ sym longer;
      within = omega (arith, within, longer, c.requires.callers);
      numbers = mapped_more (λ job. job.worker.number) jobs now job _ c.len-number.result items before.numbers is.number ∙ counted_more (length c.loop-caller.yielded) _ c.len-number.result longer (c.len-number.ensures ∙ before.count);
      callers = mapped_more (λ job. job.caller) jobs now job _ c.in-Some.caller items before.callers is.caller ∙ sym (map_push (λ pair. pair.0) c.loop-caller.yielded (c.in-Some.caller, c.in-Some.passes));
      passes = mapped_more (λ job. job.passes.items) jobs now job _ c.in-Some.passes.items items before.passes is.passes ∙ sym (map_push (λ pair. pair.1.items) c.loop-caller.yielded (c.in-Some.caller, c.in-Some.passes));
      each = all_more (λ job. (job.site.now ≡ c.args.site.now) × (job.worker.at.home.now ≡ g.S.Shared.home_of c.args.site.now.catalog.shared.now) × (job.worker.workers ≡ plan.workers) × HasRoom (length (keys_in plan.scripts)) (get_or plan.scripts job.worker.number []) job.room.replies job.room.pairs.items) jobs now job items before.each
          (is.shared.0, is.shared.1, is.shared.2, room);
      capacity = subst (λ n. plan.workers ≤ n) (sym c.push_reserved.ensures.capacity) before.capacity;
    }

pub returns-clause-count : goal.returns-clause-count
returns-clause-count g c =
    let road = YieldsList-at c.into_iter-caller-iterator.ensures.into_iter_gives (YieldsList-from_zip (YieldsList-at c.zip-caller-items.ensures.first (YieldsList-from_vec c.args.callers.items c.into_iter.ensures.rest (c.into_iter.ensures.len ∙ c.args.callers.ok.0))) (YieldsList-from_vec c.args.dealt.items c.zip-caller-items.ensures.second.0 (c.zip-caller-items.ensures.second.1 ∙ c.args.dealt.ok.0))) in
    let all = YieldsList-end road c.loop-caller.yielded _ c.loop-caller.yielded_by c.next.result c.next.new.self c.in-None.is c.next.ensures.steps in
    let same = sym c.args.callers.ok.0 ∙ c.requires.callers ∙ sym c.requires.dealt ∙ c.args.dealt.ok.0 in
    omega (arith, c.loop-caller.invariant.count, all.1, sized c.args.callers.items c.args.dealt.items same, c.requires.callers)

pub returns-clause-callers : goal.returns-clause-callers
returns-clause-callers g c =
    let road = YieldsList-at c.into_iter-caller-iterator.ensures.into_iter_gives (YieldsList-from_zip (YieldsList-at c.zip-caller-items.ensures.first (YieldsList-from_vec c.args.callers.items c.into_iter.ensures.rest (c.into_iter.ensures.len ∙ c.args.callers.ok.0))) (YieldsList-from_vec c.args.dealt.items c.zip-caller-items.ensures.second.0 (c.zip-caller-items.ensures.second.1 ∙ c.args.dealt.ok.0))) in
    let all = YieldsList-end road c.loop-caller.yielded _ c.loop-caller.yielded_by c.next.result c.next.new.self c.in-None.is c.next.ensures.steps in
    let same = sym c.args.callers.ok.0 ∙ c.requires.callers ∙ sym c.requires.dealt ∙ c.args.dealt.ok.0 in
    c.loop-caller.invariant.callers ∙ all_firsts c.loop-caller.yielded c.args.callers.items c.args.dealt.items all.0 same

pub returns-clause-passes : goal.returns-clause-passes
returns-clause-passes g c =
    let road = YieldsList-at c.into_iter-caller-iterator.ensures.into_iter_gives (YieldsList-from_zip (YieldsList-at c.zip-caller-items.ensures.first (YieldsList-from_vec c.args.callers.items c.into_iter.ensures.rest (c.into_iter.ensures.len ∙ c.args.callers.ok.0))) (YieldsList-from_vec c.args.dealt.items c.zip-caller-items.ensures.second.0 (c.zip-caller-items.ensures.second.1 ∙ c.args.dealt.ok.0))) in
    let all = YieldsList-end road c.loop-caller.yielded _ c.loop-caller.yielded_by c.next.result c.next.new.self c.in-None.is c.next.ensures.steps in
    let same = sym c.args.callers.ok.0 ∙ c.requires.callers ∙ sym c.requires.dealt ∙ c.args.dealt.ok.0 in
    c.loop-caller.invariant.passes ∙ all_seconds c.loop-caller.yielded c.args.callers.items c.args.dealt.items all.0 same (λ passes. passes.items)
