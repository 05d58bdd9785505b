use Rattle.std.proofs.Common.{◌<◌, length, refl, sym, ap, ◌∙◌, subst, arith}
use Rattle.std.proofs.lemmas.Iterator.Adapters.{YieldsList-from_vec}
use Rattle.std.proofs.lemmas.Iterator.Consumers.{YieldsList-turn, YieldsList-end}
use Rattle.std.proofs.lemmas.List.{map_push, length-map}
use Rattle.thread_runner.proofs.Hiring.{mapped_more, taken_more, all_taken}
use Rattle.thread_runner.proofs.gather.Left.gather.Goals as goal

pub push_reserved-requires : goal.push_reserved-requires
push_reserved-requires g c =
    let of = c.into_iter-worker-iterator.ensures.into_iter_gives in
    let turn = YieldsList-turn (YieldsList-from_vec c.args.gone.items of.0 (of.1 ∙ c.args.gone.ok.0)) c.loop-worker.yielded _ c.loop-worker.yielded_by c.next.result c.next.new.self c.in-Some.worker c.in-Some.is c.next.ensures.steps in
    let before = c.loop-worker.invariant in
    omega (arith, turn.0, before.callers_room, c.loop-worker.self.callers.ok.0, ap (λ l. length l) before.callers, length-map c.loop-worker.yielded (λ gone. gone.caller))

pub push_reserved-requires-in-loop-worker : goal.push_reserved-requires-in-loop-worker
push_reserved-requires-in-loop-worker g c =
    let of = c.into_iter-worker-iterator.ensures.into_iter_gives in
    let turn = YieldsList-turn (YieldsList-from_vec c.args.gone.items of.0 (of.1 ∙ c.args.gone.ok.0)) c.loop-worker.yielded _ c.loop-worker.yielded_by c.next.result c.next.new.self c.in-Some.worker c.in-Some.is c.next.ensures.steps in
    let before = c.loop-worker.invariant in
    let passes = c.loop-worker.self.passes in
    omega (arith, turn.0, before.passes_room, passes.ok.0, length-map passes.items (λ p. p.items), ap (λ l. length l) before.passes, length-map c.loop-worker.yielded (λ gone. gone.passes.items))

pub push-requires : goal.push-requires
push-requires g c =
    let of = c.into_iter-worker-iterator.ensures.into_iter_gives in
    let turn = YieldsList-turn (YieldsList-from_vec c.args.gone.items of.0 (of.1 ∙ c.args.gone.ok.0)) c.loop-worker.yielded _ c.loop-worker.yielded_by c.next.result c.next.new.self c.in-Some.worker c.in-Some.is c.next.ensures.steps in
    let before = c.loop-worker.invariant in
    omega (arith, turn.0, before.replies_room, ap (λ l. length l) before.replies, length-map c.loop-worker.yielded (λ gone. gone.replies))

pub loop-worker-preserved : goal.loop-worker-preserved
loop-worker-preserved g c =
    let before = c.loop-worker.invariant in
    let yielded = c.loop-worker.yielded in
    let worker = c.in-Some.worker in
    record {
      callers = taken_more (λ gone. gone.caller) yielded worker _ _ c.push_reserved.ensures.items before.callers;
      passes = mapped_more (λ p. p.items) _ _ worker.passes _ _ c.push_reserved-in-loop-worker.ensures.items before.passes refl ∙ sym (map_push (λ gone. gone.passes.items) yielded worker);
      replies = taken_more (λ gone. gone.replies) yielded worker _ _ (ap (λ r. r.items) c.push.ensures) before.replies;
      callers_room = omega (arith, before.callers_room, c.push_reserved.ensures.capacity);
      passes_room = omega (arith, before.passes_room, c.push_reserved-in-loop-worker.ensures.capacity);
      replies_room = omega (arith, before.replies_room, ap (λ r. r.room) c.push.ensures);
    }

pub returns-clause-callers : goal.returns-clause-callers
returns-clause-callers g c =
    let of = c.into_iter-worker-iterator.ensures.into_iter_gives in
    let all = YieldsList-end (YieldsList-from_vec c.args.gone.items of.0 (of.1 ∙ c.args.gone.ok.0)) c.loop-worker.yielded _ c.loop-worker.yielded_by c.next.result c.next.new.self c.in-None.is c.next.ensures.steps in
    c.loop-worker.invariant.callers ∙ all_taken (λ gone. gone.caller) c.loop-worker.yielded c.args.gone.items all.0

pub returns-clause-passes : goal.returns-clause-passes
returns-clause-passes g c =
    let of = c.into_iter-worker-iterator.ensures.into_iter_gives in
    let all = YieldsList-end (YieldsList-from_vec c.args.gone.items of.0 (of.1 ∙ c.args.gone.ok.0)) c.loop-worker.yielded _ c.loop-worker.yielded_by c.next.result c.next.new.self c.in-None.is c.next.ensures.steps in
    c.loop-worker.invariant.passes ∙ all_taken (λ gone. gone.passes.items) c.loop-worker.yielded c.args.gone.items all.0

pub returns-clause-replies : goal.returns-clause-replies
returns-clause-replies g c =
    let of = c.into_iter-worker-iterator.ensures.into_iter_gives in
    let all = YieldsList-end (YieldsList-from_vec c.args.gone.items of.0 (of.1 ∙ c.args.gone.ok.0)) c.loop-worker.yielded _ c.loop-worker.yielded_by c.next.result c.next.new.self c.in-None.is c.next.ensures.steps in
    c.loop-worker.invariant.replies ∙ all_taken (λ gone. gone.replies) c.loop-worker.yielded c.args.gone.items all.0
