use Rattle.std.proofs.Common.{◌+◌, ◌-◌, List, sym, ap, ◌∙◌, subst, arith}
use Rattle.std.specs.List.{range_with_len}
use Rattle.workload.specs.declared.turn.Turn.{Turn}
use Rattle.workload.specs.declared.turn.Turn.TheVariants as items
use Rattle.step_runner.specs.declared.notes.Notes.{Notes}
use Rattle.step_runner.specs.declared.step.Step.{Step}
use Rattle.step_runner.specs.declared.trace.TraceItem.{TraceItem}
use Rattle.step_runner.specs.Noted.{noted}
use Rattle.step_runner.specs.Traces.{traced_from}
use Rattle.step_runner.specs.Turns.{items_of, round}
use Rattle.step_runner.proofs.RunLemmas.{SoFar, turns_of, next_still, next_made, next_misused, next_worker}
use Rattle.step_runner.proofs.TraceLemmas.{ToldSoFar, told_still, told_made, told_misused}
use Rattle.step_runner.proofs.run.take_round.Goals as goal
use Rattle.step_runner.proofs.run.take_round.Goals.{in-Still, in-Made}

pub returns-in-Misused-clause-items : goal.returns-in-Misused-clause-items
returns-in-Misused-clause-items c =
    let plan = c.args.workload.now in
    let worker = c.loop-worker.worker in
    let later = turns_of (range_with_len (worker + 1) (plan.workers - (worker + 1))) in
    let whole = items_of plan (round plan.workers) c.args.state.now.state in
    let before = subst (λ (left : List Turn). SoFar plan left c.loop-worker.state.state c.loop-worker.so_far whole) (next_worker plan.workers worker (omega (arith, c.loop-worker-test.true, c.workers-worker-end.ensures.workers))) c.loop-worker.invariant.so_far in
    next_misused plan (items.Worker worker) later c.loop-worker.state.state c.take_turn.new.state.state c.loop-worker.so_far whole c.in-Misused.misuse before
    (c.in_ok-take_turn.ensures.turn ∙ ap (λ step. (c.take_turn.new.state.state, step)) c.in-Misused.is)

pub returns-in-Misused-clause-noted : goal.returns-in-Misused-clause-noted
returns-in-Misused-clause-noted c =
    let plan = c.args.workload.now in
    let worker = c.loop-worker.worker in
    let later = turns_of (range_with_len (worker + 1) (plan.workers - (worker + 1))) in
    let whole : Notes TraceItem = noted (traced_from plan (round plan.workers) c.args.state.now.state) c.args.trace.now in
    let before = subst (λ (left : List Turn). ToldSoFar plan left c.loop-worker.state.state c.loop-worker.trace whole) (next_worker plan.workers worker (omega (arith, c.loop-worker-test.true, c.workers-worker-end.ensures.workers))) c.loop-worker.invariant.told in
    told_misused plan (items.Worker worker) later c.loop-worker.state.state c.take_turn.new.state.state c.in-Misused.misuse c.loop-worker.trace c.take_turn.new.trace whole before
    (c.in_ok-take_turn.ensures.turn ∙ ap (λ step. (c.take_turn.new.state.state, step)) c.in-Misused.is) c.in_ok-take_turn.ensures.noted

pub loop-worker-preserved : goal.loop-worker-preserved
loop-worker-preserved c =
    let plan = c.args.workload.now in
    let worker = c.loop-worker.worker in
    let later = turns_of (range_with_len (worker + 1) (plan.workers - (worker + 1))) in
    let whole = items_of plan (round plan.workers) c.args.state.now.state in
    let before = subst (λ (left : List Turn). SoFar plan left c.loop-worker.state.state c.loop-worker.so_far whole) (next_worker plan.workers worker (omega (arith, c.loop-worker-test.true, c.workers-worker-end.ensures.workers))) c.loop-worker.invariant.so_far in
    let all : Notes TraceItem = noted (traced_from plan (round plan.workers) c.args.state.now.state) c.args.trace.now in
    let told_before = subst (λ (left : List Turn). ToldSoFar plan left c.loop-worker.state.state c.loop-worker.trace all) (next_worker plan.workers worker (omega (arith, c.loop-worker-test.true, c.workers-worker-end.ensures.workers))) c.loop-worker.invariant.told in
    record {
      of = c.in_ok-take_turn.ensures.of;
      so_far = elim c.match-branch-2.branch [
        | in-Still w ↦
            subst (λ (x : Step). SoFar plan later c.take_turn.new.state.state x whole) (sym w.so_far-is)
            (next_still plan (items.Worker worker) later c.loop-worker.state.state c.take_turn.new.state.state c.loop-worker.so_far whole before
            (c.in_ok-take_turn.ensures.turn ∙ ap (λ step. (c.take_turn.new.state.state, step)) w.in-Still.is))
        | in-Made w ↦
            subst (λ (x : Step). SoFar plan later c.take_turn.new.state.state x whole) (sym w.so_far-is)
            (next_made plan (items.Worker worker) later c.loop-worker.state.state c.take_turn.new.state.state c.loop-worker.so_far whole before
            (c.in_ok-take_turn.ensures.turn ∙ ap (λ step. (c.take_turn.new.state.state, step)) w.in-Made.is))
      ];
      told = elim c.match-branch-2.branch [
        | in-Still w ↦
            told_still plan (items.Worker worker) later c.loop-worker.state.state c.take_turn.new.state.state c.loop-worker.trace c.take_turn.new.trace all told_before
            (c.in_ok-take_turn.ensures.turn ∙ ap (λ step. (c.take_turn.new.state.state, step)) w.in-Still.is) c.in_ok-take_turn.ensures.noted
        | in-Made w ↦
            told_made plan (items.Worker worker) later c.loop-worker.state.state c.take_turn.new.state.state c.loop-worker.trace c.take_turn.new.trace all told_before
            (c.in_ok-take_turn.ensures.turn ∙ ap (λ step. (c.take_turn.new.state.state, step)) w.in-Made.is) c.in_ok-take_turn.ensures.noted
      ];
    }
