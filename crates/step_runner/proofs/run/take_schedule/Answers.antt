use Rattle.std.proofs.Common.{◌+◌, List, drop, sym, ap, ◌∙◌, subst, arith}
use Rattle.std.proofs.lemmas.List.{drop_more}
use Rattle.workload.specs.declared.turn.Turn.{Turn}
use Rattle.step_runner.specs.declared.notes.Notes.{Notes}
use Rattle.step_runner.specs.declared.step.Step.{Step}
use Rattle.step_runner.specs.declared.trace.TraceItem.{TraceItem}
use Rattle.step_runner.specs.Noted.{noted}
use Rattle.step_runner.specs.State.{State}
use Rattle.step_runner.specs.Traces.{traced_from}
use Rattle.step_runner.specs.Turns.{items_of}
use Rattle.step_runner.proofs.TraceLemmas.{RunsSoFar, runs_still, runs_made}
use Rattle.step_runner.proofs.run.take_schedule.Goals as goal
use Rattle.step_runner.proofs.run.take_schedule.Goals.{in-Still, in-Made}

pub loop-item-preserved : goal.loop-item-preserved
loop-item-preserved c =
    let plan = c.args.workload.now in
    let list = c.schedule-item-items.result.now in
    let i = c.loop-item.item-index in
    let later = drop (i + 1) list in
    let s = c.loop-item.state.state in
    let t = c.take_item.new.state.state in
    let trace = c.loop-item.trace in
    let next = c.take_item.new.trace in
    let whole : State × Step = items_of plan list c.args.state.now.state in
    let all : Notes TraceItem = noted (traced_from plan list c.args.state.now.state) c.args.trace.now in
    record {
      of = c.in_ok-take_item.ensures.of;
      so_far = elim c.match-branch-2.branch [
        | in-Still w ↦
            subst (λ (x : Step). RunsSoFar plan later t x next whole all) (sym w.so_far-is)
            (runs_still plan _ later s t c.loop-item.so_far trace next whole all
            (subst (λ (left : List Turn). RunsSoFar plan left s c.loop-item.so_far trace whole all) (drop_more list i _ (omega (arith, c.loop-item-test.true, c.loop-item.auto.item-index-end))) c.loop-item.invariant.so_far)
            (c.in_ok-take_item.ensures.item ∙ ap (λ (step : Step). (t, step)) w.in-Still.is) c.in_ok-take_item.ensures.noted)
        | in-Made w ↦
            subst (λ (x : Step). RunsSoFar plan later t x next whole all) (sym w.so_far-is)
            (runs_made plan _ later s t c.loop-item.so_far trace next whole all
            (subst (λ (left : List Turn). RunsSoFar plan left s c.loop-item.so_far trace whole all) (drop_more list i _ (omega (arith, c.loop-item-test.true, c.loop-item.auto.item-index-end))) c.loop-item.invariant.so_far)
            (c.in_ok-take_item.ensures.item ∙ ap (λ (step : Step). (t, step)) w.in-Made.is) c.in_ok-take_item.ensures.noted)
      ];
    }
