use Rattle.std.proofs.Common.{List, subst}
use Rattle.step_runner.specs.declared.turns.answer.Answer.{Answer}
use Rattle.step_runner.specs.declared.turns.object_state.ObjectState.{ObjectState}
use Rattle.step_runner.specs.Ready.{IsReady}
use Rattle.step_runner.specs.TurnWithin.{wait_on, load_of}
use Rattle.step_runner.proofs.turns.within.take_wait_for_turn.Goals as goal

pub look-requires-in-Completed-clause-atomic : goal.look-requires-in-Completed-clause-atomic
look-requires-in-Completed-clause-atomic c =
    let taker = c.args.taker in
    let load = load_of c.args.awaited.atomic in
    subst (λ (step : List ObjectState × Answer). IsReady taker.workers taker.worker load step.0) c.in_ok-answer.ensures.turn
    (c.turns_keep_kinds_and_machines.ensures.ready taker.workers taker.worker taker.moment taker.worker (wait_on c.args.awaited.cond) load c.args.objects.now c.requires.ready c.requires.atomic)
