use Rattle.std.proofs.Common.{◌∙◌, ◌*◌, [], ◌∷◌, ap, sym}
use Rattle.protocols.specs.declared.pool.PoolStage.{PoolStage}
use Rattle.step_runner.specs.Items.{pool_item}
use Rattle.step_runner.specs.Noted.{noted}
use Rattle.step_runner.specs.PoolTurn.{looked}
use Rattle.step_runner.proofs.PoolLooks.{after_look, passed_noted, found_noted}
use Rattle.step_runner.proofs.turns.pool_turn.get.Goals as goal

pub loop-number-preserved : goal.loop-number-preserved
loop-number-preserved c =
    let taker = c.args.taker in
    let is = ap (λ (stage : PoolStage). looked taker.worker taker.moment stage c.loop-number.pool) (sym c.look_due-stage.ensures) ∙ c.in_ok-item.ensures.looked in
    record {
      rest = after_look taker.workers taker.worker taker.moment c.loop-number.number (2 * taker.workers) _ c.loop-number.pool c.look.new.pool is c.in_default.not-Some c.loop-number-test.true ∙ c.loop-number.invariant.rest;
      told = passed_noted taker.workers taker.worker taker.moment c.args.place c.loop-number.number (2 * taker.workers) _ c.loop-number.pool c.look.new.pool c.loop-number.notes c.look.new.notes is c.in_default.not-Some
          (c.in_ok-item.ensures.noted ∙ ap (λ (stage : PoolStage). noted (pool_item taker.worker taker.moment c.args.place stage c.loop-number.pool ∷ []) c.loop-number.notes) c.look_due-stage.ensures)
          c.loop-number-test.true
          ∙ c.loop-number.invariant.told;
    }

pub returns-in-Some-clause-noted : goal.returns-in-Some-clause-noted
returns-in-Some-clause-noted c =
    let taker = c.args.taker in
    let is = ap (λ (stage : PoolStage). looked taker.worker taker.moment stage c.loop-number.pool) (sym c.look_due-stage.ensures) ∙ c.in_ok-item.ensures.looked in
    found_noted taker.workers taker.worker taker.moment c.args.place c.loop-number.number (2 * taker.workers) c.in-Some.item c.loop-number.pool c.look.new.pool c.loop-number.notes c.look.new.notes
    (is ∙ ap (λ o. (c.look.new.pool, o)) c.in-Some.is)
    (c.in_ok-item.ensures.noted ∙ ap (λ (stage : PoolStage). noted (pool_item taker.worker taker.moment c.args.place stage c.loop-number.pool ∷ []) c.loop-number.notes) c.look_due-stage.ensures) c.loop-number-test.true
    ∙ c.loop-number.invariant.told
