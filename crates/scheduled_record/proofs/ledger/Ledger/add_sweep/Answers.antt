use Rattle.std.proofs.Common.{◌≡◌, ℕ, ◌+◌, List, [], ◌∷◌, map, sym, subst, arith}
use Rattle.std.specs.List.{range_with_len}
use Rattle.pool_core.specs.declared.pool_event.PoolEvent.TheVariants as pool_events
use Rattle.run_record.specs.declared.entered.ObjectEvent.TheVariants as events
use Rattle.run_record.specs.declared.made.Made.{Made}
use Rattle.step_runner.specs.Recorded.{made_on}
use Rattle.scheduled_record.specs.Ledgers.{Adds, adding}
use Rattle.scheduled_record.proofs.Adding.{adds_both, over_more}
use Rattle.scheduled_record.proofs.ledger.Ledger.add_sweep.Goals as goal

pub loop-part-preserved : goal.loop-part-preserved
loop-part-preserved c =
    let plan = c.args.workload.now in
    let entry : ℕ → Made = λ part. made_on plan (c.args.first + part) c.args.worker (events.Pool pool_events.Sweep) c.args.answer.now in
    subst (λ (made : List Made). Adds plan (adding c.args.index c.args.worker made) c.args.self.now c.add_entry.new.self) (sym (over_more entry c.loop-part.part))
    (adds_both plan c.args.index c.args.worker (map entry (range_with_len 0 c.loop-part.part)) (entry c.loop-part.part ∷ []) c.args.self.now c.loop-part.self c.add_entry.new.self c.loop-part.invariant (c.in_ok-add_entry.ensures plan))

pub returns : goal.returns
returns c =
    let plan = c.args.workload.now in
    let entry : ℕ → Made = λ part. made_on plan (c.args.first + part) c.args.worker (events.Pool pool_events.Sweep) c.args.answer.now in
    let all : c.loop-part.part ≡ plan.workers = omega (arith, c.loop-part-test.false, c.loop-part.auto.part-end, c.workers-part-end.ensures.workers) in
    subst (λ (n : ℕ). Adds plan (adding c.args.index c.args.worker (map entry (range_with_len 0 n))) c.args.self.now c.loop-part.self) all c.loop-part.invariant
