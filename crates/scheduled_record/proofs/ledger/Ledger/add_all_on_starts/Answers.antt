use Rattle.std.proofs.Common.{◌≡◌, ℕ, ◌++◌, None, refl, subst, arith}
use Rattle.step_runner.specs.Spelt.{made_on_starts}
use Rattle.scheduled_record.specs.Ledgers.{Adds}
use Rattle.scheduled_record.specs.ToldItems.{told_as}
use Rattle.scheduled_record.proofs.Adding.{made_to, starts_more}
use Rattle.scheduled_record.proofs.ledger.Ledger.add_all_on_starts.Goals as goal

pub loop-worker-preserved : goal.loop-worker-preserved
loop-worker-preserved c =
    let plan = c.args.workload.now in
    starts_more plan c.args.among.now (λ worker. made_on_starts plan worker c.args.event c.args.answer) c.loop-worker.worker _ c.args.self.now c.loop-worker.self c.add_on_starts_if.new.self refl c.loop-worker.invariant c.in_ok-add_on_starts_if.ensures

pub returns : goal.returns
returns c =
    let plan = c.args.workload.now in
    let all : c.loop-worker.worker ≡ plan.workers = omega (arith, c.loop-worker-test.false, c.loop-worker.auto.worker-end, c.workers-worker-end.ensures.workers) in
    subst (λ (n : ℕ). Adds plan (λ told. told ++ told_as None (made_to plan c.args.among.now (λ worker. made_on_starts plan worker c.args.event c.args.answer) n)) c.args.self.now c.loop-worker.self) all c.loop-worker.invariant
