use Rattle.std.proofs.Common.{ℕ, ◌<◌, List, length, sym, ap, ◌∙◌, subst, refl}
use Rattle.std.proofs.lemmas.List.{take_all}
use Rattle.std.proofs.lemmas.Option.{slice_get_read}
use Rattle.workload.specs.Keys.{key_number}
use Rattle.scheduled_record.specs.Ledgers.{Adds, adding}
use Rattle.scheduled_record.proofs.Adding.{steps_of, steps_more}
use Rattle.scheduled_record.proofs.ledger.Ledger.add_steps.Goals as goal

pub add_step-requires : goal.add_step-requires
add_step-requires c = subst (λ (k : ℕ). c.args.worker < k) (sym ((c.loop-key.invariant 0 0).stays c.requires.of).workers) c.requires.worker

pub loop-key-preserved : goal.loop-key-preserved
loop-key-preserved c map_number begin =
    steps_more c.args.workload.now c.args.index c.args.worker map_number begin c.args.pairs.now c.loop-key.key-index c.loop-key-item.result c.number_of.result c.args.self.now c.loop-key.self c.add_step.new.self
    (slice_get_read c.args.pairs.now (length c.args.pairs.now) c.loop-key.key-index c.loop-key-item.result refl c.loop-key-test.true c.loop-key-item.is) (c.number_of.ensures ∙ ap (λ (keys : List (List ℕ)). key_number keys c.loop-key-item.result.0) c.keys.ensures) (c.loop-key.invariant map_number begin) (c.in_ok-add_step.ensures c.args.workload.now begin)

pub returns : goal.returns
returns c map_number begin = subst (λ (pairs : List (List ℕ × ℕ)). Adds c.args.workload.now (adding c.args.index c.args.worker (steps_of c.args.workload.now c.args.index c.args.worker map_number begin pairs)) c.args.self.now c.loop-key.self)
    (take_all c.loop-key.key-index c.args.pairs.now c.loop-key-test.false) (c.loop-key.invariant map_number begin)
