use Rattle.std.proofs.Common.{Bool, List, [], ◌∷◌, ◌++◌, map, sym, ap, ◌∙◌}
use Rattle.std.specs.List.{range_with_len}
use Rattle.scheduled_record.specs.Ledgers.{waits_in}
use Rattle.scheduled_record.proofs.Adding.{over_more}
use Rattle.scheduled_record.proofs.ledger.Ledger.waiting.Goals as goal

pub loop-worker-preserved : goal.loop-worker-preserved
loop-worker-preserved c =
    c.in_ok-push.ensures.items
    ∙ (ap (λ (l : List Bool). l ++ c.waits.result ∷ []) c.loop-worker.invariant
    ∙ (ap (λ (b : Bool). map (waits_in c.args.self.now) (range_with_len 0 c.loop-worker.worker) ++ b ∷ []) c.waits.ensures ∙ sym (over_more (waits_in c.args.self.now) c.loop-worker.worker)))
