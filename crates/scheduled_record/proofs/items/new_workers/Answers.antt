use Rattle.std.proofs.Common.{◌≡◌, ℕ, Bool, List, [], ◌∷◌, ◌++◌, map, replicate, sym, ap, ◌∙◌}
use Rattle.std.specs.List.{range_with_len}
use Rattle.scheduled_record.specs.declared.ledger.WorkerState.{WorkerState}
use Rattle.scheduled_record.proofs.Adding.{first_worker, over_more}
use Rattle.scheduled_record.proofs.items.new_workers.Goals as goal

abbrev state : List ℕ → Bool → WorkerState
state front waits = record { front = front; waits = waits }

pub loop-worker-preserved : goal.loop-worker-preserved
loop-worker-preserved c =
    let plan = c.args.workload.now in
    let worker = c.loop-worker.worker in
    let made : state c.in_ok-none_known.field-0 c.is_dormant.result ≡ first_worker plan worker =
    ap (λ (f : List ℕ). state f c.is_dormant.result) (c.in_ok-none_known.ensures ∙ ap (λ (k : ℕ). replicate k 0) c.workers.ensures.workers) ∙ ap (state (replicate plan.workers 0)) c.is_dormant.ensures.dormant in
    c.in_ok-push.ensures.items
    ∙ (ap (λ (l : List WorkerState). l ++ state c.in_ok-none_known.field-0 c.is_dormant.result ∷ []) c.loop-worker.invariant
    ∙ (ap (λ (x : WorkerState). map (first_worker plan) (range_with_len 0 worker) ++ x ∷ []) made ∙ sym (over_more (first_worker plan) worker)))
