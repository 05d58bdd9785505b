use Rattle.std.proofs.Common.{List, [], ◌∷◌, ◌++◌, sym, ap, ◌∙◌, arith}
use Rattle.std.proofs.lemmas.List.FromFn.{map-range_with_len_more}
use Rattle.wait_cores.specs.NotifyMachine as notify
use Rattle.wait_cores.specs.declared.notify.NotifyPlace.{NotifyPlace}
use Rattle.race_clocks.proofs.conds.places.Goals as goal

pub loop-worker-preserved : goal.loop-worker-preserved
loop-worker-preserved c =
    c.in_ok-push.ensures.items
    ∙ ap (λ (place : NotifyPlace). c.loop-worker.places.items ++ place ∷ []) c.place.ensures
    ∙ ap (λ (places : List NotifyPlace). places ++ notify.place_of c.args.core.now c.loop-worker.worker ∷ []) c.loop-worker.invariant
    ∙ sym (map-range_with_len_more (notify.place_of c.args.core.now) 0 c.loop-worker.worker c.loop-worker.worker (omega arith))
