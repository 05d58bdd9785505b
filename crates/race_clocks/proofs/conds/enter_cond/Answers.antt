use Rattle.std.proofs.Common.{◌≡◌, List, ◌++◌, map, length, sym, ap, ◌∙◌, unwrap_or, Option}
use Rattle.std.specs.List.{range_with_len}
use Rattle.std.proofs.lemmas.List.FromFn.{length-map-range_with_len}
use Rattle.std.proofs.lemmas.Result.{on_ok_weaker}
use Rattle.wait_cores.specs.NotifyMachine as notify
use Rattle.wait_cores.specs.declared.notify.NotifyPlace.{NotifyPlace}
use Rattle.race_clocks.specs.Handing.{notices, cond_at}
use Rattle.race_clocks.proofs.conds.enter_cond.Goals as goal

pub push_notices-requires-clause-before : goal.push_notices-requires-clause-before
push_notices-requires-clause-before c =
    ap (λ (places : List NotifyPlace). length places) (c.deref.ensures.value ∙ c.in_ok-before.ensures) ∙ length-map-range_with_len (notify.place_of c.in_ok-core.core) 0 c.args.workers

pub returns-clause-gives : goal.returns-clause-gives
returns-clause-gives c =
    let workers = c.args.workers in
    let old = cond_at workers c.args.conds.now c.args.place in
    let core_is : c.in_ok-core.core ≡ old = c.in_ok-core.ensures ∙ ap (λ (taken : Option notify.NotifyState). unwrap_or taken (notify.start workers)) c.take.ensures.taken in
    let before_is : c.deref.result.now ≡ map (notify.place_of old) (range_with_len 0 workers) =
    c.deref.ensures.value ∙ c.in_ok-before.ensures ∙ ap (λ core. map (notify.place_of core) (range_with_len 0 workers)) core_is in
    let after_is : c.step.new.self ≡ (notify.next old c.args.caller c.args.event).0 =
    sym (ap (λ x. x.0) c.step.ensures.step) ∙ ap (λ core. (notify.next core c.args.caller c.args.event).0) core_is in
    on_ok_weaker c.put.result
    (λ put.
    c.in_ok-push_notices.ensures
    ∙ ap (λ before. c.args.gives.now ++ notices workers c.args.place before c.step.new.self) before_is
    ∙ ap (λ after. c.args.gives.now ++ notices workers c.args.place (map (notify.place_of old) (range_with_len 0 workers)) after) after_is)
    c.put.ensures
