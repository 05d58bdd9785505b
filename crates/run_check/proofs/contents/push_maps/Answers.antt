use Rattle.std.proofs.Common.{◌++◌, sym, ap, ◌∙◌}
use Rattle.std.specs.List.{flat_map}
use Rattle.std.proofs.lemmas.Iterator.{YieldsList-from_slice, YieldsList-from_zip}
use Rattle.std.proofs.lemmas.Iterator.Consumers.{YieldsList-end}
use Rattle.std.proofs.lemmas.List.Folds.{flat_map-map}
use Rattle.sync_model.specs.EndsOfHistory.{pair_ends_by}
use Rattle.run_check.proofs.contents.push_maps.Goals as goal

pub returns : goal.returns
returns c =
    let all = YieldsList-end (YieldsList-from_zip (YieldsList-from_slice c.args.places.now cc) (YieldsList-from_slice c.args.maps.now cc)) c.loop-object.yielded _ c.loop-object.yielded_by c.next.result c.next.new.self c.in-None.is c.next.ensures.steps in
    c.loop-object.invariant ∙ ap (λ l. c.args.ends.now.items ++ l) (sym (flat_map-map (pair_ends_by c.args.order.now) (λ pair. (pair.0.now, pair.1.now)) c.loop-object.yielded) ∙ ap (flat_map (pair_ends_by c.args.order.now)) all.0)
