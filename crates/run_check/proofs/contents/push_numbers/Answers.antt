use Rattle.std.proofs.Common.{◌++◌, map, sym, ap, ◌∙◌}
use Rattle.std.proofs.lemmas.Simd.{map-map}
use Rattle.std.proofs.lemmas.Iterator.{YieldsList-from_slice, YieldsList-from_zip}
use Rattle.std.proofs.lemmas.Iterator.Consumers.{YieldsList-end}
use Rattle.sync_types.specs.Ends.{number_end}
use Rattle.run_check.proofs.contents.push_numbers.Goals as goal

pub returns : goal.returns
returns c =
    let all = YieldsList-end (YieldsList-from_zip (YieldsList-from_slice c.args.places.now cc) (YieldsList-from_slice c.args.numbers.now cc)) c.loop-object.yielded _ c.loop-object.yielded_by c.next.result c.next.new.self c.in-None.is c.next.ensures.steps in
    c.loop-object.invariant ∙ ap (λ l. c.args.ends.now.items ++ l) (sym (map-map number_end (λ pair. (pair.0.now, pair.1.now)) c.loop-object.yielded) ∙ ap (map number_end) all.0)
