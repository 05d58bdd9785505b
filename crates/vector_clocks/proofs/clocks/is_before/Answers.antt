use Rattle.std.proofs.Common.{◌≤◌, get_or, slice_index, arith}
use Rattle.std.proofs.lemmas.Bool.{leb-true, le-leb}
use Rattle.std.proofs.lemmas.Option.{slice_get-get_or}
use Rattle.vector_clocks.specs.declared.clock.Clock.{Clock}
use Rattle.vector_clocks.specs.declared.step.Step.{Step}
use Rattle.vector_clocks.specs.Before.{Before}
use Rattle.vector_clocks.proofs.Rows.{counted_before}
use Rattle.vector_clocks.proofs.clocks.is_before.Goals as goal

abbrev step : (c : goal.After-index-clocks-later) → Step
step c = get_or c.args.trace.now c.args.earlier c.index-trace-earlier.result

abbrev first : (c : goal.After-index-clocks-later) → Clock
first c = get_or c.args.clocks.now c.args.earlier c.index-clocks-earlier.result

abbrev second : (c : goal.After-index-clocks-later) → Clock
second c = get_or c.args.clocks.now c.args.later c.index-clocks-later.result

tells : (c : goal.After-index-clocks-later)
    → (slice_index (first c).counts (step c).worker ≤ slice_index (second c).counts (step c).worker → Before c.args.trace.now c.args.earlier c.args.later) × (Before c.args.trace.now c.args.earlier c.args.later → slice_index (first c).counts (step c).worker ≤ slice_index (second c).counts (step c).worker)
tells c =
    let all = c.requires.are.all in let order = c.requires.order in let within = c.requires.within in
    counted_before c.args.trace.now c.args.clocks.now c.requires.are c.args.earlier c.args.later (step c) (first c) (second c) c.requires.order
    (slice_get-get_or c.args.trace.now c.args.earlier c.index-trace-earlier.result (omega (arith, order, within)))
    (slice_get-get_or c.args.clocks.now c.args.earlier c.index-clocks-earlier.result (omega (arith, order, within, all)))
    (slice_get-get_or c.args.clocks.now c.args.later c.index-clocks-later.result (omega (arith, within, all)))

pub returns : goal.returns
returns c = (λ t. (tells c).0 (leb-true (slice_index (first c).counts (step c).worker) (slice_index (second c).counts (step c).worker) t), λ before. le-leb (slice_index (first c).counts (step c).worker) (slice_index (second c).counts (step c).worker) ((tells c).1 before))
