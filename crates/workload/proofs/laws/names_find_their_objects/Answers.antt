use Rattle.std.proofs.Common.{◌≡◌, ◌-◌, sym, ap, ◌∙◌, arith}
use Rattle.std.specs.Prelude.{slice_get}
use Rattle.workload.proofs.DraftLemmas.{found_at}
use Rattle.workload.proofs.laws.names_find_their_objects.Goals as goal

pub returns : goal.returns
returns c draft name found is =
    let there = found_at 0 name draft.plan.objects found is in
    let place : found.place - 0 ≡ found.place = omega arith in
    (there.0, ap (slice_get draft.plan.objects) (sym place) ∙ there.2, there.3)
