use Rattle.std.proofs.Common.{Option, Some, subst}
use Rattle.std.specs.Prelude.{slice_get}
use Rattle.step_runner.specs.LeadsTo.{on_object}
use Rattle.step_runner.specs.TurnWithin.{turn_within, items_within}
use Rattle.step_runner.specs.declared.turns.object_state.ObjectState.{ObjectState}
use Rattle.step_runner.proofs.ItemLogs.{ComesAt}
use Rattle.step_runner.proofs.WithinLemmas.{within_comes}
use Rattle.step_runner.proofs.turns.laws.within.items_lead_on.Goals as goal

pub returns : goal.returns
returns c workers worker moment place begun call objects old new ready at there =
    let made = on_object place (items_within call worker moment begun objects) in
    subst (λ (o : Option ObjectState). ComesAt (Some old) made o) there
    (subst (λ (o : Option ObjectState). ComesAt o made (slice_get (turn_within call worker moment begun objects).0.0 place)) at
    (within_comes c.turns_keep_kinds_and_machines.ensures.ready workers worker moment begun call objects ready place))
