use Rattle.std.proofs.Common.{Option, Some, subst}
use Rattle.std.specs.Prelude.{slice_get}
use Rattle.step_runner.specs.declared.turns.object_state.ObjectState.{ObjectState}
use Rattle.step_runner.specs.LeadsTo.{on_object}
use Rattle.step_runner.specs.Items.{items_at}
use Rattle.step_runner.specs.TurnAtObjects.{turn_at}
use Rattle.step_runner.proofs.ItemLogs.{ComesAt, comes_nowhere, comes_on, at_comes}
use Rattle.step_runner.proofs.turns.laws.items_lead_from_turn_to_turn.Goals as goal

pub returns-clause-turn : goal.returns-clause-turn
returns-clause-turn c workers worker moment place call objects old new ready at there =
    let made = on_object place (items_at call worker moment objects) in
    subst (λ (o : Option ObjectState). ComesAt (Some old) made o) there
    (subst (λ (o : Option ObjectState). ComesAt o made (slice_get (turn_at call worker moment objects).0 place)) at (at_comes workers worker call moment objects ready place))

pub returns-clause-nowhere : goal.returns-clause-nowhere
returns-clause-nowhere c object = comes_nowhere object

pub returns-clause-on : goal.returns-clause-on
returns-clause-on c first middle last earlier later one two = comes_on first middle last earlier later one two
