-- Who met the misuse that ended a run.
use Rattle.std.proofs.Common.{◌≡◌, ℕ, Bool, false, List, [], ◌∷◌, Some, None, refl, sym, ap, ◌∙◌}
use Rattle.std.specs.Prelude.{if◌then◌else◌}
use Rattle.std.proofs.lemmas.Bool.{eq-eqb}
use Rattle.sync_types.specs.declared.misuse.Misuse.{Misuse}
use Rattle.workload.specs.declared.turn.Turn.{Turn}
use Rattle.workload.specs.declared.turn.Turn.TheVariants as items
use Rattle.workload.specs.Plan.{Plan}
use Rattle.step_runner.specs.declared.step.Step.{Step}
use Rattle.step_runner.specs.declared.step.Step.TheVariants as steps
use Rattle.step_runner.specs.Outcomes.{is_misused}
use Rattle.step_runner.specs.Spelt.{misuse_by, misuse_of}
use Rattle.step_runner.specs.State.{State, with_moment}
use Rattle.step_runner.specs.Turns.{turn_of, with_event, and_then, items_of}

event_step : (y : State × Step) → is_misused (with_event y).1 ≡ is_misused y.1
event_step (s, steps.Still) = refl
event_step (s, steps.Made) = refl
event_step (s, steps.Misused misuse) = refl

event_misuse : (y : State × Step) (misuse : Misuse) → (with_event y).1 ≡ steps.Misused misuse → y.1 ≡ steps.Misused misuse
event_misuse (s, steps.Still) misuse is = absurd cc
event_misuse (s, steps.Made) misuse is = absurd cc
event_misuse (s, steps.Misused other) misuse is = is

-- where no turn was a misuse, nobody met one
unmet_by : (plan : Plan) (worker by : ℕ) (rest : List Turn) (x : State × Step) → ((t : State) → is_misused (items_of plan rest t).1 ≡ false → misuse_of plan worker rest t ≡ None)
    → is_misused (and_then x (items_of plan rest)).1 ≡ false → misuse_by worker by x (misuse_of plan worker rest) ≡ None
unmet_by plan worker by rest (t, steps.Still) later is = later t is
unmet_by plan worker by rest (t, steps.Made) later is = later t (sym (event_step (items_of plan rest t)) ∙ is)
unmet_by plan worker by rest (t, steps.Misused misuse) later is = absurd cc

pub unmet : (plan : Plan) (worker : ℕ) (list : List Turn) (s : State) → is_misused (items_of plan list s).1 ≡ false → misuse_of plan worker list s ≡ None
unmet plan worker [] s is = refl
unmet plan worker (items.Worker by ∷ rest) s is = unmet_by plan worker by rest (turn_of plan by s) (unmet plan worker rest) is
unmet plan worker (items.Moment moment ∷ rest) s is = unmet plan worker rest (with_moment moment s) is

-- else the worker whose turn it was
abbrev Met : Plan → List Turn → State → Misuse → Type 0
Met plan list s misuse = (worker : ℕ) × (misuse_of plan worker list s ≡ Some misuse)

met_by : (plan : Plan) (by : ℕ) (rest : List Turn) (misuse : Misuse) (x : State × Step) → ((t : State) → (items_of plan rest t).1 ≡ steps.Misused misuse → Met plan rest t misuse)
    → (and_then x (items_of plan rest)).1 ≡ steps.Misused misuse → (worker : ℕ) × (misuse_by worker by x (misuse_of plan worker rest) ≡ Some misuse)
met_by plan by rest misuse (t, steps.Still) later is = later t is
met_by plan by rest misuse (t, steps.Made) later is = later t (event_misuse (items_of plan rest t) misuse is)
met_by plan by rest misuse (t, steps.Misused other) later is =
    (by, ap (λ (b : Bool). if b then Some other else None) (eq-eqb by by refl) ∙ ap (λ (m : Misuse). Some m) (one is))
  where
    one : {a b : Misuse} → steps.Misused a ≡ steps.Misused b → a ≡ b
    one e = cc

pub met : (plan : Plan) (list : List Turn) (s : State) (misuse : Misuse) → (items_of plan list s).1 ≡ steps.Misused misuse → Met plan list s misuse
met plan [] s misuse is = absurd cc
met plan (items.Worker by ∷ rest) s misuse is = met_by plan by rest misuse (turn_of plan by s) (λ t. met plan rest t misuse) is
met plan (items.Moment moment ∷ rest) s misuse is = met plan rest (with_moment moment s) misuse is
