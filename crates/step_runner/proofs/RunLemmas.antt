-- Turns in order.
use Rattle.std.proofs.Common.{◌≡◌, ℕ, zero, suc, ◌+◌, ◌-◌, ◌<◌, Bool, true, false, List, [], ◌∷◌, ◌++◌, map, refl, sym, ap, ◌∙◌, subst, arith}
use Rattle.std.specs.List.{range_with_len}
use Rattle.std.specs.Prelude.{if◌then◌else◌}
use Rattle.sync_types.specs.declared.misuse.Misuse.{Misuse}
use Rattle.workload.specs.declared.turn.Turn.{Turn}
use Rattle.workload.specs.declared.turn.Turn.TheVariants as items
use Rattle.workload.specs.Plan.{Plan}
use Rattle.step_runner.specs.declared.step.Step.{Step}
use Rattle.step_runner.specs.declared.step.Step.TheVariants as steps
use Rattle.step_runner.specs.LeftToDo.{left_to_do}
use Rattle.step_runner.specs.Outcomes.{is_misused}
use Rattle.script_calls.specs.declared.outcome.Ending.{Ending}
use Rattle.script_calls.specs.declared.outcome.Ending.TheVariants as endings
use Rattle.step_runner.specs.State.{State, start, with_moment, IsStateOf}
use Rattle.step_runner.specs.Turns.{turn_of, item_of, with_event, and_then, items_of, round, has_ended}
use Rattle.step_runner.specs.Computed.{behind_round, rounds_of, behind_schedule, whole_run}
use Rattle.step_runner.proofs.TurnLemmas.{StepUses, true_false}

-- ---- one after the other

again : (x : State × Step) → with_event (with_event x) ≡ with_event x
again (s, steps.Still) = refl
again (s, steps.Made) = refl
again (s, steps.Misused misuse) = refl

event_first : (x : State × Step) (f : State → State × Step) → with_event (and_then x f) ≡ and_then (with_event x) f
event_first (s, steps.Still) f = refl
event_first (s, steps.Made) f = again (f s)
event_first (s, steps.Misused misuse) f = refl

pub then_assoc : (x : State × Step) (f g : State → State × Step) → and_then x (λ s. and_then (f s) g) ≡ and_then (and_then x f) g
then_assoc (s, steps.Still) f g = refl
then_assoc (s, steps.Made) f g = event_first (f s) g
then_assoc (s, steps.Misused misuse) f g = refl

pub then_ends : (x : State × Step) → and_then x (λ s. (s, steps.Still)) ≡ x
then_ends (s, steps.Still) = refl
then_ends (s, steps.Made) = refl
then_ends (s, steps.Misused misuse) = refl

then_same : (x : State × Step) (f g : State → State × Step) → ((s : State) → f s ≡ g s) → and_then x f ≡ and_then x g
then_same (s, steps.Still) f g same = same s
then_same (s, steps.Made) f g same = ap with_event (same s)
then_same (s, steps.Misused misuse) f g same = refl

pub items_append : (plan : Plan) (first rest : List Turn) (s : State) → items_of plan (first ++ rest) s ≡ and_then (items_of plan first s) (items_of plan rest)
items_append plan [] rest s = refl
items_append plan (item ∷ first) rest s =
    then_same (item_of plan item s) (items_of plan (first ++ rest)) (λ t. and_then (items_of plan first t) (items_of plan rest)) (items_append plan first rest)
    ∙ then_assoc (item_of plan item s) (items_of plan first) (items_of plan rest)

-- what was so far, and one turn more
pub so_far_still : (so_far : Step) (f : State → State × Step) (s t : State) → is_misused so_far ≡ false → f s ≡ (t, steps.Still) → and_then (s, so_far) f ≡ (t, so_far)
so_far_still steps.Still f s t goes_on is = is
so_far_still steps.Made f s t goes_on is = ap with_event is
so_far_still (steps.Misused misuse) f s t goes_on is = absurd (true_false goes_on)

pub so_far_made : (so_far : Step) (f : State → State × Step) (s t : State) → is_misused so_far ≡ false → f s ≡ (t, steps.Made) → and_then (s, so_far) f ≡ (t, steps.Made)
so_far_made steps.Still f s t goes_on is = is
so_far_made steps.Made f s t goes_on is = ap with_event is
so_far_made (steps.Misused misuse) f s t goes_on is = absurd (true_false goes_on)

pub so_far_misused : (so_far : Step) (f : State → State × Step) (s t : State) (misuse : Misuse) → is_misused so_far ≡ false → f s ≡ (t, steps.Misused misuse) → and_then (s, so_far) f ≡ (t, steps.Misused misuse)
so_far_misused steps.Still f s t misuse goes_on is = is
so_far_misused steps.Made f s t misuse goes_on is = ap with_event is
so_far_misused (steps.Misused other) f s t misuse goes_on is = absurd (true_false goes_on)

-- what is so far with what is left makes the whole
pub record SoFar (plan : Plan) (left : List Turn) (s : State) (so_far : Step) (whole : State × Step) : Type 0 where
  pub goes_on : is_misused so_far ≡ false
  pub makes : and_then (s, so_far) (items_of plan left) ≡ whole

pub next_still : (plan : Plan) (item : Turn) (left : List Turn) (s t : State) (so_far : Step) (whole : State × Step) → SoFar plan (item ∷ left) s so_far whole → item_of plan item s ≡ (t, steps.Still) → SoFar plan left t so_far whole
next_still plan item left s t so_far whole before is = record {
  goes_on = before.goes_on;
  makes = ap (λ x. and_then x (items_of plan left)) (sym (so_far_still so_far (item_of plan item) s t before.goes_on is))
      ∙ sym (then_assoc (s, so_far) (item_of plan item) (items_of plan left)) ∙ before.makes;
}

pub next_made : (plan : Plan) (item : Turn) (left : List Turn) (s t : State) (so_far : Step) (whole : State × Step) → SoFar plan (item ∷ left) s so_far whole → item_of plan item s ≡ (t, steps.Made) → SoFar plan left t steps.Made whole
next_made plan item left s t so_far whole before is = record {
  goes_on = refl;
  makes = ap (λ x. and_then x (items_of plan left)) (sym (so_far_made so_far (item_of plan item) s t before.goes_on is))
      ∙ sym (then_assoc (s, so_far) (item_of plan item) (items_of plan left)) ∙ before.makes;
}

pub next_misused : (plan : Plan) (item : Turn) (left : List Turn) (s t : State) (so_far : Step) (whole : State × Step) (misuse : Misuse)
    → SoFar plan (item ∷ left) s so_far whole → item_of plan item s ≡ (t, steps.Misused misuse) → whole ≡ (t, steps.Misused misuse)
next_misused plan item left s t so_far whole misuse before is =
    sym before.makes ∙ then_assoc (s, so_far) (item_of plan item) (items_of plan left)
    ∙ ap (λ x. and_then x (items_of plan left)) (so_far_misused so_far (item_of plan item) s t misuse before.goes_on is)

pub none_left : (plan : Plan) (s : State) (so_far : Step) (whole : State × Step) → SoFar plan [] s so_far whole → whole ≡ (s, so_far)
none_left plan s so_far whole before = sym before.makes ∙ then_ends (s, so_far)

-- ---- what turns in order keep, and use up

-- what the laws say of a turn
abbrev pub GoesOn : Plan → Type 0
GoesOn plan = (worker : ℕ) (s : State) → IsStateOf plan s → IsStateOf plan (turn_of plan worker s).0

abbrev pub UsesUp : Plan → Type 0
UsesUp plan = (worker : ℕ) (s : State) → IsStateOf plan s → StepUses plan s (turn_of plan worker s)

uses_by : (plan : Plan) (s : State) (x : State × Step) → ((t : State) → x ≡ (t, steps.Still) → t ≡ s) → ((t : State) → x ≡ (t, steps.Made) → left_to_do plan t < left_to_do plan s)
    → ((t : State) (misuse : Misuse) → x ≡ (t, steps.Misused misuse) → t.replies ≡ s.replies) → StepUses plan s x
uses_by plan s (t, steps.Still) still made misused = still t refl
uses_by plan s (t, steps.Made) still made misused = made t refl
uses_by plan s (t, steps.Misused misuse) still made misused = misused t misuse refl

pub uses_up : (plan : Plan) → ((worker : ℕ) (s t : State) → IsStateOf plan s → turn_of plan worker s ≡ (t, steps.Still) → t ≡ s)
    → ((worker : ℕ) (s t : State) → IsStateOf plan s → turn_of plan worker s ≡ (t, steps.Made) → left_to_do plan t < left_to_do plan s)
    → ((worker : ℕ) (s t : State) (misuse : Misuse) → IsStateOf plan s → turn_of plan worker s ≡ (t, steps.Misused misuse) → t.replies ≡ s.replies) → UsesUp plan
uses_up plan still made misused worker s of =
    uses_by plan s (turn_of plan worker s) (λ t. still worker s t of) (λ t. made worker s t of) (λ t misuse. misused worker s t misuse of)

-- what each turn keeps, and the clock has nothing to do with, items keep
event_keeps : (P : State → Type 0) (x : State × Step) → P x.0 → P (with_event x).0
event_keeps P (s, steps.Still) has = has
event_keeps P (s, steps.Made) has = has
event_keeps P (s, steps.Misused misuse) has = has

then_keeps : (P : State → Type 0) (x : State × Step) (f : State → State × Step) → P x.0 → ((s : State) → P s → P (f s).0) → P (and_then x f).0
then_keeps P (s, steps.Still) f has later = later s has
then_keeps P (s, steps.Made) f has later = event_keeps P (f s) (later s has)
then_keeps P (s, steps.Misused misuse) f has later = has

pub record Kept (plan : Plan) (P : State → Type 0) : Type 0 where
  pub turn : (worker : ℕ) (s : State) → P s → P (turn_of plan worker s).0
  pub moment : (moment : ℕ) (s : State) → P s → P (with_moment moment s)

item_keeps : (plan : Plan) (P : State → Type 0) → Kept plan P → (item : Turn) (s : State) → P s → P (item_of plan item s).0
item_keeps plan P kept (items.Worker worker) s has = kept.turn worker s has
item_keeps plan P kept (items.Moment moment) s has = kept.moment moment s has

pub items_keep : (plan : Plan) (P : State → Type 0) → Kept plan P → (list : List Turn) (s : State) → P s → P (items_of plan list s).0
items_keep plan P kept [] s has = has
items_keep plan P kept (item ∷ rest) s has = then_keeps P (item_of plan item s) (items_of plan rest) (item_keeps plan P kept item s has) (items_keep plan P kept rest)

-- and whole runs do
behind_keeps : (plan : Plan) (P : State → Type 0) (x : State × Step) (f : State → State × Ending) → P x.0 → ((s : State) → P s → P (f s).0) → P (behind_round x f).0
behind_keeps plan P (s, steps.Still) f has later = has
behind_keeps plan P (s, steps.Made) f has later = later s has
behind_keeps plan P (s, steps.Misused misuse) f has later = has

either_keeps : (P : State → Type 0) (b : Bool) (s : State) (x : State × Ending) → P s → P x.0 → P (if b then (s, endings.Done) else x).0
either_keeps P true s x has other = has
either_keeps P false s x has other = other

rounds_keep : (plan : Plan) (P : State → Type 0) → Kept plan P → (n : ℕ) (s : State) → P s → P (rounds_of n plan s).0
rounds_keep plan P kept zero s has = has
rounds_keep plan P kept (suc n) s has =
    either_keeps P (has_ended plan s) s (behind_round (items_of plan (round plan.workers) s) (rounds_of n plan)) has
    (behind_keeps plan P (items_of plan (round plan.workers) s) (rounds_of n plan) (items_keep plan P kept (round plan.workers) s has) (rounds_keep plan P kept n))

schedule_keeps : (plan : Plan) (P : State → Type 0) → Kept plan P → (x : State × Step) → P x.0 → P (behind_schedule plan x).0
schedule_keeps plan P kept (s, steps.Still) has = rounds_keep plan P kept (left_to_do plan s + 1) s has
schedule_keeps plan P kept (s, steps.Made) has = rounds_keep plan P kept (left_to_do plan s + 1) s has
schedule_keeps plan P kept (s, steps.Misused misuse) has = has

pub run_keeps : (plan : Plan) (P : State → Type 0) → Kept plan P → P (start plan) → P (whole_run plan).0
run_keeps plan P kept has = schedule_keeps plan P kept (items_of plan plan.schedule (start plan)) (items_keep plan P kept plan.schedule (start plan) has)

pub moment_valid : (plan : Plan) (moment : ℕ) (s : State) → IsStateOf plan s → IsStateOf plan (with_moment moment s)
moment_valid plan moment s of = record { valid = of.valid; objects = of.objects; machines = of.machines; workers = of.workers; within = of.within; waits = of.waits; few = of.few; made = of.made; count = of.count; each = of.each }

pub item_valid : (plan : Plan) → GoesOn plan → (item : Turn) (s : State) → IsStateOf plan s → IsStateOf plan (item_of plan item s).0
item_valid plan goes_on item s of = item_keeps plan (IsStateOf plan) (record { turn = goes_on; moment = moment_valid plan }) item s of

pub items_valid : (plan : Plan) → GoesOn plan → (list : List Turn) (s : State) → IsStateOf plan s → IsStateOf plan (items_of plan list s).0
items_valid plan goes_on list s of = items_keep plan (IsStateOf plan) (record { turn = goes_on; moment = moment_valid plan }) list s of

-- turns of workers, with no moment between them
abbrev pub turns_of : List ℕ → List Turn
turns_of workers = map (λ worker. items.Worker worker) workers

-- of the workers that are left of a round, the first takes the next turn
pub next_worker : (workers worker : ℕ) → worker < workers → turns_of (range_with_len worker (workers - worker)) ≡ items.Worker worker ∷ turns_of (range_with_len (worker + 1) (workers - (worker + 1)))
next_worker workers worker below = by_count (workers - worker) (workers - (worker + 1)) (omega (arith, below)) where
  by_count : (left later : ℕ) → left ≡ suc later → turns_of (range_with_len worker left) ≡ items.Worker worker ∷ turns_of (range_with_len (worker + 1) later)
  by_count zero later is = absurd (omega (arith, is))
  by_count (suc left) later is = ap (λ n. items.Worker worker ∷ turns_of (range_with_len (worker + 1) n)) (omega (arith, is))

-- no event: the state stays; an event: less is left to do
abbrev pub ItemsUse : Plan → State → State × Step → Type 0
ItemsUse plan s (t, steps.Still) = t ≡ s
ItemsUse plan s (t, steps.Made) = left_to_do plan t < left_to_do plan s
ItemsUse plan s (t, steps.Misused misuse) = Unit {0}

event_uses : (plan : Plan) (s t : State) (x : State × Step) → left_to_do plan t < left_to_do plan s → ItemsUse plan t x → ItemsUse plan s (with_event x)
event_uses plan s t (u, steps.Still) less same = subst (λ v. left_to_do plan v < left_to_do plan s) (sym same) less
event_uses plan s t (u, steps.Made) less lesser = omega (arith, less, lesser)
event_uses plan s t (u, steps.Misused misuse) less same = tt

then_uses : (plan : Plan) (s : State) (x : State × Step) (f : State → State × Step) → StepUses plan s x → ItemsUse plan x.0 (f x.0) → ItemsUse plan s (and_then x f)
then_uses plan s (t, steps.Still) f same later = subst (λ u. ItemsUse plan u (f t)) same later
then_uses plan s (t, steps.Made) f less later = event_uses plan s t (f t) less later
then_uses plan s (t, steps.Misused misuse) f less later = tt

pub workers_use : (plan : Plan) → GoesOn plan → UsesUp plan → (workers : List ℕ) (s : State) → IsStateOf plan s → ItemsUse plan s (items_of plan (turns_of workers) s)
workers_use plan goes_on uses [] s of = refl
workers_use plan goes_on uses (worker ∷ workers) s of =
    then_uses plan s (turn_of plan worker s) (items_of plan (turns_of workers)) (uses worker s of) (workers_use plan goes_on uses workers (turn_of plan worker s).0 (goes_on worker s of))
