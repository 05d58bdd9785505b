-- What is told of turns, one after the other, and of rounds.
use Rattle.std.proofs.Common.{◌≡◌, ℕ, zero, suc, ◌+◌, ◌<◌, Bool, true, false, List, [], ◌∷◌, ◌++◌, refl, sym, ap, ◌∙◌, append_assoc, append-nil, arith}
use Rattle.std.specs.Prelude.{if◌then◌else◌, Result, OnOk}
use Rattle.std.proofs.lemmas.Result.{on_ok_weaker}
use Rattle.sync_types.specs.declared.misuse.Misuse.{Misuse}
use Rattle.script_calls.specs.declared.outcome.Ending.TheVariants as endings
use Rattle.workload.specs.declared.turn.Turn.{Turn}
use Rattle.workload.specs.Plan.{Plan}
use Rattle.step_runner.specs.declared.notes.Notes.{Notes}
use Rattle.step_runner.specs.declared.step.Step.{Step}
use Rattle.step_runner.specs.declared.step.Step.TheVariants as steps
use Rattle.step_runner.specs.declared.trace.TraceItem.{TraceItem}
use Rattle.step_runner.specs.Computed.{behind_round, rounds_of, behind_schedule, whole_run}
use Rattle.step_runner.specs.LeftToDo.{left_to_do}
use Rattle.step_runner.specs.Noted.{noted}
use Rattle.step_runner.specs.Outcomes.{rounds, is_misused}
use Rattle.step_runner.specs.State.{State, start, IsStateOf}
use Rattle.step_runner.specs.Traces.{traced_turn, unless_over, traced_from, unless_resting, traced_rounds, all_rounds_traced, trace_of}
use Rattle.step_runner.specs.Turns.{item_of, with_event, and_then, items_of, after_items, round, has_ended}
use Rattle.step_runner.proofs.MadeLemmas.{event_state}
use Rattle.step_runner.proofs.NotedLemmas.{noted_append}
use Rattle.step_runner.proofs.RoundLemmas.{round_uses, round_valid}
use Rattle.step_runner.proofs.RunLemmas.{GoesOn, UsesUp, ItemsUse, SoFar, next_still, next_made, next_misused, none_left, items_append}
use Rattle.step_runner.proofs.TurnLemmas.{true_false}

-- ---- turns in order

going_on : (s : State) (step : Step) (f : State → List TraceItem) → is_misused step ≡ false → unless_over (s, step) f ≡ f s
going_on s steps.Still f goes_on = refl
going_on s steps.Made f goes_on = refl
going_on s (steps.Misused misuse) f goes_on = absurd (true_false goes_on)

-- one turn more, and what is left
traced_next : (plan : Plan) (item : Turn) (left : List Turn) (s t : State) (step : Step) (trace : Notes TraceItem) → item_of plan item s ≡ (t, step) → is_misused step ≡ false
    → noted (traced_from plan left t) (noted (traced_turn plan item s) trace) ≡ noted (traced_from plan (item ∷ left) s) trace
traced_next plan item left s t step trace is goes_on =
    noted_append (traced_turn plan item s) (traced_from plan left t) trace
    ∙ ap (λ (more : List TraceItem). noted (traced_turn plan item s ++ more) trace) (sym (ap (λ (x : State × Step). unless_over x (traced_from plan left)) is ∙ going_on t step (traced_from plan left) goes_on))

-- the last turn
traced_last : (plan : Plan) (item : Turn) (left : List Turn) (s t : State) (misuse : Misuse) (trace : Notes TraceItem) → item_of plan item s ≡ (t, steps.Misused misuse)
    → noted (traced_turn plan item s) trace ≡ noted (traced_from plan (item ∷ left) s) trace
traced_last plan item left s t misuse trace is =
    ap (λ (told : List TraceItem). noted told trace)
    (sym (append-nil (traced_turn plan item s)) ∙ ap (λ (x : State × Step). traced_turn plan item s ++ unless_over x (traced_from plan left)) (sym is))

-- what is told so far with what is told of what is left makes the whole
pub record ToldSoFar (plan : Plan) (left : List Turn) (s : State) (trace whole : Notes TraceItem) : Type 0 where
  pub makes : noted (traced_from plan left s) trace ≡ whole

told_next : (plan : Plan) (item : Turn) (left : List Turn) (s t : State) (step : Step) (trace next whole : Notes TraceItem) → ToldSoFar plan (item ∷ left) s trace whole → item_of plan item s ≡ (t, step) → is_misused step ≡ false
    → next ≡ noted (traced_turn plan item s) trace → ToldSoFar plan left t next whole
told_next plan item left s t step trace next whole before is goes_on more = record {
  makes = ap (noted (traced_from plan left t)) more ∙ traced_next plan item left s t step trace is goes_on ∙ before.makes;
}

pub told_still : (plan : Plan) (item : Turn) (left : List Turn) (s t : State) (trace next whole : Notes TraceItem) → ToldSoFar plan (item ∷ left) s trace whole → item_of plan item s ≡ (t, steps.Still)
    → next ≡ noted (traced_turn plan item s) trace → ToldSoFar plan left t next whole
told_still plan item left s t trace next whole before is more = told_next plan item left s t steps.Still trace next whole before is refl more

pub told_made : (plan : Plan) (item : Turn) (left : List Turn) (s t : State) (trace next whole : Notes TraceItem) → ToldSoFar plan (item ∷ left) s trace whole → item_of plan item s ≡ (t, steps.Made)
    → next ≡ noted (traced_turn plan item s) trace → ToldSoFar plan left t next whole
told_made plan item left s t trace next whole before is more = told_next plan item left s t steps.Made trace next whole before is refl more

pub told_misused : (plan : Plan) (item : Turn) (left : List Turn) (s t : State) (misuse : Misuse) (trace next whole : Notes TraceItem) → ToldSoFar plan (item ∷ left) s trace whole → item_of plan item s ≡ (t, steps.Misused misuse)
    → next ≡ noted (traced_turn plan item s) trace → next ≡ whole
told_misused plan item left s t misuse trace next whole before is more = more ∙ traced_last plan item left s t misuse trace is ∙ before.makes

pub none_told : (plan : Plan) (s : State) (trace whole : Notes TraceItem) → ToldSoFar plan [] s trace whole → trace ≡ whole
none_told plan s trace whole before = before.makes

-- both: what is so far of the run and of what is told
pub record RunsSoFar (plan : Plan) (left : List Turn) (s : State) (so_far : Step) (trace : Notes TraceItem) (whole : State × Step) (all : Notes TraceItem) : Type 0 where
  pub run : SoFar plan left s so_far whole
  pub told : ToldSoFar plan left s trace all

pub runs_still : (plan : Plan) (item : Turn) (left : List Turn) (s t : State) (so_far : Step) (trace next : Notes TraceItem) (whole : State × Step) (all : Notes TraceItem) → RunsSoFar plan (item ∷ left) s so_far trace whole all
    → item_of plan item s ≡ (t, steps.Still) → next ≡ noted (traced_turn plan item s) trace → RunsSoFar plan left t so_far next whole all
runs_still plan item left s t so_far trace next whole all before is more = record {
  run = next_still plan item left s t so_far whole before.run is;
  told = told_still plan item left s t trace next all before.told is more;
}

pub runs_made : (plan : Plan) (item : Turn) (left : List Turn) (s t : State) (so_far : Step) (trace next : Notes TraceItem) (whole : State × Step) (all : Notes TraceItem) → RunsSoFar plan (item ∷ left) s so_far trace whole all
    → item_of plan item s ≡ (t, steps.Made) → next ≡ noted (traced_turn plan item s) trace → RunsSoFar plan left t steps.Made next whole all
runs_made plan item left s t so_far trace next whole all before is more = record {
  run = next_made plan item left s t so_far whole before.run is;
  told = told_made plan item left s t trace next all before.told is more;
}

pub runs_misused : (plan : Plan) (item : Turn) (left : List Turn) (s t : State) (so_far : Step) (trace : Notes TraceItem) (whole : State × Step) (all : Notes TraceItem) (misuse : Misuse) → RunsSoFar plan (item ∷ left) s so_far trace whole all
    → item_of plan item s ≡ (t, steps.Misused misuse) → whole ≡ (t, steps.Misused misuse)
runs_misused plan item left s t so_far trace whole all misuse before is = next_misused plan item left s t so_far whole misuse before.run is

pub runs_misused_told : (plan : Plan) (item : Turn) (left : List Turn) (s t : State) (so_far : Step) (trace next : Notes TraceItem) (whole : State × Step) (all : Notes TraceItem) (misuse : Misuse)
    → RunsSoFar plan (item ∷ left) s so_far trace whole all → item_of plan item s ≡ (t, steps.Misused misuse) → next ≡ noted (traced_turn plan item s) trace → next ≡ all
runs_misused_told plan item left s t so_far trace next whole all misuse before is more = told_misused plan item left s t misuse trace next all before.told is more

pub runs_end : (plan : Plan) (s : State) (so_far : Step) (trace : Notes TraceItem) (whole : State × Step) (all : Notes TraceItem) → RunsSoFar plan [] s so_far trace whole all → whole ≡ (s, so_far)
runs_end plan s so_far trace whole all before = none_left plan s so_far whole before.run

pub runs_end_told : (plan : Plan) (s : State) (so_far : Step) (trace : Notes TraceItem) (whole : State × Step) (all : Notes TraceItem) → RunsSoFar plan [] s so_far trace whole all → trace ≡ all
runs_end_told plan s so_far trace whole all before = none_told plan s trace all before.told

-- what is told of some turns, and of what comes behind them
told_then : (told : List TraceItem) (x : State × Step) (f : State → List TraceItem) (t : State) (step : Step) (trace next last : Notes TraceItem) → x ≡ (t, step) → is_misused step ≡ false → next ≡ noted told trace
    → last ≡ noted (f t) next → last ≡ noted (told ++ unless_over x f) trace
told_then told x f t step trace next last is goes_on first more =
    more ∙ ap (noted (f t)) first ∙ noted_append told (f t) trace
    ∙ ap (λ (later : List TraceItem). noted (told ++ later) trace) (sym (ap (λ (y : State × Step). unless_over y f) is ∙ going_on t step f goes_on))

pub then_still : {T E : Type 0} (r : Result T E) (told : List TraceItem) (x : State × Step) (f : State → List TraceItem) (t : State) (trace next last : Notes TraceItem) → x ≡ (t, steps.Still) → next ≡ noted told trace
    → OnOk r (last ≡ noted (f t) next) → OnOk r (last ≡ noted (told ++ unless_over x f) trace)
then_still r told x f t trace next last is first more = on_ok_weaker r (told_then told x f t steps.Still trace next last is refl first) more

pub then_made : {T E : Type 0} (r : Result T E) (told : List TraceItem) (x : State × Step) (f : State → List TraceItem) (t : State) (trace next last : Notes TraceItem) → x ≡ (t, steps.Made) → next ≡ noted told trace
    → OnOk r (last ≡ noted (f t) next) → OnOk r (last ≡ noted (told ++ unless_over x f) trace)
then_made r told x f t trace next last is first more = on_ok_weaker r (told_then told x f t steps.Made trace next last is refl first) more

event_over : (x : State × Step) (f : State → List TraceItem) → unless_over (with_event x) f ≡ unless_over x f
event_over (s, steps.Still) f = refl
event_over (s, steps.Made) f = refl
event_over (s, steps.Misused misuse) f = refl

later_append : (plan : Plan) (first rest : List Turn) → ((t : State) → traced_from plan (first ++ rest) t ≡ traced_from plan first t ++ unless_over (items_of plan first t) (traced_from plan rest))
    → (x : State × Step) → unless_over x (traced_from plan (first ++ rest)) ≡ unless_over x (traced_from plan first) ++ unless_over (and_then x (items_of plan first)) (traced_from plan rest)
later_append plan first rest later (t, steps.Still) = later t
later_append plan first rest later (t, steps.Made) =
    later t ∙ ap (λ (more : List TraceItem). traced_from plan first t ++ more) (sym (event_over (items_of plan first t) (traced_from plan rest)))
later_append plan first rest later (t, steps.Misused misuse) = refl

pub traced_append : (plan : Plan) (first rest : List Turn) (s : State) → traced_from plan (first ++ rest) s ≡ traced_from plan first s ++ unless_over (items_of plan first s) (traced_from plan rest)
traced_append plan [] rest s = refl
traced_append plan (item ∷ first) rest s =
    ap (λ (more : List TraceItem). traced_turn plan item s ++ more) (later_append plan first rest (traced_append plan first rest) (item_of plan item s))
    ∙ sym (append_assoc (traced_turn plan item s) (unless_over (item_of plan item s) (traced_from plan first)) (unless_over (and_then (item_of plan item s) (items_of plan first)) (traced_from plan rest)))

-- ---- rounds

-- the same rest for each state with less to do
same_behind : (plan : Plan) (s : State) (x : State × Step) (f g : State → List TraceItem) → ItemsUse plan s x → IsStateOf plan x.0
    → ((t : State) → IsStateOf plan t → left_to_do plan t < left_to_do plan s → f t ≡ g t) → unless_resting x f ≡ unless_resting x g
same_behind plan s (t, steps.Still) f g uses of same = refl
same_behind plan s (t, steps.Made) f g uses of same = same t of uses
same_behind plan s (t, steps.Misused misuse) f g uses of same = refl

abbrev first_round : Plan → State → (State → List TraceItem) → List TraceItem
first_round plan s rest = traced_from plan (round plan.workers) s ++ unless_resting (items_of plan (round plan.workers) s) rest

same_first : (plan : Plan) → GoesOn plan → UsesUp plan → (s : State) (f g : State → List TraceItem) → IsStateOf plan s
    → ((t : State) → IsStateOf plan t → left_to_do plan t < left_to_do plan s → f t ≡ g t)
    → (if has_ended plan s then [] else first_round plan s f) ≡ (if has_ended plan s then [] else first_round plan s g)
same_first plan goes_on uses s f g of same =
    ap (λ (more : List TraceItem). if has_ended plan s then [] else (traced_from plan (round plan.workers) s ++ more))
    (same_behind plan s (items_of plan (round plan.workers) s) f g (round_uses plan goes_on uses s of) (round_valid plan goes_on s of) same)

same_rounds : (plan : Plan) → GoesOn plan → UsesUp plan → (n m : ℕ) (s : State) → IsStateOf plan s → left_to_do plan s < n → left_to_do plan s < m → traced_rounds n plan s ≡ traced_rounds m plan s
same_rounds plan goes_on uses zero m s of below other = absurd (omega (arith, below))
same_rounds plan goes_on uses (suc n) zero s of below other = absurd (omega (arith, other))
same_rounds plan goes_on uses (suc n) (suc m) s of below other =
    same_first plan goes_on uses s (traced_rounds n plan) (traced_rounds m plan) of
    (λ t of_t less. same_rounds plan goes_on uses n m t of_t (omega (arith, below, less)) (omega (arith, other, less)))

-- all rounds, by the first of them
one_by_one : (plan : Plan) → GoesOn plan → UsesUp plan → (s : State) → IsStateOf plan s → all_rounds_traced plan s ≡ (if has_ended plan s then [] else first_round plan s (all_rounds_traced plan))
one_by_one plan goes_on uses s of =
    let next : left_to_do plan s + 1 ≡ suc (left_to_do plan s) = omega arith in
    ap (λ n. traced_rounds n plan s) next
    ∙ same_first plan goes_on uses s (traced_rounds (left_to_do plan s) plan) (all_rounds_traced plan) of
    (λ t of_t less. same_rounds plan goes_on uses (left_to_do plan s) (left_to_do plan t + 1) t of_t less (omega arith))

-- where every worker has ended that was live, nothing is told
pub traced_ended : (plan : Plan) → GoesOn plan → UsesUp plan → (s : State) → IsStateOf plan s → has_ended plan s ≡ true → all_rounds_traced plan s ≡ []
traced_ended plan goes_on uses s of ended = one_by_one plan goes_on uses s of ∙ ap (λ b. if b then [] else first_round plan s (all_rounds_traced plan)) ended

traced_going : (plan : Plan) → GoesOn plan → UsesUp plan → (s : State) (x : State × Step) → IsStateOf plan s → has_ended plan s ≡ false → items_of plan (round plan.workers) s ≡ x
    → all_rounds_traced plan s ≡ traced_from plan (round plan.workers) s ++ unless_resting x (all_rounds_traced plan)
traced_going plan goes_on uses s x of going is =
    one_by_one plan goes_on uses s of ∙ ap (λ b. if b then [] else first_round plan s (all_rounds_traced plan)) going
    ∙ ap (λ (y : State × Step). traced_from plan (round plan.workers) s ++ unless_resting y (all_rounds_traced plan)) is

-- behind a round that made an event
pub traced_made : (plan : Plan) → GoesOn plan → UsesUp plan → (s t : State) (trace : Notes TraceItem) → IsStateOf plan s → has_ended plan s ≡ false → items_of plan (round plan.workers) s ≡ (t, steps.Made)
    → noted (all_rounds_traced plan t) (noted (traced_from plan (round plan.workers) s) trace) ≡ noted (all_rounds_traced plan s) trace
traced_made plan goes_on uses s t trace of going is =
    noted_append (traced_from plan (round plan.workers) s) (all_rounds_traced plan t) trace
    ∙ ap (λ (told : List TraceItem). noted told trace) (sym (traced_going plan goes_on uses s (t, steps.Made) of going is))

-- behind the last round
pub traced_still : (plan : Plan) → GoesOn plan → UsesUp plan → (s t : State) (trace : Notes TraceItem) → IsStateOf plan s → has_ended plan s ≡ false → items_of plan (round plan.workers) s ≡ (t, steps.Still)
    → noted (traced_from plan (round plan.workers) s) trace ≡ noted (all_rounds_traced plan s) trace
traced_still plan goes_on uses s t trace of going is =
    ap (λ (told : List TraceItem). noted told trace) (sym (append-nil (traced_from plan (round plan.workers) s)) ∙ sym (traced_going plan goes_on uses s (t, steps.Still) of going is))

pub traced_misused : (plan : Plan) → GoesOn plan → UsesUp plan → (s t : State) (misuse : Misuse) (trace : Notes TraceItem) → IsStateOf plan s → has_ended plan s ≡ false
    → items_of plan (round plan.workers) s ≡ (t, steps.Misused misuse) → noted (traced_from plan (round plan.workers) s) trace ≡ noted (all_rounds_traced plan s) trace
traced_misused plan goes_on uses s t misuse trace of going is =
    ap (λ (told : List TraceItem). noted told trace) (sym (append-nil (traced_from plan (round plan.workers) s)) ∙ sym (traced_going plan goes_on uses s (t, steps.Misused misuse) of going is))

-- ---- the turns of which something is told

-- behind some turns, by what they come to
traced_behind : (plan : Plan) (first rest : List Turn) (s : State) (x : State × Step) → items_of plan first s ≡ x → traced_from plan (first ++ rest) s ≡ traced_from plan first s ++ unless_over x (traced_from plan rest)
traced_behind plan first rest s x is =
    traced_append plan first rest s ∙ ap (λ (y : State × Step). traced_from plan first s ++ unless_over y (traced_from plan rest)) is

state_behind : (plan : Plan) (first rest : List Turn) (s : State) (x : State × Step) → items_of plan first s ≡ x → after_items plan (first ++ rest) s ≡ (and_then x (items_of plan rest)).0
state_behind plan first rest s x is = ap (λ (y : State × Step). y.0) (items_append plan first rest s ∙ ap (λ (y : State × Step). and_then y (items_of plan rest)) is)

-- so many whole rounds leave this trace and lead to this state
abbrev pub Along : Plan → List Turn → State → List TraceItem → State → Type 0
Along plan list s told t = (told ≡ traced_from plan list s) × (t ≡ after_items plan list s)

module _ (plan : Plan) where
  one_round : (s t : State) (step : Step) → items_of plan (round plan.workers) s ≡ (t, step) → (step ≡ steps.Made → ⊥) → Along plan (rounds 1 plan.workers) s (traced_from plan (round plan.workers) s ++ []) t
  one_round s t steps.Still is ends = (sym (traced_behind plan (round plan.workers) [] s (t, steps.Still) is), sym (state_behind plan (round plan.workers) [] s (t, steps.Still) is))
  one_round s t steps.Made is ends = absurd (ends refl)
  one_round s t (steps.Misused misuse) is ends =
      (sym (traced_behind plan (round plan.workers) [] s (t, steps.Misused misuse) is), sym (state_behind plan (round plan.workers) [] s (t, steps.Misused misuse) is))

  abbrev RoundsAlong : ℕ → Type 0
  RoundsAlong n = (s : State) → (count : ℕ) × Along plan (rounds count plan.workers) s (traced_rounds n plan s) (rounds_of n plan s).0

  behind_first : (n : ℕ) → RoundsAlong n → (s : State) (x : State × Step) → items_of plan (round plan.workers) s ≡ x
      → (count : ℕ) × Along plan (rounds count plan.workers) s (traced_from plan (round plan.workers) s ++ unless_resting x (traced_rounds n plan)) (behind_round x (rounds_of n plan)).0
  behind_first n along s (t, steps.Still) is = (1, one_round s t steps.Still is (λ clash. cc))
  behind_first n along s (t, steps.Misused misuse) is = (1, one_round s t (steps.Misused misuse) is (λ clash. cc))
  behind_first n along s (t, steps.Made) is =
      let later = along t in
      let rest = rounds later.0 plan.workers in
      let told = ap (λ (more : List TraceItem). traced_from plan (round plan.workers) s ++ more) later.1.0 ∙ sym (traced_behind plan (round plan.workers) rest s (t, steps.Made) is) in
      let state = later.1.1 ∙ sym (event_state (items_of plan rest t)) ∙ sym (state_behind plan (round plan.workers) rest s (t, steps.Made) is) in
      (suc later.0, (told, state))

  by_end : (n : ℕ) → RoundsAlong n → (s : State) (b : Bool)
      → (count : ℕ) × Along plan (rounds count plan.workers) s (if b then [] else first_round plan s (traced_rounds n plan)) (if b then (s, endings.Done) else behind_round (items_of plan (round plan.workers) s) (rounds_of n plan)).0
  by_end n along s true = (0, (refl, refl))
  by_end n along s false = behind_first n along s (items_of plan (round plan.workers) s) refl

  rounds_along : (n : ℕ) → RoundsAlong n
  rounds_along zero s = (0, (refl, refl))
  rounds_along (suc n) s = by_end n (rounds_along n) s (has_ended plan s)

  behind_all : (x : State × Step) → items_of plan plan.schedule (start plan) ≡ x
      → (count : ℕ) × Along plan (plan.schedule ++ rounds count plan.workers) (start plan) (traced_from plan plan.schedule (start plan) ++ unless_over x (all_rounds_traced plan)) (behind_schedule plan x).0
  behind_all (t, steps.Still) is =
      let later = rounds_along (left_to_do plan t + 1) t in
      let rest = rounds later.0 plan.workers in
      let told = ap (λ (more : List TraceItem). traced_from plan plan.schedule (start plan) ++ more) later.1.0 ∙ sym (traced_behind plan plan.schedule rest (start plan) (t, steps.Still) is) in
      let state = later.1.1 ∙ sym (state_behind plan plan.schedule rest (start plan) (t, steps.Still) is) in
      (later.0, (told, state))
  behind_all (t, steps.Made) is =
      let later = rounds_along (left_to_do plan t + 1) t in
      let rest = rounds later.0 plan.workers in
      let told = ap (λ (more : List TraceItem). traced_from plan plan.schedule (start plan) ++ more) later.1.0 ∙ sym (traced_behind plan plan.schedule rest (start plan) (t, steps.Made) is) in
      let state = later.1.1 ∙ sym (event_state (items_of plan rest t)) ∙ sym (state_behind plan plan.schedule rest (start plan) (t, steps.Made) is) in
      (later.0, (told, state))
  behind_all (t, steps.Misused misuse) is =
      (0, (sym (traced_behind plan plan.schedule [] (start plan) (t, steps.Misused misuse) is), sym (state_behind plan plan.schedule [] (start plan) (t, steps.Misused misuse) is)))

  -- the trace of a run is that of its schedule and some whole rounds, which lead to its end
  pub run_along : (count : ℕ) × Along plan (plan.schedule ++ rounds count plan.workers) (start plan) (trace_of plan) (whole_run plan).0
  run_along = behind_all (items_of plan plan.schedule (start plan)) refl
