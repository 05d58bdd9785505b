-- Rounds, and what comes behind every script's end.
use Rattle.std.proofs.Common.{◌≡◌, ◌≢◌, ℕ, zero, suc, ◌+◌, ◌<◌, ◌≤◌, Bool, true, false, eqb, List, [], ◌∷◌, map, drop, length, get_or, Option, Some, None, refl, sym, ap, ◌∙◌, subst, length-drop, arith}
use Rattle.std.specs.Prelude.{is_some, not, nat_lt, if◌then◌else◌}
use Rattle.std.specs.List.{list_all, list_any, range_with_len}
use Rattle.std.specs.Option.{option_map_or}
use Rattle.std.proofs.lemmas.Bool.{eqb-true, eqb-false, ltb-true, ltb-false}
use Rattle.script_calls.specs.Runs.{has_test, have_tests, left_of}
use Rattle.script_calls.specs.declared.call.Call.{Call}
use Rattle.script_calls.specs.declared.call.Reply.{Reply}
use Rattle.workload.specs.declared.turn.Turn.{Turn}
use Rattle.workload.specs.declared.turn.Turn.TheVariants as items
use Rattle.workload.specs.Plan.{Plan, is_dormant, has_dormant, is_valid}
use Rattle.step_runner.specs.declared.step.Step.{Step}
use Rattle.step_runner.specs.declared.step.Step.TheVariants as steps
use Rattle.script_calls.specs.declared.outcome.Ending.{Ending}
use Rattle.script_calls.specs.declared.outcome.Ending.TheVariants as endings
use Rattle.step_runner.specs.LeftToDo.{left_to_do}
use Rattle.step_runner.specs.declared.state.Stand.{Stand}
use Rattle.step_runner.specs.declared.state.Stand.TheVariants.{Waits, Live, Gone}
use Rattle.step_runner.specs.State.{State, stand_of, with_moment, StandsSo, IsStateOf}
use Rattle.step_runner.specs.TurnWithin.{turn_within}
use Rattle.step_runner.specs.Turns.{begun_by, next_call, settled_with, turn_of, and_then, items_of, round, has_ended}
use Rattle.step_runner.specs.Computed.{behind_round, rounds_of, all_rounds}
use Rattle.step_runner.proofs.NextCalls.{live_there, none_next, not_live}
use Rattle.step_runner.proofs.ScriptRuns.{none_left, no_test}
use Rattle.step_runner.proofs.TurnLemmas.{both, both_true, true_false, valid_scripts}
use Rattle.step_runner.proofs.RunLemmas.{GoesOn, UsesUp, turns_of, ItemsUse, items_valid, workers_use}

-- ---- the workers whose scripts have ended

past_end : (scripts : List (List Call)) (k : ℕ) → length scripts ≤ k → get_or scripts k [] ≡ []
past_end [] k past = refl
past_end (script ∷ scripts) zero past = absurd (omega arith)
past_end (script ∷ scripts) (suc k) past = past_end scripts k (omega arith)

-- what holds of each number of a range
all_from : (p : ℕ → Bool) (a n : ℕ) → ((k : ℕ) → a ≤ k → k < a + n → p k ≡ true) → list_all p (range_with_len a n) ≡ true
all_from p a zero each = refl
all_from p a (suc n) each = both_true (p a) (list_all p (range_with_len (a + 1) n)) (each a (omega arith) (omega arith)) (all_from p (a + 1) n (λ k from below. each k (omega arith) (omega arith)))

each_from : (p : ℕ → Bool) (a n : ℕ) → list_all p (range_with_len a n) ≡ true → (k : ℕ) → a ≤ k → k < a + n → p k ≡ true
each_from p a zero all k from below = absurd (omega arith)
each_from p a (suc n) all k from below =
    let parts = both (p a) (list_all p (range_with_len (a + 1) n)) all in
    elim (eqb a k) as (λ b. eqb a k ≡ b → p k ≡ true) [
      | true ↦ λ e. subst (λ m. p m ≡ true) (eqb-true a k e) parts.0
      | false ↦ λ e. let apart : a ≢ k = eqb-false a k e in each_from p (a + 1) n parts.1 k (omega arith) (omega arith)
    ] refl

-- whether a worker's script has ended
abbrev pub is_at_end : Plan → State → ℕ → Bool
is_at_end plan s worker = not (is_some (next_call plan worker s))

-- where no worker stands before a call, every script has ended
pub ended_where : (plan : Plan) (s : State) → ((k : ℕ) → k < plan.workers → next_call plan k s ≡ None) → has_ended plan s ≡ true
ended_where plan s none = all_from (is_at_end plan s) 0 plan.workers (λ k from below. ap (λ (o : Option Call). not (is_some o)) (none k (omega arith)))

not_some : {X : Type 0} (o : Option X) → not (is_some o) ≡ true → o ≡ None
not_some None e = refl
not_some (Some x) e = absurd cc

-- one that isn't there stands before none
nobody_next : (plan : Plan) (s : State) (k : ℕ) → IsStateOf plan s → plan.workers ≤ k → next_call plan k s ≡ None
nobody_next plan s k of past = not_live plan k s (λ (live : stand_of k s ≡ Live). omega (arith, live_there s.stands k live, of.count, past))

-- and back
pub ended_next : (plan : Plan) (s : State) → IsStateOf plan s → has_ended plan s ≡ true → (k : ℕ) → next_call plan k s ≡ None
ended_next plan s of ended k = elim (nat_lt k plan.workers) as (λ b. nat_lt k plan.workers ≡ b → next_call plan k s ≡ None) [
  | true ↦ λ e. not_some (next_call plan k s) (each_from (is_at_end plan s) 0 plan.workers ended k (omega arith) (omega (arith, ltb-true k plan.workers e)))
  | false ↦ λ e. nobody_next plan s k of (omega (arith, ltb-false k plan.workers e))
] refl

-- where a worker stands before a call, not every script has ended
pub not_ended : (plan : Plan) (s : State) (worker : ℕ) → IsStateOf plan s → is_some (next_call plan worker s) ≡ true → has_ended plan s ≡ false
not_ended plan s worker of some = elim (has_ended plan s) as (λ b. has_ended plan s ≡ b → b ≡ false) [
  | true ↦ λ e. absurd (true_false (sym some ∙ ap is_some (ended_next plan s of e worker)))
  | false ↦ λ e. refl
] refl

-- a worker whose script has ended makes no event
pub no_turn : (plan : Plan) (worker : ℕ) (s : State) → next_call plan worker s ≡ None → turn_of plan worker s ≡ (s, steps.Still)
no_turn plan worker s none = ap (λ o. option_map_or (λ call. settled_with plan worker call (turn_within call worker s.moment (begun_by worker s) s.objects) s) o (s, steps.Still)) none

-- nothing follows the end, but that the clock may be set
pub nothing_follows : (plan : Plan) (s : State) → ((k : ℕ) → next_call plan k s ≡ None) → (list : List Turn) → (moment : ℕ) × (items_of plan list s ≡ (with_moment moment s, steps.Still))
nothing_follows plan s none [] = (s.moment, refl)
nothing_follows plan s none (items.Worker worker ∷ rest) =
    let later = nothing_follows plan s none rest in
    (later.0, ap (λ x. and_then x (items_of plan rest)) (no_turn plan worker s (none worker)) ∙ later.1)
nothing_follows plan s none (items.Moment moment ∷ rest) = nothing_follows plan (with_moment moment s) none rest

no_turns : (plan : Plan) (s : State) → ((k : ℕ) → next_call plan k s ≡ None) → (workers : List ℕ) → items_of plan (turns_of workers) s ≡ (s, steps.Still)
no_turns plan s none [] = refl
no_turns plan s none (worker ∷ workers) = ap (λ x. and_then x (items_of plan (turns_of workers))) (no_turn plan worker s (none worker)) ∙ no_turns plan s none workers

-- ---- rounds

pub round_uses : (plan : Plan) → GoesOn plan → UsesUp plan → (s : State) → IsStateOf plan s → ItemsUse plan s (items_of plan (round plan.workers) s)
round_uses plan goes_on uses s of = workers_use plan goes_on uses (range_with_len 0 plan.workers) s of

pub round_valid : (plan : Plan) → GoesOn plan → (s : State) → IsStateOf plan s → IsStateOf plan (items_of plan (round plan.workers) s).0
round_valid plan goes_on s of = items_valid plan goes_on (round plan.workers) s of

-- the same rest for each state with less to do
same_behind : (plan : Plan) (s : State) (x : State × Step) (f g : State → State × Ending) → ItemsUse plan s x → IsStateOf plan x.0
    → ((t : State) → IsStateOf plan t → left_to_do plan t < left_to_do plan s → f t ≡ g t) → behind_round x f ≡ behind_round x g
same_behind plan s (t, steps.Still) f g uses of same = refl
same_behind plan s (t, steps.Made) f g uses of same = same t of uses
same_behind plan s (t, steps.Misused misuse) f g uses of same = refl

same_rounds : (plan : Plan) → GoesOn plan → UsesUp plan → (n m : ℕ) (s : State) → IsStateOf plan s → left_to_do plan s < n → left_to_do plan s < m → rounds_of n plan s ≡ rounds_of m plan s
same_rounds plan goes_on uses zero m s of below other = absurd (omega (arith, below))
same_rounds plan goes_on uses (suc n) zero s of below other = absurd (omega (arith, other))
same_rounds plan goes_on uses (suc n) (suc m) s of below other =
    ap (λ x. if has_ended plan s then (s, endings.Done) else x)
    (same_behind plan s (items_of plan (round plan.workers) s) (rounds_of n plan) (rounds_of m plan) (round_uses plan goes_on uses s of) (round_valid plan goes_on s of)
    (λ t of_t less. same_rounds plan goes_on uses n m t of_t (omega (arith, below, less)) (omega (arith, other, less))))

pub enough : (plan : Plan) → GoesOn plan → UsesUp plan → (n : ℕ) (s : State) → IsStateOf plan s → left_to_do plan s < n → rounds_of n plan s ≡ all_rounds plan s
enough plan goes_on uses n s of below = same_rounds plan goes_on uses n (left_to_do plan s + 1) s of below (omega arith)

-- all rounds, by the first of them
abbrev pub first_of_all : Plan → State → State × Ending
first_of_all plan s = if has_ended plan s then (s, endings.Done) else behind_round (items_of plan (round plan.workers) s) (all_rounds plan)

pub one_by_one : (plan : Plan) → GoesOn plan → UsesUp plan → (s : State) → IsStateOf plan s → all_rounds plan s ≡ first_of_all plan s
one_by_one plan goes_on uses s of =
    let next : left_to_do plan s + 1 ≡ suc (left_to_do plan s) = omega arith in
    ap (λ n. rounds_of n plan s) next
    ∙ ap (λ x. if has_ended plan s then (s, endings.Done) else x)
    (same_behind plan s (items_of plan (round plan.workers) s) (rounds_of (left_to_do plan s) plan) (all_rounds plan) (round_uses plan goes_on uses s of) (round_valid plan goes_on s of)
    (λ t of_t less. enough plan goes_on uses (left_to_do plan s) t of_t less))

-- the same where it is known whether every script has ended, and what the round comes to
pub where_ended : (plan : Plan) → GoesOn plan → UsesUp plan → (s : State) → IsStateOf plan s → has_ended plan s ≡ true → all_rounds plan s ≡ (s, endings.Done)
where_ended plan goes_on uses s of ended =
    one_by_one plan goes_on uses s of ∙ ap (λ b. if b then (s, endings.Done) else behind_round (items_of plan (round plan.workers) s) (all_rounds plan)) ended

pub where_going : (plan : Plan) → GoesOn plan → UsesUp plan → (s : State) (x : State × Step) → IsStateOf plan s → has_ended plan s ≡ false → items_of plan (round plan.workers) s ≡ x → all_rounds plan s ≡ behind_round x (all_rounds plan)
where_going plan goes_on uses s x of going is =
    one_by_one plan goes_on uses s of ∙ ap (λ b. if b then (s, endings.Done) else behind_round (items_of plan (round plan.workers) s) (all_rounds plan)) going
    ∙ ap (λ y. behind_round y (all_rounds plan)) is

-- a round that makes an event or a misuse comes before the end
pub round_at_end : (plan : Plan) (s : State) → IsStateOf plan s → has_ended plan s ≡ true → items_of plan (round plan.workers) s ≡ (s, steps.Still)
round_at_end plan s of ended = no_turns plan s (ended_next plan s of ended) (range_with_len 0 plan.workers)

-- a round that makes an event leaves less to do
pub round_less : (plan : Plan) → GoesOn plan → UsesUp plan → (s t : State) → IsStateOf plan s → items_of plan (round plan.workers) s ≡ (t, steps.Made) → left_to_do plan t < left_to_do plan s
round_less plan goes_on uses s t of is = subst (ItemsUse plan s) is (round_uses plan goes_on uses s of)

pub round_same : (plan : Plan) → GoesOn plan → UsesUp plan → (s t : State) → IsStateOf plan s → items_of plan (round plan.workers) s ≡ (t, steps.Still) → t ≡ s
round_same plan goes_on uses s t of is = subst (ItemsUse plan s) is (round_uses plan goes_on uses s of)

pub round_of : (plan : Plan) → GoesOn plan → (s t : State) (step : Step) → IsStateOf plan s → items_of plan (round plan.workers) s ≡ (t, step) → IsStateOf plan t
round_of plan goes_on s t step of is = subst (λ x. IsStateOf plan x.0) is (round_valid plan goes_on s of)

-- where a round comes to something, not every script had ended
pub going_before : (plan : Plan) (s t : State) (step : Step) → IsStateOf plan s → items_of plan (round plan.workers) s ≡ (t, step) → (steps.Still ≡ step → ⊥) → has_ended plan s ≡ false
going_before plan s t step of is some = elim (has_ended plan s) as (λ b. has_ended plan s ≡ b → b ≡ false) [
  | true ↦ λ e. absurd (some (ap (λ (x : State × Step). x.1) (sym (round_at_end plan s of e) ∙ is)))
  | false ↦ λ e. refl
] refl

-- nothing is left of a worker's script
abbrev LeavesNone : Plan → ℕ → List (Reply (List ℕ)) → Type 0
LeavesNone plan k given = left_of (get_or plan.scripts k []) given ≡ []

none_there : (plan : Plan) (k : ℕ) (given : List (Reply (List ℕ))) → is_valid plan ≡ true → plan.workers ≤ k → LeavesNone plan k given
none_there plan k given valid past = ap (λ (script : List Call). left_of script given) (past_end plan.scripts k (omega (arith, valid_scripts plan valid))) ∙ none_left given

each_ended : (plan : Plan) (s : State) → IsStateOf plan s → has_ended plan s ≡ true → (k : ℕ) → (stand_of k s ≢ Waits) → LeavesNone plan k (get_or s.replies k [])
each_ended plan s of ended k started = elim (nat_lt k plan.workers) as (λ b. nat_lt k plan.workers ≡ b → LeavesNone plan k (get_or s.replies k [])) [
  | true ↦ λ e. by_stand (stand_of k s) refl (of.each k (ltb-true k plan.workers e))
  | false ↦ λ e. none_there plan k (get_or s.replies k []) of.valid (omega (arith, ltb-false k plan.workers e))
] refl
  where
    by_stand : (stand : Stand) → stand_of k s ≡ stand → StandsSo plan k (get_or s.replies k []) stand → LeavesNone plan k (get_or s.replies k [])
    by_stand Waits is so = absurd (started is)
    by_stand Live is so = none_next plan k s is (ended_next plan s of ended k)
    by_stand Gone is so = so.1

-- nothing is left of the script of one that doesn't wait to be started
pub live_ended : (plan : Plan) (s : State) → IsStateOf plan s → has_ended plan s ≡ true → (k : ℕ) → is_dormant plan k ≡ false → left_of (get_or plan.scripts k []) (get_or s.replies k []) ≡ []
live_ended plan s of ended k live = elim (nat_lt k plan.workers) as (λ b. nat_lt k plan.workers ≡ b → LeavesNone plan k (get_or s.replies k [])) [
  | true ↦ λ e. each_ended plan s of ended k (λ (waits : stand_of k s ≡ Waits). true_false (sym (subst (StandsSo plan k (get_or s.replies k [])) waits (of.each k (ltb-true k plan.workers e))).0 ∙ live))
  | false ↦ λ e. none_there plan k (get_or s.replies k []) of.valid (omega (arith, ltb-false k plan.workers e))
] refl

-- nor of one that has replies
pub begun_ended : (plan : Plan) (s : State) → IsStateOf plan s → has_ended plan s ≡ true → (k : ℕ) → get_or s.replies k [] ≢ [] → left_of (get_or plan.scripts k []) (get_or s.replies k []) ≡ []
begun_ended plan s of ended k some = elim (nat_lt k plan.workers) as (λ b. nat_lt k plan.workers ≡ b → LeavesNone plan k (get_or s.replies k [])) [
  | true ↦ λ e. each_ended plan s of ended k (λ (waits : stand_of k s ≡ Waits). some (subst (StandsSo plan k (get_or s.replies k [])) waits (of.each k (ltb-true k plan.workers e))).1)
  | false ↦ λ e. none_there plan k (get_or s.replies k []) of.valid (omega (arith, ltb-false k plan.workers e))
] refl

-- where none waits to be started, this one doesn't
all_live : (dormant : List Bool) (k : ℕ) → list_any (λ waits. waits) dormant ≡ false → get_or dormant k false ≡ false
all_live [] k none = refl
all_live (false ∷ dormant) zero none = refl
all_live (true ∷ dormant) zero none = none
all_live (false ∷ dormant) (suc k) none = all_live dormant k none
all_live (true ∷ dormant) (suc k) none = absurd (true_false none)

same_lengths : (scripts : List (List Call)) (replies : List (List (Reply (List ℕ)))) → length replies ≡ length scripts → ((k : ℕ) → length (get_or replies k []) ≡ length (get_or scripts k [])) → map length replies ≡ map length scripts
same_lengths [] [] e each = refl
same_lengths [] (r ∷ rs) e each = absurd (omega arith)
same_lengths (c ∷ cs) [] e each = absurd (omega arith)
same_lengths (c ∷ cs) (r ∷ rs) e each =
    let rest : map length rs ≡ map length cs = same_lengths cs rs (omega arith) (λ k. each (suc k)) in
    let first : length r ≡ length c = each 0 in
    λ i. first i ∷ rest i

-- what the law says of a script without tests
abbrev pub LeavesRest : Type 0
LeavesRest = (script : List Call) (given : List (Reply (List ℕ))) → has_test script ≡ false → left_of script given ≡ drop (length given) script

-- then all calls have replies, where no worker waits to be started
pub all_replied : LeavesRest → (plan : Plan) (s : State) → IsStateOf plan s → have_tests plan.scripts ≡ false → has_dormant plan ≡ false → has_ended plan s ≡ true → map length s.replies ≡ map length plan.scripts
all_replied rest plan s of straight live ended = same_lengths plan.scripts s.replies (of.workers ∙ sym (valid_scripts plan of.valid)) same
  where
    same : (k : ℕ) → length (get_or s.replies k []) ≡ length (get_or plan.scripts k [])
    same k =
        let script = get_or plan.scripts k [] in
        let given = get_or s.replies k [] in
        let none : drop (length given) script ≡ [] = sym (rest script given (no_test plan.scripts k straight)) ∙ live_ended plan s of ended k (all_live plan.dormant k live) in
        omega (arith, of.within k, length-drop (length given) script, ap (length {A = Call}) none)
