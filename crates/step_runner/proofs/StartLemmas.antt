-- The state in which a run begins.
use Rattle.std.proofs.Common.{◌≡◌, ℕ, zero, suc, ◌+◌, ◌<◌, ◌≤◌, Bool, true, false, List, [], ◌∷◌, map, length, get_or, replicate, subst, refl, sym, ◌∙◌, arith}
use Rattle.std.proofs.lemmas.List.{length-map, length-replicate}
use Rattle.script_calls.specs.Runs.{made_of}
use Rattle.script_calls.specs.declared.call.Reply.{Reply}
use Rattle.workload.specs.declared.object.ObjectKind.{ObjectKind}
use Rattle.workload.specs.declared.object.ObjectLine.{ObjectLine}
use Rattle.workload.specs.Plan.{Plan, is_dormant, is_valid}
use Rattle.workload.specs.Keys.{keys_in}
use Rattle.step_runner.specs.declared.turns.object_state.ObjectState.{ObjectState}
use Rattle.step_runner.specs.Objects.{new_object, kind_of, IsMachineOf, EachAt}
use Rattle.workload.specs.Puts.{puts_at}
use Rattle.step_runner.specs.declared.state.Stand.TheVariants.{Gone}
use Rattle.step_runner.specs.State.{first_stand, start, stand_of, new_objects, StandsSo, IsStateOf}
use Rattle.step_runner.proofs.TurnLemmas.{valid_dormant}

-- what is so of each new object is so of all
each_new : (P : ℕ → ObjectState → Type 0) (plan : Plan) → ((place : ℕ) (kind : ObjectKind) → P place (new_object plan.workers (puts_at place plan.scripts) (keys_in plan.scripts) kind))
    → (first : ℕ) (lines : List ObjectLine) → EachAt (λ place. P (first + place)) (new_objects plan first lines)
each_new P plan each first [] place object at = absurd cc
each_new P plan each first (line ∷ lines) zero object at =
    let same : new_object plan.workers (puts_at first plan.scripts) (keys_in plan.scripts) line.kind ≡ object = cc in
    let here : first ≡ first + 0 = omega arith in
    subst (λ place. P place object) here (subst (P first) same (each first line.kind))
each_new P plan each first (line ∷ lines) (suc place) object at =
    let there : first + 1 + place ≡ first + suc place = omega arith in
    subst (λ k. P k object) there (each_new P plan each (first + 1) lines place object at)

pub each_start : (P : ℕ → ObjectState → Type 0) (plan : Plan) → ((place : ℕ) (kind : ObjectKind) → P place (new_object plan.workers (puts_at place plan.scripts) (keys_in plan.scripts) kind)) → EachAt P (start plan).objects
each_start P plan each place object at =
    let first : 0 + place ≡ place = omega arith in
    subst (λ k. P k object) first (each_new P plan each 0 plan.objects place object at)

-- what the law of turns says of new objects
abbrev pub Begins : Type 0
Begins = (workers room : ℕ) (keys : List (List ℕ)) (kind : ObjectKind) → (kind_of (new_object workers room keys kind) ≡ kind) × IsMachineOf workers (new_object workers room keys kind)

new_kinds : Begins → (plan : Plan) (place : ℕ) (lines : List ObjectLine) → map kind_of (new_objects plan place lines) ≡ map (λ (line : ObjectLine). line.kind) lines
new_kinds begins plan place [] = refl
new_kinds begins plan place (line ∷ lines) = λ i. (begins plan.workers (puts_at place plan.scripts) (keys_in plan.scripts) line.kind).0 i ∷ new_kinds begins plan (place + 1) lines i

pub none_replied : (n k : ℕ) → get_or (replicate {A = List (Reply (List ℕ))} n []) k [] ≡ []
none_replied zero k = refl
none_replied (suc n) zero = refl
none_replied (suc n) (suc k) = none_replied n k

pub none_begun : (n k : ℕ) → get_or (replicate {A = ℕ} n 0) k 0 ≡ 0
none_begun zero k = refl
none_begun (suc n) zero = refl
none_begun (suc n) (suc k) = none_begun n k

-- whoever waits to be started has no replies, and any other is live
stands_from : (dormant : List Bool) (k : ℕ) → k < length dormant → get_or (map first_stand dormant) k Gone ≡ first_stand (get_or dormant k false)
stands_from [] k below = absurd (omega (arith, below))
stands_from (waits ∷ dormant) zero below = refl
stands_from (waits ∷ dormant) (suc k) below = stands_from dormant k (omega (arith, below))

pub first_stands : (plan : Plan) (k : ℕ) → is_valid plan ≡ true → k < plan.workers → stand_of k (start plan) ≡ first_stand (is_dormant plan k)
first_stands plan k valid below = stands_from plan.dormant k (omega (arith, below, valid_dormant plan valid))

stands_so : (plan : Plan) (k : ℕ) (given : List (Reply (List ℕ))) (waits : Bool) → is_dormant plan k ≡ waits → given ≡ [] → StandsSo plan k given (first_stand waits)
stands_so plan k given true waits none = (waits, none)
stands_so plan k given false waits none = tt

pub start_is : Begins → (plan : Plan) → is_valid plan ≡ true → IsStateOf plan (start plan)
start_is begins plan valid = record {
  valid = valid;
  objects = new_kinds begins plan 0 plan.objects;
  machines = each_start (λ place. IsMachineOf plan.workers) plan (λ place kind. (begins plan.workers (puts_at place plan.scripts) (keys_in plan.scripts) kind).1);
  workers = length-replicate plan.workers [];
  within = λ k. subst (λ (replies : List (Reply (List ℕ))). length replies ≤ length (get_or plan.scripts k [])) (sym (none_replied plan.workers k)) (omega arith);
  waits = length-replicate plan.workers 0;
  few = λ k. omega (arith, none_begun plan.workers k);
  made = λ k. subst (λ (replies : List (Reply (List ℕ))). length (made_of (get_or plan.scripts k []) replies) ≡ length replies) (sym (none_replied plan.workers k)) refl;
  count = length-map plan.dormant first_stand ∙ valid_dormant plan valid;
  each = λ k below. subst (StandsSo plan k (get_or (start plan).replies k [])) (sym (first_stands plan k valid below)) (stands_so plan k (get_or (start plan).replies k []) (is_dormant plan k) refl (none_replied plan.workers k));
}
