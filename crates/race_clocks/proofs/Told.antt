-- How the races of a trace are told, and that what is told is there.
use Rattle.std.proofs.Common.{◌≡◌, ℕ, ◌+◌, ◌<◌, Bool, true, List, [], ◌∷◌, ◌++◌, length, get_or, take, Option, Some, None, slice_get, refl, sym, ap, ◌∙◌, subst}
use Rattle.std.specs.Prelude.{All, map, option_map}
use Rattle.std.specs.List.{list_all}
use Rattle.std.specs.Option.{option_and_then}
use Rattle.std.proofs.lemmas.Bool.{false≢true, and_parts}
use Rattle.std.proofs.lemmas.List.{map_more, map-append}
use Rattle.std.proofs.lemmas.List.Elements.{All-weaker}
use Rattle.std.proofs.lemmas.Option.{none-some, same_Some, slice_get_within, slice_get_read}
use Rattle.script_calls.specs.declared.call.Call.{Call}
use Rattle.script_calls.specs.declared.call.Reply.{Reply}
use Rattle.workload.specs.Plan.{Plan, is_on, is_valid}
use Rattle.workload.specs.declared.object.ObjectLine.{ObjectLine}
use Rattle.vector_clocks.specs.Races as steps_race
use Rattle.vector_clocks.specs.declared.race.Race.{Race as StepRace}
use Rattle.vector_clocks.specs.declared.step.Step.{Step}
use Rattle.step_runner.specs.Traces.{IsPlaced}
use Rattle.step_runner.specs.declared.trace.TraceItem.{TraceItem}
use Rattle.race_clocks.specs.declared.race.CallPlace.{CallPlace}
use Rattle.race_clocks.specs.declared.race.Race.{Race}
use Rattle.race_clocks.specs.Agreement.{Agree, pair_of}
use Rattle.race_clocks.specs.Races.{pair, race_told, race_of}
use Rattle.race_clocks.proofs.NoVariables.{all_at, all_or}

-- ---- the race of two turns that are there

abbrev pub AreWithin : List TraceItem → StepRace → Type 0
AreWithin trace r = (r.earlier < length trace) × (r.later < length trace)

pub told_of : (trace : List TraceItem) (i j : ℕ) (x y : TraceItem) → slice_get trace i ≡ Some x → slice_get trace j ≡ Some y → race_of trace (pair i j) ≡ Some (race_told x y)
told_of trace i j x y at_x at_y = ap (λ (o : Option TraceItem). option_and_then (λ x. option_map (race_told x) (slice_get trace j)) o) at_x ∙ ap (λ (o : Option TraceItem). option_map (race_told x) o) at_y

abbrev race_with : ℕ → CallPlace → CallPlace → Race
race_with variable first second = record { variable = variable; first = first; second = second }

pub same_race : (v w : ℕ) (a b c d : CallPlace) → v ≡ w → a ≡ c → b ≡ d → race_with v a b ≡ race_with w c d
same_race v w a b c d e f g = ap (λ x. race_with x a b) e ∙ ap (λ x. race_with w x b) f ∙ ap (λ x. race_with w c x) g

-- one more race is told
told_more : (trace : List TraceItem) (found : List StepRace) (i : ℕ) (d : StepRace) (races : List Race) (r : Race) → i < length found → map (race_of trace) (map pair_of (take i found)) ≡ map Some races
    → race_of trace (pair_of (get_or found i d)) ≡ Some r → map (race_of trace) (map pair_of (take (i + 1) found)) ≡ map Some (races ++ r ∷ [])
told_more trace found i d races r within so_far told =
    ap (map (race_of trace)) (map_more pair_of found i d within)
    ∙ map-append (race_of trace) (map pair_of (take i found)) (pair_of (get_or found i d) ∷ [])
    ∙ ap (λ xs. xs ++ race_of trace (pair_of (get_or found i d)) ∷ []) so_far
    ∙ ap (λ o. map Some races ++ o ∷ []) told
    ∙ sym (map-append Some races (r ∷ []))

-- by the turns that are read
pub told_next : (trace turns : List TraceItem) → turns ≡ trace → (found : List StepRace) (i : ℕ) (d : StepRace) → i < length found → All (AreWithin trace) found
    → (x y : TraceItem) → x ≡ get_or turns (get_or found i d).earlier x → y ≡ get_or turns (get_or found i d).later y → (races : List Race) (r : Race) → r ≡ race_told x y
    → map (race_of trace) (map pair_of (take i found)) ≡ map Some races → (new : List Race) → new ≡ races ++ r ∷ [] → map (race_of trace) (map pair_of (take (i + 1) found)) ≡ map Some new
told_next trace turns same found i d within are x y of_x of_y races r is so_far new more =
    told_more trace found i d races r within so_far (told_of trace (get_or found i d).earlier (get_or found i d).later x y (at (get_or found i d).earlier x (are i d within).0 of_x) (at (get_or found i d).later y (are i d within).1 of_y) ∙ ap Some (sym is))
    ∙ ap (map Some) (sym more)
  where
    at : (n : ℕ) (z : TraceItem) → n < length trace → z ≡ get_or turns n z → slice_get trace n ≡ Some z
    at n z inside of_z = slice_get_read trace (length trace) n z refl inside (of_z ∙ ap (λ xs. get_or xs n z) same)

-- ---- the races of steps are of turns that are there

pub are_within : (plan : Plan) (trace : List TraceItem) (steps : List Step) → Agree plan trace steps → (found : List StepRace) → steps_race.AreRaces steps found → All (AreWithin trace) found
are_within plan trace steps agree found are = All-weaker (λ (r : StepRace). steps_race.IsRace steps r.earlier r.later) (AreWithin trace) each found are.sound where
  each : (r : StepRace) → steps_race.IsRace steps r.earlier r.later → AreWithin trace r
  each r race = (subst (λ n. r.earlier < n) agree.all (slice_get_within steps r.earlier race.first race.at_first), subst (λ n. r.later < n) agree.all (slice_get_within steps r.later race.second race.at_second))

-- ---- the objects of calls

on_object : (objects : List ObjectLine) (call : Call) → is_on objects (slice_get objects call.object) call ≡ true → call.object < length objects
on_object objects call is = by (slice_get objects call.object) refl is where
  by : (found : Option ObjectLine) → slice_get objects call.object ≡ found → is_on objects found call ≡ true → call.object < length objects
  by None at is = absurd (false≢true is)
  by (Some object) at is = slice_get_within objects call.object object at

module _ (plan : Plan) (valid : is_valid plan ≡ true) where
  abbrev are_on : List Call → Bool
  are_on script = list_all (λ (call : Call). is_on plan.objects (slice_get plan.objects call.object) call) script

  of_scripts : list_all are_on plan.scripts ≡ true
  of_scripts = (and_parts (list_all are_on plan.scripts) _ (and_parts _ _ valid).1).0

  pub on_objects : (worker : ℕ) (found : Option Call) (index : Option ℕ) (reply : Option (Reply (List ℕ))) → IsPlaced (get_or plan.scripts worker []) found index reply → (call : Call) → found ≡ Some call → call.object < length plan.objects
  on_objects worker (Some made) (Some place) reply at call is = subst (λ (c : Call). c.object < length plan.objects) (same_Some made call is)
      (on_object plan.objects made (all_at (λ (c : Call). is_on plan.objects (slice_get plan.objects c.object) c) (get_or plan.scripts worker []) place made (all_or are_on plan.scripts worker [] of_scripts refl) at))
  on_objects worker None index reply at call is = absurd (none-some call is)
  on_objects worker found index reply at call is = absurd at
