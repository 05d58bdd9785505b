-- At the end of a run all workers that came to their scripts end, and then those leave that were never started.
use Rattle.std.proofs.Common.{◌≡◌, ℕ, zero, suc, ◌+◌, ◌<◌, ◌&&◌, not, Bool, true, false, cond, List, [], ◌∷◌, ◌++◌, map, filter, get_or, Option, Some, None, slice_get, refl, sym, ap, ap₂, ◌∙◌, subst, arith}
use Rattle.std.specs.List.{range_with_len}
use Rattle.script_calls.specs.Starts.{group_of}
use Rattle.script_calls.specs.declared.call.Call.{Call}
use Rattle.starts_core.specs.declared.starts.StartEvent.TheVariants as starts
use Rattle.starts_core.specs.declared.starts.StartPlace.TheVariants as places
use Rattle.starts_core.specs.declared.starts.StartReply.TheVariants as replied
use Rattle.starts_core.specs.StartsMachine.{StartsState, begun, callers_of, place_of, is_any_live}
use Rattle.workload.specs.Plan.{Plan, is_dormant, has_dormant}
use Rattle.run_record.specs.Objects.{first_part, starts_number}
use Rattle.kept_record.specs.Acts.{deeds_on}
use Rattle.kept_record.specs.Keeping.{Act, made_by}
use Rattle.step_runner.specs.declared.state.Stand.{Stand}
use Rattle.step_runner.specs.declared.state.Stand.TheVariants.{Waits, Live, Gone}
use Rattle.step_runner.specs.State.{State, first_stand, start, stand_of, IsStateOf}
use Rattle.step_runner.specs.Turns.{script_left, done_calls, closing_calls, left_once, has_ended}
use Rattle.scheduled_record.specs.RunActs.{is_nothing, waits_still, ending_acts, leaving_acts, closed_acts}
use Rattle.scheduled_record.specs.ItemsOf.{HasPool}
use Rattle.scheduled_record.proofs.OnObjects.{Told}
use Rattle.scheduled_record.proofs.RunEnds.{nobody_stands}
use Rattle.scheduled_record.proofs.StartsLed.{place_by, state_by, Leads, nothing_led, joined_led, begins, place_at, callers_by, EndsLed, ends_led, none_live, leaves_led}
use Rattle.scheduled_record.proofs.StartsOn.{starts_told, deeds-joined, of_ending, of_leaving}
use Rattle.scheduled_record.proofs.StartsRun.{So}
use Rattle.scheduled_record.proofs.StartsWalk.{AreOwn}

-- before the first turn
pub first_waits : (dormant : List Bool) (v : ℕ) → get_or dormant v false ≡ true → get_or (map first_stand dormant) v Gone ≡ Waits
first_waits [] v is = absurd cc
first_waits (true ∷ dormant) zero is = refl
first_waits (false ∷ dormant) zero is = absurd cc
first_waits (waits ∷ dormant) (suc v) is = first_waits dormant v is

waits_gone : Waits ≡ Gone → ⊥
waits_gone same = cc

module _ (plan : Plan) (parts : (place part : ℕ) → HasPool plan place → part < plan.workers → first_part plan place + part < starts_number plan) (some : has_dormant plan ≡ true) (own : AreOwn) where
  pub so_begins : So plan parts some own [] (start plan)
  so_begins = record {
    led = subst (λ (p : StartsState). Leads (begun plan.dormant) [] p) (sym (begins plan.dormant)) (nothing_led (begun plan.dormant));
    gone = λ v dormant gone. absurd (waits_gone (sym (first_waits plan.dormant v dormant) ∙ gone));
    grouped = λ v dormant none. first_waits plan.dormant v dormant;
  }

  module _ (acts : List Act) (s : State) (of : IsStateOf plan s) (so : So plan parts some own acts s) (over : has_ended plan s ≡ true) where
    -- who was started has a group to be done on
    none_left : (v : ℕ) → v < plan.workers → stand_of v s ≡ Live → slice_get (script_left plan v s ++ closing_calls plan v) 0 ≡ None
    none_left v within lives = ap (λ (stand : Stand). slice_get (left_once stand (script_left plan v s ++ closing_calls plan v)) 0) (sym lives) ∙ nobody_stands plan s v over within

    no_group : (v : ℕ) → is_dormant plan v ≡ true → slice_get (script_left plan v s ++ closing_calls plan v) 0 ≡ None → group_of v plan.scripts ≡ None
    no_group v dormant none = by_left (script_left plan v s) none where
      by_group : (group : Option ℕ) → slice_get (done_calls group) 0 ≡ None → group ≡ None
      by_group None none = refl
      by_group (Some group) none = absurd cc

      by_left : (left : List Call) → slice_get (left ++ closing_calls plan v) 0 ≡ None → group_of v plan.scripts ≡ None
      by_left [] none = by_group (group_of v plan.scripts) (ap (λ (b : Bool). slice_get (cond b (done_calls (group_of v plan.scripts)) []) 0) (sym dormant) ∙ none)
      by_left (call ∷ left) none = absurd cc

    -- who waits and has made nothing waits to be started still
    waits : (v : ℕ) → v < plan.workers → waits_still plan acts v ≡ true → stand_of v s ≡ Waits
    waits v within is = chosen (stand_of v s) refl where
      first_of : (a b : Bool) → (a && b) ≡ true → a ≡ true
      first_of true b is = refl
      first_of false b is = is

      second_of : (a b : Bool) → (a && b) ≡ true → b ≡ true
      second_of true b is = is
      second_of false b is = absurd cc

      dormant : is_dormant plan v ≡ true
      dormant = first_of (is_dormant plan v) (is_nothing (made_by v acts)) is

      nothing : is_nothing (made_by v acts) ≡ true
      nothing = second_of (is_dormant plan v) (is_nothing (made_by v acts)) is

      no : (b : Bool) → b ≡ true → b ≡ false → ⊥
      no true is other = no_true other where
        no_true : true ≡ false → ⊥
        no_true same = cc
      no false is other = no_false is where
        no_false : false ≡ true → ⊥
        no_false same = cc

      chosen : (stand : Stand) → stand_of v s ≡ stand → stand_of v s ≡ Waits
      chosen Waits at = at
      chosen Live at = so.grouped v dormant (no_group v dormant (none_left v within at))
      chosen Gone at = absurd (no (is_nothing (made_by v acts)) nothing (so.gone v dormant at))

    abbrev came : ℕ → Bool
    came v = not (waits_still plan acts v)

    abbrev Led : Bool → StartsState → Type 0
    Led b last = Leads (begun plan.dormant) (deeds_on (starts_number plan) (acts ++ cond b (ending_acts plan acts ++ leaving_acts plan acts) [])) last

    callers : callers_of (state_by s.stands) ≡ plan.workers
    callers = callers_by s.stands ∙ of.count

    dormant_at : (v : ℕ) → v < plan.workers → waits_still plan acts v ≡ true → place_of (state_by s.stands) v ≡ places.Dormant
    dormant_at v within is = place_at s.stands v (subst (λ (n : ℕ). v < n) (sym of.count) within) ∙ ap place_by (waits v within is)

    pub ends : EndsLed came 0 plan.workers (state_by s.stands)
    ends = ends_led came 0 plan.workers (state_by s.stands) (let count : callers_of (state_by s.stands) ≡ plan.workers = callers in omega arith)

    dormant_behind : (v : ℕ) → v < plan.workers → waits_still plan acts v ≡ true → place_of ends.last v ≡ places.Dormant
    dormant_behind v within is = ends.stay v (ap not is) ∙ dormant_at v within is

    nobody : is_any_live ends.last ≡ false
    nobody = none_live ends.last.places (λ v less. by_place v (subst (λ (n : ℕ). v < n) (ends.callers ∙ callers) less) (waits_still plan acts v) refl) where
      no_live : places.Dormant ≡ places.Live → ⊥
      no_live same = cc

      by_place : (v : ℕ) → v < plan.workers → (b : Bool) → waits_still plan acts v ≡ b → place_of ends.last v ≡ places.Live → ⊥
      by_place v within true is lives = no_live (sym (dormant_behind v within is) ∙ lives)
      by_place v within false is lives = let first : 0 + v ≡ v = omega arith in ends.over v within (ap came first ∙ ap not is) (ap (place_of ends.last) first ∙ lives)

    leaves : Leads ends.last (map (λ (w : ℕ). starts_told w starts.Leave replied.Never) (filter (waits_still plan acts) (range_with_len 0 plan.workers))) ends.last
    leaves = leaves_led (waits_still plan acts) 0 plan.workers ends.last (let count : callers_of ends.last ≡ plan.workers = ends.callers ∙ callers in omega arith) nobody (λ v less is. dormant_behind v (subst (λ (n : ℕ). v < n) (ends.callers ∙ callers) less) is)

    pub closed_led : Leads (begun plan.dormant) (deeds_on (starts_number plan) (closed_acts plan acts)) ends.last
    closed_led =
        let number : ℕ = starts_number plan in
        let both : deeds_on number (ending_acts plan acts ++ leaving_acts plan acts) ≡ map (λ (w : ℕ). starts_told w starts.End replied.Done) (filter came (range_with_len 0 plan.workers)) ++ map (λ (w : ℕ). starts_told w starts.Leave replied.Never) (filter (waits_still plan acts) (range_with_len 0 plan.workers)) =
        deeds-joined number (ending_acts plan acts) (leaving_acts plan acts) ∙ ap₂ (λ (a b : List Told). a ++ b) (of_ending plan parts acts) (of_leaving plan parts acts) in
        subst (λ (b : Bool). Led b ends.last) (sym some)
        (subst (λ (l : List Told). Leads (begun plan.dormant) l ends.last) (sym (deeds-joined number acts (ending_acts plan acts ++ leaving_acts plan acts) ∙ ap (λ (l : List Told). deeds_on number acts ++ l) both))
        (joined_led (begun plan.dormant) (state_by s.stands) ends.last (deeds_on number acts) _ so.led
        (joined_led (state_by s.stands) ends.last ends.last _ _ ends.led leaves)))
