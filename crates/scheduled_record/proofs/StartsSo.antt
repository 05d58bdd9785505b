-- Whoever has closed its script has made something, and nobody is started whom no call starts.
use Rattle.std.proofs.Common.{◌≡◌, ℕ, zero, suc, ◌==◌, ◌&&◌, not, Bool, true, false, cond, List, [], ◌∷◌, ◌++◌, fold, get_or, set, Option, Some, None, slice_get, refl, sym, subst}
use Rattle.std.specs.List.{list_all}
use Rattle.std.specs.Option.{option_map_or}
use Rattle.std.proofs.lemmas.Bool.{eq-eqb}
use Rattle.sync_types.specs.declared.wait_call.WaitGroupCall.TheVariants as group_calls
use Rattle.script_calls.specs.Starts.{starts, group_in, group_or, group_of}
use Rattle.script_calls.specs.declared.call.Call.{Call}
use Rattle.script_calls.specs.declared.call.Operation.TheVariants as operations
use Rattle.script_calls.specs.declared.call.Reply.{Reply}
use Rattle.workload.specs.Plan.{Plan, reference_of}
use Rattle.run_record.specs.declared.entered.ObjectEvent.TheVariants as events
use Rattle.run_record.specs.declared.entered.ObjectReply.{ObjectReply}
use Rattle.run_record.specs.declared.made.Made.{Made}
use Rattle.kept_record.specs.Keeping.{Act, made_by}
use Rattle.wait_cores.specs.declared.group.GroupEvent.{GroupEvent}
use Rattle.step_runner.specs.declared.state.Stand.{Stand}
use Rattle.step_runner.specs.declared.state.Stand.TheVariants.{Waits, Live, Gone}
use Rattle.step_runner.specs.declared.turns.answer.Answer.{Answer}
use Rattle.step_runner.specs.declared.turns.answer.Answer.TheVariants as answers
use Rattle.step_runner.specs.declared.turns.item.Deed.TheVariants as deeds
use Rattle.step_runner.specs.declared.turns.item.Item.{Item}
use Rattle.step_runner.specs.declared.turns.object_state.ObjectState.{ObjectState}
use Rattle.step_runner.specs.declared.turns.object_state.ObjectState.TheVariants as states
use Rattle.step_runner.specs.Objects.{kind_of}
use Rattle.step_runner.specs.Items.{items_at, items_by}
use Rattle.step_runner.specs.State.{woken, stands_behind}
use Rattle.step_runner.specs.TurnAtObjects.{turn_at, turn_by, turn_on_both, with_both}
use Rattle.step_runner.specs.TurnWithin.{done_on}
use Rattle.scheduled_record.specs.RunActs.{is_nothing, going_acts, with_item}

-- ---- what a worker has made stays made

pub kept_made : (v : ℕ) (acts more : List Act) → is_nothing (made_by v acts) ≡ false → is_nothing (made_by v (acts ++ more)) ≡ false
kept_made v [] more is = absurd (no is) where
  no : true ≡ false → ⊥
  no same = cc
kept_made v (act ∷ acts) more is = chosen (act.worker == v) is (kept_made v acts more) where
  chosen : (b : Bool) → is_nothing (cond b (act.made ∷ made_by v acts) (made_by v acts)) ≡ false → (is_nothing (made_by v acts) ≡ false → is_nothing (made_by v (acts ++ more)) ≡ false)
      → is_nothing (cond b (act.made ∷ made_by v (acts ++ more)) (made_by v (acts ++ more))) ≡ false
  chosen true is later = refl
  chosen false is later = later is

later_made : (v : ℕ) (acts more : List Act) → is_nothing (made_by v more) ≡ false → is_nothing (made_by v (acts ++ more)) ≡ false
later_made v [] more is = is
later_made v (act ∷ acts) more is = chosen (act.worker == v) (later_made v acts more is) where
  chosen : (b : Bool) → is_nothing (made_by v (acts ++ more)) ≡ false → is_nothing (cond b (act.made ∷ made_by v (acts ++ more)) (made_by v (acts ++ more))) ≡ false
  chosen true later = refl
  chosen false later = later

pub kept_items : (plan : Plan) (v : ℕ) (made : List Item) (acts : List Act) → is_nothing (made_by v acts) ≡ false → is_nothing (made_by v (fold (with_item plan) acts made)) ≡ false
kept_items plan v [] acts is = is
kept_items plan v (item ∷ made) acts is = kept_items plan v made (with_item plan acts item) (kept_made v acts _ is)

-- ---- a `done` that is completed is one event of its group

abbrev pub IsOneOn : ℕ → ℕ → List Item → Type 0
IsOneOn w object made = (event : GroupEvent) × (answer : ObjectReply) × (made ≡ record { object = object; caller = w; deed = deeds.Entered (events.WaitGroup event) answer } ∷ [])

still_not : {X : Type 0} (reply : Reply (List ℕ)) → answers.Still ≡ answers.Completed reply → X
still_not reply same = absurd cc

pub one_done : (w moment object : ℕ) (objects : List ObjectState) (reply : Reply (List ℕ)) → (turn_at (done_on object) w moment objects).1 ≡ answers.Completed reply → IsOneOn w object (items_at (done_on object) w moment objects)
one_done w moment object objects reply is = chosen (slice_get objects object) is where
  beside : (o : ObjectState) (target : Option ObjectState) (other : ℕ)
      → (option_map_or {U = List ObjectState × Answer} (λ (target : ObjectState). with_both object other objects (turn_on_both (operations.WaitGroup group_calls.Done) w moment o target)) target (objects, answers.Still)).1 ≡ answers.Completed reply → ⊥
  beside o None other is = still_not reply is
  beside o (Some target) other is = still_not reply is

  chosen : (o : Option ObjectState)
      → (option_map_or {U = List ObjectState × Answer} (λ (o : ObjectState). turn_by (reference_of (kind_of o)) (done_on object) w moment objects o) o (objects, answers.Still)).1 ≡ answers.Completed reply
      → IsOneOn w object (option_map_or (λ (o : ObjectState). items_by (reference_of (kind_of o)) (done_on object) w moment objects o) o [])
  chosen None is = still_not reply is
  chosen (Some (states.WaitGroup g start)) is = (_, _, refl)
  chosen (Some (states.Cond c other)) is = absurd (beside (states.Cond c other) (slice_get objects other) other is)
  chosen (Some (states.Once o other delta)) is = absurd (beside (states.Once o other delta) (slice_get objects other) other is)
  chosen (Some (states.Flight f keys other delta)) is = absurd (beside (states.Flight f keys other delta) (slice_get objects other) other is)
  chosen (Some o) is = still_not reply is

pub done_made : (plan : Plan) (w object : ℕ) (made : List Item) (acts : List Act) → IsOneOn w object made → is_nothing (made_by w (fold (with_item plan) acts made)) ≡ false
done_made plan w object made acts (event, answer, same) = subst (λ (l : List Item). is_nothing (made_by w (fold (with_item plan) acts l)) ≡ false) (sym same) (later_made w acts _ (later_made w (going_acts plan acts w) _ (one (w == w) (eq-eqb w w refl) _))) where
  one : (b : Bool) → b ≡ true → (x : Made) → is_nothing (cond b (x ∷ []) []) ≡ false
  one true is x = refl
  one false is x = absurd cc

-- ---- who is gone was gone, or has closed its script

woken_gone : (stands : List Stand) (x v : ℕ) → get_or (set stands x (woken (get_or stands x Gone))) v Gone ≡ Gone → get_or stands v Gone ≡ Gone
woken_gone [] x v is = is
woken_gone (Waits ∷ stands) zero zero is = absurd (no is) where
  no : Live ≡ Gone → ⊥
  no same = cc
woken_gone (Live ∷ stands) zero zero is = is
woken_gone (Gone ∷ stands) zero zero is = is
woken_gone (stand ∷ stands) zero (suc v) is = is
woken_gone (stand ∷ stands) (suc x) zero is = is
woken_gone (stand ∷ stands) (suc x) (suc v) is = woken_gone stands x v is

pub gone_behind : (stands : List Stand) (started : Option ℕ) (v : ℕ) → get_or (stands_behind started stands) v Gone ≡ Gone → get_or stands v Gone ≡ Gone
gone_behind stands None v is = is
gone_behind stands (Some x) v is = woken_gone stands x v is

-- ---- nobody is started whom no call starts

none_in : (v : ℕ) (script : List Call) → group_in v script ≡ None → list_all (λ call. not (starts v call)) script ≡ true
none_in v [] none = refl
none_in v (call ∷ script) none = chosen (starts v call) none (none_in v script) where
  chosen : (b : Bool) → cond b (Some call.object) (group_in v script) ≡ None → (group_in v script ≡ None → list_all (λ call. not (starts v call)) script ≡ true) → (not b && list_all (λ call. not (starts v call)) script) ≡ true
  chosen true none later = absurd cc
  chosen false none later = later none

pub none_of : (v : ℕ) (scripts : List (List Call)) → group_of v scripts ≡ None → list_all (list_all (λ call. not (starts v call))) scripts ≡ true
none_of v [] none = refl
none_of v (script ∷ scripts) none = chosen (group_in v script) refl none (none_of v scripts) where
  chosen : (o : Option ℕ) → group_in v script ≡ o → group_or o (group_of v scripts) ≡ None → (group_of v scripts ≡ None → list_all (list_all (λ call. not (starts v call))) scripts ≡ true)
      → (list_all (λ call. not (starts v call)) script && list_all (list_all (λ call. not (starts v call))) scripts) ≡ true
  chosen None is none later = subst (λ (b : Bool). (b && list_all (list_all (λ call. not (starts v call))) scripts) ≡ true) (sym (none_in v script is)) (later none)
  chosen (Some x) is none later = absurd cc
