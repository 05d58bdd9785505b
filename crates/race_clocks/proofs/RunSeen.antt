-- What conds, pools and maps come to by the items of a run is what the run's own objects hold.
use Rattle.std.proofs.Common.{◌≡◌, ℕ, ◌==◌, Bool, true, false, List, [], ◌∷◌, Option, Some, None, slice_get, refl, sym, ap, ◌∙◌, subst}
use Rattle.std.specs.Prelude.{cond, map, option_map}
use Rattle.std.specs.List.{fold}
use Rattle.std.proofs.lemmas.Option.{none-some, same_Some, slice_get-map}
use Rattle.sync_model.specs.Log.{Entry, after}
use Rattle.script_calls.specs.declared.call.Operation.{Operation}
use Rattle.script_calls.specs.declared.call.Operation.TheVariants as operations
use Rattle.script_calls.specs.declared.call.Reply.{Reply}
use Rattle.wait_cores.specs.NotifyMachine as notify
use Rattle.pool_core.specs.PoolMachine as pool
use Rattle.workload.specs.Keys.{keys_in}
use Rattle.workload.specs.Plan.{Plan}
use Rattle.workload.specs.Puts.{puts_at}
use Rattle.workload.specs.declared.object.ObjectLine.{ObjectLine}
use Rattle.run_record.specs.declared.entered.ObjectEvent.{ObjectEvent}
use Rattle.run_record.specs.declared.entered.ObjectEvent.TheVariants as events
use Rattle.run_record.specs.declared.entered.ObjectReply.{ObjectReply}
use Rattle.run_record.specs.declared.entered.ObjectReply.TheVariants as answered
use Rattle.step_runner.specs.declared.turns.item.Deed.{Deed}
use Rattle.step_runner.specs.declared.turns.item.Deed.TheVariants as deeds
use Rattle.step_runner.specs.declared.turns.item.Item.{Item}
use Rattle.step_runner.specs.declared.turns.object_state.ObjectState.{ObjectState}
use Rattle.step_runner.specs.declared.turns.object_state.ObjectState.TheVariants as states
use Rattle.step_runner.specs.LeadsTo.{on_object, told_in, told_by, FollowsTo, CallsTo, MapGoes, LeadsTo}
use Rattle.step_runner.specs.Objects.{new_object, kind_of}
use Rattle.step_runner.specs.RunItems.{LeadTo}
use Rattle.race_clocks.specs.PoolItems.{kept_made, kept_behind}
use Rattle.race_clocks.specs.Seen.{cond_made, cond_behind, Named, map_made, map_behind}

-- ---- items on other objects make nothing of an object

module _ {S : Type 0} (made : S → ℕ → Deed → S) (place : ℕ) where
  abbrev all_made : S → List Item → S
  all_made s items = fold (λ s (it : Item). made s it.caller it.deed) s items

  abbrev by_item : S → Item → S
  by_item s it = cond (it.object == place) (made s it.caller it.deed) s

  on_it : (here : Bool) (s : S) (it : Item) (items rest : List Item) → ((s : S) → fold by_item s items ≡ all_made s rest) → fold by_item (cond here (made s it.caller it.deed) s) items ≡ all_made s (cond here (it ∷ rest) rest)
  on_it true s it items rest same = same (made s it.caller it.deed)
  on_it false s it items rest same = same s

  just_there : (s : S) (items : List Item) → fold by_item s items ≡ all_made s (on_object place items)
  just_there s [] = refl
  just_there s (it ∷ items) = on_it (it.object == place) s it items (on_object place items) (λ t. just_there t items)

-- ---- a machine

module _ {S E R : Type 0} (event : E → ObjectEvent) (answer : R → ObjectReply) (next : S → ℕ → E → S × R) (made : S → ℕ → Deed → S) (goes : (s : S) (caller : ℕ) (e : E) (r : R) → made s caller (deeds.Entered (event e) (answer r)) ≡ (next s caller e).0) where
  head_of : List (ℕ × Deed) → Option (ℕ × Deed)
  head_of [] = None
  head_of (x ∷ xs) = Some x

  tail_of : List (ℕ × Deed) → List (ℕ × Deed)
  tail_of [] = []
  tail_of (x ∷ xs) = xs

  along : (place : ℕ) (s : S) (items : List Item) (log : List (Entry E R)) → map told_in items ≡ map (told_by event answer) log → all_made made place s items ≡ after next s log
  unfolding head_of tail_of
  along place s [] [] same = refl
  along place s [] (e ∷ log) same = absurd (none-some (told_by event answer e) (ap head_of same))
  along place s (it ∷ items) [] same = absurd (none-some (told_in it) (sym (ap head_of same)))
  along place s (it ∷ items) (e ∷ log) same =
      let first = same_Some (told_in it) (told_by event answer e) (ap head_of same) in
      ap (λ (t : ℕ × Deed). all_made made place (made s t.0 t.1) items) first ∙ ap (λ t. all_made made place t items) (goes s e.caller e.event e.reply) ∙ along place (next s e.caller e.event).0 items log (ap tail_of same)

  followed : (place : ℕ) (s last : S) (items : List Item) → FollowsTo event answer next s (on_object place items) last → fold (by_item made place) s items ≡ last
  followed place s last items (log, same, follows, is) = just_there made place s items ∙ along place s (on_object place items) log same ∙ is

-- ---- a map

abbrev map_step : Named → ℕ → Deed → Named
map_step m caller deed = map_made m deed

map_goes : (operation : Operation) (reply : Reply (List ℕ)) (m next : Named) → MapGoes operation m reply next → map_made m (deeds.Placed operation reply) ≡ next
map_goes (operations.Map call) reply m next goes = sym goes.1
map_goes operations.Range reply m next goes = sym goes.1
map_goes operation reply m next goes = absurd goes

called : (place : ℕ) (m n : Named) (items : List Item) → CallsTo MapGoes m items n → all_made map_step place m items ≡ n
called place m n [] is = sym is
called place m n (it ∷ items) (operation, reply, next, deed, goes, rest) = ap (λ t. all_made map_step place t items) (ap (map_made m) deed ∙ map_goes operation reply m next goes) ∙ called place next n items rest

-- ---- an object of a run

module _ (plan : Plan) (made : List Item) (objects : List ObjectState) (kinds : map kind_of objects ≡ map (λ (line : ObjectLine). line.kind) plan.objects) (lead : LeadTo plan made objects) where
  of_line : (place : ℕ) (object : ObjectState) (line : Option ObjectLine) → slice_get plan.objects place ≡ line → slice_get objects place ≡ Some object → option_map (λ (l : ObjectLine). l.kind) line ≡ Some (kind_of object)
      → LeadsTo (new_object plan.workers (puts_at place plan.scripts) (keys_in plan.scripts) (kind_of object)) (on_object place made) object
  of_line place object None at_line at is = absurd (none-some (kind_of object) is)
  of_line place object (Some line) at_line at is = subst (λ kind. LeadsTo (new_object plan.workers (puts_at place plan.scripts) (keys_in plan.scripts) kind) (on_object place made) object) (same_Some line.kind (kind_of object) is) (lead place line object at_line at)

  leads : (place : ℕ) (object : ObjectState) → slice_get objects place ≡ Some object → LeadsTo (new_object plan.workers (puts_at place plan.scripts) (keys_in plan.scripts) (kind_of object)) (on_object place made) object
  leads place object at = of_line place object (slice_get plan.objects place) refl at
      (sym (slice_get-map (λ (l : ObjectLine). l.kind) plan.objects place) ∙ ap (λ ks. slice_get ks place) (sym kinds) ∙ slice_get-map kind_of objects place ∙ ap (option_map kind_of) at)

  pub cond_seen : (place other : ℕ) (c : notify.NotifyState) → slice_get objects place ≡ Some (states.Cond c other) → cond_behind plan place made ≡ c
  cond_seen place other c at = followed events.Cond answered.Cond notify.next cond_made (λ s caller e r. refl) place (notify.start plan.workers) c made (leads place (states.Cond c other) at)

  pub pool_seen : (place : ℕ) (p : pool.PoolState ℕ) → slice_get objects place ≡ Some (states.Pool p) → kept_behind plan place made ≡ p
  pool_seen place p at = followed events.Pool answered.Pool pool.next kept_made (λ s caller e r. refl) place (pool.start plan.workers (puts_at place plan.scripts)) p made (leads place (states.Pool p) at)

  pub map_seen : (place : ℕ) (m : Named) → slice_get objects place ≡ Some (states.Map m) → map_behind place made ≡ m
  map_seen place m at = just_there map_step place _ made ∙ called place _ m (on_object place made) (leads place (states.Map m) at)
