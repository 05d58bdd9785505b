-- The acts of a run are acts of the workload's workers, on its objects.
use Rattle.std.proofs.Common.{◌≡◌, ℕ, zero, suc, ◌+◌, ◌*◌, ◌<◌, ◌≤◌, ◌&&◌, not, Bool, true, false, cond, List, [], ◌∷◌, ◌++◌, map, filter, flat_map, fold, length, count_by, Some, slice_get, refl, arith}
use Rattle.std.specs.List.{AllByRecursion, range_with_len}
use Rattle.sync_model.specs.declared.item.SharedCall.{SharedCall}
use Rattle.sync_model.specs.declared.item.SharedReply.{SharedReply}
use Rattle.pool_core.specs.declared.pool_event.PoolEvent.{PoolEvent}
use Rattle.pool_core.specs.declared.pool_event.PoolEvent.TheVariants as pool_events
use Rattle.starts_core.specs.declared.starts.StartEvent.TheVariants as starts
use Rattle.starts_core.specs.declared.starts.StartReply.TheVariants as told
use Rattle.workload.specs.declared.object.ObjectKind.TheVariants as kinds
use Rattle.workload.specs.declared.object.ObjectLine.{ObjectLine}
use Rattle.workload.specs.Plan.{Plan, is_dormant, has_dormant}
use Rattle.run_record.specs.declared.entered.ObjectEvent.{ObjectEvent}
use Rattle.run_record.specs.declared.entered.ObjectEvent.TheVariants as events
use Rattle.run_record.specs.declared.entered.ObjectReply.{ObjectReply}
use Rattle.run_record.specs.declared.made.Made.{Made}
use Rattle.run_record.specs.Objects.{is_pool, first_part, starts_number, object_count}
use Rattle.run_record.specs.Record.{object_number, shared_in}
use Rattle.kept_record.specs.Acts.{IsOn, IsActOf}
use Rattle.kept_record.specs.Keeping.{Act, made_by}
use Rattle.step_runner.specs.declared.turns.item.Deed.{Deed}
use Rattle.step_runner.specs.declared.turns.item.Deed.TheVariants as deeds
use Rattle.step_runner.specs.declared.turns.item.Item.{Item}
use Rattle.step_runner.specs.Recorded.{made_shared, made_on, shared_calls, recorded_pool_event, recorded_event, recorded_deed, recorded_item}
use Rattle.step_runner.specs.Spelt.{made_on_starts}
use Rattle.scheduled_record.specs.RunActs.{acts_by, waits_still, going_acts, with_item, acts_of, ending_acts, leaving_acts, closing_acts, closed_acts}
use Rattle.scheduled_record.specs.ItemsOf.{NamesPart, HasPool, IsEventOn, IsDeedOn, IsItemOf, AreItemsOf}
use Rattle.scheduled_record.proofs.RunInRange.{some_dormant}

-- what the law on numbers says of parts and of Starts
pub record Numbers (plan : Plan) : Type 0 where
  pub starts : has_dormant plan ≡ true → object_count plan ≡ starts_number plan + 1
  pub parts : (place part : ℕ) (object : ObjectLine) → slice_get plan.objects place ≡ Some object → object.kind ≡ kinds.Pool → part < plan.workers → first_part plan place + part < starts_number plan

module _ (plan : Plan) (numbers : Numbers plan) where
  abbrev AreOn : List Made → Type 0
  AreOn made = AllByRecursion (IsOn (object_count plan)) made

  abbrev AreActs : List Act → Type 0
  AreActs acts = AllByRecursion (IsActOf plan) acts

  joined_acts : (acts more : List Act) → AreActs acts → AreActs more → AreActs (acts ++ more)
  joined_acts [] more first second = second
  joined_acts (act ∷ acts) more first second = (first.0, joined_acts acts more first.1 second)

  -- what one worker made
  by_one : (worker : ℕ) (made : List Made) → worker < plan.workers → AreOn made → AreActs (acts_by worker made)
  by_one worker [] within on = tt
  by_one worker (one ∷ made) within on = (record { worker = within; object = on.0 }, by_one worker made within on.1)

  at_most : starts_number plan ≤ object_count plan
  at_most = chosen (has_dormant plan) where
    chosen : (b : Bool) → starts_number plan ≤ starts_number plan + cond b 1 0
    chosen true = omega arith
    chosen false = omega arith

  part_there : (place part : ℕ) → HasPool plan place → part < plan.workers → first_part plan place + part < object_count plan
  part_there place part there within = let less : first_part plan place + part < starts_number plan = numbers.parts place part there.0 there.1 there.2 within in let most : starts_number plan ≤ object_count plan = at_most in omega arith

  place_there : (place : ℕ) → place < length plan.objects → object_number place < object_count plan
  place_there place within = below (length plan.objects) (count_by (λ object. is_pool object.kind) plan.objects * plan.workers) (object_count plan) within at_most where
    below : (n parts all : ℕ) → place < n → n + 1 + parts ≤ all → place + 1 < all
    below n parts all less most = omega arith

  starts_there : has_dormant plan ≡ true → starts_number plan < object_count plan
  starts_there some = let count : object_count plan ≡ starts_number plan + 1 = numbers.starts some in omega arith

  swept : (place caller : ℕ) (answer : ObjectReply) → HasPool plan place → (first count : ℕ) → first + count ≤ plan.workers → AreOn (map (λ part. made_on plan (first_part plan place + part) caller (events.Pool pool_events.Sweep) answer) (range_with_len first count))
  swept place caller answer there first zero most = tt
  swept place caller answer there first (suc count) most = (part_there place first there (omega arith), swept place caller answer there (first + 1) count (omega arith))

  pool_on : (place caller : ℕ) (event : PoolEvent ℕ) (answer : ObjectReply) → caller < plan.workers → HasPool plan place → NamesPart plan.workers event → AreOn (recorded_pool_event plan place caller event answer)
  pool_on place caller (pool_events.Put item) answer within there names = (part_there place caller there within, tt)
  pool_on place caller pool_events.LookOwn answer within there names = (part_there place caller there within, tt)
  pool_on place caller (pool_events.LookOther part) answer within there names = (part_there place part there names, tt)
  pool_on place caller (pool_events.LookVictim part) answer within there names = (part_there place part there names, tt)
  pool_on place caller pool_events.Sweep answer within there names = swept place caller answer there 0 plan.workers (omega arith)

  event_on : (place caller : ℕ) (event : ObjectEvent) (answer : ObjectReply) → caller < plan.workers → IsEventOn plan place event → AreOn (recorded_event plan place caller event answer)
  event_on place caller (events.Pool event) answer within on = pool_on place caller event answer within on.0 on.1
  event_on place caller (events.Starts event) answer within on = (starts_there on, tt)
  event_on place caller (events.Mutex event) answer within on = (place_there place on, tt)
  event_on place caller (events.RwMutex event) answer within on = (place_there place on, tt)
  event_on place caller (events.Cond event) answer within on = (place_there place on, tt)
  event_on place caller (events.WaitGroup event) answer within on = (place_there place on, tt)
  event_on place caller (events.Once event) answer within on = (place_there place on, tt)
  event_on place caller (events.OnceFunc event) answer within on = (place_there place on, tt)
  event_on place caller (events.OnceValue event) answer within on = (place_there place on, tt)
  event_on place caller (events.Sema event) answer within on = (place_there place on, tt)
  event_on place caller (events.Flight event) answer within on = (place_there place on, tt)

  shared_on : (calls : List (SharedCall × SharedReply)) → AreOn (map (made_shared plan) calls)
  shared_on [] = tt
  shared_on (call ∷ calls) = (tt, shared_on calls)

  deed_on : (before place caller : ℕ) (deed : Deed) → caller < plan.workers → IsDeedOn plan place deed → AreOn (recorded_deed plan before place caller deed)
  deed_on before place caller (deeds.Placed operation reply) within on = shared_on (shared_calls plan before place operation reply)
  deed_on before place caller (deeds.Entered event answer) within on = event_on place caller event answer within on

  item_on : (before : ℕ) (item : Item) → IsItemOf plan item → AreOn (recorded_item plan before item)
  item_on before item is = deed_on before item.object item.caller item.deed is.caller is.on

  -- ---- Starts

  dormant_some : (worker : ℕ) (made : Bool) → (is_dormant plan worker && made) ≡ true → has_dormant plan ≡ true
  dormant_some worker made waits = some_dormant plan.dormant worker (both_true (is_dormant plan worker) made waits) where
    both_true : (a b : Bool) → (a && b) ≡ true → a ≡ true
    both_true true b is = refl
    both_true false b is = is

  going_on : (acts : List Act) (worker : ℕ) → worker < plan.workers → AreActs (going_acts plan acts worker)
  going_on acts worker within = by_one worker (cond (waits_still plan acts worker) (made_on_starts plan worker starts.Leave told.Go) []) within (chosen (waits_still plan acts worker) refl) where
    chosen : (b : Bool) → waits_still plan acts worker ≡ b → AreOn (cond b (made_on_starts plan worker starts.Leave told.Go) [])
    chosen true waits = (starts_there (dormant_some worker _ waits), tt)
    chosen false waits = tt

  each_worker : (makes : ℕ → List Made) (passes : ℕ → Bool) → ((w : ℕ) → AreOn (makes w)) → (first count : ℕ) → first + count ≤ plan.workers → AreActs (flat_map (λ w. acts_by w (makes w)) (filter passes (range_with_len first count)))
  each_worker makes passes on first zero most = tt
  each_worker makes passes on first (suc count) most = chosen (passes first) (each_worker makes passes on (first + 1) count (omega arith)) where
    chosen : (b : Bool) → AreActs (flat_map (λ w. acts_by w (makes w)) (filter passes (range_with_len (first + 1) count))) → AreActs (flat_map (λ w. acts_by w (makes w)) (cond b (first ∷ filter passes (range_with_len (first + 1) count)) (filter passes (range_with_len (first + 1) count))))
    chosen true rest = joined_acts (acts_by first (makes first)) _ (by_one first (makes first) (omega arith) (on first)) rest
    chosen false rest = rest

  closing_on : (acts : List Act) → AreActs (closing_acts plan acts)
  closing_on acts = chosen (has_dormant plan) refl where
    chosen : (b : Bool) → has_dormant plan ≡ b → AreActs (cond b (ending_acts plan acts ++ leaving_acts plan acts) [])
    chosen true some = joined_acts (ending_acts plan acts) (leaving_acts plan acts)
        (each_worker (λ w. made_on_starts plan w starts.End told.Done) (λ w. not (waits_still plan acts w)) (λ w. (starts_there some, tt)) 0 plan.workers (omega arith))
        (each_worker (λ w. made_on_starts plan w starts.Leave told.Never) (waits_still plan acts) (λ w. (starts_there some, tt)) 0 plan.workers (omega arith))
    chosen false some = tt

  -- ---- a run

  items_on : (acts : List Act) (items : List Item) → AreActs acts → AreItemsOf plan items → AreActs (fold (with_item plan) acts items)
  items_on acts [] are all = are
  items_on acts (item ∷ items) are all = items_on (with_item plan acts item) items (joined_acts acts (going_acts plan acts item.caller ++ acts_by item.caller (recorded_item plan (length (shared_in (made_by item.caller acts))) item)) are
      (joined_acts (going_acts plan acts item.caller) (acts_by item.caller (recorded_item plan (length (shared_in (made_by item.caller acts))) item)) (going_on acts item.caller all.0.caller)
      (by_one item.caller (recorded_item plan (length (shared_in (made_by item.caller acts))) item) all.0.caller (item_on (length (shared_in (made_by item.caller acts))) item all.0)))) all.1

  pub acts_on : (items : List Item) → AreItemsOf plan items → AreActs (closed_acts plan (acts_of plan items))
  acts_on items all = joined_acts (acts_of plan items) (closing_acts plan (acts_of plan items)) (items_on [] items tt all) (closing_on (acts_of plan items))
