-- Each step of a cursor in a run by schedule follows the call that began the cursor.
use Rattle.std.proofs.Common.{◌≡◌, ℕ, zero, suc, ◌+◌, ◌<◌, ◌==◌, not, Bool, true, false, cond, List, [], ◌∷◌, ◌++◌, map, filter, flat_map, length, Option, Some, None, option_map, slice_get, inl, inr, ◌⊎◌, refl, sym, ap, ◌∙◌, subst, append-nil, append_assoc, arith}
use Rattle.std.specs.List.{range_with_len}
use Rattle.std.proofs.lemmas.List.{length-map, length-append, map-append}
use Rattle.std.proofs.lemmas.Option.{none-some, same_Some, slice_get-map}
use Rattle.script_calls.specs.declared.call.Operation.{Operation}
use Rattle.script_calls.specs.declared.call.Operation.TheVariants as operations
use Rattle.script_calls.specs.declared.call.Reply.{Reply}
use Rattle.script_calls.specs.declared.call.Reply.TheVariants as replies
use Rattle.sync_model.specs.declared.item.Item.{Item as Call}
use Rattle.sync_model.specs.declared.item.SharedCall.{SharedCall}
use Rattle.sync_model.specs.declared.item.SharedCall.TheVariants as calls
use Rattle.sync_model.specs.declared.item.SharedReply.TheVariants as answers
use Rattle.pool_core.specs.declared.pool_event.PoolEvent.{PoolEvent}
use Rattle.pool_core.specs.declared.pool_event.PoolEvent.TheVariants as pool_events
use Rattle.starts_core.specs.declared.starts.StartEvent.TheVariants as starts
use Rattle.starts_core.specs.declared.starts.StartReply.TheVariants as told
use Rattle.workload.specs.Keys.{keys_in, key_number}
use Rattle.workload.specs.Plan.{Plan, is_dormant, has_dormant}
use Rattle.run_record.specs.declared.entered.ObjectEvent.{ObjectEvent}
use Rattle.run_record.specs.declared.entered.ObjectEvent.TheVariants as events
use Rattle.run_record.specs.declared.entered.ObjectReply.{ObjectReply}
use Rattle.run_record.specs.declared.made.Made.{Made}
use Rattle.run_record.specs.declared.made.Made.TheVariants.{Shared, Entered}
use Rattle.run_record.specs.MapKind.{step_showing}
use Rattle.run_record.specs.Objects.{first_part, map_number}
use Rattle.run_record.specs.Record.{shared_in}
use Rattle.kept_record.specs.Alike.{AreAlike}
use Rattle.kept_record.specs.Keeping.{Act, made_by}
use Rattle.step_runner.specs.declared.turns.item.Deed.{Deed}
use Rattle.step_runner.specs.declared.turns.item.Deed.TheVariants as deeds
use Rattle.step_runner.specs.declared.turns.item.Item.{Item}
use Rattle.step_runner.specs.Recorded.{made_shared, made_on, shared_calls, recorded_pool_event, recorded_event, recorded_deed, recorded_item, recorded}
use Rattle.step_runner.specs.Spelt.{by_worker, made_on_starts, has_made}
use Rattle.scheduled_record.specs.RunActs.{acts_by, waits_still, acts_of, ending_acts, leaving_acts, closing_acts, closed_acts}
use Rattle.scheduled_record.proofs.Lists.{made-append, shared-append}
use Rattle.scheduled_record.proofs.RunLists.{no_calls, run_lists}

-- ---- lists

module _ {A : Type 0} where
  in_left : (xs ys : List A) (i : ℕ) (x : A) → slice_get xs i ≡ Some x → slice_get (xs ++ ys) i ≡ Some x
  in_left [] ys i x at = absurd (none-some x at)
  in_left (y ∷ xs) ys zero x at = at
  in_left (y ∷ xs) ys (suc i) x at = in_left xs ys i x at

  seam : (xs : List A) (y : A) (ys : List A) → slice_get (xs ++ y ∷ ys) (length xs) ≡ Some y
  seam [] y ys = refl
  seam (x ∷ xs) y ys = seam xs y ys

  split : (xs ys : List A) (i : ℕ) (x : A) → slice_get (xs ++ ys) i ≡ Some x → (slice_get xs i ≡ Some x) ⊎ ((k : ℕ) × (i ≡ length xs + k) × (slice_get ys k ≡ Some x))
  split [] ys i x at = inr (i, first i, at) where
    first : (n : ℕ) → n ≡ 0 + n
    first n = omega arith
  split (y ∷ xs) ys zero x at = inl at
  split (y ∷ xs) ys (suc i) x at = elim (split xs ys i x at) [
    | inl here ↦ inl here
    | inr later ↦ inr (later.0, next i (length xs) later.0 later.1, later.2)
  ] where
    next : (i n k : ℕ) → i ≡ n + k → suc i ≡ suc n + k
    next i n k is = omega (arith, is)

-- ---- steps and what began them

abbrev pub asks : List Made → List SharedCall
asks made = map (λ (x : Call). x.call) (shared_in made)

-- each step has its begin before it
abbrev pub AreBegun : List SharedCall → Type 0
AreBegun list = (j b : ℕ) → slice_get list j ≡ Some (calls.Next b) → (m : ℕ) × (b < j) × (slice_get list b ≡ Some (calls.Begin m))

more : (xs ys : List SharedCall) → AreBegun xs → ((k b : ℕ) → slice_get ys k ≡ Some (calls.Next b) → (m : ℕ) × (b < length xs + k) × (slice_get (xs ++ ys) b ≡ Some (calls.Begin m))) → AreBegun (xs ++ ys)
more xs ys first second j b at = elim (split xs ys j (calls.Next b) at) [
  | inl here ↦ (let old = first j b here in (old.0, old.1, in_left xs ys b (calls.Begin old.0) old.2))
  | inr later ↦ (let new = second later.0 b later.2 in (new.0, subst (λ (n : ℕ). b < n) (sym later.1) new.1, new.2))
]

plain : (xs : List SharedCall) (y : SharedCall) → AreBegun xs → ((b : ℕ) → y ≡ calls.Next b → ⊥) → AreBegun (xs ++ y ∷ [])
plain xs y first other = more xs (y ∷ []) first each where
  each : (k b : ℕ) → slice_get (y ∷ []) k ≡ Some (calls.Next b) → (m : ℕ) × (b < length xs + k) × (slice_get (xs ++ y ∷ []) b ≡ Some (calls.Begin m))
  each zero b at = absurd (other b (same_Some y (calls.Next b) at))
  each (suc k) b at = absurd (none-some (calls.Next b) at)

cursor : (xs : List SharedCall) (m : ℕ) (steps : List SharedCall) → AreBegun xs → ((k : ℕ) (call : SharedCall) → slice_get steps k ≡ Some call → call ≡ calls.Next (length xs)) → AreBegun (xs ++ calls.Begin m ∷ steps)
cursor xs m steps first are = more xs (calls.Begin m ∷ steps) first each where
  begins : (b : ℕ) → calls.Begin m ≡ calls.Next b → ⊥
  begins b same = cc

  each : (k b : ℕ) → slice_get (calls.Begin m ∷ steps) k ≡ Some (calls.Next b) → (n : ℕ) × (b < length xs + k) × (slice_get (xs ++ calls.Begin m ∷ steps) b ≡ Some (calls.Begin n))
  each zero b at = absurd (begins b (same_Some (calls.Begin m) (calls.Next b) at))
  each (suc k) b at =
      let same : calls.Next b ≡ calls.Next (length xs) = are k (calls.Next b) at in
      let is : b ≡ length xs = cc in
      (m, below (length xs) k b is, subst (λ (i : ℕ). slice_get (xs ++ calls.Begin m ∷ steps) i ≡ Some (calls.Begin m)) (sym is) (seam xs (calls.Begin m) steps))
    where
      below : (n k b : ℕ) → b ≡ n → b < n + suc k
      below n k b is = omega (arith, is)

nothing_more : (xs : List SharedCall) → AreBegun xs → AreBegun (xs ++ [])
nothing_more xs first = subst AreBegun (sym (append-nil xs)) first

asks-append : (one two : List Made) → asks (one ++ two) ≡ asks one ++ asks two
asks-append one two = ap (map (λ (x : Call). x.call)) (shared-append one two) ∙ map-append (λ (x : Call). x.call) (shared_in one) (shared_in two)

-- ---- a run

module _ (plan : Plan) where
  abbrev HasNone : List Made → Type 0
  HasNone made = shared_in made ≡ []

  swept : (place caller : ℕ) (answer : ObjectReply) (first count : ℕ) → HasNone (map (λ part. made_on plan (first_part plan place + part) caller (events.Pool pool_events.Sweep) answer) (range_with_len first count))
  swept place caller answer first zero = refl
  swept place caller answer first (suc count) = swept place caller answer (first + 1) count

  pool_none : (place caller : ℕ) (event : PoolEvent ℕ) (answer : ObjectReply) → HasNone (recorded_pool_event plan place caller event answer)
  pool_none place caller (pool_events.Put item) answer = refl
  pool_none place caller pool_events.LookOwn answer = refl
  pool_none place caller (pool_events.LookOther part) answer = refl
  pool_none place caller (pool_events.LookVictim part) answer = refl
  pool_none place caller pool_events.Sweep answer = swept place caller answer 0 plan.workers

  pub event_none : (place caller : ℕ) (event : ObjectEvent) (answer : ObjectReply) → HasNone (recorded_event plan place caller event answer)
  event_none place caller (events.Pool event) answer = pool_none place caller event answer
  event_none place caller (events.Starts event) answer = refl
  event_none place caller (events.Mutex event) answer = refl
  event_none place caller (events.RwMutex event) answer = refl
  event_none place caller (events.Cond event) answer = refl
  event_none place caller (events.WaitGroup event) answer = refl
  event_none place caller (events.Once event) answer = refl
  event_none place caller (events.OnceFunc event) answer = refl
  event_none place caller (events.OnceValue event) answer = refl
  event_none place caller (events.Sema event) answer = refl
  event_none place caller (events.Flight event) answer = refl

  steps_are : (m begin : ℕ) (shown : List (ℕ × ℕ)) (k : ℕ) (call : SharedCall)
      → slice_get (asks (map (made_shared plan) (map (step_showing (keys_in plan.scripts) m begin) shown ++ (calls.Next begin, answers.Shown None) ∷ []))) k ≡ Some call → call ≡ calls.Next begin
  steps_are m begin [] zero call at = sym (same_Some (calls.Next begin) call at)
  steps_are m begin [] (suc k) call at = absurd (none-some call at)
  steps_are m begin (pair ∷ shown) zero call at = sym (same_Some (calls.Next begin) call at)
  steps_are m begin (pair ∷ shown) (suc k) call at = steps_are m begin shown k call at

  placed_begun : (xs : List SharedCall) (before : ℕ) → length xs ≡ before → AreBegun xs → (place : ℕ) (operation : Operation) (reply : Reply (List ℕ)) → AreBegun (xs ++ asks (map (made_shared plan) (shared_calls plan before place operation reply)))
  placed_begun xs before long first place (operations.Map call) (replies.Map reply) = plain xs _ first (λ b same. absurd cc)
  placed_begun xs before long first place operations.Range (replies.Pairs pairs) = cursor xs (map_number plan.objects place) _ first (λ k call at. steps_are (map_number plan.objects place) before (map (λ pair. (key_number (keys_in plan.scripts) pair.0, pair.1)) pairs) k call at ∙ ap calls.Next (sym long))
  placed_begun xs before long first place (operations.Atomic call) (replies.Atomic reply) = plain xs _ first (λ b same. absurd cc)
  placed_begun xs before long first place operation reply = nothing_more xs first

  item_begun : (xs : List SharedCall) (before : ℕ) → length xs ≡ before → AreBegun xs → (place caller : ℕ) (deed : Deed) → AreBegun (xs ++ asks (recorded_deed plan before place caller deed))
  item_begun xs before long first place caller (deeds.Placed operation reply) = placed_begun xs before long first place operation reply
  item_begun xs before long first place caller (deeds.Entered event answer) =
      subst (λ (l : List Call). AreBegun (xs ++ map (λ (x : Call). x.call) l)) (sym (event_none place caller event answer)) (nothing_more xs first)

  recorded_begun : (xs : List SharedCall) (before : ℕ) → length xs ≡ before → AreBegun xs → (items : List Item) → AreBegun (xs ++ asks (recorded plan before items))
  recorded_begun xs before long first [] = nothing_more xs first
  recorded_begun xs before long first (item ∷ items) =
      let own : List Made = recorded_item plan before item in
      let rest : List Made = recorded plan (before + length (shared_in own)) items in
      let longer : length (xs ++ asks own) ≡ before + length (shared_in own) = length-append xs (asks own) ∙ (ap (λ (n : ℕ). n + length (asks own)) long ∙ ap (λ (n : ℕ). before + n) (length-map (shared_in own) (λ (x : Call). x.call))) in
      subst AreBegun (append_assoc xs (asks own) (asks rest) ∙ ap (λ (l : List SharedCall). xs ++ l) (sym (asks-append own rest)))
      (recorded_begun (xs ++ asks own) (before + length (shared_in own)) longer (item_begun xs before long first item.object item.caller item.deed) items)

  -- ---- the end of a run

  module _ (w : ℕ) where
    abbrev Silent : List Act → Type 0
    Silent acts = shared_in (made_by w acts) ≡ []

    both_silent : (acts later : List Act) → Silent acts → Silent later → Silent (acts ++ later)
    both_silent acts later first second = ap shared_in (made-append w acts later) ∙ (shared-append (made_by w acts) (made_by w later) ∙ (ap (λ (l : List Call). l ++ shared_in (made_by w later)) first ∙ second))

    workers_silent : (makes : ℕ → List Made) (passes : ℕ → Bool) → ((v : ℕ) → Silent (acts_by v (makes v))) → (first count : ℕ) → Silent (flat_map (λ v. acts_by v (makes v)) (filter passes (range_with_len first count)))
    workers_silent makes passes each first zero = refl
    workers_silent makes passes each first (suc count) = chosen (passes first) (workers_silent makes passes each (first + 1) count) where
      chosen : (b : Bool) → Silent (flat_map (λ v. acts_by v (makes v)) (filter passes (range_with_len (first + 1) count)))
          → Silent (flat_map (λ v. acts_by v (makes v)) (cond b (first ∷ filter passes (range_with_len (first + 1) count)) (filter passes (range_with_len (first + 1) count))))
      chosen true rest = both_silent (acts_by first (makes first)) (flat_map (λ v. acts_by v (makes v)) (filter passes (range_with_len (first + 1) count))) (each first) rest
      chosen false rest = rest

    one_silent : (v object : ℕ) (made : _) (b : Bool) → shared_in (cond b (Entered object made ∷ []) []) ≡ []
    one_silent v object made true = refl
    one_silent v object made false = refl

    closing_silent : (acts : List Act) → Silent (closing_acts plan acts)
    closing_silent acts = chosen (has_dormant plan) where
      chosen : (b : Bool) → Silent (cond b (ending_acts plan acts ++ leaving_acts plan acts) [])
      chosen true = both_silent (ending_acts plan acts) (leaving_acts plan acts)
          (workers_silent (λ v. made_on_starts plan v starts.End told.Done) (λ v. not (waits_still plan acts v)) (λ v. one_silent v _ _ (v == w)) 0 plan.workers)
          (workers_silent (λ v. made_on_starts plan v starts.Leave told.Never) (waits_still plan acts) (λ v. one_silent v _ _ (v == w)) 0 plan.workers)
      chosen false = refl

    pub run_begun : (items : List Item) → AreBegun (asks (made_by w (closed_acts plan (acts_of plan items))))
    run_begun items = subst (λ (l : List Call). AreBegun (map (λ (x : Call). x.call) l)) (sym same) (recorded_begun [] 0 refl (λ j b at. absurd (none-some (calls.Next b) at)) (by_worker w items)) where
      same : shared_in (made_by w (closed_acts plan (acts_of plan items))) ≡ shared_in (recorded plan 0 (by_worker w items))
      same = ap shared_in (made-append w (acts_of plan items) (closing_acts plan (acts_of plan items)))
          ∙ (shared-append (made_by w (acts_of plan items)) (made_by w (closing_acts plan (acts_of plan items)))
          ∙ (ap (λ (l : List Call). shared_in (made_by w (acts_of plan items)) ++ l) (closing_silent (acts_of plan items))
          ∙ (append-nil (shared_in (made_by w (acts_of plan items)))
          ∙ (ap shared_in (run_lists plan items w) ∙ no_calls plan w (is_dormant plan w) (has_made (by_worker w items)) (recorded plan 0 (by_worker w items))))))

-- ---- in the record

alike_asks : (made list : List Made) → AreAlike made list → asks made ≡ asks list
alike_asks [] [] are = refl
alike_asks [] (other ∷ list) are = absurd are
alike_asks (one ∷ made) [] are = absurd are
alike_asks (Shared x ∷ made) (Shared y ∷ list) are = ap (λ (c : SharedCall). c ∷ asks made) are.0.0 ∙ ap (λ (l : List SharedCall). y.call ∷ l) (alike_asks made list are.1)
alike_asks (Entered object entry ∷ made) (Entered other later ∷ list) are = alike_asks made list are.1
alike_asks (Shared x ∷ made) (Entered other later ∷ list) are = absurd are.0
alike_asks (Entered object entry ∷ made) (Shared y ∷ list) are = absurd are.0

pub begun_in : (made list : List Made) → AreAlike made list → AreBegun (asks made) → (j b : ℕ) (x : Call) → slice_get (shared_in list) j ≡ Some x → x.call ≡ calls.Next b
    → (y : Call) × (m : ℕ) × (b < j) × (slice_get (shared_in list) b ≡ Some y) × (y.call ≡ calls.Begin m)
begun_in made list alike are j b x at is = chosen (slice_get (shared_in list) b) refl where
  here : (m : ℕ) × (b < j) × (slice_get (asks list) b ≡ Some (calls.Begin m))
  here = subst AreBegun (alike_asks made list alike) are j b (slice_get-map (λ (x : Call). x.call) (shared_in list) j ∙ (ap (option_map (λ (x : Call). x.call)) at ∙ ap (λ (c : SharedCall). Some c) is))

  begins : option_map (λ (x : Call). x.call) (slice_get (shared_in list) b) ≡ Some (calls.Begin here.0)
  begins = sym (slice_get-map (λ (x : Call). x.call) (shared_in list) b) ∙ here.2

  chosen : (o : Option Call) → slice_get (shared_in list) b ≡ o → (y : Call) × (m : ℕ) × (b < j) × (slice_get (shared_in list) b ≡ Some y) × (y.call ≡ calls.Begin m)
  chosen None none = absurd (none-some (calls.Begin here.0) (ap (option_map (λ (x : Call). x.call)) (sym none) ∙ begins))
  chosen (Some y) there = (y, here.0, here.1, there, same_Some y.call (calls.Begin here.0) (ap (option_map (λ (x : Call). x.call)) (sym there) ∙ begins))
