-- What a run does on a part of a pool, as the acts of its record say it.
use Rattle.std.proofs.Common.{◌≡◌, ◌≢◌, ℕ, zero, suc, ◌+◌, ◌*◌, ◌<◌, ◌≤◌, ◌==◌, not, Bool, true, false, cond, List, [], ◌∷◌, ◌++◌, map, filter, flat_map, fold, length, inl, inr, refl, sym, ap, ◌∙◌, append-nil, append_assoc, arith}
use Rattle.std.specs.List.{range_with_len}
use Rattle.std.proofs.lemmas.Bool.{eq-eqb, ne_eqb}
use Rattle.std.proofs.lemmas.Bool.Decides.{eqb_tells}
use Rattle.sync_model.specs.declared.item.SharedCall.{SharedCall}
use Rattle.sync_model.specs.declared.item.SharedReply.{SharedReply}
use Rattle.sync_model.specs.declared.journal.Deed.TheVariants.{Event}
use Rattle.pool_core.specs.declared.pool_event.PoolEvent.{PoolEvent}
use Rattle.pool_core.specs.declared.pool_event.PoolEvent.TheVariants as pool_events
use Rattle.starts_core.specs.declared.starts.StartEvent.{StartEvent}
use Rattle.starts_core.specs.declared.starts.StartEvent.TheVariants as starts
use Rattle.starts_core.specs.declared.starts.StartReply.{StartReply}
use Rattle.starts_core.specs.declared.starts.StartReply.TheVariants as told
use Rattle.workload.specs.Plan.{Plan, has_dormant}
use Rattle.run_record.specs.declared.entered.ObjectEvent.{ObjectEvent}
use Rattle.run_record.specs.declared.entered.ObjectEvent.TheVariants as events
use Rattle.run_record.specs.declared.entered.ObjectReply.{ObjectReply}
use Rattle.run_record.specs.declared.made.Made.{Made}
use Rattle.run_record.specs.declared.made.Made.TheVariants.{Entered}
use Rattle.run_record.specs.Objects.{pool_number, first_part, starts_number}
use Rattle.run_record.specs.Record.{object_number, shared_in}
use Rattle.kept_record.specs.Acts.{deed_on, deeds_on}
use Rattle.kept_record.specs.Keeping.{Act, made_by}
use Rattle.step_runner.specs.declared.turns.item.Deed.{Deed}
use Rattle.step_runner.specs.declared.turns.item.Deed.TheVariants as deeds
use Rattle.step_runner.specs.declared.turns.item.Item.{Item}
use Rattle.step_runner.specs.Recorded.{made_shared, made_on, shared_calls, recorded_pool_event, recorded_event, recorded_deed, recorded_item}
use Rattle.step_runner.specs.Spelt.{made_on_starts}
use Rattle.scheduled_record.specs.RunActs.{acts_by, waits_still, going_acts, with_item, acts_of, ending_acts, leaving_acts, closing_acts, closed_acts}
use Rattle.scheduled_record.specs.ItemsOf.{NamesPart, HasPool, IsEventOn, IsDeedOn, IsItemOf, AreItemsOf}
use Rattle.scheduled_record.proofs.OnObjects.{Told}

-- an event of a pool is about a part: the one that it names, or its caller's own, and a sweep is about each
abbrev pub is_about : ℕ → ℕ → PoolEvent ℕ → Bool
is_about part caller (pool_events.Put item) = caller == part
is_about part caller pool_events.LookOwn = caller == part
is_about part caller (pool_events.LookOther other) = other == part
is_about part caller (pool_events.LookVictim other) = other == part
is_about part caller pool_events.Sweep = true

abbrev pub part_deed : ℕ → ℕ → Deed → List Told
part_deed part caller (deeds.Entered (events.Pool event) answer) = cond (is_about part caller event) ((caller, Event (events.Pool event) answer) ∷ []) []
part_deed part caller deed = []

abbrev pub part_told : ℕ → ℕ → Item → List Told
part_told place part item = cond (item.object == place) (part_deed part item.caller item.deed) []

module _ (plan : Plan) (place part : ℕ) (pool : HasPool plan place) (within : part < plan.workers)
    (apart : (one another p q : ℕ) → HasPool plan one → p < plan.workers → HasPool plan another → q < plan.workers → first_part plan one + p ≡ first_part plan another + q → (one ≡ another) × (p ≡ q))
    (below : (one p : ℕ) → HasPool plan one → p < plan.workers → first_part plan one + p < starts_number plan) where
  abbrev object : ℕ
  object = first_part plan place + part

  abbrev on : ℕ → List Made → List Told
  on caller made = deeds_on object (acts_by caller made)

  elsewhere : (caller other : ℕ) (event : ObjectEvent) (answer : ObjectReply) → (other ≡ object → ⊥) → on caller (made_on plan other caller event answer ∷ []) ≡ []
  elsewhere caller other event answer not = ap (λ (b : Bool). cond {A = List Told} b ((caller, Event event answer) ∷ []) [] ++ []) (ne_eqb other object not)

  object_apart : (other : ℕ) → other < length plan.objects → object_number other ≡ object → ⊥
  object_apart other there same = absurd (no (length plan.objects) (pool_number plan.objects place * plan.workers) other part there same) where
    no : (n parts place part : ℕ) → place < n → place + 1 ≡ n + 1 + parts + part → ⊥
    no n parts place part less same = absurd (omega arith)

  starts_apart : starts_number plan ≡ object → ⊥
  starts_apart same = absurd (no (starts_number plan) object (below place part pool within) same) where
    no : (a b : ℕ) → b < a → a ≡ b → ⊥
    no a b less same = absurd (omega arith)

  none_at : (b : Bool) → [] ≡ cond {A = List Told} b [] []
  none_at true = refl
  none_at false = refl

  -- an event on a part of a pool, by whether it is this one
  one_part : (caller other p : ℕ) (event : ObjectEvent) (answer : ObjectReply) → HasPool plan other → p < plan.workers
      → deed_on object caller (Entered (first_part plan other + p) (record { caller = caller; deed = Event event answer; front = []; knew = 0; time = 0 })) ≡ cond {A = List Told} (other == place) (cond {A = List Told} (p == part) ((caller, Event event answer) ∷ []) []) []
  one_part caller other p event answer there less = elim (eqb_tells other place) [
    | inl same ↦ by_part same.1 same.0
    | inr differ ↦ ap (λ (b : Bool). cond {A = List Told} b ((caller, Event event answer) ∷ []) []) (ne_eqb (first_part plan other + p) object (λ is. differ.1 (apart other place p part there less pool within is).0))
        ∙ ap (λ (b : Bool). cond {A = List Told} b (cond {A = List Told} (p == part) ((caller, Event event answer) ∷ []) []) []) (sym differ.0)
  ] where
    by_part : other ≡ place → (other == place) ≡ true → cond {A = List Told} (first_part plan other + p == object) ((caller, Event event answer) ∷ []) [] ≡ cond {A = List Told} (other == place) (cond {A = List Told} (p == part) ((caller, Event event answer) ∷ []) []) []
    by_part same is = elim (eqb_tells p part) [
      | inl here ↦ ap (λ (b : Bool). cond {A = List Told} b ((caller, Event event answer) ∷ []) []) (eq-eqb (first_part plan other + p) object (ap (λ (n : ℕ). first_part plan n + p) same ∙ ap (λ (n : ℕ). first_part plan place + n) here.1))
          ∙ (ap (λ (b : Bool). cond {A = List Told} b ((caller, Event event answer) ∷ []) []) (sym here.0) ∙ ap (λ (b : Bool). cond {A = List Told} b (cond {A = List Told} (p == part) ((caller, Event event answer) ∷ []) []) []) (sym is))
      | inr not ↦ ap (λ (b : Bool). cond {A = List Told} b ((caller, Event event answer) ∷ []) []) (ne_eqb (first_part plan other + p) object (λ same. not.1 (apart other place p part there less pool within same).1))
          ∙ (ap (λ (b : Bool). cond {A = List Told} b ((caller, Event event answer) ∷ []) []) (sym not.0) ∙ ap (λ (b : Bool). cond {A = List Told} b (cond {A = List Told} (p == part) ((caller, Event event answer) ∷ []) []) []) (sym is))
    ]

  -- a sweep of a pool is one of this part where it is this part's pool
  abbrev sweeps : ℕ → ℕ → ObjectReply → ℕ → ℕ → List Made
  sweeps caller other answer first count = map (λ p. made_on plan (first_part plan other + p) caller (events.Pool pool_events.Sweep) answer) (range_with_len first count)

  other_part : (caller other p : ℕ) (answer : ObjectReply) → HasPool plan other → p < plan.workers → p ≢ part → deed_on object caller (made_on plan (first_part plan other + p) caller (events.Pool pool_events.Sweep) answer) ≡ []
  other_part caller other p answer there less not = one_part caller other p (events.Pool pool_events.Sweep) answer there less
      ∙ (ap (λ (b : Bool). cond {A = List Told} (other == place) (cond {A = List Told} b ((caller, Event (events.Pool pool_events.Sweep) answer) ∷ []) []) []) (ne_eqb p part not) ∙ sym (none_at (other == place)))

  swept_none : (caller other : ℕ) (answer : ObjectReply) → HasPool plan other → (first count : ℕ) → part < first → first + count ≤ plan.workers → on caller (sweeps caller other answer first count) ≡ []
  swept_none caller other answer there first zero past most = refl
  swept_none caller other answer there first (suc count) past most =
      ap (λ (l : List Told). l ++ on caller (sweeps caller other answer (first + 1) count)) (other_part caller other first answer there (omega arith) (not_same first part past)) ∙ swept_none caller other answer there (first + 1) count (omega arith) (omega arith)
    where
      not_same : (a b : ℕ) → b < a → a ≢ b
      not_same a b less same = absurd (omega arith)

  swept_one : (caller other : ℕ) (answer : ObjectReply) → HasPool plan other → (first count : ℕ) → first ≤ part → part < first + count → first + count ≤ plan.workers
      → on caller (sweeps caller other answer first count) ≡ cond {A = List Told} (other == place) ((caller, Event (events.Pool pool_events.Sweep) answer) ∷ []) []
  swept_one caller other answer there first zero from to most = absurd (omega arith)
  swept_one caller other answer there first (suc count) from to most = elim (eqb_tells first part) [
    | inl same ↦ ap (λ (l : List Told). l ++ on caller (sweeps caller other answer (first + 1) count)) (one_part caller other first (events.Pool pool_events.Sweep) answer there (omega arith)
        ∙ ap (λ (b : Bool). cond {A = List Told} (other == place) (cond {A = List Told} b ((caller, Event (events.Pool pool_events.Sweep) answer) ∷ []) []) []) same.0)
        ∙ (ap (λ (l : List Told). cond {A = List Told} (other == place) ((caller, Event (events.Pool pool_events.Sweep) answer) ∷ []) [] ++ l) (swept_none caller other answer there (first + 1) count (let here : first ≡ part = same.1 in omega arith) (omega arith))
        ∙ append-nil (cond {A = List Told} (other == place) ((caller, Event (events.Pool pool_events.Sweep) answer) ∷ []) []))
    | inr not ↦ ap (λ (l : List Told). l ++ on caller (sweeps caller other answer (first + 1) count)) (other_part caller other first answer there (omega arith) not.1)
        ∙ swept_one caller other answer there (first + 1) count (let differ : first ≢ part = not.1 in omega arith) (omega arith) (omega arith)
  ]

  single : (caller other p : ℕ) (event : PoolEvent ℕ) (answer : ObjectReply) → HasPool plan other → p < plan.workers
      → on caller (made_on plan (first_part plan other + p) caller (events.Pool event) answer ∷ []) ≡ cond {A = List Told} (other == place) (cond {A = List Told} (p == part) ((caller, Event (events.Pool event) answer) ∷ []) []) []
  single caller other p event answer there less = append-nil _ ∙ one_part caller other p (events.Pool event) answer there less

  of_pool : (caller other : ℕ) (event : PoolEvent ℕ) (answer : ObjectReply) → caller < plan.workers → HasPool plan other → NamesPart plan.workers event
      → on caller (recorded_pool_event plan other caller event answer) ≡ cond {A = List Told} (other == place) (part_deed part caller (deeds.Entered (events.Pool event) answer)) []
  of_pool caller other (pool_events.Put item) answer is there names = single caller other caller (pool_events.Put item) answer there is
  of_pool caller other pool_events.LookOwn answer is there names = single caller other caller pool_events.LookOwn answer there is
  of_pool caller other (pool_events.LookOther p) answer is there names = single caller other p (pool_events.LookOther p) answer there names
  of_pool caller other (pool_events.LookVictim p) answer is there names = single caller other p (pool_events.LookVictim p) answer there names
  of_pool caller other pool_events.Sweep answer is there names = swept_one caller other answer there 0 plan.workers (omega arith) (omega arith) (omega arith)

  of_event : (caller other : ℕ) (event : ObjectEvent) (answer : ObjectReply) → caller < plan.workers → IsEventOn plan other event → on caller (recorded_event plan other caller event answer) ≡ cond {A = List Told} (other == place) (part_deed part caller (deeds.Entered event answer)) []
  of_event caller other (events.Pool event) answer is there = of_pool caller other event answer is there.0 there.1
  of_event caller other (events.Starts event) answer is there = elsewhere caller (starts_number plan) (events.Starts event) answer starts_apart ∙ none_at (other == place)
  of_event caller other (events.Mutex event) answer is there = elsewhere caller (object_number other) (events.Mutex event) answer (object_apart other there) ∙ none_at (other == place)
  of_event caller other (events.RwMutex event) answer is there = elsewhere caller (object_number other) (events.RwMutex event) answer (object_apart other there) ∙ none_at (other == place)
  of_event caller other (events.Cond event) answer is there = elsewhere caller (object_number other) (events.Cond event) answer (object_apart other there) ∙ none_at (other == place)
  of_event caller other (events.WaitGroup event) answer is there = elsewhere caller (object_number other) (events.WaitGroup event) answer (object_apart other there) ∙ none_at (other == place)
  of_event caller other (events.Once event) answer is there = elsewhere caller (object_number other) (events.Once event) answer (object_apart other there) ∙ none_at (other == place)
  of_event caller other (events.OnceFunc event) answer is there = elsewhere caller (object_number other) (events.OnceFunc event) answer (object_apart other there) ∙ none_at (other == place)
  of_event caller other (events.OnceValue event) answer is there = elsewhere caller (object_number other) (events.OnceValue event) answer (object_apart other there) ∙ none_at (other == place)
  of_event caller other (events.Sema event) answer is there = elsewhere caller (object_number other) (events.Sema event) answer (object_apart other there) ∙ none_at (other == place)
  of_event caller other (events.Flight event) answer is there = elsewhere caller (object_number other) (events.Flight event) answer (object_apart other there) ∙ none_at (other == place)

  of_calls : (caller : ℕ) (calls : List (SharedCall × SharedReply)) → on caller (map (made_shared plan) calls) ≡ []
  of_calls caller [] = refl
  of_calls caller (call ∷ calls) = of_calls caller calls

  of_deed : (before other caller : ℕ) (deed : Deed) → caller < plan.workers → IsDeedOn plan other deed → on caller (recorded_deed plan before other caller deed) ≡ cond {A = List Told} (other == place) (part_deed part caller deed) []
  of_deed before other caller (deeds.Placed operation reply) is there = of_calls caller (shared_calls plan before other operation reply) ∙ none_at (other == place)
  of_deed before other caller (deeds.Entered event answer) is there = of_event caller other event answer is there

  of_item : (before : ℕ) (item : Item) → IsItemOf plan item → on item.caller (recorded_item plan before item) ≡ part_told place part item
  of_item before item is = of_deed before item.object item.caller item.deed is.caller is.on

  -- ---- a run

  deeds-append : (number : ℕ) (acts more : List Act) → deeds_on number (acts ++ more) ≡ deeds_on number acts ++ deeds_on number more
  deeds-append number [] more = refl
  deeds-append number (act ∷ acts) more = ap (λ (l : List Told). deed_on number act.worker act.made ++ l) (deeds-append number acts more) ∙ sym (append_assoc (deed_on number act.worker act.made) (deeds_on number acts) (deeds_on number more))

  on_starts : (caller : ℕ) (event : StartEvent) (answer : StartReply) → on caller (made_on_starts plan caller event answer) ≡ []
  on_starts caller event answer = elsewhere caller (starts_number plan) (events.Starts event) _ starts_apart

  of_going : (acts : List Act) (caller : ℕ) → deeds_on object (going_acts plan acts caller) ≡ []
  of_going acts caller = chosen (waits_still plan acts caller) where
    chosen : (b : Bool) → on caller (cond b (made_on_starts plan caller starts.Leave told.Go) []) ≡ []
    chosen true = on_starts caller starts.Leave told.Go
    chosen false = refl

  of_workers : (makes : ℕ → List Made) (passes : ℕ → Bool) → ((w : ℕ) → on w (makes w) ≡ []) → (first count : ℕ) → deeds_on object (flat_map (λ w. acts_by w (makes w)) (filter passes (range_with_len first count))) ≡ []
  of_workers makes passes none first zero = refl
  of_workers makes passes none first (suc count) = chosen (passes first) (of_workers makes passes none (first + 1) count) where
    chosen : (b : Bool) → deeds_on object (flat_map (λ w. acts_by w (makes w)) (filter passes (range_with_len (first + 1) count))) ≡ [] → deeds_on object (flat_map (λ w. acts_by w (makes w)) (cond b (first ∷ filter passes (range_with_len (first + 1) count)) (filter passes (range_with_len (first + 1) count)))) ≡ []
    chosen true rest = deeds-append object (acts_by first (makes first)) (flat_map (λ w. acts_by w (makes w)) (filter passes (range_with_len (first + 1) count))) ∙ (ap (λ (l : List Told). l ++ deeds_on object (flat_map (λ w. acts_by w (makes w)) (filter passes (range_with_len (first + 1) count)))) (none first) ∙ rest)
    chosen false rest = rest

  of_closing : (acts : List Act) → deeds_on object (closing_acts plan acts) ≡ []
  of_closing acts = chosen (has_dormant plan) where
    chosen : (b : Bool) → deeds_on object (cond b (ending_acts plan acts ++ leaving_acts plan acts) []) ≡ []
    chosen true = deeds-append object (ending_acts plan acts) (leaving_acts plan acts)
        ∙ (ap (λ (l : List Told). l ++ deeds_on object (leaving_acts plan acts)) (of_workers (λ w. made_on_starts plan w starts.End told.Done) (λ w. not (waits_still plan acts w)) (λ w. on_starts w starts.End told.Done) 0 plan.workers)
        ∙ of_workers (λ w. made_on_starts plan w starts.Leave told.Never) (waits_still plan acts) (λ w. on_starts w starts.Leave told.Never) 0 plan.workers)
    chosen false = refl

  of_one : (acts : List Act) (item : Item) → IsItemOf plan item → deeds_on object (with_item plan acts item) ≡ deeds_on object acts ++ part_told place part item
  of_one acts item is =
      let made : List Made = recorded_item plan (length (shared_in (made_by item.caller acts))) item in
      deeds-append object acts (going_acts plan acts item.caller ++ acts_by item.caller made)
      ∙ ap (λ (l : List Told). deeds_on object acts ++ l) (deeds-append object (going_acts plan acts item.caller) (acts_by item.caller made)
      ∙ (ap (λ (l : List Told). l ++ deeds_on object (acts_by item.caller made)) (of_going acts item.caller) ∙ of_item (length (shared_in (made_by item.caller acts))) item is))

  of_items : (acts : List Act) (items : List Item) → AreItemsOf plan items → deeds_on object (fold (with_item plan) acts items) ≡ deeds_on object acts ++ flat_map (part_told place part) items
  of_items acts [] all = sym (append-nil (deeds_on object acts))
  of_items acts (item ∷ items) all = of_items (with_item plan acts item) items all.1 ∙ (ap (λ (l : List Told). l ++ flat_map (part_told place part) items) (of_one acts item all.0) ∙ append_assoc (deeds_on object acts) (part_told place part item) (flat_map (part_told place part) items))

  pub of_part : (items : List Item) → AreItemsOf plan items → deeds_on (first_part plan place + part) (closed_acts plan (acts_of plan items)) ≡ flat_map (part_told place part) items
  of_part items all = deeds-append object (acts_of plan items) (closing_acts plan (acts_of plan items)) ∙ (ap (λ (l : List Told). deeds_on object (acts_of plan items) ++ l) (of_closing (acts_of plan items)) ∙ (append-nil (deeds_on object (acts_of plan items)) ∙ of_items [] items all))
