-- What a run does on an object, as the acts of its record say it.
use Rattle.std.proofs.Common.{◌≡◌, ℕ, zero, suc, ◌+◌, ◌*◌, ◌<◌, ◌==◌, not, Bool, true, false, cond, List, [], ◌∷◌, ◌++◌, map, filter, flat_map, fold, length, count_by, inl, inr, refl, sym, ap, ◌∙◌, append-nil, append_assoc, arith}
use Rattle.std.specs.List.{range_with_len}
use Rattle.std.proofs.lemmas.Bool.{eq-eqb, ne_eqb}
use Rattle.std.proofs.lemmas.Bool.Decides.{eqb_tells}
use Rattle.sync_model.specs.declared.item.SharedCall.{SharedCall}
use Rattle.sync_model.specs.declared.item.SharedReply.{SharedReply}
use Rattle.sync_model.specs.declared.journal.Deed.{Deed as Done}
use Rattle.sync_model.specs.declared.journal.Deed.TheVariants.{Event}
use Rattle.pool_core.specs.declared.pool_event.PoolEvent.{PoolEvent}
use Rattle.pool_core.specs.declared.pool_event.PoolEvent.TheVariants as pool_events
use Rattle.starts_core.specs.declared.starts.StartEvent.{StartEvent}
use Rattle.starts_core.specs.declared.starts.StartEvent.TheVariants as starts
use Rattle.starts_core.specs.declared.starts.StartReply.{StartReply}
use Rattle.starts_core.specs.declared.starts.StartReply.TheVariants as told
use Rattle.workload.specs.Plan.{Plan, has_dormant}
use Rattle.run_record.specs.declared.entered.ObjectEvent.{ObjectEvent}
use Rattle.run_record.specs.declared.entered.ObjectEvent.TheVariants as events
use Rattle.run_record.specs.declared.entered.ObjectReply.{ObjectReply}
use Rattle.run_record.specs.declared.made.Made.{Made}
use Rattle.run_record.specs.Objects.{is_pool, pool_number, first_part, starts_number}
use Rattle.run_record.specs.Record.{object_number, shared_in}
use Rattle.kept_record.specs.Acts.{deed_on, deeds_on}
use Rattle.kept_record.specs.Keeping.{Act, made_by}
use Rattle.step_runner.specs.declared.turns.item.Deed.{Deed}
use Rattle.step_runner.specs.declared.turns.item.Deed.TheVariants as deeds
use Rattle.step_runner.specs.declared.turns.item.Item.{Item}
use Rattle.step_runner.specs.Recorded.{made_shared, made_on, shared_calls, recorded_pool_event, recorded_event, recorded_deed, recorded_item}
use Rattle.step_runner.specs.Spelt.{made_on_starts}
use Rattle.scheduled_record.specs.RunActs.{acts_by, waits_still, going_acts, with_item, acts_of, ending_acts, leaving_acts, closing_acts, closed_acts}

abbrev pub Told : Type 0
Told = ℕ × Done ObjectEvent ObjectReply

-- what an item does on its own object, where that is neither a pool nor Starts
abbrev pub told_deed : ℕ → Deed → List Told
told_deed caller (deeds.Placed operation reply) = []
told_deed caller (deeds.Entered (events.Pool event) answer) = []
told_deed caller (deeds.Entered (events.Starts event) answer) = []
told_deed caller (deeds.Entered event answer) = (caller, Event event answer) ∷ []

abbrev pub told_at : ℕ → Item → List Told
told_at place item = cond (item.object == place) (told_deed item.caller item.deed) []

module _ (plan : Plan) (place : ℕ) (there : place < length plan.objects) where
  abbrev object : ℕ
  object = object_number place

  abbrev on : ℕ → List Made → List Told
  on caller made = deeds_on object (acts_by caller made)

  -- nothing is done on it by an entry of another object
  elsewhere : (caller other : ℕ) (event : ObjectEvent) (answer : ObjectReply) → (other ≡ object → ⊥) → on caller (made_on plan other caller event answer ∷ []) ≡ []
  elsewhere caller other event answer apart = ap (λ (b : Bool). cond {A = List Told} b ((caller, Event event answer) ∷ []) [] ++ []) (ne_eqb other object apart)

  part_apart : (pool part : ℕ) → first_part plan pool + part ≡ object → ⊥
  part_apart pool part same = absurd (no (length plan.objects) (pool_number plan.objects pool * plan.workers) place part there same) where
    no : (n parts place part : ℕ) → place < n → n + 1 + parts + part ≡ place + 1 → ⊥
    no n parts place part less same = absurd (omega arith)

  starts_apart : starts_number plan ≡ object → ⊥
  starts_apart same = absurd (no (length plan.objects) (count_by (λ object. is_pool object.kind) plan.objects * plan.workers) place there same) where
    no : (n parts place : ℕ) → place < n → n + 1 + parts ≡ place + 1 → ⊥
    no n parts place less same = absurd (omega arith)

  -- an entry of the object at a place, by whether that is this one
  here_or_not : (caller other : ℕ) (event : ObjectEvent) (answer : ObjectReply) → on caller (made_on plan (object_number other) caller event answer ∷ []) ≡ cond {A = List Told} (other == place) ((caller, Event event answer) ∷ []) []
  here_or_not caller other event answer = elim (eqb_tells other place) [
    | inl same ↦ append-nil (cond {A = List Told} (object_number other == object) ((caller, Event event answer) ∷ []) []) ∙ (ap (λ (b : Bool). cond {A = List Told} b ((caller, Event event answer) ∷ []) []) (eq-eqb (object_number other) object (ap object_number same.1) ∙ sym same.0))
    | inr apart ↦ append-nil (cond {A = List Told} (object_number other == object) ((caller, Event event answer) ∷ []) []) ∙ (ap (λ (b : Bool). cond {A = List Told} b ((caller, Event event answer) ∷ []) []) (ne_eqb (object_number other) object (λ same. apart.1 (back other place same)) ∙ sym apart.0))
  ] where
    back : (a b : ℕ) → a + 1 ≡ b + 1 → a ≡ b
    back a b same = omega arith

  swept : (caller pool : ℕ) (answer : ObjectReply) (first count : ℕ) → on caller (map (λ part. made_on plan (first_part plan pool + part) caller (events.Pool pool_events.Sweep) answer) (range_with_len first count)) ≡ []
  swept caller pool answer first zero = refl
  swept caller pool answer first (suc count) =
      ap (λ (b : Bool). cond {A = List Told} b ((caller, Event (events.Pool pool_events.Sweep) answer) ∷ []) [] ++ on caller (map (λ part. made_on plan (first_part plan pool + part) caller (events.Pool pool_events.Sweep) answer) (range_with_len (first + 1) count)))
      (ne_eqb (first_part plan pool + first) object (part_apart pool first)) ∙ swept caller pool answer (first + 1) count

  of_pool : (caller pool : ℕ) (event : PoolEvent ℕ) (answer : ObjectReply) → on caller (recorded_pool_event plan pool caller event answer) ≡ []
  of_pool caller pool (pool_events.Put item) answer = elsewhere caller _ (events.Pool (pool_events.Put item)) answer (part_apart pool _)
  of_pool caller pool pool_events.LookOwn answer = elsewhere caller _ (events.Pool pool_events.LookOwn) answer (part_apart pool _)
  of_pool caller pool (pool_events.LookOther part) answer = elsewhere caller _ (events.Pool (pool_events.LookOther part)) answer (part_apart pool _)
  of_pool caller pool (pool_events.LookVictim part) answer = elsewhere caller _ (events.Pool (pool_events.LookVictim part)) answer (part_apart pool _)
  of_pool caller pool pool_events.Sweep answer = swept caller pool answer 0 plan.workers

  none_at : (b : Bool) → [] ≡ cond {A = List Told} b [] []
  none_at true = refl
  none_at false = refl

  of_event : (caller other : ℕ) (event : ObjectEvent) (answer : ObjectReply) → on caller (recorded_event plan other caller event answer) ≡ cond (other == place) (told_deed caller (deeds.Entered event answer)) []
  of_event caller other (events.Pool event) answer = of_pool caller other event answer ∙ none_at (other == place)
  of_event caller other (events.Starts event) answer = elsewhere caller (starts_number plan) (events.Starts event) answer starts_apart ∙ none_at (other == place)
  of_event caller other (events.Mutex event) answer = here_or_not caller other (events.Mutex event) answer
  of_event caller other (events.RwMutex event) answer = here_or_not caller other (events.RwMutex event) answer
  of_event caller other (events.Cond event) answer = here_or_not caller other (events.Cond event) answer
  of_event caller other (events.WaitGroup event) answer = here_or_not caller other (events.WaitGroup event) answer
  of_event caller other (events.Once event) answer = here_or_not caller other (events.Once event) answer
  of_event caller other (events.OnceFunc event) answer = here_or_not caller other (events.OnceFunc event) answer
  of_event caller other (events.OnceValue event) answer = here_or_not caller other (events.OnceValue event) answer
  of_event caller other (events.Sema event) answer = here_or_not caller other (events.Sema event) answer
  of_event caller other (events.Flight event) answer = here_or_not caller other (events.Flight event) answer

  of_calls : (caller : ℕ) (calls : List (SharedCall × SharedReply)) → on caller (map (made_shared plan) calls) ≡ []
  of_calls caller [] = refl
  of_calls caller (call ∷ calls) = of_calls caller calls

  of_deed : (before other caller : ℕ) (deed : Deed) → on caller (recorded_deed plan before other caller deed) ≡ cond (other == place) (told_deed caller deed) []
  of_deed before other caller (deeds.Placed operation reply) = of_calls caller (shared_calls plan before other operation reply) ∙ none_at (other == place)
  of_deed before other caller (deeds.Entered event answer) = of_event caller other event answer

  of_item : (before : ℕ) (item : Item) → on item.caller (recorded_item plan before item) ≡ told_at place item
  of_item before item = of_deed before item.object item.caller item.deed

  -- ---- a run

  pub deeds-append : (number : ℕ) (acts more : List Act) → deeds_on number (acts ++ more) ≡ deeds_on number acts ++ deeds_on number more
  deeds-append number [] more = refl
  deeds-append number (act ∷ acts) more = ap (λ (l : List Told). deed_on number act.worker act.made ++ l) (deeds-append number acts more) ∙ sym (append_assoc (deed_on number act.worker act.made) (deeds_on number acts) (deeds_on number more))

  on_starts : (caller : ℕ) (event : StartEvent) (answer : StartReply) → on caller (made_on_starts plan caller event answer) ≡ []
  on_starts caller event answer = elsewhere caller (starts_number plan) (events.Starts event) _ starts_apart

  of_going : (acts : List Act) (caller : ℕ) → deeds_on object (going_acts plan acts caller) ≡ []
  of_going acts caller = chosen (waits_still plan acts caller) where
    chosen : (b : Bool) → on caller (cond b (made_on_starts plan caller starts.Leave told.Go) []) ≡ []
    chosen true = on_starts caller starts.Leave told.Go
    chosen false = refl

  of_workers : (makes : ℕ → List Made) (passes : ℕ → Bool) → ((w : ℕ) → on w (makes w) ≡ []) → (first count : ℕ) → deeds_on object (flat_map (λ w. acts_by w (makes w)) (filter passes (range_with_len first count))) ≡ []
  of_workers makes passes none first zero = refl
  of_workers makes passes none first (suc count) = chosen (passes first) (of_workers makes passes none (first + 1) count) where
    chosen : (b : Bool) → deeds_on object (flat_map (λ w. acts_by w (makes w)) (filter passes (range_with_len (first + 1) count))) ≡ [] → deeds_on object (flat_map (λ w. acts_by w (makes w)) (cond b (first ∷ filter passes (range_with_len (first + 1) count)) (filter passes (range_with_len (first + 1) count)))) ≡ []
    chosen true rest = deeds-append object (acts_by first (makes first)) (flat_map (λ w. acts_by w (makes w)) (filter passes (range_with_len (first + 1) count))) ∙ (ap (λ (l : List Told). l ++ deeds_on object (flat_map (λ w. acts_by w (makes w)) (filter passes (range_with_len (first + 1) count)))) (none first) ∙ rest)
    chosen false rest = rest

  of_closing : (acts : List Act) → deeds_on object (closing_acts plan acts) ≡ []
  of_closing acts = chosen (has_dormant plan) where
    chosen : (b : Bool) → deeds_on object (cond b (ending_acts plan acts ++ leaving_acts plan acts) []) ≡ []
    chosen true = deeds-append object (ending_acts plan acts) (leaving_acts plan acts)
        ∙ (ap (λ (l : List Told). l ++ deeds_on object (leaving_acts plan acts)) (of_workers (λ w. made_on_starts plan w starts.End told.Done) (λ w. not (waits_still plan acts w)) (λ w. on_starts w starts.End told.Done) 0 plan.workers)
        ∙ of_workers (λ w. made_on_starts plan w starts.Leave told.Never) (waits_still plan acts) (λ w. on_starts w starts.Leave told.Never) 0 plan.workers)
    chosen false = refl

  of_one : (acts : List Act) (item : Item) → deeds_on object (with_item plan acts item) ≡ deeds_on object acts ++ told_at place item
  of_one acts item =
      let made : List Made = recorded_item plan (length (shared_in (made_by item.caller acts))) item in
      deeds-append object acts (going_acts plan acts item.caller ++ acts_by item.caller made)
      ∙ ap (λ (l : List Told). deeds_on object acts ++ l) (deeds-append object (going_acts plan acts item.caller) (acts_by item.caller made)
      ∙ (ap (λ (l : List Told). l ++ deeds_on object (acts_by item.caller made)) (of_going acts item.caller) ∙ of_item (length (shared_in (made_by item.caller acts))) item))

  of_items : (acts : List Act) (items : List Item) → deeds_on object (fold (with_item plan) acts items) ≡ deeds_on object acts ++ flat_map (told_at place) items
  of_items acts [] = sym (append-nil (deeds_on object acts))
  of_items acts (item ∷ items) = of_items (with_item plan acts item) items ∙ (ap (λ (l : List Told). l ++ flat_map (told_at place) items) (of_one acts item) ∙ append_assoc (deeds_on object acts) (told_at place item) (flat_map (told_at place) items))

  pub of_run : (items : List Item) → deeds_on (object_number place) (closed_acts plan (acts_of plan items)) ≡ flat_map (told_at place) items
  of_run items = deeds-append object (acts_of plan items) (closing_acts plan (acts_of plan items)) ∙ (ap (λ (l : List Told). deeds_on object (acts_of plan items) ++ l) (of_closing (acts_of plan items)) ∙ (append-nil (deeds_on object (acts_of plan items)) ∙ of_items [] items))
