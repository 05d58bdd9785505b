-- What a run does on Starts, as the acts of its record say it: whoever goes before its first item, the starts, the ends, and whoever was never started.
use Rattle.std.proofs.Common.{◌≡◌, ℕ, zero, suc, ◌+◌, ◌*◌, ◌<◌, ◌≤◌, not, Bool, true, false, cond, List, [], ◌∷◌, ◌++◌, map, filter, flat_map, length, count_by, refl, sym, ap, ◌∙◌, append_assoc, arith}
use Rattle.std.specs.List.{range_with_len}
use Rattle.std.proofs.lemmas.Bool.{eq-eqb, ne_eqb}
use Rattle.sync_model.specs.declared.item.SharedCall.{SharedCall}
use Rattle.sync_model.specs.declared.item.SharedReply.{SharedReply}
use Rattle.sync_model.specs.declared.journal.Deed.TheVariants.{Event}
use Rattle.pool_core.specs.declared.pool_event.PoolEvent.{PoolEvent}
use Rattle.pool_core.specs.declared.pool_event.PoolEvent.TheVariants as pool_events
use Rattle.starts_core.specs.declared.starts.StartEvent.{StartEvent}
use Rattle.starts_core.specs.declared.starts.StartEvent.TheVariants as starts
use Rattle.starts_core.specs.declared.starts.StartReply.{StartReply}
use Rattle.starts_core.specs.declared.starts.StartReply.TheVariants as replied
use Rattle.workload.specs.Plan.{Plan}
use Rattle.run_record.specs.declared.entered.ObjectEvent.{ObjectEvent}
use Rattle.run_record.specs.declared.entered.ObjectEvent.TheVariants as events
use Rattle.run_record.specs.declared.entered.ObjectReply.{ObjectReply}
use Rattle.run_record.specs.declared.entered.ObjectReply.TheVariants as answered
use Rattle.run_record.specs.declared.made.Made.{Made}
use Rattle.run_record.specs.Objects.{is_pool, first_part, starts_number}
use Rattle.run_record.specs.Record.{object_number, shared_in}
use Rattle.kept_record.specs.Acts.{deed_on, deeds_on}
use Rattle.kept_record.specs.Keeping.{Act, made_by}
use Rattle.step_runner.specs.declared.turns.item.Deed.{Deed}
use Rattle.step_runner.specs.declared.turns.item.Deed.TheVariants as deeds
use Rattle.step_runner.specs.declared.turns.item.Item.{Item}
use Rattle.step_runner.specs.Recorded.{made_shared, made_on, shared_calls, recorded_pool_event, recorded_event, recorded_deed, recorded_item}
use Rattle.step_runner.specs.Spelt.{made_on_starts}
use Rattle.scheduled_record.specs.RunActs.{acts_by, waits_still, going_acts, with_item, ending_acts, leaving_acts}
use Rattle.scheduled_record.specs.ItemsOf.{HasPool, NamesPart, IsEventOn, IsDeedOn, IsItemOf}
use Rattle.scheduled_record.proofs.OnObjects.{Told}

-- what a worker is told on Starts
abbrev pub starts_told : ℕ → StartEvent → StartReply → Told
starts_told worker event reply = (worker, Event (events.Starts event) (answered.Starts reply))

-- what an item does on Starts
abbrev pub told_starts : ℕ → Deed → List Told
told_starts caller (deeds.Entered (events.Starts event) answer) = (caller, Event (events.Starts event) answer) ∷ []
told_starts caller deed = []

-- whoever goes before its first item
abbrev pub told_going : Bool → ℕ → List Told
told_going waits worker = cond waits (starts_told worker starts.Leave replied.Go ∷ []) []

pub deeds-joined : (number : ℕ) (acts more : List Act) → deeds_on number (acts ++ more) ≡ deeds_on number acts ++ deeds_on number more
deeds-joined number [] more = refl
deeds-joined number (act ∷ acts) more = ap (λ (l : List Told). deed_on number act.worker act.made ++ l) (deeds-joined number acts more) ∙ sym (append_assoc (deed_on number act.worker act.made) (deeds_on number acts) (deeds_on number more))

module _ (plan : Plan) (parts : (place part : ℕ) → HasPool plan place → part < plan.workers → first_part plan place + part < starts_number plan) where
  abbrev number : ℕ
  number = starts_number plan

  abbrev on : ℕ → List Made → List Told
  on caller made = deeds_on number (acts_by caller made)

  -- nothing is done on it by an entry of another object
  elsewhere : (caller other : ℕ) (event : ObjectEvent) (answer : ObjectReply) → other < number → on caller (made_on plan other caller event answer ∷ []) ≡ []
  elsewhere caller other event answer less = ap (λ (b : Bool). cond {A = List Told} b ((caller, Event event answer) ∷ []) [] ++ []) (ne_eqb other number (λ same. absurd (apart other number less same))) where
    apart : (a b : ℕ) → a < b → a ≡ b → ⊥
    apart a b less same = absurd (omega arith)

  here : (caller : ℕ) (event : ObjectEvent) (answer : ObjectReply) → on caller (made_on plan number caller event answer ∷ []) ≡ (caller, Event event answer) ∷ []
  here caller event answer = ap (λ (b : Bool). cond {A = List Told} b ((caller, Event event answer) ∷ []) [] ++ []) (eq-eqb number number refl)

  of_place : (caller place : ℕ) (event : ObjectEvent) (answer : ObjectReply) → place < length plan.objects → on caller (made_on plan (object_number place) caller event answer ∷ []) ≡ []
  of_place caller place event answer within = elsewhere caller (object_number place) event answer (below (length plan.objects) (count_by (λ object. is_pool object.kind) plan.objects * plan.workers) within) where
    below : (n more : ℕ) → place < n → place + 1 < n + 1 + more
    below n more less = omega arith

  swept : (caller pool : ℕ) (answer : ObjectReply) → HasPool plan pool → (first count : ℕ) → first + count ≤ plan.workers → on caller (map (λ part. made_on plan (first_part plan pool + part) caller (events.Pool pool_events.Sweep) answer) (range_with_len first count)) ≡ []
  swept caller pool answer there first zero most = refl
  swept caller pool answer there first (suc count) most =
      ap (λ (b : Bool). cond {A = List Told} b ((caller, Event (events.Pool pool_events.Sweep) answer) ∷ []) [] ++ on caller (map (λ part. made_on plan (first_part plan pool + part) caller (events.Pool pool_events.Sweep) answer) (range_with_len (first + 1) count)))
      (ne_eqb (first_part plan pool + first) number (λ same. absurd (apart (first_part plan pool + first) number (parts pool first there (omega arith)) same))) ∙ swept caller pool answer there (first + 1) count (omega arith)
    where
      apart : (a b : ℕ) → a < b → a ≡ b → ⊥
      apart a b less same = absurd (omega arith)

  of_pool : (caller pool : ℕ) (event : PoolEvent ℕ) (answer : ObjectReply) → caller < plan.workers → HasPool plan pool → NamesPart plan.workers event → on caller (recorded_pool_event plan pool caller event answer) ≡ []
  of_pool caller pool (pool_events.Put item) answer within there names = elsewhere caller _ (events.Pool (pool_events.Put item)) answer (parts pool caller there within)
  of_pool caller pool pool_events.LookOwn answer within there names = elsewhere caller _ (events.Pool pool_events.LookOwn) answer (parts pool caller there within)
  of_pool caller pool (pool_events.LookOther part) answer within there names = elsewhere caller _ (events.Pool (pool_events.LookOther part)) answer (parts pool part there names)
  of_pool caller pool (pool_events.LookVictim part) answer within there names = elsewhere caller _ (events.Pool (pool_events.LookVictim part)) answer (parts pool part there names)
  of_pool caller pool pool_events.Sweep answer within there names = swept caller pool answer there 0 plan.workers (omega arith)

  of_event : (caller other : ℕ) (event : ObjectEvent) (answer : ObjectReply) → caller < plan.workers → IsEventOn plan other event → on caller (recorded_event plan other caller event answer) ≡ told_starts caller (deeds.Entered event answer)
  of_event caller other (events.Pool event) answer within at = of_pool caller other event answer within at.0 at.1
  of_event caller other (events.Starts event) answer within at = here caller (events.Starts event) answer
  of_event caller other (events.Mutex event) answer within at = of_place caller other (events.Mutex event) answer at
  of_event caller other (events.RwMutex event) answer within at = of_place caller other (events.RwMutex event) answer at
  of_event caller other (events.Cond event) answer within at = of_place caller other (events.Cond event) answer at
  of_event caller other (events.WaitGroup event) answer within at = of_place caller other (events.WaitGroup event) answer at
  of_event caller other (events.Once event) answer within at = of_place caller other (events.Once event) answer at
  of_event caller other (events.OnceFunc event) answer within at = of_place caller other (events.OnceFunc event) answer at
  of_event caller other (events.OnceValue event) answer within at = of_place caller other (events.OnceValue event) answer at
  of_event caller other (events.Sema event) answer within at = of_place caller other (events.Sema event) answer at
  of_event caller other (events.Flight event) answer within at = of_place caller other (events.Flight event) answer at

  of_calls : (caller : ℕ) (calls : List (SharedCall × SharedReply)) → on caller (map (made_shared plan) calls) ≡ []
  of_calls caller [] = refl
  of_calls caller (call ∷ calls) = of_calls caller calls

  of_deed : (before other caller : ℕ) (deed : Deed) → caller < plan.workers → IsDeedOn plan other deed → on caller (recorded_deed plan before other caller deed) ≡ told_starts caller deed
  of_deed before other caller (deeds.Placed operation reply) within at = of_calls caller (shared_calls plan before other operation reply)
  of_deed before other caller (deeds.Entered event answer) within at = of_event caller other event answer within at

  of_going : (acts : List Act) (caller : ℕ) → deeds_on number (going_acts plan acts caller) ≡ told_going (waits_still plan acts caller) caller
  of_going acts caller = chosen (waits_still plan acts caller) where
    chosen : (b : Bool) → on caller (cond b (made_on_starts plan caller starts.Leave replied.Go) []) ≡ told_going b caller
    chosen true = here caller (events.Starts starts.Leave) (answered.Starts replied.Go)
    chosen false = refl

  -- one item more
  pub of_one : (acts : List Act) (item : Item) → IsItemOf plan item → deeds_on number (with_item plan acts item) ≡ deeds_on number acts ++ (told_going (waits_still plan acts item.caller) item.caller ++ told_starts item.caller item.deed)
  of_one acts item is =
      let before : ℕ = length (shared_in (made_by item.caller acts)) in
      let made : List Made = recorded_item plan before item in
      deeds-joined number acts (going_acts plan acts item.caller ++ acts_by item.caller made)
      ∙ ap (λ (l : List Told). deeds_on number acts ++ l) (deeds-joined number (going_acts plan acts item.caller) (acts_by item.caller made)
      ∙ (ap (λ (l : List Told). l ++ deeds_on number (acts_by item.caller made)) (of_going acts item.caller)
      ∙ ap (λ (l : List Told). told_going (waits_still plan acts item.caller) item.caller ++ l) (of_deed before item.object item.caller item.deed is.caller is.on)))

  -- what some workers are told
  of_workers : (event : StartEvent) (reply : StartReply) (passes : ℕ → Bool) (first count : ℕ)
      → deeds_on number (flat_map (λ w. acts_by w (made_on_starts plan w event reply)) (filter passes (range_with_len first count))) ≡ map (λ (w : ℕ). starts_told w event reply) (filter passes (range_with_len first count))
  of_workers event reply passes first zero = refl
  of_workers event reply passes first (suc count) = chosen (passes first) (of_workers event reply passes (first + 1) count) where
    rest : List ℕ
    rest = filter passes (range_with_len (first + 1) count)

    chosen : (b : Bool) → deeds_on number (flat_map (λ w. acts_by w (made_on_starts plan w event reply)) rest) ≡ map (λ (w : ℕ). starts_told w event reply) rest
        → deeds_on number (flat_map (λ w. acts_by w (made_on_starts plan w event reply)) (cond b (first ∷ rest) rest)) ≡ map (λ (w : ℕ). starts_told w event reply) (cond b (first ∷ rest) rest)
    chosen true later = deeds-joined number (acts_by first (made_on_starts plan first event reply)) (flat_map (λ w. acts_by w (made_on_starts plan w event reply)) rest)
        ∙ (ap (λ (l : List Told). l ++ deeds_on number (flat_map (λ w. acts_by w (made_on_starts plan w event reply)) rest)) (here first (events.Starts event) (answered.Starts reply)) ∙ ap (λ (l : List Told). starts_told first event reply ∷ l) later)
    chosen false later = later

  pub of_ending : (acts : List Act) → deeds_on number (ending_acts plan acts) ≡ map (λ (w : ℕ). starts_told w starts.End replied.Done) (filter (λ w. not (waits_still plan acts w)) (range_with_len 0 plan.workers))
  of_ending acts = of_workers starts.End replied.Done (λ w. not (waits_still plan acts w)) 0 plan.workers

  pub of_leaving : (acts : List Act) → deeds_on number (leaving_acts plan acts) ≡ map (λ (w : ℕ). starts_told w starts.Leave replied.Never) (filter (waits_still plan acts) (range_with_len 0 plan.workers))
  of_leaving acts = of_workers starts.Leave replied.Never (waits_still plan acts) 0 plan.workers
