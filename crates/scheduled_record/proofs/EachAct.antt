-- What is so of each act of a run by schedule: it is a call on a map or an atomic, or an event on an object behind Stop.
use Rattle.std.proofs.Common.{ℕ, zero, suc, ◌+◌, ◌<◌, not, Bool, true, false, cond, List, [], ◌∷◌, ◌++◌, map, filter, flat_map, fold, length, arith}
use Rattle.std.specs.List.{AllByRecursion, range_with_len}
use Rattle.sync_model.specs.declared.item.Item.{Item as SharedItem}
use Rattle.sync_model.specs.declared.item.SharedCall.{SharedCall}
use Rattle.sync_model.specs.declared.item.SharedReply.{SharedReply}
use Rattle.pool_core.specs.declared.pool_event.PoolEvent.{PoolEvent}
use Rattle.pool_core.specs.declared.pool_event.PoolEvent.TheVariants as pool_events
use Rattle.starts_core.specs.declared.starts.StartEvent.TheVariants as starts
use Rattle.starts_core.specs.declared.starts.StartReply.TheVariants as told
use Rattle.workload.specs.Plan.{Plan, has_dormant}
use Rattle.run_record.specs.declared.entered.ObjectEvent.{ObjectEvent}
use Rattle.run_record.specs.declared.entered.ObjectEvent.TheVariants as events
use Rattle.run_record.specs.declared.entered.ObjectReply.{ObjectReply}
use Rattle.run_record.specs.declared.entered.ObjectReply.TheVariants as answers
use Rattle.run_record.specs.declared.made.Made.{Made}
use Rattle.run_record.specs.declared.made.Made.TheVariants.{Shared}
use Rattle.run_record.specs.Objects.{first_part, starts_number}
use Rattle.run_record.specs.Record.{object_number, shared_in}
use Rattle.kept_record.specs.Keeping.{Act, made_by}
use Rattle.step_runner.specs.declared.turns.item.Deed.{Deed}
use Rattle.step_runner.specs.declared.turns.item.Deed.TheVariants as deeds
use Rattle.step_runner.specs.declared.turns.item.Item.{Item}
use Rattle.step_runner.specs.Recorded.{made_shared, made_on, shared_calls, recorded_pool_event, recorded_event, recorded_deed, recorded_item}
use Rattle.step_runner.specs.Spelt.{made_on_starts}
use Rattle.scheduled_record.specs.RunActs.{acts_by, waits_still, going_acts, with_item, acts_of, ending_acts, leaving_acts, closing_acts, closed_acts}

-- it is so of each call, and of each event on an object behind Stop
pub record IsSuch (plan : Plan) (P : Made → Type 0) : Type 0 where
  pub call : (x : SharedItem) → P (Shared x)
  pub event : (object caller : ℕ) (event : ObjectEvent) (answer : ObjectReply) → 0 < object → P (made_on plan object caller event answer)

module _ (plan : Plan) (P : Made → Type 0) (such : IsSuch plan P) where
  abbrev AreSuch : List Act → Type 0
  AreSuch acts = AllByRecursion (λ act. P act.made) acts

  abbrev MadeSuch : List Made → Type 0
  MadeSuch made = AllByRecursion P made

  joined : (acts more : List Act) → AreSuch acts → AreSuch more → AreSuch (acts ++ more)
  joined [] more first second = second
  joined (act ∷ acts) more first second = (first.0, joined acts more first.1 second)

  by_one : (worker : ℕ) (made : List Made) → MadeSuch made → AreSuch (acts_by worker made)
  by_one worker [] all = tt
  by_one worker (one ∷ made) all = (all.0, by_one worker made all.1)

  part_such : (place part caller : ℕ) (event : ObjectEvent) (answer : ObjectReply) → P (made_on plan (first_part plan place + part) caller event answer)
  part_such place part caller event answer = such.event (first_part plan place + part) caller event answer (omega arith)

  starts_such : (caller : ℕ) (event : ObjectEvent) (answer : ObjectReply) → P (made_on plan (starts_number plan) caller event answer)
  starts_such caller event answer = such.event (starts_number plan) caller event answer (omega arith)

  swept : (place caller : ℕ) (answer : ObjectReply) (first count : ℕ) → MadeSuch (map (λ part. made_on plan (first_part plan place + part) caller (events.Pool pool_events.Sweep) answer) (range_with_len first count))
  swept place caller answer first zero = tt
  swept place caller answer first (suc count) = (part_such place first caller (events.Pool pool_events.Sweep) answer, swept place caller answer (first + 1) count)

  pool_such : (place caller : ℕ) (event : PoolEvent ℕ) (answer : ObjectReply) → MadeSuch (recorded_pool_event plan place caller event answer)
  pool_such place caller (pool_events.Put item) answer = (part_such place _ caller (events.Pool (pool_events.Put item)) answer, tt)
  pool_such place caller pool_events.LookOwn answer = (part_such place _ caller (events.Pool pool_events.LookOwn) answer, tt)
  pool_such place caller (pool_events.LookOther part) answer = (part_such place _ caller (events.Pool (pool_events.LookOther part)) answer, tt)
  pool_such place caller (pool_events.LookVictim part) answer = (part_such place _ caller (events.Pool (pool_events.LookVictim part)) answer, tt)
  pool_such place caller pool_events.Sweep answer = swept place caller answer 0 plan.workers

  place_such : (place caller : ℕ) (event : ObjectEvent) (answer : ObjectReply) → P (made_on plan (object_number place) caller event answer)
  place_such place caller event answer = such.event (object_number place) caller event answer (omega arith)

  event_such : (place caller : ℕ) (event : ObjectEvent) (answer : ObjectReply) → MadeSuch (recorded_event plan place caller event answer)
  event_such place caller (events.Pool event) answer = pool_such place caller event answer
  event_such place caller (events.Starts event) answer = (starts_such caller (events.Starts event) answer, tt)
  event_such place caller (events.Mutex event) answer = (place_such place caller (events.Mutex event) answer, tt)
  event_such place caller (events.RwMutex event) answer = (place_such place caller (events.RwMutex event) answer, tt)
  event_such place caller (events.Cond event) answer = (place_such place caller (events.Cond event) answer, tt)
  event_such place caller (events.WaitGroup event) answer = (place_such place caller (events.WaitGroup event) answer, tt)
  event_such place caller (events.Once event) answer = (place_such place caller (events.Once event) answer, tt)
  event_such place caller (events.OnceFunc event) answer = (place_such place caller (events.OnceFunc event) answer, tt)
  event_such place caller (events.OnceValue event) answer = (place_such place caller (events.OnceValue event) answer, tt)
  event_such place caller (events.Sema event) answer = (place_such place caller (events.Sema event) answer, tt)
  event_such place caller (events.Flight event) answer = (place_such place caller (events.Flight event) answer, tt)

  calls_such : (calls : List (SharedCall × SharedReply)) → MadeSuch (map (made_shared plan) calls)
  calls_such [] = tt
  calls_such (call ∷ calls) = (such.call (record { call = call.0; reply = call.1; place = 0; entry = false; front = [] }), calls_such calls)

  deed_such : (before place caller : ℕ) (deed : Deed) → MadeSuch (recorded_deed plan before place caller deed)
  deed_such before place caller (deeds.Placed operation reply) = calls_such (shared_calls plan before place operation reply)
  deed_such before place caller (deeds.Entered event answer) = event_such place caller event answer

  going_such : (acts : List Act) (worker : ℕ) → AreSuch (going_acts plan acts worker)
  going_such acts worker = by_one worker (cond (waits_still plan acts worker) (made_on_starts plan worker starts.Leave told.Go) []) (chosen (waits_still plan acts worker)) where
    chosen : (b : Bool) → MadeSuch (cond b (made_on_starts plan worker starts.Leave told.Go) [])
    chosen true = (starts_such worker (events.Starts starts.Leave) (answers.Starts told.Go), tt)
    chosen false = tt

  each_such : (makes : ℕ → List Made) (passes : ℕ → Bool) → ((w : ℕ) → MadeSuch (makes w)) → (first count : ℕ) → AreSuch (flat_map (λ w. acts_by w (makes w)) (filter passes (range_with_len first count)))
  each_such makes passes on first zero = tt
  each_such makes passes on first (suc count) = chosen (passes first) (each_such makes passes on (first + 1) count) where
    chosen : (b : Bool) → AreSuch (flat_map (λ w. acts_by w (makes w)) (filter passes (range_with_len (first + 1) count))) → AreSuch (flat_map (λ w. acts_by w (makes w)) (cond b (first ∷ filter passes (range_with_len (first + 1) count)) (filter passes (range_with_len (first + 1) count))))
    chosen true rest = joined (acts_by first (makes first)) (flat_map (λ w. acts_by w (makes w)) (filter passes (range_with_len (first + 1) count))) (by_one first (makes first) (on first)) rest
    chosen false rest = rest

  closing_such : (acts : List Act) → AreSuch (closing_acts plan acts)
  closing_such acts = chosen (has_dormant plan) where
    chosen : (b : Bool) → AreSuch (cond b (ending_acts plan acts ++ leaving_acts plan acts) [])
    chosen true = joined (ending_acts plan acts) (leaving_acts plan acts) (each_such (λ w. made_on_starts plan w starts.End told.Done) (λ w. not (waits_still plan acts w)) (λ w. (starts_such w (events.Starts starts.End) (answers.Starts told.Done), tt)) 0 plan.workers)
        (each_such (λ w. made_on_starts plan w starts.Leave told.Never) (waits_still plan acts) (λ w. (starts_such w (events.Starts starts.Leave) (answers.Starts told.Never), tt)) 0 plan.workers)
    chosen false = tt

  items_such : (acts : List Act) (items : List Item) → AreSuch acts → AreSuch (fold (with_item plan) acts items)
  items_such acts [] are = are
  items_such acts (item ∷ items) are =
      let made : List Made = recorded_item plan (length (shared_in (made_by item.caller acts))) item in
      items_such (with_item plan acts item) items (joined acts (going_acts plan acts item.caller ++ acts_by item.caller made) are
      (joined (going_acts plan acts item.caller) (acts_by item.caller made) (going_such acts item.caller) (by_one item.caller made (deed_such (length (shared_in (made_by item.caller acts))) item.object item.caller item.deed))))

  pub run_such : (items : List Item) → AllByRecursion (λ (act : Act). P act.made) (closed_acts plan (acts_of plan items))
  run_such items = joined (acts_of plan items) (closing_acts plan (acts_of plan items)) (items_such [] items tt) (closing_such (acts_of plan items))
