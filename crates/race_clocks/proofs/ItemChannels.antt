-- The channels that the code tells of items are those of their edges.
use Rattle.std.proofs.Common.{◌≡◌, ℕ, Bool, true, false, not, cond, List, [], ◌∷◌, ◌++◌, map, get_or, Option, Some, None, refl, sym, ap, ◌∙◌, subst, append-nil, append_assoc}
use Rattle.std.specs.Prelude.{◌==◌, ◌&&◌, ◌||◌, is_some}
use Rattle.std.specs.List.{list_any, flat_map, range_with_len}
use Rattle.std.specs.Option.{option_map_or}
use Rattle.std.specs.Str.{bytes_eq}
use Rattle.std.proofs.lemmas.Bool.{eqb-true}
use Rattle.std.proofs.lemmas.List.Folds.{list_any-append}
use Rattle.std.proofs.lemmas.List.Sums.{fold-append}
use Rattle.sync_types.specs.SequentialMap.{is_map_entry, map_key}
use Rattle.sync_types.specs.declared.map_object.MapCall.TheVariants as map_calls
use Rattle.script_calls.specs.declared.call.Call.{Call}
use Rattle.script_calls.specs.declared.call.Operation.TheVariants as operations
use Rattle.script_calls.specs.declared.call.Reply.TheVariants as replies
use Rattle.starts_core.specs.declared.starts.StartEvent.TheVariants as start_events
use Rattle.starts_core.specs.declared.starts.StartReply.TheVariants as start_replies
use Rattle.wait_cores.specs.NotifyMachine as notify
use Rattle.wait_cores.specs.declared.notify.NotifyEvent.{NotifyEvent}
use Rattle.wait_cores.specs.declared.notify.NotifyPlace.{NotifyPlace}
use Rattle.wait_cores.specs.declared.notify.NotifyPlace.TheVariants as notify_places
use Rattle.pool_core.specs.declared.pool_event.PoolEvent.{PoolEvent}
use Rattle.pool_core.specs.declared.pool_event.PoolEvent.TheVariants as pool_events
use Rattle.pool_core.specs.declared.pool_event.PoolReply.{PoolReply}
use Rattle.pool_core.specs.declared.pool_event.PoolReply.TheVariants as pool_replies
use Rattle.workload.specs.Plan.{Plan}
use Rattle.run_record.specs.declared.entered.ObjectEvent.TheVariants as events
use Rattle.run_record.specs.declared.entered.ObjectReply.TheVariants as answered
use Rattle.step_runner.specs.declared.turns.item.Deed.{Deed}
use Rattle.step_runner.specs.declared.turns.item.Deed.TheVariants as deeds
use Rattle.step_runner.specs.declared.turns.item.Item.{Item}
use Rattle.race_clocks.specs.Channels as all
use Rattle.race_clocks.specs.Deeds.{unlocks_mutex, locks_mutex, unlocks_as_writer, unlocks_as_reader, locks_rw_mutex, is_writers_call, leaves_cond, lowers_count, passes_count, ends_function, knows_function, starts_worker, enters_atomic, finds_atomic, finds_in_map}
use Rattle.race_clocks.specs.Handing.{is_for, are_for, is_each, started_by, found_key, cond_event, pool_event, is_kept, cond_at, pool_at, map_at, stepped_by, was_told, notice, notices, put_given, put_taken, on_key, found_on, pairs_taken}
use Rattle.race_clocks.specs.Passing.{if_so, started_given, plain_given, plain_taken, placed_taken, cond_behind, cond_given, pool_behind, pool_given, pool_taken, map_made, map_behind, map_given_by, map_given, taken_with, given_with, IsPassed, IsSeen, IsTold, AreTold}
use Rattle.race_clocks.specs.Places.{at}
use Rattle.race_clocks.specs.Seen.{NumberedPool, Named, pool_step}
use Rattle.race_clocks.specs.Seen as run
use Rattle.race_clocks.proofs.Keyed.{keyed_more}
use Rattle.race_clocks.specs.declared.channel.Channel.{Channel}
use Rattle.race_clocks.specs.declared.channel.Channel.TheVariants as channels
use Rattle.race_clocks.specs.declared.seen.Passing.{Passing}
use Rattle.race_clocks.specs.declared.seen.Seen.{Seen}

pub and_false : (a : Bool) → (a && false) ≡ false
and_false true = refl
and_false false = refl

pub and_true : (a : Bool) → (a && true) ≡ a
and_true true = refl
and_true false = refl

pub or_false : (a : Bool) → (a || false) ≡ a
or_false true = refl
or_false false = refl

or_true : (a : Bool) → (a || true) ≡ true
or_true true = refl
or_true false = refl

swap_or : (a b : Bool) → (a || b) ≡ (b || a)
swap_or true b = sym (or_true b)
swap_or false b = sym (or_false b)

-- ---- what conds, pools and maps have come to

pub cond_same : (state : notify.NotifyState) (caller : ℕ) (deed : Deed) → option_map_or (λ event. (notify.next state caller event).0) (cond_event deed) state ≡ run.cond_made state caller deed
cond_same state caller (deeds.Placed operation reply) = refl
cond_same state caller (deeds.Entered (events.Mutex event) answer) = refl
cond_same state caller (deeds.Entered (events.RwMutex event) answer) = refl
cond_same state caller (deeds.Entered (events.Cond event) answer) = refl
cond_same state caller (deeds.Entered (events.WaitGroup event) answer) = refl
cond_same state caller (deeds.Entered (events.Once event) answer) = refl
cond_same state caller (deeds.Entered (events.OnceFunc event) answer) = refl
cond_same state caller (deeds.Entered (events.OnceValue event) answer) = refl
cond_same state caller (deeds.Entered (events.Sema event) answer) = refl
cond_same state caller (deeds.Entered (events.Flight event) answer) = refl
cond_same state caller (deeds.Entered (events.Pool event) answer) = refl
cond_same state caller (deeds.Entered (events.Starts event) answer) = refl

pool_same : (puts : NumberedPool) (caller : ℕ) (deed : Deed) → option_map_or (λ event. stepped_by puts caller event) (pool_event deed) puts ≡ run.pool_made puts caller deed
pool_same puts caller (deeds.Placed operation reply) = refl
pool_same puts caller (deeds.Entered (events.Mutex event) answer) = refl
pool_same puts caller (deeds.Entered (events.RwMutex event) answer) = refl
pool_same puts caller (deeds.Entered (events.Cond event) answer) = refl
pool_same puts caller (deeds.Entered (events.WaitGroup event) answer) = refl
pool_same puts caller (deeds.Entered (events.Once event) answer) = refl
pool_same puts caller (deeds.Entered (events.OnceFunc event) answer) = refl
pool_same puts caller (deeds.Entered (events.OnceValue event) answer) = refl
pool_same puts caller (deeds.Entered (events.Sema event) answer) = refl
pool_same puts caller (deeds.Entered (events.Flight event) answer) = refl
pool_same puts caller (deeds.Entered (events.Pool event) answer) = refl
pool_same puts caller (deeds.Entered (events.Starts event) answer) = refl

map_same : (m : Named) (deed : Deed) → map_made deed m ≡ run.map_made m deed
map_same m (deeds.Entered event answer) = refl
map_same m (deeds.Placed (operations.Map call) reply) = refl
map_same m (deeds.Placed operations.Range reply) = refl
map_same m (deeds.Placed (operations.Atomic call) reply) = refl
map_same m (deeds.Placed (operations.Mutex call) reply) = refl
map_same m (deeds.Placed (operations.RwMutex call) reply) = refl
map_same m (deeds.Placed (operations.Cond call) reply) = refl
map_same m (deeds.Placed (operations.WaitGroup call) reply) = refl
map_same m (deeds.Placed operations.Once reply) = refl
map_same m (deeds.Placed operations.OnceFunc reply) = refl
map_same m (deeds.Placed operations.OnceValue reply) = refl
map_same m (deeds.Placed (operations.Sema call) reply) = refl
map_same m (deeds.Placed (operations.Fly key) reply) = refl
map_same m (deeds.Placed (operations.Pool call) reply) = refl
map_same m (deeds.Placed (operations.Var call) reply) = refl
map_same m (deeds.Placed (operations.Composed call) reply) = refl

module _ (plan : Plan) (earlier : List Item) (item : Item) (call : Option Call) (old new : Seen) (before after : Passing) (seen : IsSeen plan earlier old) (passed : IsPassed plan item call old before new after) where
  conds_behind : (place : ℕ) → cond_at plan.workers new.conds place ≡ run.cond_behind plan place (earlier ++ item ∷ [])
  conds_behind place =
      passed.conds place
      ∙ ap (λ state. cond_behind item place state) (seen.conds place)
      ∙ ap (λ state. cond (item.object == place) state (run.cond_behind plan place earlier)) (cond_same (run.cond_behind plan place earlier) item.caller item.deed)
      ∙ sym (fold-append (run.cond_by place) (notify.start plan.workers) earlier (item ∷ []))

  pools_behind : (place : ℕ) → pool_at plan new.pools place ≡ run.pool_behind plan place (earlier ++ item ∷ [])
  pools_behind place =
      passed.pools place
      ∙ ap (λ puts. pool_behind item place puts) (seen.pools place)
      ∙ ap (λ puts. cond (item.object == place) puts (run.pool_behind plan place earlier)) (pool_same (run.pool_behind plan place earlier) item.caller item.deed)
      ∙ sym (fold-append (run.pool_by place) (run.pool_behind plan place []) earlier (item ∷ []))

  maps_behind : (place : ℕ) → map_at new.maps place ≡ run.map_behind place (earlier ++ item ∷ [])
  maps_behind place =
      passed.maps place
      ∙ ap (λ m. map_behind item place m) (seen.maps place)
      ∙ ap (λ m. cond (item.object == place) m (run.map_behind place earlier)) (map_same (run.map_behind place earlier) item.deed)
      ∙ sym (fold-append (run.map_by place) (run.map_behind place []) earlier (item ∷ []))

  by_caller : (b : Bool) (found : Option Bool) → is_some (cond b (Some true) found) ≡ (b || is_some found)
  by_caller true found = refl
  by_caller false found = refl

  callers_behind : (worker : ℕ) → is_some (at new.callers worker) ≡ list_any (λ other. other.caller == worker) (earlier ++ item ∷ [])
  callers_behind worker =
      ap (λ found. is_some found) (passed.callers worker)
      ∙ by_caller (item.caller == worker) (at old.callers worker)
      ∙ ap (λ b. (item.caller == worker) || b) (seen.callers worker)
      ∙ swap_or (item.caller == worker) (list_any (λ other. other.caller == worker) earlier)
      ∙ ap (λ b. list_any (λ other. other.caller == worker) earlier || b) (sym (or_false (item.caller == worker)))
      ∙ sym (list_any-append (λ other. other.caller == worker) earlier (item ∷ []))

  pub seen_more : IsSeen plan (earlier ++ item ∷ []) new
  seen_more = record { are = passed.are; conds = conds_behind; pools = pools_behind; maps = maps_behind; callers = callers_behind }

-- ---- one channel more

if_for : (c : all.Channel) (b : Bool) (d : Channel) (list : List Channel) → are_for c (if_so b d list) ≡ ((is_for c d && b) || are_for c list)
if_for c true d list = list_any-append (is_for c) list (d ∷ []) ∙ swap_or (are_for c list) (is_for c d || false) ∙ ap (λ b. b || are_for c list) (or_false (is_for c d) ∙ sym (and_true (is_for c d)))
if_for c false d list = list_any-append (is_for c) list [] ∙ or_false (are_for c list) ∙ ap (λ b. b || are_for c list) (sym (and_false (is_for c d)))

pub behind : (c : all.Channel) (list more : List Channel) → are_for c (list ++ more) ≡ (are_for c more || are_for c list)
behind c list more = list_any-append (is_for c) list more ∙ swap_or (are_for c list) (are_for c more)

started_for : (c : all.Channel) (started : Option ℕ) (list : List Channel) → are_for c (started_given started list) ≡ (option_map_or (λ worker. is_for c (channels.Start worker)) started false || are_for c list)
started_for c (Some worker) list = behind c list (channels.Start worker ∷ []) ∙ ap (λ b. b || are_for c list) (or_false (is_for c (channels.Start worker)))
started_for c None list = refl

-- a test more before others
more_or : (a : Bool) (x y : Bool) → x ≡ y → (a || x) ≡ (a || y)
more_or a x y is = ap (λ b. a || b) is

module _ (c : all.Channel) (object : ℕ) (deed : Deed) (list : List Channel) where
  abbrev on : Bool → Channel → Bool → Bool
  on test d rest = (is_for c d && test) || rest

  abbrev gives_so : Bool
  gives_so =
      option_map_or (λ worker. is_for c (channels.Start worker)) (started_by deed) false || (on (enters_atomic deed) (channels.Atomic object) (on (ends_function deed) (channels.FunctionEnd object) (on (lowers_count deed) (channels.Lowering object)
      (on (unlocks_as_reader deed) (channels.ReaderUnlock object) (on (unlocks_as_writer deed) (channels.WriterUnlock object) (on (unlocks_mutex deed) (channels.MutexUnlock object) (are_for c list)))))))

  step : (test : Bool) (d : Channel) (more : List Channel) (rest : Bool) → are_for c more ≡ rest → are_for c (if_so test d more) ≡ on test d rest
  step test d more rest is = if_for c test d more ∙ ap (λ b. (is_for c d && test) || b) is

  plain_gives : are_for c (plain_given object deed list) ≡ gives_so
  plain_gives =
      started_for c (started_by deed) _
      ∙ ap (λ b. option_map_or (λ worker. is_for c (channels.Start worker)) (started_by deed) false || b)
      (step (enters_atomic deed) (channels.Atomic object) _ _ (step (ends_function deed) (channels.FunctionEnd object) _ _ (step (lowers_count deed) (channels.Lowering object) _ _
      (step (unlocks_as_reader deed) (channels.ReaderUnlock object) _ _ (step (unlocks_as_writer deed) (channels.WriterUnlock object) _ _ (step (unlocks_mutex deed) (channels.MutexUnlock object) list (are_for c list) refl))))))

  module _ (caller : ℕ) (call : Option Call) where
    abbrev takes_so : Bool
    takes_so =
        on (finds_atomic deed) (channels.Atomic object) (on (knows_function deed) (channels.FunctionEnd object) (on (passes_count deed) (channels.Lowering object) (on (leaves_cond deed) (channels.Notice object caller)
        (on (locks_rw_mutex deed && is_writers_call call) (channels.ReaderUnlock object) (on (locks_rw_mutex deed) (channels.WriterUnlock object) (on (locks_mutex deed) (channels.MutexUnlock object) (are_for c list)))))))

    plain_takes : are_for c (plain_taken object caller deed call list) ≡ takes_so
    plain_takes =
        step (finds_atomic deed) (channels.Atomic object) _ _ (step (knows_function deed) (channels.FunctionEnd object) _ _ (step (passes_count deed) (channels.Lowering object) _ _ (step (leaves_cond deed) (channels.Notice object caller) _ _
        (step (locks_rw_mutex deed && is_writers_call call) (channels.ReaderUnlock object) _ _ (step (locks_rw_mutex deed) (channels.WriterUnlock object) _ _ (step (locks_mutex deed) (channels.MutexUnlock object) list (are_for c list) refl))))))

-- ---- what an item doesn't tell

off_key : (c : all.Channel) (map : ℕ) (key : Option (List ℕ)) → ((place : ℕ) (key : List ℕ) → is_for c (channels.MapKey place key) ≡ false) → ((place : ℕ) → is_for c (channels.EachKey place) ≡ false) → are_for c (on_key map key) ≡ false
off_key c map (Some key) off each = ap (λ b. b || false) (off map key)
off_key c map None off each = ap (λ b. b || false) (each map)

off_cond_key : (c : all.Channel) (b : Bool) (list : List Channel) → are_for c list ≡ false → are_for c (cond b list []) ≡ false
off_cond_key c true list off = off
off_cond_key c false list off = refl

off_map : (c : all.Channel) (object : ℕ) (deed : Deed) (m : Named) → ((place : ℕ) (key : List ℕ) → is_for c (channels.MapKey place key) ≡ false) → ((place : ℕ) → is_for c (channels.EachKey place) ≡ false) → are_for c (map_given_by object deed m) ≡ false
off_map c object (deeds.Entered event answer) m off each = refl
off_map c object (deeds.Placed (operations.Map call) reply) m off each = off_cond_key c (is_map_entry call m) (on_key object (map_key call)) (off_key c object (map_key call) off each)
off_map c object (deeds.Placed operations.Range reply) m off each = refl
off_map c object (deeds.Placed (operations.Atomic call) reply) m off each = refl
off_map c object (deeds.Placed (operations.Mutex call) reply) m off each = refl
off_map c object (deeds.Placed (operations.RwMutex call) reply) m off each = refl
off_map c object (deeds.Placed (operations.Cond call) reply) m off each = refl
off_map c object (deeds.Placed (operations.WaitGroup call) reply) m off each = refl
off_map c object (deeds.Placed operations.Once reply) m off each = refl
off_map c object (deeds.Placed operations.OnceFunc reply) m off each = refl
off_map c object (deeds.Placed operations.OnceValue reply) m off each = refl
off_map c object (deeds.Placed (operations.Sema call) reply) m off each = refl
off_map c object (deeds.Placed (operations.Fly key) reply) m off each = refl
off_map c object (deeds.Placed (operations.Pool call) reply) m off each = refl
off_map c object (deeds.Placed (operations.Var call) reply) m off each = refl
off_map c object (deeds.Placed (operations.Composed call) reply) m off each = refl

off_found : (c : all.Channel) (map : ℕ) (key : Option (List ℕ)) → ((place : ℕ) (key : List ℕ) → is_for c (channels.MapKey place key) ≡ false) → are_for c (found_on map key) ≡ false
off_found c map (Some key) off = ap (λ b. b || false) (off map key)
off_found c map None off = refl

off_pairs : (c : all.Channel) (map : ℕ) (pairs : List (List ℕ × ℕ)) → ((place : ℕ) (key : List ℕ) → is_for c (channels.MapKey place key) ≡ false) → are_for c (pairs_taken map pairs) ≡ false
off_pairs c map [] off = refl
off_pairs c map (pair ∷ pairs) off = ap (λ b. b || are_for c (pairs_taken map pairs)) (off map pair.0) ∙ off_pairs c map pairs off

off_placed : (c : all.Channel) (object : ℕ) (deed : Deed) → ((place : ℕ) (key : List ℕ) → is_for c (channels.MapKey place key) ≡ false) → are_for c (placed_taken object deed) ≡ false
off_placed c object (deeds.Entered event answer) off = refl
off_placed c object (deeds.Placed (operations.Map call) reply) off = off_found c object (found_key call) off
off_placed c object (deeds.Placed operations.Range (replies.Map value)) off = refl
off_placed c object (deeds.Placed operations.Range (replies.Pairs value)) off = off_pairs c object value off
off_placed c object (deeds.Placed operations.Range (replies.Atomic value)) off = refl
off_placed c object (deeds.Placed operations.Range (replies.Lock value)) off = refl
off_placed c object (deeds.Placed operations.Range replies.Returned) off = refl
off_placed c object (deeds.Placed operations.Range (replies.Once value)) off = refl
off_placed c object (deeds.Placed operations.Range (replies.OnceFunc value)) off = refl
off_placed c object (deeds.Placed operations.Range (replies.OnceValue value)) off = refl
off_placed c object (deeds.Placed operations.Range (replies.Pool value)) off = refl
off_placed c object (deeds.Placed operations.Range (replies.Flown value shared)) off = refl
off_placed c object (deeds.Placed operations.Range (replies.Var value)) off = refl
off_placed c object (deeds.Placed (operations.Atomic call) reply) off = refl
off_placed c object (deeds.Placed (operations.Mutex call) reply) off = refl
off_placed c object (deeds.Placed (operations.RwMutex call) reply) off = refl
off_placed c object (deeds.Placed (operations.Cond call) reply) off = refl
off_placed c object (deeds.Placed (operations.WaitGroup call) reply) off = refl
off_placed c object (deeds.Placed operations.Once reply) off = refl
off_placed c object (deeds.Placed operations.OnceFunc reply) off = refl
off_placed c object (deeds.Placed operations.OnceValue reply) off = refl
off_placed c object (deeds.Placed (operations.Sema call) reply) off = refl
off_placed c object (deeds.Placed (operations.Fly key) reply) off = refl
off_placed c object (deeds.Placed (operations.Pool call) reply) off = refl
off_placed c object (deeds.Placed (operations.Var call) reply) off = refl
off_placed c object (deeds.Placed (operations.Composed call) reply) off = refl

off_put : (c : all.Channel) (b : Bool) (pool number : ℕ) → ((place number : ℕ) → is_for c (channels.PutItem place number) ≡ false) → are_for c (put_given b pool number) ≡ false
off_put c true pool number off = ap (λ b. b || false) (off pool number)
off_put c false pool number off = refl

off_given : (c : all.Channel) (item : Item) (puts : NumberedPool) (event : Option (PoolEvent ℕ)) → ((place number : ℕ) → is_for c (channels.PutItem place number) ≡ false) → are_for c (option_map_or (λ event. put_given (is_kept item.deed) item.object puts.count) event []) ≡ false
off_given c item puts None off = refl
off_given c item puts (Some event) off = off_put c (is_kept item.deed) item.object puts.count off

off_answer : (c : all.Channel) (pool : ℕ) (reply : PoolReply ℕ) → ((place number : ℕ) → is_for c (channels.PutItem place number) ≡ false) → are_for c (put_taken pool reply) ≡ false
off_answer c pool (pool_replies.Item number) off = ap (λ b. b || false) (off pool number)
off_answer c pool pool_replies.Kept off = refl
off_answer c pool (pool_replies.Dropped item) off = refl
off_answer c pool pool_replies.Nothing off = refl
off_answer c pool pool_replies.Swept off = refl
off_answer c pool pool_replies.Still off = refl

off_taken : (c : all.Channel) (item : Item) (puts : NumberedPool) (event : Option (PoolEvent ℕ)) → ((place number : ℕ) → is_for c (channels.PutItem place number) ≡ false) → are_for c (option_map_or (λ event. put_taken item.object (pool_step puts item.caller event).1) event []) ≡ false
off_taken c item puts None off = refl
off_taken c item puts (Some event) off = off_answer c item.object (pool_step puts item.caller event).1 off

off_notice : (c : all.Channel) (place : ℕ) (before : List NotifyPlace) (after : notify.NotifyState) (worker : ℕ) → ((worker : ℕ) → is_for c (channels.Notice place worker) ≡ false) → (b : Bool) → are_for c (cond b (channels.Notice place worker ∷ []) []) ≡ false
off_notice c place before after worker off true = ap (λ b. b || false) (off worker)
off_notice c place before after worker off false = refl

off_notices : (c : all.Channel) (place : ℕ) (before : List NotifyPlace) (after : notify.NotifyState) (workers : List ℕ) → ((worker : ℕ) → is_for c (channels.Notice place worker) ≡ false) → are_for c (flat_map (notice place before after) workers) ≡ false
off_notices c place before after [] off = refl
off_notices c place before after (worker ∷ workers) off =
    list_any-append (is_for c) (notice place before after worker) (flat_map (notice place before after) workers)
    ∙ ap (λ b. b || are_for c (flat_map (notice place before after) workers)) (off_notice c place before after worker off (was_told (get_or before worker notify_places.Out) (notify.place_of after worker)))
    ∙ off_notices c place before after workers off

pub off_cond : (c : all.Channel) (workers : ℕ) (item : Item) (state : notify.NotifyState) (event : Option NotifyEvent) → ((worker : ℕ) → is_for c (channels.Notice item.object worker) ≡ false)
    → are_for c (option_map_or (λ event. notices workers item.object (map (notify.place_of state) (range_with_len 0 workers)) (notify.next state item.caller event).0) event []) ≡ false
off_cond c workers item state None off = refl
off_cond c workers item state (Some event) off = off_notices c item.object (map (notify.place_of state) (range_with_len 0 workers)) (notify.next state item.caller event).0 (range_with_len 0 workers) off

-- ---- what it does tell

spread : (a x y : Bool) → ((a && x) || (a && y)) ≡ (a && (x || y))
spread true x y = refl
spread false x y = refl

by_reply : (object m n : ℕ) (reply : PoolReply ℕ) → are_for (all.PutItem m n) (put_taken object reply) ≡ ((object == m) && run.is_item n reply)
by_reply object m n (pool_replies.Item number) = or_false ((object == m) && (number == n))
by_reply object m n pool_replies.Kept = sym (and_false (object == m))
by_reply object m n (pool_replies.Dropped item) = sym (and_false (object == m))
by_reply object m n pool_replies.Nothing = sym (and_false (object == m))
by_reply object m n pool_replies.Swept = sym (and_false (object == m))
by_reply object m n pool_replies.Still = sym (and_false (object == m))

by_entry : (object m : ℕ) (n : List ℕ) (enters : Bool) (key : Option (List ℕ)) → are_for (all.MapKey m n) (cond enters (on_key object key) []) ≡ ((object == m) && (option_map_or (bytes_eq n) key true && enters))
by_entry object m n true (Some key) = or_false ((object == m) && bytes_eq n key) ∙ ap (λ b. (object == m) && b) (sym (and_true (bytes_eq n key)))
by_entry object m n true None = or_false (object == m) ∙ sym (and_true (object == m))
by_entry object m n false (Some key) = sym (ap (λ b. (object == m) && b) (and_false (bytes_eq n key)) ∙ and_false (object == m))
by_entry object m n false None = sym (and_false (object == m))

by_pairs : (object m : ℕ) (n : List ℕ) (pairs : List (List ℕ × ℕ)) → are_for (all.MapKey m n) (pairs_taken object pairs) ≡ ((object == m) && list_any (λ pair. bytes_eq n pair.0) pairs)
by_pairs object m n [] = sym (and_false (object == m))
by_pairs object m n (pair ∷ pairs) =
    ap (λ b. ((object == m) && bytes_eq n pair.0) || b) (by_pairs object m n pairs) ∙ spread (object == m) (bytes_eq n pair.0) (list_any (λ pair. bytes_eq n pair.0) pairs)

kept_put : (object m n : ℕ) (puts : NumberedPool) (deed : Deed) → are_for (all.PutItem m n) (option_map_or (λ event. put_given (is_kept deed) object puts.count) (pool_event deed) []) ≡ ((object == m) && run.is_kept_put n puts deed)
kept_put object m n puts (deeds.Placed operation reply) = sym (and_false (object == m))
kept_put object m n puts (deeds.Entered (events.Mutex event) answer) = sym (and_false (object == m))
kept_put object m n puts (deeds.Entered (events.RwMutex event) answer) = sym (and_false (object == m))
kept_put object m n puts (deeds.Entered (events.Cond event) answer) = sym (and_false (object == m))
kept_put object m n puts (deeds.Entered (events.WaitGroup event) answer) = sym (and_false (object == m))
kept_put object m n puts (deeds.Entered (events.Once event) answer) = sym (and_false (object == m))
kept_put object m n puts (deeds.Entered (events.OnceFunc event) answer) = sym (and_false (object == m))
kept_put object m n puts (deeds.Entered (events.OnceValue event) answer) = sym (and_false (object == m))
kept_put object m n puts (deeds.Entered (events.Sema event) answer) = sym (and_false (object == m))
kept_put object m n puts (deeds.Entered (events.Flight event) answer) = sym (and_false (object == m))
kept_put object m n puts (deeds.Entered (events.Starts event) answer) = sym (and_false (object == m))
kept_put object m n puts (deeds.Entered (events.Pool (pool_events.Put item)) (answered.Mutex answer)) = sym (and_false (object == m))
kept_put object m n puts (deeds.Entered (events.Pool (pool_events.Put item)) (answered.RwMutex answer)) = sym (and_false (object == m))
kept_put object m n puts (deeds.Entered (events.Pool (pool_events.Put item)) (answered.Cond answer)) = sym (and_false (object == m))
kept_put object m n puts (deeds.Entered (events.Pool (pool_events.Put item)) (answered.WaitGroup answer)) = sym (and_false (object == m))
kept_put object m n puts (deeds.Entered (events.Pool (pool_events.Put item)) (answered.Once answer)) = sym (and_false (object == m))
kept_put object m n puts (deeds.Entered (events.Pool (pool_events.Put item)) (answered.OnceFunc answer)) = sym (and_false (object == m))
kept_put object m n puts (deeds.Entered (events.Pool (pool_events.Put item)) (answered.OnceValue answer)) = sym (and_false (object == m))
kept_put object m n puts (deeds.Entered (events.Pool (pool_events.Put item)) (answered.Sema answer)) = sym (and_false (object == m))
kept_put object m n puts (deeds.Entered (events.Pool (pool_events.Put item)) (answered.Flight answer)) = sym (and_false (object == m))
kept_put object m n puts (deeds.Entered (events.Pool (pool_events.Put item)) (answered.Starts answer)) = sym (and_false (object == m))
kept_put object m n puts (deeds.Entered (events.Pool (pool_events.Put item)) (answered.Pool pool_replies.Kept)) = or_false ((object == m) && (puts.count == n)) ∙ ap (λ b. (object == m) && b) (sym (and_true (puts.count == n)))
kept_put object m n puts (deeds.Entered (events.Pool (pool_events.Put value)) (answered.Pool (pool_replies.Dropped item))) = sym (ap (λ b. (object == m) && b) (and_false (puts.count == n)) ∙ and_false (object == m))
kept_put object m n puts (deeds.Entered (events.Pool (pool_events.Put value)) (answered.Pool (pool_replies.Item item))) = sym (ap (λ b. (object == m) && b) (and_false (puts.count == n)) ∙ and_false (object == m))
kept_put object m n puts (deeds.Entered (events.Pool (pool_events.Put value)) (answered.Pool pool_replies.Nothing)) = sym (ap (λ b. (object == m) && b) (and_false (puts.count == n)) ∙ and_false (object == m))
kept_put object m n puts (deeds.Entered (events.Pool (pool_events.Put value)) (answered.Pool pool_replies.Swept)) = sym (ap (λ b. (object == m) && b) (and_false (puts.count == n)) ∙ and_false (object == m))
kept_put object m n puts (deeds.Entered (events.Pool (pool_events.Put value)) (answered.Pool pool_replies.Still)) = sym (ap (λ b. (object == m) && b) (and_false (puts.count == n)) ∙ and_false (object == m))
kept_put object m n puts (deeds.Entered (events.Pool pool_events.LookOwn) (answered.Mutex answer)) = sym (and_false (object == m))
kept_put object m n puts (deeds.Entered (events.Pool pool_events.LookOwn) (answered.RwMutex answer)) = sym (and_false (object == m))
kept_put object m n puts (deeds.Entered (events.Pool pool_events.LookOwn) (answered.Cond answer)) = sym (and_false (object == m))
kept_put object m n puts (deeds.Entered (events.Pool pool_events.LookOwn) (answered.WaitGroup answer)) = sym (and_false (object == m))
kept_put object m n puts (deeds.Entered (events.Pool pool_events.LookOwn) (answered.Once answer)) = sym (and_false (object == m))
kept_put object m n puts (deeds.Entered (events.Pool pool_events.LookOwn) (answered.OnceFunc answer)) = sym (and_false (object == m))
kept_put object m n puts (deeds.Entered (events.Pool pool_events.LookOwn) (answered.OnceValue answer)) = sym (and_false (object == m))
kept_put object m n puts (deeds.Entered (events.Pool pool_events.LookOwn) (answered.Sema answer)) = sym (and_false (object == m))
kept_put object m n puts (deeds.Entered (events.Pool pool_events.LookOwn) (answered.Flight answer)) = sym (and_false (object == m))
kept_put object m n puts (deeds.Entered (events.Pool pool_events.LookOwn) (answered.Starts answer)) = sym (and_false (object == m))
kept_put object m n puts (deeds.Entered (events.Pool pool_events.LookOwn) (answered.Pool pool_replies.Kept)) = sym (and_false (object == m))
kept_put object m n puts (deeds.Entered (events.Pool pool_events.LookOwn) (answered.Pool (pool_replies.Dropped item))) = sym (and_false (object == m))
kept_put object m n puts (deeds.Entered (events.Pool pool_events.LookOwn) (answered.Pool (pool_replies.Item item))) = sym (and_false (object == m))
kept_put object m n puts (deeds.Entered (events.Pool pool_events.LookOwn) (answered.Pool pool_replies.Nothing)) = sym (and_false (object == m))
kept_put object m n puts (deeds.Entered (events.Pool pool_events.LookOwn) (answered.Pool pool_replies.Swept)) = sym (and_false (object == m))
kept_put object m n puts (deeds.Entered (events.Pool pool_events.LookOwn) (answered.Pool pool_replies.Still)) = sym (and_false (object == m))
kept_put object m n puts (deeds.Entered (events.Pool (pool_events.LookOther part)) (answered.Mutex answer)) = sym (and_false (object == m))
kept_put object m n puts (deeds.Entered (events.Pool (pool_events.LookOther part)) (answered.RwMutex answer)) = sym (and_false (object == m))
kept_put object m n puts (deeds.Entered (events.Pool (pool_events.LookOther part)) (answered.Cond answer)) = sym (and_false (object == m))
kept_put object m n puts (deeds.Entered (events.Pool (pool_events.LookOther part)) (answered.WaitGroup answer)) = sym (and_false (object == m))
kept_put object m n puts (deeds.Entered (events.Pool (pool_events.LookOther part)) (answered.Once answer)) = sym (and_false (object == m))
kept_put object m n puts (deeds.Entered (events.Pool (pool_events.LookOther part)) (answered.OnceFunc answer)) = sym (and_false (object == m))
kept_put object m n puts (deeds.Entered (events.Pool (pool_events.LookOther part)) (answered.OnceValue answer)) = sym (and_false (object == m))
kept_put object m n puts (deeds.Entered (events.Pool (pool_events.LookOther part)) (answered.Sema answer)) = sym (and_false (object == m))
kept_put object m n puts (deeds.Entered (events.Pool (pool_events.LookOther part)) (answered.Flight answer)) = sym (and_false (object == m))
kept_put object m n puts (deeds.Entered (events.Pool (pool_events.LookOther part)) (answered.Starts answer)) = sym (and_false (object == m))
kept_put object m n puts (deeds.Entered (events.Pool (pool_events.LookOther part)) (answered.Pool pool_replies.Kept)) = sym (and_false (object == m))
kept_put object m n puts (deeds.Entered (events.Pool (pool_events.LookOther part)) (answered.Pool (pool_replies.Dropped item))) = sym (and_false (object == m))
kept_put object m n puts (deeds.Entered (events.Pool (pool_events.LookOther part)) (answered.Pool (pool_replies.Item item))) = sym (and_false (object == m))
kept_put object m n puts (deeds.Entered (events.Pool (pool_events.LookOther part)) (answered.Pool pool_replies.Nothing)) = sym (and_false (object == m))
kept_put object m n puts (deeds.Entered (events.Pool (pool_events.LookOther part)) (answered.Pool pool_replies.Swept)) = sym (and_false (object == m))
kept_put object m n puts (deeds.Entered (events.Pool (pool_events.LookOther part)) (answered.Pool pool_replies.Still)) = sym (and_false (object == m))
kept_put object m n puts (deeds.Entered (events.Pool (pool_events.LookVictim part)) (answered.Mutex answer)) = sym (and_false (object == m))
kept_put object m n puts (deeds.Entered (events.Pool (pool_events.LookVictim part)) (answered.RwMutex answer)) = sym (and_false (object == m))
kept_put object m n puts (deeds.Entered (events.Pool (pool_events.LookVictim part)) (answered.Cond answer)) = sym (and_false (object == m))
kept_put object m n puts (deeds.Entered (events.Pool (pool_events.LookVictim part)) (answered.WaitGroup answer)) = sym (and_false (object == m))
kept_put object m n puts (deeds.Entered (events.Pool (pool_events.LookVictim part)) (answered.Once answer)) = sym (and_false (object == m))
kept_put object m n puts (deeds.Entered (events.Pool (pool_events.LookVictim part)) (answered.OnceFunc answer)) = sym (and_false (object == m))
kept_put object m n puts (deeds.Entered (events.Pool (pool_events.LookVictim part)) (answered.OnceValue answer)) = sym (and_false (object == m))
kept_put object m n puts (deeds.Entered (events.Pool (pool_events.LookVictim part)) (answered.Sema answer)) = sym (and_false (object == m))
kept_put object m n puts (deeds.Entered (events.Pool (pool_events.LookVictim part)) (answered.Flight answer)) = sym (and_false (object == m))
kept_put object m n puts (deeds.Entered (events.Pool (pool_events.LookVictim part)) (answered.Starts answer)) = sym (and_false (object == m))
kept_put object m n puts (deeds.Entered (events.Pool (pool_events.LookVictim part)) (answered.Pool pool_replies.Kept)) = sym (and_false (object == m))
kept_put object m n puts (deeds.Entered (events.Pool (pool_events.LookVictim part)) (answered.Pool (pool_replies.Dropped item))) = sym (and_false (object == m))
kept_put object m n puts (deeds.Entered (events.Pool (pool_events.LookVictim part)) (answered.Pool (pool_replies.Item item))) = sym (and_false (object == m))
kept_put object m n puts (deeds.Entered (events.Pool (pool_events.LookVictim part)) (answered.Pool pool_replies.Nothing)) = sym (and_false (object == m))
kept_put object m n puts (deeds.Entered (events.Pool (pool_events.LookVictim part)) (answered.Pool pool_replies.Swept)) = sym (and_false (object == m))
kept_put object m n puts (deeds.Entered (events.Pool (pool_events.LookVictim part)) (answered.Pool pool_replies.Still)) = sym (and_false (object == m))
kept_put object m n puts (deeds.Entered (events.Pool pool_events.Sweep) (answered.Mutex answer)) = sym (and_false (object == m))
kept_put object m n puts (deeds.Entered (events.Pool pool_events.Sweep) (answered.RwMutex answer)) = sym (and_false (object == m))
kept_put object m n puts (deeds.Entered (events.Pool pool_events.Sweep) (answered.Cond answer)) = sym (and_false (object == m))
kept_put object m n puts (deeds.Entered (events.Pool pool_events.Sweep) (answered.WaitGroup answer)) = sym (and_false (object == m))
kept_put object m n puts (deeds.Entered (events.Pool pool_events.Sweep) (answered.Once answer)) = sym (and_false (object == m))
kept_put object m n puts (deeds.Entered (events.Pool pool_events.Sweep) (answered.OnceFunc answer)) = sym (and_false (object == m))
kept_put object m n puts (deeds.Entered (events.Pool pool_events.Sweep) (answered.OnceValue answer)) = sym (and_false (object == m))
kept_put object m n puts (deeds.Entered (events.Pool pool_events.Sweep) (answered.Sema answer)) = sym (and_false (object == m))
kept_put object m n puts (deeds.Entered (events.Pool pool_events.Sweep) (answered.Flight answer)) = sym (and_false (object == m))
kept_put object m n puts (deeds.Entered (events.Pool pool_events.Sweep) (answered.Starts answer)) = sym (and_false (object == m))
kept_put object m n puts (deeds.Entered (events.Pool pool_events.Sweep) (answered.Pool pool_replies.Kept)) = sym (and_false (object == m))
kept_put object m n puts (deeds.Entered (events.Pool pool_events.Sweep) (answered.Pool (pool_replies.Dropped item))) = sym (and_false (object == m))
kept_put object m n puts (deeds.Entered (events.Pool pool_events.Sweep) (answered.Pool (pool_replies.Item item))) = sym (and_false (object == m))
kept_put object m n puts (deeds.Entered (events.Pool pool_events.Sweep) (answered.Pool pool_replies.Nothing)) = sym (and_false (object == m))
kept_put object m n puts (deeds.Entered (events.Pool pool_events.Sweep) (answered.Pool pool_replies.Swept)) = sym (and_false (object == m))
kept_put object m n puts (deeds.Entered (events.Pool pool_events.Sweep) (answered.Pool pool_replies.Still)) = sym (and_false (object == m))

taken_put : (object caller m n : ℕ) (puts : NumberedPool) (deed : Deed) → are_for (all.PutItem m n) (option_map_or (λ event. put_taken object (pool_step puts caller event).1) (pool_event deed) []) ≡ ((object == m) && run.takes_put n puts caller deed)
taken_put object caller m n puts (deeds.Placed operation reply) = sym (and_false (object == m))
taken_put object caller m n puts (deeds.Entered (events.Mutex event) answer) = sym (and_false (object == m))
taken_put object caller m n puts (deeds.Entered (events.RwMutex event) answer) = sym (and_false (object == m))
taken_put object caller m n puts (deeds.Entered (events.Cond event) answer) = sym (and_false (object == m))
taken_put object caller m n puts (deeds.Entered (events.WaitGroup event) answer) = sym (and_false (object == m))
taken_put object caller m n puts (deeds.Entered (events.Once event) answer) = sym (and_false (object == m))
taken_put object caller m n puts (deeds.Entered (events.OnceFunc event) answer) = sym (and_false (object == m))
taken_put object caller m n puts (deeds.Entered (events.OnceValue event) answer) = sym (and_false (object == m))
taken_put object caller m n puts (deeds.Entered (events.Sema event) answer) = sym (and_false (object == m))
taken_put object caller m n puts (deeds.Entered (events.Flight event) answer) = sym (and_false (object == m))
taken_put object caller m n puts (deeds.Entered (events.Pool event) answer) = by_reply object m n (pool_step puts caller event).1
taken_put object caller m n puts (deeds.Entered (events.Starts event) answer) = sym (and_false (object == m))

started_so : (w : ℕ) (deed : Deed) → option_map_or (λ worker. worker == w) (started_by deed) false ≡ starts_worker w deed
started_so w (deeds.Placed operation reply) = refl
started_so w (deeds.Entered (events.Mutex event) answer) = refl
started_so w (deeds.Entered (events.RwMutex event) answer) = refl
started_so w (deeds.Entered (events.Cond event) answer) = refl
started_so w (deeds.Entered (events.WaitGroup event) answer) = refl
started_so w (deeds.Entered (events.Once event) answer) = refl
started_so w (deeds.Entered (events.OnceFunc event) answer) = refl
started_so w (deeds.Entered (events.OnceValue event) answer) = refl
started_so w (deeds.Entered (events.Sema event) answer) = refl
started_so w (deeds.Entered (events.Flight event) answer) = refl
started_so w (deeds.Entered (events.Pool event) answer) = refl
started_so w (deeds.Entered (events.Starts (start_events.Start worker)) (answered.Mutex answer)) = refl
started_so w (deeds.Entered (events.Starts (start_events.Start worker)) (answered.RwMutex answer)) = refl
started_so w (deeds.Entered (events.Starts (start_events.Start worker)) (answered.Cond answer)) = refl
started_so w (deeds.Entered (events.Starts (start_events.Start worker)) (answered.WaitGroup answer)) = refl
started_so w (deeds.Entered (events.Starts (start_events.Start worker)) (answered.Once answer)) = refl
started_so w (deeds.Entered (events.Starts (start_events.Start worker)) (answered.OnceFunc answer)) = refl
started_so w (deeds.Entered (events.Starts (start_events.Start worker)) (answered.OnceValue answer)) = refl
started_so w (deeds.Entered (events.Starts (start_events.Start worker)) (answered.Sema answer)) = refl
started_so w (deeds.Entered (events.Starts (start_events.Start worker)) (answered.Flight answer)) = refl
started_so w (deeds.Entered (events.Starts (start_events.Start worker)) (answered.Pool answer)) = refl
started_so w (deeds.Entered (events.Starts (start_events.Start worker)) (answered.Starts start_replies.Done)) = sym (and_true (worker == w))
started_so w (deeds.Entered (events.Starts (start_events.Start worker)) (answered.Starts start_replies.Go)) = sym (and_false (worker == w))
started_so w (deeds.Entered (events.Starts (start_events.Start worker)) (answered.Starts start_replies.Never)) = sym (and_false (worker == w))
started_so w (deeds.Entered (events.Starts (start_events.Start worker)) (answered.Starts start_replies.Still)) = sym (and_false (worker == w))
started_so w (deeds.Entered (events.Starts start_events.End) (answered.Mutex answer)) = refl
started_so w (deeds.Entered (events.Starts start_events.End) (answered.RwMutex answer)) = refl
started_so w (deeds.Entered (events.Starts start_events.End) (answered.Cond answer)) = refl
started_so w (deeds.Entered (events.Starts start_events.End) (answered.WaitGroup answer)) = refl
started_so w (deeds.Entered (events.Starts start_events.End) (answered.Once answer)) = refl
started_so w (deeds.Entered (events.Starts start_events.End) (answered.OnceFunc answer)) = refl
started_so w (deeds.Entered (events.Starts start_events.End) (answered.OnceValue answer)) = refl
started_so w (deeds.Entered (events.Starts start_events.End) (answered.Sema answer)) = refl
started_so w (deeds.Entered (events.Starts start_events.End) (answered.Flight answer)) = refl
started_so w (deeds.Entered (events.Starts start_events.End) (answered.Pool answer)) = refl
started_so w (deeds.Entered (events.Starts start_events.End) (answered.Starts start_replies.Done)) = refl
started_so w (deeds.Entered (events.Starts start_events.End) (answered.Starts start_replies.Go)) = refl
started_so w (deeds.Entered (events.Starts start_events.End) (answered.Starts start_replies.Never)) = refl
started_so w (deeds.Entered (events.Starts start_events.End) (answered.Starts start_replies.Still)) = refl
started_so w (deeds.Entered (events.Starts start_events.Leave) (answered.Mutex answer)) = refl
started_so w (deeds.Entered (events.Starts start_events.Leave) (answered.RwMutex answer)) = refl
started_so w (deeds.Entered (events.Starts start_events.Leave) (answered.Cond answer)) = refl
started_so w (deeds.Entered (events.Starts start_events.Leave) (answered.WaitGroup answer)) = refl
started_so w (deeds.Entered (events.Starts start_events.Leave) (answered.Once answer)) = refl
started_so w (deeds.Entered (events.Starts start_events.Leave) (answered.OnceFunc answer)) = refl
started_so w (deeds.Entered (events.Starts start_events.Leave) (answered.OnceValue answer)) = refl
started_so w (deeds.Entered (events.Starts start_events.Leave) (answered.Sema answer)) = refl
started_so w (deeds.Entered (events.Starts start_events.Leave) (answered.Flight answer)) = refl
started_so w (deeds.Entered (events.Starts start_events.Leave) (answered.Pool answer)) = refl
started_so w (deeds.Entered (events.Starts start_events.Leave) (answered.Starts start_replies.Done)) = refl
started_so w (deeds.Entered (events.Starts start_events.Leave) (answered.Starts start_replies.Go)) = refl
started_so w (deeds.Entered (events.Starts start_events.Leave) (answered.Starts start_replies.Never)) = refl
started_so w (deeds.Entered (events.Starts start_events.Leave) (answered.Starts start_replies.Still)) = refl

entered_key : (object m : ℕ) (n : List ℕ) (contents : Named) (deed : Deed) → are_for (all.MapKey m n) (map_given_by object deed contents) ≡ ((object == m) && run.enters_key n contents deed)
entered_key object m n contents (deeds.Entered event answer) = sym (and_false (object == m))
entered_key object m n contents (deeds.Placed (operations.Map call) reply) = by_entry object m n (is_map_entry call contents) (map_key call)
entered_key object m n contents (deeds.Placed operations.Range reply) = sym (and_false (object == m))
entered_key object m n contents (deeds.Placed (operations.Atomic call) reply) = sym (and_false (object == m))
entered_key object m n contents (deeds.Placed (operations.Mutex call) reply) = sym (and_false (object == m))
entered_key object m n contents (deeds.Placed (operations.RwMutex call) reply) = sym (and_false (object == m))
entered_key object m n contents (deeds.Placed (operations.Cond call) reply) = sym (and_false (object == m))
entered_key object m n contents (deeds.Placed (operations.WaitGroup call) reply) = sym (and_false (object == m))
entered_key object m n contents (deeds.Placed operations.Once reply) = sym (and_false (object == m))
entered_key object m n contents (deeds.Placed operations.OnceFunc reply) = sym (and_false (object == m))
entered_key object m n contents (deeds.Placed operations.OnceValue reply) = sym (and_false (object == m))
entered_key object m n contents (deeds.Placed (operations.Sema call) reply) = sym (and_false (object == m))
entered_key object m n contents (deeds.Placed (operations.Fly key) reply) = sym (and_false (object == m))
entered_key object m n contents (deeds.Placed (operations.Pool call) reply) = sym (and_false (object == m))
entered_key object m n contents (deeds.Placed (operations.Var call) reply) = sym (and_false (object == m))
entered_key object m n contents (deeds.Placed (operations.Composed call) reply) = sym (and_false (object == m))

found_in : (object m : ℕ) (n : List ℕ) (deed : Deed) → are_for (all.MapKey m n) (placed_taken object deed) ≡ ((object == m) && finds_in_map n deed)
found_in object m n (deeds.Entered event answer) = sym (and_false (object == m))
found_in object m n (deeds.Placed (operations.Map (map_calls.Load key)) reply) = or_false ((object == m) && bytes_eq n key)
found_in object m n (deeds.Placed (operations.Map (map_calls.Store key value)) reply) = sym (and_false (object == m))
found_in object m n (deeds.Placed (operations.Map (map_calls.LoadOrStore key value)) reply) = or_false ((object == m) && bytes_eq n key)
found_in object m n (deeds.Placed (operations.Map (map_calls.LoadAndDelete key)) reply) = or_false ((object == m) && bytes_eq n key)
found_in object m n (deeds.Placed (operations.Map (map_calls.Delete key)) reply) = sym (and_false (object == m))
found_in object m n (deeds.Placed (operations.Map (map_calls.Swap key value)) reply) = or_false ((object == m) && bytes_eq n key)
found_in object m n (deeds.Placed (operations.Map (map_calls.CompareAndSwap key old new)) reply) = or_false ((object == m) && bytes_eq n key)
found_in object m n (deeds.Placed (operations.Map (map_calls.CompareAndDelete key old)) reply) = or_false ((object == m) && bytes_eq n key)
found_in object m n (deeds.Placed (operations.Map map_calls.Clear) reply) = sym (and_false (object == m))
found_in object m n (deeds.Placed operations.Range (replies.Map value)) = sym (and_false (object == m))
found_in object m n (deeds.Placed operations.Range (replies.Pairs value)) = by_pairs object m n value
found_in object m n (deeds.Placed operations.Range (replies.Atomic value)) = sym (and_false (object == m))
found_in object m n (deeds.Placed operations.Range (replies.Lock value)) = sym (and_false (object == m))
found_in object m n (deeds.Placed operations.Range replies.Returned) = sym (and_false (object == m))
found_in object m n (deeds.Placed operations.Range (replies.Once value)) = sym (and_false (object == m))
found_in object m n (deeds.Placed operations.Range (replies.OnceFunc value)) = sym (and_false (object == m))
found_in object m n (deeds.Placed operations.Range (replies.OnceValue value)) = sym (and_false (object == m))
found_in object m n (deeds.Placed operations.Range (replies.Pool value)) = sym (and_false (object == m))
found_in object m n (deeds.Placed operations.Range (replies.Flown value shared)) = sym (and_false (object == m))
found_in object m n (deeds.Placed operations.Range (replies.Var value)) = sym (and_false (object == m))
found_in object m n (deeds.Placed (operations.Atomic call) reply) = sym (and_false (object == m))
found_in object m n (deeds.Placed (operations.Mutex call) reply) = sym (and_false (object == m))
found_in object m n (deeds.Placed (operations.RwMutex call) reply) = sym (and_false (object == m))
found_in object m n (deeds.Placed (operations.Cond call) reply) = sym (and_false (object == m))
found_in object m n (deeds.Placed (operations.WaitGroup call) reply) = sym (and_false (object == m))
found_in object m n (deeds.Placed operations.Once reply) = sym (and_false (object == m))
found_in object m n (deeds.Placed operations.OnceFunc reply) = sym (and_false (object == m))
found_in object m n (deeds.Placed operations.OnceValue reply) = sym (and_false (object == m))
found_in object m n (deeds.Placed (operations.Sema call) reply) = sym (and_false (object == m))
found_in object m n (deeds.Placed (operations.Fly key) reply) = sym (and_false (object == m))
found_in object m n (deeds.Placed (operations.Pool call) reply) = sym (and_false (object == m))
found_in object m n (deeds.Placed (operations.Var call) reply) = sym (and_false (object == m))
found_in object m n (deeds.Placed (operations.Composed call) reply) = sym (and_false (object == m))

at_same : (a b : ℕ) (f : ℕ → Bool) → ((a == b) && f a) ≡ ((a == b) && f b)
at_same a b f = by (a == b) refl
  where
    by : (same : Bool) → (a == b) ≡ same → (same && f a) ≡ (same && f b)
    by true is = ap f (eqb-true a b is)
    by false is = refl

and_assoc : (a b c : Bool) → ((a && b) && c) ≡ (a && (b && c))
and_assoc true b c = refl
and_assoc false b c = refl

starts_none : (started : Option ℕ) → option_map_or (λ worker. false) started false ≡ false
starts_none None = refl
starts_none (Some worker) = refl

module _ (plan : Plan) (earlier : List Item) (item : Item) (old : Seen) (seen : IsSeen plan earlier old) (list : List Channel) where
  abbrev puts : NumberedPool
  puts = pool_at plan old.pools item.object

  abbrev contents : Named
  contents = map_at old.maps item.object

  module _ (call : Option Call) where
    abbrev first : Bool
    first = not (is_some (at old.callers item.caller))

    abbrev so : (c : all.Channel) → Bool
    so c = takes_so c item.object item.deed (if_so first (channels.Start item.caller) list) item.caller call

    total : (c : all.Channel) → are_for c (taken_with plan item call old list) ≡ (are_for c (pool_taken item puts) || (are_for c (placed_taken item.object item.deed) || so c))
    total c = behind c _ (pool_taken item puts) ∙ more_or (are_for c (pool_taken item puts)) _ _
        (behind c _ (placed_taken item.object item.deed) ∙ more_or (are_for c (placed_taken item.object item.deed)) _ _ (plain_takes c item.object item.deed (if_so first (channels.Start item.caller) list) item.caller call))

    parts : (c : all.Channel) (p q : Bool) → are_for c (pool_taken item puts) ≡ p → are_for c (placed_taken item.object item.deed) ≡ q → are_for c (taken_with plan item call old list) ≡ (p || (q || so c))
    parts c p q first second = total c ∙ ap (λ b. b || (are_for c (placed_taken item.object item.deed) || so c)) first ∙ ap (λ b. p || (b || so c)) second

    begun : (c : all.Channel) → are_for c (if_so first (channels.Start item.caller) list) ≡ ((is_for c (channels.Start item.caller) && first) || are_for c list)
    begun c = if_for c first (channels.Start item.caller) list

    takes_is : (c : all.Channel) → are_for c (taken_with plan item call old list) ≡ (all.takes plan earlier item call c || are_for c list)
    takes_is (all.MutexUnlock m) = parts (all.MutexUnlock m) false false (off_taken (all.MutexUnlock m) item puts (pool_event item.deed) (λ place number. refl)) (off_placed (all.MutexUnlock m) item.object item.deed (λ place key. refl)) ∙ more_or ((item.object == m) && locks_mutex item.deed) _ _ (begun (all.MutexUnlock m))
    takes_is (all.WriterUnlock m) = parts (all.WriterUnlock m) false false (off_taken (all.WriterUnlock m) item puts (pool_event item.deed) (λ place number. refl)) (off_placed (all.WriterUnlock m) item.object item.deed (λ place key. refl)) ∙ more_or ((item.object == m) && locks_rw_mutex item.deed) _ _ (begun (all.WriterUnlock m))
    takes_is (all.ReaderUnlock m) = parts (all.ReaderUnlock m) false false (off_taken (all.ReaderUnlock m) item puts (pool_event item.deed) (λ place number. refl)) (off_placed (all.ReaderUnlock m) item.object item.deed (λ place key. refl)) ∙ ap (λ b. b || are_for (all.ReaderUnlock m) (if_so first (channels.Start item.caller) list)) (sym (and_assoc (item.object == m) (locks_rw_mutex item.deed) (is_writers_call call))) ∙ more_or (((item.object == m) && locks_rw_mutex item.deed) && is_writers_call call) _ _ (begun (all.ReaderUnlock m))
    takes_is (all.Notice m n) = parts (all.Notice m n) false false (off_taken (all.Notice m n) item puts (pool_event item.deed) (λ place number. refl)) (off_placed (all.Notice m n) item.object item.deed (λ place key. refl)) ∙ more_or (((item.object == m) && (item.caller == n)) && leaves_cond item.deed) _ _ (begun (all.Notice m n))
    takes_is (all.Lowering m) = parts (all.Lowering m) false false (off_taken (all.Lowering m) item puts (pool_event item.deed) (λ place number. refl)) (off_placed (all.Lowering m) item.object item.deed (λ place key. refl)) ∙ more_or ((item.object == m) && passes_count item.deed) _ _ (begun (all.Lowering m))
    takes_is (all.FunctionEnd m) = parts (all.FunctionEnd m) false false (off_taken (all.FunctionEnd m) item puts (pool_event item.deed) (λ place number. refl)) (off_placed (all.FunctionEnd m) item.object item.deed (λ place key. refl)) ∙ more_or ((item.object == m) && knows_function item.deed) _ _ (begun (all.FunctionEnd m))
    takes_is (all.PutItem m n) = parts (all.PutItem m n) ((item.object == m) && run.takes_put n (run.pool_behind plan m earlier) item.caller item.deed) false (taken_put item.object item.caller m n puts item.deed ∙ ap (λ puts. (item.object == m) && run.takes_put n puts item.caller item.deed) (seen.pools item.object) ∙ at_same item.object m (λ x. run.takes_put n (run.pool_behind plan x earlier) item.caller item.deed)) (off_placed (all.PutItem m n) item.object item.deed (λ place key. refl)) ∙ more_or ((item.object == m) && run.takes_put n (run.pool_behind plan m earlier) item.caller item.deed) _ _ (begun (all.PutItem m n))
    takes_is (all.Start m) = parts (all.Start m) false false (off_taken (all.Start m) item puts (pool_event item.deed) (λ place number. refl)) (off_placed (all.Start m) item.object item.deed (λ place key. refl)) ∙ begun (all.Start m) ∙ ap (λ b. b || are_for (all.Start m) list) (at_same item.caller m (λ x. not (is_some (at old.callers x))) ∙ ap (λ b. (item.caller == m) && not b) (seen.callers m))
    takes_is (all.Atomic m) = parts (all.Atomic m) false false (off_taken (all.Atomic m) item puts (pool_event item.deed) (λ place number. refl)) (off_placed (all.Atomic m) item.object item.deed (λ place key. refl)) ∙ more_or ((item.object == m) && finds_atomic item.deed) _ _ (begun (all.Atomic m))
    takes_is (all.MapKey m n) = parts (all.MapKey m n) false ((item.object == m) && finds_in_map n item.deed) (off_taken (all.MapKey m n) item puts (pool_event item.deed) (λ place number. refl)) (found_in item.object m n item.deed) ∙ more_or ((item.object == m) && finds_in_map n item.deed) _ _ (begun (all.MapKey m n))

  given_total : (c : all.Channel) (p q r : Bool) → are_for c (map_given item contents) ≡ p → are_for c (pool_given item puts) ≡ q → are_for c (cond_given plan.workers item (cond_at plan.workers old.conds item.object)) ≡ r
      → are_for c (given_with plan item old list) ≡ (p || (q || (r || gives_so c item.object item.deed list)))
  given_total c p q r first second third =
      let plain = plain_given item.object item.deed list in
      let told = cond_given plan.workers item (cond_at plan.workers old.conds item.object) in
      let put = pool_given item puts in
      behind c ((plain ++ told) ++ put) (map_given item contents) ∙ ap (λ b. b || are_for c ((plain ++ told) ++ put)) first ∙ more_or p _ _
      (behind c (plain ++ told) put ∙ ap (λ b. b || are_for c (plain ++ told)) second ∙ more_or q _ _
      (behind c plain told ∙ ap (λ b. b || are_for c plain) third ∙ more_or r _ _ (plain_gives c item.object item.deed list)))

  module _ (notices_so : (m n : ℕ) → are_for (all.Notice m n) (cond_given plan.workers item (cond_at plan.workers old.conds item.object)) ≡ run.notifies plan m n earlier item) where
    gives_is : (c : all.Channel) → are_for c (given_with plan item old list) ≡ (all.gives plan earlier item c || are_for c list)
    gives_is (all.MutexUnlock m) = given_total (all.MutexUnlock m) false false false (off_map (all.MutexUnlock m) item.object item.deed contents (λ place key. refl) (λ place. refl)) (off_given (all.MutexUnlock m) item puts (pool_event item.deed) (λ place number. refl)) (off_cond (all.MutexUnlock m) plan.workers item (cond_at plan.workers old.conds item.object) (cond_event item.deed) (λ worker. refl)) ∙ ap (λ b. b || (((item.object == m) && unlocks_mutex item.deed) || are_for (all.MutexUnlock m) list)) (starts_none (started_by item.deed))
    gives_is (all.WriterUnlock m) = given_total (all.WriterUnlock m) false false false (off_map (all.WriterUnlock m) item.object item.deed contents (λ place key. refl) (λ place. refl)) (off_given (all.WriterUnlock m) item puts (pool_event item.deed) (λ place number. refl)) (off_cond (all.WriterUnlock m) plan.workers item (cond_at plan.workers old.conds item.object) (cond_event item.deed) (λ worker. refl)) ∙ ap (λ b. b || (((item.object == m) && unlocks_as_writer item.deed) || are_for (all.WriterUnlock m) list)) (starts_none (started_by item.deed))
    gives_is (all.ReaderUnlock m) = given_total (all.ReaderUnlock m) false false false (off_map (all.ReaderUnlock m) item.object item.deed contents (λ place key. refl) (λ place. refl)) (off_given (all.ReaderUnlock m) item puts (pool_event item.deed) (λ place number. refl)) (off_cond (all.ReaderUnlock m) plan.workers item (cond_at plan.workers old.conds item.object) (cond_event item.deed) (λ worker. refl)) ∙ ap (λ b. b || (((item.object == m) && unlocks_as_reader item.deed) || are_for (all.ReaderUnlock m) list)) (starts_none (started_by item.deed))
    gives_is (all.Notice m n) = given_total (all.Notice m n) false false (run.notifies plan m n earlier item) (off_map (all.Notice m n) item.object item.deed contents (λ place key. refl) (λ place. refl)) (off_given (all.Notice m n) item puts (pool_event item.deed) (λ place number. refl)) (notices_so m n) ∙ more_or (run.notifies plan m n earlier item) _ _ (ap (λ b. b || are_for (all.Notice m n) list) (starts_none (started_by item.deed)))
    gives_is (all.Lowering m) = given_total (all.Lowering m) false false false (off_map (all.Lowering m) item.object item.deed contents (λ place key. refl) (λ place. refl)) (off_given (all.Lowering m) item puts (pool_event item.deed) (λ place number. refl)) (off_cond (all.Lowering m) plan.workers item (cond_at plan.workers old.conds item.object) (cond_event item.deed) (λ worker. refl)) ∙ ap (λ b. b || (((item.object == m) && lowers_count item.deed) || are_for (all.Lowering m) list)) (starts_none (started_by item.deed))
    gives_is (all.FunctionEnd m) = given_total (all.FunctionEnd m) false false false (off_map (all.FunctionEnd m) item.object item.deed contents (λ place key. refl) (λ place. refl)) (off_given (all.FunctionEnd m) item puts (pool_event item.deed) (λ place number. refl)) (off_cond (all.FunctionEnd m) plan.workers item (cond_at plan.workers old.conds item.object) (cond_event item.deed) (λ worker. refl)) ∙ ap (λ b. b || (((item.object == m) && ends_function item.deed) || are_for (all.FunctionEnd m) list)) (starts_none (started_by item.deed))
    gives_is (all.PutItem m n) = given_total (all.PutItem m n) false ((item.object == m) && run.is_kept_put n (run.pool_behind plan m earlier) item.deed) false (off_map (all.PutItem m n) item.object item.deed contents (λ place key. refl) (λ place. refl)) (kept_put item.object m n puts item.deed ∙ ap (λ puts. (item.object == m) && run.is_kept_put n puts item.deed) (seen.pools item.object) ∙ at_same item.object m (λ x. run.is_kept_put n (run.pool_behind plan x earlier) item.deed)) (off_cond (all.PutItem m n) plan.workers item (cond_at plan.workers old.conds item.object) (cond_event item.deed) (λ worker. refl)) ∙ more_or ((item.object == m) && run.is_kept_put n (run.pool_behind plan m earlier) item.deed) _ _ (ap (λ b. b || are_for (all.PutItem m n) list) (starts_none (started_by item.deed)))
    gives_is (all.Start m) = given_total (all.Start m) false false false (off_map (all.Start m) item.object item.deed contents (λ place key. refl) (λ place. refl)) (off_given (all.Start m) item puts (pool_event item.deed) (λ place number. refl)) (off_cond (all.Start m) plan.workers item (cond_at plan.workers old.conds item.object) (cond_event item.deed) (λ worker. refl)) ∙ ap (λ b. b || are_for (all.Start m) list) (started_so m item.deed)
    gives_is (all.Atomic m) = given_total (all.Atomic m) false false false (off_map (all.Atomic m) item.object item.deed contents (λ place key. refl) (λ place. refl)) (off_given (all.Atomic m) item puts (pool_event item.deed) (λ place number. refl)) (off_cond (all.Atomic m) plan.workers item (cond_at plan.workers old.conds item.object) (cond_event item.deed) (λ worker. refl)) ∙ ap (λ b. b || (((item.object == m) && enters_atomic item.deed) || are_for (all.Atomic m) list)) (starts_none (started_by item.deed))
    gives_is (all.MapKey m n) = given_total (all.MapKey m n) ((item.object == m) && run.enters_key n (run.map_behind m earlier) item.deed) false false (entered_key item.object m n contents item.deed ∙ ap (λ contents. (item.object == m) && run.enters_key n contents item.deed) (seen.maps item.object) ∙ at_same item.object m (λ x. run.enters_key n (run.map_behind x earlier) item.deed)) (off_given (all.MapKey m n) item puts (pool_event item.deed) (λ place number. refl)) (off_cond (all.MapKey m n) plan.workers item (cond_at plan.workers old.conds item.object) (cond_event item.deed) (λ worker. refl)) ∙ more_or ((item.object == m) && run.enters_key n (run.map_behind m earlier) item.deed) _ _ (ap (λ b. b || are_for (all.MapKey m n) list) (starts_none (started_by item.deed)))

-- ---- the items of a turn

module _ (test : List Item → Item → Bool) where
  some_more : (earlier items : List Item) (item : Item) → all.some_item test earlier (items ++ item ∷ []) ≡ (all.some_item test earlier items || test (earlier ++ items) item)
  some_more earlier [] item = or_false (test earlier item) ∙ ap (λ before. test before item) (sym (append-nil earlier))
  some_more earlier (other ∷ items) item =
      ap (λ b. test earlier other || b) (some_more (earlier ++ other ∷ []) items item ∙ ap (λ before. all.some_item test (earlier ++ other ∷ []) items || test before item) (append_assoc earlier (other ∷ []) items))
      ∙ sym (or_assoc (test earlier other) (all.some_item test (earlier ++ other ∷ []) items) (test (earlier ++ other ∷ items) item))
    where
      or_assoc : (a b c : Bool) → ((a || b) || c) ≡ (a || (b || c))
      or_assoc true b c = refl
      or_assoc false b c = refl

module _ (plan : Plan) (earlier items : List Item) (item : Item) (call : Option Call) (old new : Seen) (before after : Passing) (so_far : IsTold plan earlier items call old before) (passed : IsPassed plan item call old before new after) where
  pub told_more : ((m n : ℕ) → are_for (all.Notice m n) (cond_given plan.workers item (cond_at plan.workers old.conds item.object)) ≡ run.notifies plan m n (earlier ++ items) item) → IsTold plan earlier (items ++ item ∷ []) call new after
  told_more notices_so = record {
    comes = subst (λ all. IsSeen plan all new) (append_assoc earlier items (item ∷ [])) (seen_more plan (earlier ++ items) item call old new before after so_far.comes passed);
    keyed = ap (λ list. list_any is_each list) passed.takes ∙ keyed_more plan item call old before.takes ∙ so_far.keyed;
    takes = λ c.
        ap (are_for c) passed.takes ∙ takes_is plan (earlier ++ items) item old so_far.comes before.takes call c
        ∙ swap_or (all.takes plan (earlier ++ items) item call c) (are_for c before.takes)
        ∙ ap (λ b. b || all.takes plan (earlier ++ items) item call c) (so_far.takes c)
        ∙ sym (some_more (λ before item. all.takes plan before item call c) earlier items item);
    gives = λ c.
        ap (are_for c) passed.gives ∙ gives_is plan (earlier ++ items) item old so_far.comes before.gives notices_so c
        ∙ swap_or (all.gives plan (earlier ++ items) item c) (are_for c before.gives)
        ∙ ap (λ b. b || all.gives plan (earlier ++ items) item c) (so_far.gives c)
        ∙ sym (some_more (λ before item. all.gives plan before item c) earlier items item);
  }

pub told_none : (plan : Plan) (call : Option Call) (seen : Seen) (passing : Passing) → passing.takes ≡ [] → passing.gives ≡ [] → AreTold plan [] call seen seen passing
told_none plan call seen passing takes gives earlier comes = record {
  comes = subst (λ all. IsSeen plan all seen) (sym (append-nil earlier)) comes;
  keyed = ap (λ list. list_any is_each list) takes;
  takes = λ c. ap (are_for c) takes;
  gives = λ c. ap (are_for c) gives;
}
