-- No item takes in from each key of a map at once.
use Rattle.std.proofs.Common.{◌≡◌, ℕ, Bool, true, false, not, cond, List, [], ◌∷◌, ◌++◌, Option, Some, None, refl, ap, ◌∙◌}
use Rattle.std.specs.Prelude.{◌&&◌, ◌||◌, is_some}
use Rattle.std.specs.List.{list_any}
use Rattle.std.specs.Option.{option_map_or}
use Rattle.std.proofs.lemmas.List.Folds.{list_any-append}
use Rattle.script_calls.specs.declared.call.Call.{Call}
use Rattle.script_calls.specs.declared.call.Operation.TheVariants as operations
use Rattle.script_calls.specs.declared.call.Reply.TheVariants as replies
use Rattle.pool_core.specs.declared.pool_event.PoolEvent.{PoolEvent}
use Rattle.pool_core.specs.declared.pool_event.PoolReply.{PoolReply}
use Rattle.pool_core.specs.declared.pool_event.PoolReply.TheVariants as pool_replies
use Rattle.workload.specs.Plan.{Plan}
use Rattle.step_runner.specs.declared.turns.item.Deed.{Deed}
use Rattle.step_runner.specs.declared.turns.item.Deed.TheVariants as deeds
use Rattle.step_runner.specs.declared.turns.item.Item.{Item}
use Rattle.race_clocks.specs.Deeds.{locks_mutex, locks_rw_mutex, is_writers_call, leaves_cond, passes_count, knows_function, finds_atomic}
use Rattle.race_clocks.specs.Handing.{is_each, found_key, pool_event, pool_at, put_taken, found_on, pairs_taken}
use Rattle.race_clocks.specs.Passing.{if_so, plain_taken, placed_taken, pool_taken, taken_with}
use Rattle.race_clocks.specs.Places.{at}
use Rattle.race_clocks.specs.Seen.{NumberedPool, pool_step}
use Rattle.race_clocks.specs.declared.channel.Channel.{Channel}
use Rattle.race_clocks.specs.declared.channel.Channel.TheVariants as channels
use Rattle.race_clocks.specs.declared.seen.Seen.{Seen}

abbrev any : List Channel → Bool
any list = list_any is_each list

or_false : (a : Bool) → (a || false) ≡ a
or_false true = refl
or_false false = refl

behind : (list more : List Channel) → any more ≡ false → any (list ++ more) ≡ any list
behind list more isnt = list_any-append is_each list more ∙ ap (λ b. any list || b) isnt ∙ or_false (any list)

one : (b : Bool) (d : Channel) → is_each d ≡ false → any (cond b (d ∷ []) []) ≡ false
one true d isnt = ap (λ b. b || false) isnt
one false d isnt = refl

step : (b : Bool) (d : Channel) (list : List Channel) (rest : Bool) → is_each d ≡ false → any list ≡ rest → any (if_so b d list) ≡ rest
step b d list rest isnt is = behind list (cond b (d ∷ []) []) (one b d isnt) ∙ is

plain : (object caller : ℕ) (deed : Deed) (call : Option Call) (list : List Channel) → any (plain_taken object caller deed call list) ≡ any list
plain object caller deed call list =
    let a = if_so (locks_mutex deed) (channels.MutexUnlock object) list in
    let b = if_so (locks_rw_mutex deed) (channels.WriterUnlock object) a in
    let c = if_so (locks_rw_mutex deed && is_writers_call call) (channels.ReaderUnlock object) b in
    let d = if_so (leaves_cond deed) (channels.Notice object caller) c in
    let e = if_so (passes_count deed) (channels.Lowering object) d in
    let f = if_so (knows_function deed) (channels.FunctionEnd object) e in
    step (finds_atomic deed) (channels.Atomic object) f (any list) refl (step (knows_function deed) (channels.FunctionEnd object) e (any list) refl (step (passes_count deed) (channels.Lowering object) d (any list) refl
    (step (leaves_cond deed) (channels.Notice object caller) c (any list) refl (step (locks_rw_mutex deed && is_writers_call call) (channels.ReaderUnlock object) b (any list) refl
    (step (locks_rw_mutex deed) (channels.WriterUnlock object) a (any list) refl (step (locks_mutex deed) (channels.MutexUnlock object) list (any list) refl refl))))))

found : (map : ℕ) (key : Option (List ℕ)) → any (found_on map key) ≡ false
found map (Some key) = refl
found map None = refl

pairs : (map : ℕ) (list : List (List ℕ × ℕ)) → any (pairs_taken map list) ≡ false
pairs map [] = refl
pairs map (pair ∷ list) = pairs map list

placed : (object : ℕ) (deed : Deed) → any (placed_taken object deed) ≡ false
placed object (deeds.Entered event answer) = refl
placed object (deeds.Placed (operations.Map call) reply) = found object (found_key call)
placed object (deeds.Placed operations.Range (replies.Map value)) = refl
placed object (deeds.Placed operations.Range (replies.Pairs value)) = pairs object value
placed object (deeds.Placed operations.Range (replies.Atomic value)) = refl
placed object (deeds.Placed operations.Range (replies.Lock value)) = refl
placed object (deeds.Placed operations.Range replies.Returned) = refl
placed object (deeds.Placed operations.Range (replies.Once value)) = refl
placed object (deeds.Placed operations.Range (replies.OnceFunc value)) = refl
placed object (deeds.Placed operations.Range (replies.OnceValue value)) = refl
placed object (deeds.Placed operations.Range (replies.Pool value)) = refl
placed object (deeds.Placed operations.Range (replies.Flown value shared)) = refl
placed object (deeds.Placed operations.Range (replies.Var value)) = refl
placed object (deeds.Placed (operations.Atomic call) reply) = refl
placed object (deeds.Placed (operations.Mutex call) reply) = refl
placed object (deeds.Placed (operations.RwMutex call) reply) = refl
placed object (deeds.Placed (operations.Cond call) reply) = refl
placed object (deeds.Placed (operations.WaitGroup call) reply) = refl
placed object (deeds.Placed operations.Once reply) = refl
placed object (deeds.Placed operations.OnceFunc reply) = refl
placed object (deeds.Placed operations.OnceValue reply) = refl
placed object (deeds.Placed (operations.Sema call) reply) = refl
placed object (deeds.Placed (operations.Fly key) reply) = refl
placed object (deeds.Placed (operations.Pool call) reply) = refl
placed object (deeds.Placed (operations.Var call) reply) = refl
placed object (deeds.Placed (operations.Composed call) reply) = refl

answered : (pool : ℕ) (reply : PoolReply ℕ) → any (put_taken pool reply) ≡ false
answered pool (pool_replies.Item number) = refl
answered pool pool_replies.Kept = refl
answered pool (pool_replies.Dropped item) = refl
answered pool pool_replies.Nothing = refl
answered pool pool_replies.Swept = refl
answered pool pool_replies.Still = refl

pooled : (item : Item) (puts : NumberedPool) (event : Option (PoolEvent ℕ)) → any (option_map_or (λ event. put_taken item.object (pool_step puts item.caller event).1) event []) ≡ false
pooled item puts None = refl
pooled item puts (Some event) = answered item.object (pool_step puts item.caller event).1

pub keyed_more : (plan : Plan) (item : Item) (call : Option Call) (seen : Seen) (list : List Channel) → any (taken_with plan item call seen list) ≡ any list
keyed_more plan item call seen list =
    let taken = plain_taken item.object item.caller item.deed call (if_so (not (is_some (at seen.callers item.caller))) (channels.Start item.caller) list) in
    behind (taken ++ placed_taken item.object item.deed) (pool_taken item (pool_at plan seen.pools item.object)) (pooled item (pool_at plan seen.pools item.object) (pool_event item.deed))
    ∙ behind taken (placed_taken item.object item.deed) (placed item.object item.deed)
    ∙ plain item.object item.caller item.deed call (if_so (not (is_some (at seen.callers item.caller))) (channels.Start item.caller) list)
    ∙ step (not (is_some (at seen.callers item.caller))) (channels.Start item.caller) list (any list) refl refl
