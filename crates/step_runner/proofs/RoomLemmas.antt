-- Each turn leaves a pool room for the puts that are left to make on it.
use Rattle.std.proofs.Common.{◌≡◌, ℕ, zero, suc, ◌+◌, ◌-◌, ◌*◌, ◌<◌, ◌≤◌, Bool, true, false, cond, eqb, ◌&&◌, List, [], ◌∷◌, map, length, set, replicate, Option, Some, None, refl, sym, ap, ◌∙◌, subst, arith}
use Rattle.std.specs.Prelude.{ℤ, nat_lt, slice_get}
use Rattle.std.specs.List.{range_with_len}
use Rattle.std.specs.Option.{option_map}
use Rattle.std.proofs.lemmas.Bool.{eq-eqb, lt-ltb}
use Rattle.std.proofs.lemmas.List.{length-take}
use Rattle.sync_types.specs.declared.atomic_object.Number.{Number}
use Rattle.sync_types.specs.declared.atomic_object.Number.TheVariants.{Int64}
use Rattle.script_calls.specs.declared.call.Call.{Call}
use Rattle.script_calls.specs.declared.call.ComposedCall.TheVariants.{IfEqual}
use Rattle.script_calls.specs.declared.call.Operation.{Operation}
use Rattle.script_calls.specs.declared.call.Operation.TheVariants as operations
use Rattle.sync_types.specs.declared.pool_call.PoolCall.TheVariants as pool_calls
use Rattle.wait_cores.specs.OnceMachine as once
use Rattle.pool_core.specs.Looks.{look}
use Rattle.pool_core.specs.PoolMachine as pool
use Rattle.pool_core.specs.PoolParts.{PoolPart, empty, emptied, put_beside, put_in, head_of, tail_of, take_tail, private_or, take_own, take_victim}
use Rattle.pool_core.specs.declared.pool_event.PoolEvent.{PoolEvent}
use Rattle.pool_core.specs.declared.pool_event.PoolEvent.TheVariants as event
use Rattle.pool_core.specs.declared.pool_event.PoolReply.{PoolReply}
use Rattle.pool_core.specs.declared.pool_event.PoolReply.TheVariants as pool_reply
use Rattle.protocols.specs.PoolStages.{pool_event}
use Rattle.workload.specs.Puts.{is_put}
use Rattle.workload.specs.declared.object.ObjectKind.{ObjectKind}
use Rattle.workload.specs.declared.object.ObjectKind.TheVariants as kinds
use Rattle.run_record.specs.PoolKind.{stage_of}
use Rattle.flight_core.specs.FlightMachine.{FlightState}
use Rattle.step_runner.specs.declared.turns.answer.Answer.{Answer}
use Rattle.step_runner.specs.declared.turns.answer.Answer.TheVariants as answers
use Rattle.step_runner.specs.declared.turns.object_state.ObjectState.{ObjectState}
use Rattle.step_runner.specs.declared.turns.object_state.ObjectState.TheVariants as states
use Rattle.step_runner.specs.Objects.{new_object, EachAt}
use Rattle.step_runner.specs.PoolRoom.{put_of, HavePartsRoom, HasPoolRoom, HasRoomFor, left_behind}
use Rattle.step_runner.specs.PoolTurn.{PoolStep, pool_made, looked, found_or, found_by, pool_step}
use Rattle.step_runner.specs.TurnAtObjects.{turn_on, turn_on_both, turn_at}
use Rattle.step_runner.proofs.AtObjects.{each_set, at_any}

-- ---- a part, and an event of the pool

-- the part has room for so many more
abbrev PartFits : ℕ → PoolPart ℕ → Type 0
PartFits left part = length part.shared + left ≤ part.room

parts_less : (left more : ℕ) (parts : List (PoolPart ℕ)) → left ≤ more → HavePartsRoom more parts → HavePartsRoom left parts
parts_less left more parts less fit k part is = omega (arith, less, fit k part is)

pool_less : (left more : ℕ) (p : pool.PoolState ℕ) → left ≤ more → HasPoolRoom more p → HasPoolRoom left p
pool_less left more p less fit = record { primary = parts_less left more p.primary less fit.primary; victims = parts_less left more p.victims less fit.victims }

parts_set : (left : ℕ) (parts : List (PoolPart ℕ)) (i : ℕ) (next : PoolPart ℕ) → HavePartsRoom left parts → PartFits left next → HavePartsRoom left (set parts i next)
parts_set left [] i next fit is k part there = absurd cc
parts_set left (first ∷ parts) zero next fit is zero part there = let same : next ≡ part = cc in subst (PartFits left) same is
parts_set left (first ∷ parts) zero next fit is (suc k) part there = fit (suc k) part there
parts_set left (first ∷ parts) (suc i) next fit is zero part there = fit zero part there
parts_set left (first ∷ parts) (suc i) next fit is (suc k) part there = parts_set left parts i next (λ j. fit (suc j)) is k part there

put_if_fits : (left : ℕ) (b : Bool) (part : PoolPart ℕ) (item : ℕ) → PartFits (left + 1) part
    → PartFits left (cond {A = PoolPart ℕ × PoolReply ℕ} b (record part { shared = item ∷ part.shared }, pool_reply.Kept) (part, pool_reply.Dropped item)).0
put_if_fits left true part item fit = omega (arith, fit)
put_if_fits left false part item fit = omega (arith, fit)

put_fits : (left : ℕ) (private : Option ℕ) (part : PoolPart ℕ) (item : ℕ) → PartFits (left + 1) part → PartFits left (put_beside private part item).0
put_fits left None part item fit = omega (arith, fit)
put_fits left (Some private) part item fit = put_if_fits left (nat_lt (length part.shared) part.room) part item fit

head_fits : (left : ℕ) (shared : List ℕ) (part : PoolPart ℕ) → length shared ≤ length part.shared → PartFits left part → PartFits left (head_of shared part).0
head_fits left [] part short fit = fit
head_fits left (item ∷ rest) part short fit = omega (arith, short, fit)

tail_fits : (left : ℕ) (o : Option ℕ) (part : PoolPart ℕ) → PartFits left part → PartFits left (tail_of o part).0
tail_fits left None part fit = fit
tail_fits left (Some item) part fit = omega (arith, length-take (length part.shared - 1) part.shared, fit)

own_fits : (left : ℕ) (private : Option ℕ) (other : PoolPart ℕ → PoolPart ℕ × PoolReply ℕ) (part : PoolPart ℕ) → PartFits left part → PartFits left (other part).0 → PartFits left (private_or private other part).0
own_fits left None other part fit rest = rest
own_fits left (Some item) other part fit rest = fit

-- what changes one part
primary_fits : (left more : ℕ) (p : pool.PoolState ℕ) (i : ℕ) (f : PoolPart ℕ → PoolPart ℕ × PoolReply ℕ) (o : Option (PoolPart ℕ)) → slice_get p.primary i ≡ o → left ≤ more
    → ((part : PoolPart ℕ) → PartFits more part → PartFits left (f part).0) → HasPoolRoom more p → HasPoolRoom left (pool.with_primary (option_map f o) p i).0
primary_fits left more p i f None is less each fit = pool_less left more p less fit
primary_fits left more p i f (Some part) is less each fit =
    let fewer = pool_less left more p less fit in
    record { primary = parts_set left p.primary i (f part).0 fewer.primary (each part (fit.primary i part is)); victims = fewer.victims }

victims_fit : (left : ℕ) (p : pool.PoolState ℕ) (i : ℕ) (f : PoolPart ℕ → PoolPart ℕ × PoolReply ℕ) (o : Option (PoolPart ℕ)) → slice_get p.victims i ≡ o
    → ((part : PoolPart ℕ) → PartFits left part → PartFits left (f part).0) → HasPoolRoom left p → HasPoolRoom left (pool.with_victims (option_map f o) p i).0
victims_fit left p i f None is each fit = fit
victims_fit left p i f (Some part) is each fit = record { primary = fit.primary; victims = parts_set left p.victims i (f part).0 fit.victims (each part (fit.victims i part is)) }

swept_fit : (left : ℕ) (parts : List (PoolPart ℕ)) → HavePartsRoom left parts → HavePartsRoom left (map emptied parts)
swept_fit left [] fit k part is = absurd cc
swept_fit left (first ∷ parts) fit zero part is =
    let same : emptied first ≡ part = cc in
    let room : PartFits left first = fit zero first refl in
    subst (PartFits left) same (omega (arith, room))
swept_fit left (first ∷ parts) fit (suc k) part is = swept_fit left parts (λ j. fit (suc j)) k part is

-- 1 for a put
abbrev cost : PoolEvent ℕ → ℕ
cost (event.Put item) = 1
cost event.LookOwn = 0
cost (event.LookOther part) = 0
cost (event.LookVictim part) = 0
cost event.Sweep = 0

victim_fits : (left : ℕ) (b : Bool) (part : PoolPart ℕ) → PartFits left part → PartFits left ((cond b take_victim take_tail) part).0
victim_fits left true part fit = own_fits left part.private take_tail part fit (tail_fits left (slice_get part.shared (length part.shared - 1)) part fit)
victim_fits left false part fit = tail_fits left (slice_get part.shared (length part.shared - 1)) part fit

made_fits : (left : ℕ) (p : pool.PoolState ℕ) (caller : ℕ) (e : PoolEvent ℕ) → HasPoolRoom (left + cost e) p → HasPoolRoom left (pool.made p caller e).0
made_fits left p caller (event.Put item) fit =
    primary_fits left (left + 1) p caller (λ own. put_in own item) (slice_get p.primary caller) refl (omega arith) (λ part fits. put_fits left part.private part item fits) fit
made_fits left p caller event.LookOwn fit =
    primary_fits left (left + 0) p caller take_own (slice_get p.primary caller) refl (omega arith)
    (λ part fits. let has : PartFits left part = omega (arith, fits) in own_fits left part.private (λ q. head_of q.shared q) part has (head_fits left part.shared part (omega arith) has)) fit
made_fits left p caller (event.LookOther i) fit =
    primary_fits left (left + 0) p i take_tail (slice_get p.primary i) refl (omega arith)
    (λ part fits. tail_fits left (slice_get part.shared (length part.shared - 1)) part (omega (arith, fits))) fit
made_fits left p caller (event.LookVictim i) fit =
    victims_fit left p i (cond (eqb i caller) take_victim take_tail) (slice_get p.victims i) refl (victim_fits left (eqb i caller)) (pool_less left (left + 0) p (omega arith) fit)
made_fits left p caller event.Sweep fit =
    let fewer = pool_less left (left + 0) p (omega arith) fit in
    record { primary = swept_fit left p.victims fewer.victims; victims = fewer.primary }

next_if_fits : (left : ℕ) (b : Bool) (p : pool.PoolState ℕ) (caller : ℕ) (e : PoolEvent ℕ) → HasPoolRoom (left + cost e) p → HasPoolRoom left (cond {A = pool.PoolState ℕ × PoolReply ℕ} b (pool.made p caller e) (p, pool_reply.Still)).0
next_if_fits left true p caller e fit = made_fits left p caller e fit
next_if_fits left false p caller e fit = pool_less left (left + cost e) p (omega arith) fit

next_fits : (left : ℕ) (p : pool.PoolState ℕ) (caller : ℕ) (e : PoolEvent ℕ) → HasPoolRoom (left + cost e) p → HasPoolRoom left (pool.next p caller e).0
next_fits left p caller e fit = next_if_fits left (nat_lt caller (pool.callers_of p)) p caller e fit

-- ---- a call of the pool

look_if_costs : (b : Bool) (i : ℕ) → cost (cond b (event.LookOther i) (event.LookVictim i)) ≡ 0
look_if_costs true i = refl
look_if_costs false i = refl

look_costs : (workers worker n : ℕ) → cost (look workers worker n) ≡ 0
look_costs workers worker zero = refl
look_costs workers worker (suc k) = look_if_costs (nat_lt (suc k) workers) _

-- the event of an event's stage is that event
event_back : (e : PoolEvent ℕ) (now : ℕ) → pool_event (stage_of e) now ≡ e
event_back (event.Put item) now = refl
event_back event.LookOwn now = refl
event_back (event.LookOther i) now = refl
event_back (event.LookVictim i) now = refl
event_back event.Sweep now = refl

look_fits : (left workers worker moment n : ℕ) (p : pool.PoolState ℕ) → HasPoolRoom left p → HasPoolRoom left (pool_made worker moment (stage_of (look workers worker n)) p).0
look_fits left workers worker moment n p fit =
    subst (λ (e : PoolEvent ℕ). HasPoolRoom left (pool.next p worker e).0) (sym (event_back (look workers worker n) moment))
    (next_fits left p worker (look workers worker n) (pool_less (left + cost (look workers worker n)) left p (omega (arith, look_costs workers worker n)) fit))

found_or_fits : (left : ℕ) (step : pool.PoolState ℕ × Option ℕ) (rest : pool.PoolState ℕ → PoolStep) → HasPoolRoom left step.0 → ((p : pool.PoolState ℕ) → HasPoolRoom left p → HasPoolRoom left (rest p).0) → HasPoolRoom left (found_or step rest).0
found_or_fits left (p, Some item) rest fit later = fit
found_or_fits left (p, None) rest fit later = later p fit

found_fits : (left workers worker moment : ℕ) (numbers : List ℕ) (p : pool.PoolState ℕ) → HasPoolRoom left p → HasPoolRoom left (found_by worker moment (map (λ number. stage_of (look workers worker number)) numbers) p).0
found_fits left workers worker moment [] p fit = fit
found_fits left workers worker moment (n ∷ numbers) p fit =
    found_or_fits left (looked worker moment (stage_of (look workers worker n)) p) (found_by worker moment (map (λ number. stage_of (look workers worker number)) numbers))
    (look_fits left workers worker moment n p fit) (found_fits left workers worker moment numbers)

get_fits : (left worker moment : ℕ) (p : pool.PoolState ℕ) → HasPoolRoom left p → HasPoolRoom left (pool_step worker moment pool_calls.Get p).0
get_fits left worker moment p fit = found_fits left (pool.callers_of p) worker moment (range_with_len 0 (2 * pool.callers_of p)) p fit

-- ---- an object

object_less : (left more : ℕ) (o : ObjectState) → left ≤ more → HasRoomFor more o → HasRoomFor left o
object_less left more (states.Pool p) less fit = pool_less left more p less fit
object_less left more o less fit = fit

rest_less : (a : Answer) (one left : ℕ) → left_behind a one left ≤ left
rest_less answers.Still one left = omega arith
rest_less answers.Unfinished one left = omega arith
rest_less (answers.Completed reply) one left = omega arith
rest_less (answers.Misused misuse) one left = omega arith

abbrev StepFits : ℕ → ℕ → ObjectState × Answer → Type 0
StepFits one left step = HasRoomFor (left_behind step.1 one left) step.0

-- a turn after which the object has as much room as before
settled_fits : (one left : ℕ) (step : ObjectState × Answer) → HasRoomFor left step.0 → StepFits one left step
settled_fits one left step fit = object_less (left_behind step.1 one left) left step.0 (rest_less step.1 one left) fit

-- a put at its own place counts
own_put : (call : Call) → is_put call.operation ≡ true → put_of call.object call ≡ 1
own_put call is = ap (λ b. cond (b && is_put call.operation) 1 0) (eq-eqb call.object call.object refl) ∙ ap (λ b. cond b 1 0) is

turn_on_fits : (one left : ℕ) (operation : Operation) (worker moment : ℕ) (o : ObjectState) → (is_put operation ≡ true → one ≡ 1) → one ≤ left → HasRoomFor left o → StepFits one left (turn_on operation worker moment o)
turn_on_fits one left (operations.Pool (pool_calls.Put item)) worker moment (states.Pool p) is some fit = next_fits (left - one) p worker (event.Put item) (pool_less (left - one + 1) left p (omega (arith, is refl, some)) fit)
turn_on_fits one left (operations.Pool pool_calls.Get) worker moment (states.Pool p) is some fit =
    settled_fits one left (turn_on (operations.Pool pool_calls.Get) worker moment (states.Pool p)) (get_fits left worker moment p fit)
turn_on_fits one left (operations.Pool pool_calls.Sweep) worker moment (states.Pool p) is some fit =
    settled_fits one left (turn_on (operations.Pool pool_calls.Sweep) worker moment (states.Pool p)) (next_fits left p worker event.Sweep (pool_less (left + 0) left p (omega arith) fit))
turn_on_fits one left (operations.Map call) worker moment (states.Map m) is some fit = tt
turn_on_fits one left operations.Range worker moment (states.Map m) is some fit = tt
turn_on_fits one left (operations.Atomic call) worker moment (states.Atomic number) is some fit = tt
turn_on_fits one left (operations.Composed (IfEqual value passes)) worker moment (states.Atomic number) is some fit = tt
turn_on_fits one left (operations.Mutex call) worker moment (states.Mutex m) is some fit = tt
turn_on_fits one left (operations.RwMutex call) worker moment (states.RwMutex m) is some fit = tt
turn_on_fits one left (operations.WaitGroup call) worker moment (states.WaitGroup g first) is some fit = tt
turn_on_fits one left (operations.Sema call) worker moment (states.Sema s size) is some fit = tt
turn_on_fits one left operations.OnceFunc worker moment (states.OnceFunc o code) is some fit = tt
turn_on_fits one left operations.OnceValue worker moment (states.OnceValue o value) is some fit = tt
turn_on_fits one left (operations.Var call) worker moment (states.Var held) is some fit = tt
turn_on_fits one left operation worker moment o is some fit = fit

-- ---- an object and the one to which it refers

abbrev BothFit : ℕ → ℕ → ObjectState × ObjectState → Type 0
BothFit left there new = HasRoomFor left new.0 × HasRoomFor there new.1

sum_fits : (left there worker moment : ℕ) (o : once.OnceState ℤ) (place : ℕ) (delta : ℤ) (number : Number) → BothFit left there (turn_on_both operations.Once worker moment (states.Once o place delta) (states.Atomic number)).0
sum_fits left there worker moment o place delta (Int64 held) = (tt, tt)
sum_fits left there worker moment o place delta number = (tt, tt)

fly_fits : (left there : ℕ) (key : List ℕ) (worker moment : ℕ) (f : FlightState) (keys : List (List ℕ)) (place : ℕ) (delta : ℤ) (number : Number) → BothFit left there (turn_on_both (operations.Fly key) worker moment (states.Flight f keys place delta) (states.Atomic number)).0
fly_fits left there key worker moment f keys place delta (Int64 held) = (tt, tt)
fly_fits left there key worker moment f keys place delta number = (tt, tt)

both_fit : (left there : ℕ) (operation : Operation) (worker moment : ℕ) (o target : ObjectState) → HasRoomFor left o → HasRoomFor there target → BothFit left there (turn_on_both operation worker moment o target).0
both_fit left there (operations.Cond call) worker moment (states.Cond c place) (states.Mutex m) fit also = (tt, tt)
both_fit left there operations.Once worker moment (states.Once o place delta) (states.Atomic number) fit also = sum_fits left there worker moment o place delta number
both_fit left there (operations.Fly key) worker moment (states.Flight f keys place delta) (states.Atomic number) fit also = fly_fits left there key worker moment f keys place delta number
both_fit left there operation worker moment o target fit also = (fit, also)

-- ---- all objects

-- behind a turn and its answer
abbrev rest_at : Call → (ℕ → ℕ) → Answer → ℕ → ℕ
rest_at call left a place = left_behind a (put_of place call) (left place)

abbrev AllFit : (ℕ → ℕ) → List ObjectState → Type 0
AllFit left objects = EachAt (λ place. HasRoomFor (left place)) objects

rest_fits : (left : ℕ → ℕ) (call : Call) (a : Answer) (objects : List ObjectState) → AllFit left objects → AllFit (rest_at call left a) objects
rest_fits left call a objects fit place o at = object_less (rest_at call left a place) (left place) o (rest_less a (put_of place call) (left place)) (fit place o at)

pub at_fits : (left : ℕ → ℕ) (call : Call) (worker moment : ℕ) (objects : List ObjectState) → put_of call.object call ≤ left call.object → AllFit left objects
    → AllFit (rest_at call left (turn_at call worker moment objects).1) (turn_at call worker moment objects).0
at_fits left call worker moment objects some fit = at_any (λ x. AllFit (rest_at call left x.1) x.0) call worker moment objects fit
    (λ object at.
    let step = turn_on call.operation worker moment object in
    each_set (λ place. HasRoomFor (rest_at call left step.1 place)) objects call.object step.0 (rest_fits left call step.1 objects fit)
    (turn_on_fits (put_of call.object call) (left call.object) call.operation worker moment object (own_put call) some (fit call.object object at)))
    (λ object other target at there.
    let step = turn_on_both call.operation worker moment object target in
    let both = both_fit (left call.object) (left other) call.operation worker moment object target (fit call.object object at) (fit other target there) in
    rest_fits left call step.1 (set (set objects call.object step.0.0) other step.0.1)
    (each_set (λ place. HasRoomFor (left place)) (set objects call.object step.0.0) other step.0.1 (each_set (λ place. HasRoomFor (left place)) objects call.object step.0.0 fit both.0) both.1))

new_parts_fit : (room n : ℕ) → HavePartsRoom room (replicate n (empty room))
new_parts_fit room zero k part is = absurd cc
new_parts_fit room (suc n) zero part is = let same : empty room ≡ part = cc in subst (PartFits room) same (omega arith)
new_parts_fit room (suc n) (suc k) part is = new_parts_fit room n k part is

pub new_object_fits : (workers room : ℕ) (keys : List (List ℕ)) (kind : ObjectKind) → HasRoomFor room (new_object workers room keys kind)
new_object_fits workers room keys kinds.Pool = record { primary = new_parts_fit room workers; victims = new_parts_fit room workers }
new_object_fits workers room keys kind = tt

-- ---- a put

kept_beside : (private : Option ℕ) (part : PoolPart ℕ) (item : ℕ) → PartFits 1 part → (put_beside private part item).1 ≡ pool_reply.Kept
kept_beside None part item fit = refl
kept_beside (Some private) part item fit =
    let room : nat_lt (length part.shared) part.room ≡ true = lt-ltb (length part.shared) part.room (omega (arith, fit)) in
    ap (λ b. (cond {A = PoolPart ℕ × PoolReply ℕ} b (record part { shared = item ∷ part.shared }, pool_reply.Kept) (part, pool_reply.Dropped item)).1) room

kept_in : (p : pool.PoolState ℕ) (worker item : ℕ) (o : Option (PoolPart ℕ)) → slice_get p.primary worker ≡ o → worker < length p.primary → HavePartsRoom 1 p.primary
    → (pool.with_primary (option_map (λ own. put_in own item) o) p worker).1 ≡ pool_reply.Kept
kept_in p worker item None is below fit = absurd (no_part p.primary worker below is)
  where
    no_part : (parts : List (PoolPart ℕ)) (k : ℕ) → k < length parts → slice_get parts k ≡ None → ⊥
    no_part [] k here none = omega (arith, here)
    no_part (part ∷ parts) zero here none = cc
    no_part (part ∷ parts) (suc k) here none = no_part parts k (omega (arith, here)) none
kept_in p worker item (Some part) is below fit = kept_beside part.private part item (fit worker part is)

-- a put of a caller for whose part there is room
pub put_is_kept : (worker item left : ℕ) (p : pool.PoolState ℕ) → worker < pool.callers_of p → 1 ≤ left → HasPoolRoom left p → (pool.next p worker (event.Put item)).1 ≡ pool_reply.Kept
put_is_kept worker item left p here some fit =
    ap (λ b. (cond {A = pool.PoolState ℕ × PoolReply ℕ} b (pool.made p worker (event.Put item)) (p, pool_reply.Still)).1) (lt-ltb worker (pool.callers_of p) here)
    ∙ kept_in p worker item (slice_get p.primary worker) refl here (parts_less 1 left p.primary some fit.primary)
