-- A pool has room for every put that is left to make on it.
use Rattle.std.proofs.Common.{◌≡◌, ℕ, zero, suc, ◌+◌, ◌-◌, ◌<◌, ◌≤◌, inl, inr, Bool, true, false, cond, ◌&&◌, List, [], ◌∷◌, ◌++◌, length, get_or, set, replicate, Some, None, refl, sym, ap, ◌∙◌, subst, arith}
use Rattle.std.specs.Prelude.{◌==◌, slice_get, count_by}
use Rattle.std.proofs.lemmas.Bool.{eq-eqb}
use Rattle.std.proofs.lemmas.List.Sums.{sum_by-cons}
use Rattle.script_calls.specs.Runs.{passed_over, left_of}
use Rattle.script_calls.specs.declared.call.Call.{Call}
use Rattle.script_calls.specs.declared.call.Operation.TheVariants as operations
use Rattle.script_calls.specs.declared.call.Reply.{Reply}
use Rattle.script_calls.specs.declared.call.Reply.TheVariants as replies
use Rattle.sync_types.specs.declared.pool_call.PoolCall.TheVariants as pool_calls
use Rattle.pool_core.specs.PoolMachine as pool
use Rattle.pool_core.specs.declared.pool_event.PoolEvent.TheVariants as event
use Rattle.pool_core.specs.declared.pool_event.PoolReply.TheVariants as pool_reply
use Rattle.workload.specs.declared.object.ObjectKind.{ObjectKind}
use Rattle.workload.specs.declared.turn.Turn.{Turn}
use Rattle.workload.specs.Plan.{Plan}
use Rattle.workload.specs.Keys.{keys_in}
use Rattle.step_runner.specs.declared.turns.answer.Answer.{Answer}
use Rattle.step_runner.specs.declared.turns.answer.Answer.TheVariants as answers
use Rattle.step_runner.specs.declared.turns.object_state.ObjectState.{ObjectState}
use Rattle.step_runner.specs.declared.turns.object_state.ObjectState.TheVariants as states
use Rattle.step_runner.specs.Objects.{new_object, EachAt}
use Rattle.step_runner.specs.PoolRoom.{put_of, HasRoomFor, left_behind}
use Rattle.step_runner.specs.TurnWithin.{turn_within}
use Rattle.workload.specs.Puts.{is_put_at, puts_at}
use Rattle.step_runner.specs.State.{State, start, with_reply, IsStateOf}
use Rattle.step_runner.specs.Turns.{begun_by, next_call, turn_of, after_items}
use Rattle.step_runner.proofs.NextCalls.{IsOfScript, IsClosing, next_is}
use Rattle.step_runner.proofs.ScriptRuns.{GoesFurther, split_first, none_left, count_behind}
use Rattle.step_runner.proofs.StartLemmas.{each_start}
use Rattle.step_runner.proofs.TurnLemmas.{Takes, is_there, moved, takes_by, turn_cases}
use Rattle.step_runner.proofs.RunLemmas.{GoesOn, Kept, items_keep, moment_valid}

-- what the law of turns says
pub record Rooms : Type 0 where
  pub begins : (workers room : ℕ) (keys : List (List ℕ)) (kind : ObjectKind) → HasRoomFor room (new_object workers room keys kind)
  pub goes_on : (worker moment begun : ℕ) (left : ℕ → ℕ) (call : Call) (objects : List ObjectState) → put_of call.object call ≤ left call.object → EachAt (λ place. HasRoomFor (left place)) objects
      → EachAt (λ place. HasRoomFor (left_behind (turn_within call worker moment begun objects).1 (put_of place call) (left place))) (turn_within call worker moment begun objects).0.0
  pub further : GoesFurther
  pub kept : (worker item left : ℕ) (p : pool.PoolState ℕ) → worker < pool.callers_of p → 1 ≤ left → HasRoomFor left (states.Pool p) → (pool.next p worker (event.Put item)).1 ≡ pool_reply.Kept

-- ---- the puts that are left

-- those of one script, behind these replies
abbrev pub left_in : ℕ → List Call → List (Reply (List ℕ)) → ℕ
left_in place script given = count_by (is_put_at place) (left_of script given)

-- those of all scripts
abbrev pub puts_left : ℕ → List (List Call) → List (List (Reply (List ℕ))) → ℕ
puts_left place [] replies = 0
puts_left place (script ∷ scripts) [] = left_in place script [] + puts_left place scripts []
puts_left place (script ∷ scripts) (given ∷ replies) = left_in place script given + puts_left place scripts replies

left_next : GoesFurther → (place : ℕ) (script : List Call) (given : List (Reply (List ℕ))) (call : Call) (reply : Reply (List ℕ)) → slice_get (left_of script given) 0 ≡ Some call
    → left_in place script (given ++ reply ∷ []) + put_of place call ≤ left_in place script given
left_next further place script given call reply is =
    let left = split_first (left_of script given) call is in
    let behind = ap (λ (l : List Call). count_by (is_put_at place) l) (further.left script given call left.0 reply left.1) in
    let before = ap (λ (l : List Call). count_by (is_put_at place) l) left.1 ∙ sum_by-cons (put_of place) call left.0 in
    omega (arith, behind, before, count_behind (is_put_at place) (passed_over call reply) left.0)

-- one call more is completed
one_put_fewer : GoesFurther → (place : ℕ) (scripts : List (List Call)) (replies : List (List (Reply (List ℕ)))) (worker : ℕ) (call : Call) (reply : Reply (List ℕ)) → worker < length replies
    → slice_get (left_of (get_or scripts worker []) (get_or replies worker [])) 0 ≡ Some call
    → puts_left place scripts (set replies worker (get_or replies worker [] ++ reply ∷ [])) + put_of place call ≤ puts_left place scripts replies
one_put_fewer further place [] replies worker call reply here is = absurd (no_call (ap (λ (l : List Call). slice_get l 0) (sym (none_left (get_or replies worker []))) ∙ is))
  where
    no_call : None ≡ Some call → ⊥
    no_call e = cc
one_put_fewer further place (script ∷ scripts) [] worker call reply here is = absurd (omega (arith, here))
one_put_fewer further place (script ∷ scripts) (given ∷ replies) zero call reply here is = omega (arith, left_next further place script given call reply is)
one_put_fewer further place (script ∷ scripts) (given ∷ replies) (suc worker) call reply here is =
    omega (arith, one_put_fewer further place scripts replies worker call reply (omega (arith, here)) is)

none_made : (place : ℕ) (scripts : List (List Call)) (n : ℕ) → puts_left place scripts (replicate {A = List (Reply (List ℕ))} n []) ≡ puts_at place scripts
none_made place [] n = refl
none_made place (script ∷ scripts) zero = omega (arith, none_made place scripts zero, sum_by-cons (count_by (is_put_at place)) script scripts)
none_made place (script ∷ scripts) (suc n) = omega (arith, none_made place scripts n, sum_by-cons (count_by (is_put_at place)) script scripts)

-- ---- every state

-- room for fewer puts than there is room for
fewer_fit : (more fewer : ℕ) (object : ObjectState) → fewer ≤ more → HasRoomFor more object → HasRoomFor fewer object
fewer_fit more fewer (states.Pool p) less room = record {
  primary = λ k part at. omega (arith, less, room.primary k part at);
  victims = λ k part at. omega (arith, less, room.victims k part at);
}
fewer_fit more fewer object less room = tt

-- each object has room for the puts that are left to make there
abbrev AllFit : (ℕ → ℕ) → List ObjectState → Type 0
AllFit left objects = EachAt (λ place. HasRoomFor (left place)) objects

-- how many puts are left to make at each place
abbrev pub left_at : Plan → State → ℕ → ℕ
left_at plan s place = puts_left place plan.scripts s.replies

pub record HasRoom (plan : Plan) (s : State) : Type 0 where
  pub of : IsStateOf plan s
  pub fits : AllFit (left_at plan s) s.objects

-- the `done` behind a script is no put
no_put : (place worker : ℕ) (given : List (Reply (List ℕ))) (plan : Plan) (call : Call) → IsClosing plan worker given call → put_of place call ≡ 0
no_put place worker given plan call closing = ap (put_of place) closing.is ∙ none_there (closing.group == place)
  where
    none_there : (b : Bool) → cond {A = ℕ} (b && false) 1 0 ≡ 0
    none_there true = refl
    none_there false = refl

-- a put before which a worker stands is left to make
some_left : GoesFurther → (plan : Plan) (worker : ℕ) (s : State) (call : Call) (place : ℕ) → IsStateOf plan s → worker < plan.workers → next_call plan worker s ≡ Some call → put_of place call ≤ left_at plan s place
some_left further plan worker s call place of below is = elim (next_is plan worker s call is) [
  | inl script ↦ omega (arith, one_put_fewer further place plan.scripts s.replies worker call replies.Returned (omega (arith, of.workers, below)) script.first)
  | inr closing ↦ omega (arith, no_put place worker (get_or s.replies worker []) plan call closing)
]

takes_fits : Rooms → (plan : Plan) (worker : ℕ) (s : State) (call : Call) (objects : List ObjectState) (waits : ℕ) (answer : Answer) → HasRoom plan s → Takes plan worker s call objects waits answer
    → AllFit (λ place. left_behind answer (put_of place call) (left_at plan s place)) objects
takes_fits rooms plan worker s call objects waits answer has takes =
    takes_by (λ x. AllFit (λ place. left_behind x.1 (put_of place call) (left_at plan s place)) x.0.0) plan worker s call objects waits answer has.of takes
    (λ r. rooms.goes_on worker s.moment (begun_by worker s) (left_at plan s) call s.objects (some_left rooms.further plan worker s call call.object has.of takes.below takes.next) has.fits)

completed_fits : Rooms → (plan : Plan) (worker : ℕ) (s : State) (call : Call) (objects : List ObjectState) (waits : ℕ) (reply : Reply (List ℕ)) → HasRoom plan s → Takes plan worker s call objects waits (answers.Completed reply)
    → IsOfScript plan worker (get_or s.replies worker []) call → AllFit (left_at plan (with_reply worker reply (moved worker objects waits s))) objects
completed_fits rooms plan worker s call objects waits reply has takes script place object at =
    let fewer = one_put_fewer rooms.further place plan.scripts s.replies worker call reply (omega (arith, has.of.workers, takes.below)) script.first in
    fewer_fit (left_at plan s place - put_of place call) (left_at plan (with_reply worker reply (moved worker objects waits s)) place) object (omega (arith, fewer))
    (takes_fits rooms plan worker s call objects waits (answers.Completed reply) has takes place object at)

-- and the `done` leaves as many puts
closed_fits : Rooms → (plan : Plan) (worker : ℕ) (s : State) (call : Call) (objects : List ObjectState) (waits : ℕ) (reply : Reply (List ℕ)) → HasRoom plan s → Takes plan worker s call objects waits (answers.Completed reply)
    → IsClosing plan worker (get_or s.replies worker []) call → AllFit (left_at plan s) objects
closed_fits rooms plan worker s call objects waits reply has takes closing place object at =
    fewer_fit (left_at plan s place - put_of place call) (left_at plan s place) object (omega (arith, no_put place worker (get_or s.replies worker []) plan call closing))
    (takes_fits rooms plan worker s call objects waits (answers.Completed reply) has takes place object at)

turn_fits : Rooms → (plan : Plan) (worker : ℕ) (s : State) → HasRoom plan s → AllFit (left_at plan (turn_of plan worker s).0) (turn_of plan worker s).0.objects
turn_fits rooms plan worker s has = turn_cases (λ step. AllFit (left_at plan step.0) step.0.objects) plan worker s has.of (record {
  ended = λ is. has.fits;
  still = λ call objects waits takes. takes_fits rooms plan worker s call objects waits answers.Still has takes;
  unfinished = λ call objects waits takes. takes_fits rooms plan worker s call objects waits answers.Unfinished has takes;
  completed = λ call objects waits reply takes is. completed_fits rooms plan worker s call objects waits reply has takes is;
  closed = λ call objects waits reply takes is. closed_fits rooms plan worker s call objects waits reply has takes is;
  misused = λ call objects waits misuse takes. takes_fits rooms plan worker s call objects waits (answers.Misused misuse) has takes;
})

room_kept : Rooms → (plan : Plan) → GoesOn plan → Kept plan (HasRoom plan)
room_kept rooms plan goes_on = record {
  turn = λ worker s has. record { of = goes_on worker s has.of; fits = turn_fits rooms plan worker s has };
  moment = λ moment s has. record { of = moment_valid plan moment s has.of; fits = has.fits };
}

start_has_room : Rooms → (plan : Plan) → IsStateOf plan (start plan) → HasRoom plan (start plan)
start_has_room rooms plan of = record {
  of = of;
  fits = each_start (λ place. HasRoomFor (left_at plan (start plan) place)) plan
      (λ place kind. subst (λ n. HasRoomFor n (new_object plan.workers (puts_at place plan.scripts) (keys_in plan.scripts) kind)) (sym (none_made place plan.scripts plan.workers)) (rooms.begins plan.workers (puts_at place plan.scripts) (keys_in plan.scripts) kind));
}

pub items_have_room : Rooms → (plan : Plan) → GoesOn plan → IsStateOf plan (start plan) → (list : List Turn) → HasRoom plan (after_items plan list (start plan))
items_have_room rooms plan goes_on of list = items_keep plan (HasRoom plan) (room_kept rooms plan goes_on) list (start plan) (start_has_room rooms plan of)

-- a put before which a worker stands is kept
pub put_is_kept : Rooms → (plan : Plan) (worker : ℕ) (s : State) (place item : ℕ) (p : pool.PoolState ℕ) → HasRoom plan s → next_call plan worker s ≡ Some (record { object = place; operation = operations.Pool (pool_calls.Put item) })
    → slice_get s.objects place ≡ Some (states.Pool p) → (pool.next p worker (event.Put item)).1 ≡ pool_reply.Kept
put_is_kept rooms plan worker s place item p has is there =
    let call : Call = record { object = place; operation = operations.Pool (pool_calls.Put item) } in
    let below : worker < plan.workers = is_there plan worker s call has.of is in
    let parts : length p.primary ≡ plan.workers = (has.of.machines place (states.Pool p) there).0 in
    let one : put_of place call ≡ 1 = ap (λ b. cond (b && true) 1 0) (eq-eqb place place refl) in
    rooms.kept worker item (left_at plan s place) p (omega (arith, below, parts)) (omega (arith, some_left rooms.further plan worker s call place has.of below is, one)) (has.fits place (states.Pool p) there)
