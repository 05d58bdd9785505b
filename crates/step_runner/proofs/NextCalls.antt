-- The call before which a worker stands: one of its script, or the `done` behind it. Nothing is left for a worker that isn't live.
use Rattle.std.proofs.Common.{◌≡◌, ◌≢◌, ℕ, zero, suc, ◌<◌, ◌⊎◌, Bool, true, false, cond, eqb, List, [], ◌∷◌, ◌++◌, length, get_or, set, Option, Some, None, inl, inr, refl, sym, ap, ◌∙◌, subst, arith}
use Rattle.std.specs.Prelude.{slice_get}
use Rattle.std.proofs.lemmas.Bool.{eqb-true, eqb-false}
use Rattle.std.proofs.lemmas.List.{length-set, get_or-set_other}
use Rattle.script_calls.specs.Runs.{left_of}
use Rattle.script_calls.specs.Starts.{starts, group_in, group_or, group_of}
use Rattle.script_calls.specs.declared.call.Call.{Call}
use Rattle.script_calls.specs.declared.call.ComposedCall.TheVariants.{Go}
use Rattle.script_calls.specs.declared.call.Operation.{Operation}
use Rattle.script_calls.specs.declared.call.Operation.TheVariants as operations
use Rattle.script_calls.specs.declared.call.Reply.{Reply}
use Rattle.workload.specs.Plan.{Plan, is_dormant}
use Rattle.step_runner.specs.TurnWithin.{done_on}
use Rattle.step_runner.specs.declared.state.Stand.{Stand}
use Rattle.step_runner.specs.declared.state.Stand.TheVariants.{Waits, Live, Gone}
use Rattle.step_runner.specs.State.{State, stand_of, stands_behind, woken}
use Rattle.step_runner.specs.Turns.{script_left, done_calls, closing_calls, left_until, all_left, left_once, left_for, next_call, is_empty}
use Rattle.step_runner.proofs.ScriptRuns.{split_first}

-- what is left for a worker that stands so and has these replies
abbrev pub left_with : Plan → ℕ → Stand → List (Reply (List ℕ)) → List Call
left_with plan worker stand given = left_once stand (left_of (get_or plan.scripts worker []) given ++ closing_calls plan worker)

-- and what may be left for it, whether it is started yet or not
abbrev pub all_with : Plan → ℕ → Stand → List (Reply (List ℕ)) → List Call
all_with plan worker stand given = left_until stand (left_of (get_or plan.scripts worker []) given ++ closing_calls plan worker)

-- ---- by how the worker stands

-- nothing for one that isn't live
pub not_live_left : (stand : Stand) (left : List Call) → stand ≢ Live → left_once stand left ≡ []
not_live_left Waits left other = refl
not_live_left Live left other = absurd (other refl)
not_live_left Gone left other = refl

pub not_live : (plan : Plan) (worker : ℕ) (s : State) → stand_of worker s ≢ Live → next_call plan worker s ≡ None
not_live plan worker s other = ap (λ (l : List Call). slice_get l 0) (not_live_left (stand_of worker s) _ other)

-- nor does one that waits to be started
pub waiting_next : (plan : Plan) (worker : ℕ) (s : State) → stand_of worker s ≡ Waits → next_call plan worker s ≡ None
waiting_next plan worker s waits = not_live plan worker s (λ (live : stand_of worker s ≡ Live). (let e : Live ≡ Waits = sym live ∙ waits in absurd cc))

-- for a live one what is left of its script, and the call behind it
pub live_left : (plan : Plan) (worker : ℕ) (s : State) → stand_of worker s ≡ Live → left_for plan worker s ≡ script_left plan worker s ++ closing_calls plan worker
live_left plan worker s live = ap (λ stand. left_once stand (script_left plan worker s ++ closing_calls plan worker)) live

pub live_all : (plan : Plan) (worker : ℕ) (s : State) → stand_of worker s ≡ Live → all_left plan worker s ≡ script_left plan worker s ++ closing_calls plan worker
live_all plan worker s live = ap (λ stand. left_until stand (script_left plan worker s ++ closing_calls plan worker)) live

-- ---- which call it is

module _ (plan : Plan) (worker : ℕ) (given : List (Reply (List ℕ))) where
  abbrev rest_of : List Call
  rest_of = left_of (get_or plan.scripts worker []) given

  -- the next call of a script, of which so many replies were given
  pub record IsOfScript (call : Call) : Type 0 where
    pub rest : List Call
    pub left : left_of (get_or plan.scripts worker []) given ≡ call ∷ rest
    pub within : is_empty (left_of (get_or plan.scripts worker []) given) ≡ false
    pub first : slice_get (left_of (get_or plan.scripts worker []) given) 0 ≡ Some call

  -- the `done` behind it
  pub record IsClosing (call : Call) : Type 0 where
    pub group : ℕ
    pub under : group_of worker plan.scripts ≡ Some group
    pub is : call ≡ done_on group
    pub waits : is_dormant plan worker ≡ true
    pub none : left_of (get_or plan.scripts worker []) given ≡ []
    pub behind : is_empty (left_of (get_or plan.scripts worker []) given) ≡ true
    pub last : closing_calls plan worker ≡ call ∷ []

  module _ (call : Call) where
    closing : (waits : Bool) (group : Option ℕ) → is_dormant plan worker ≡ waits → group_of worker plan.scripts ≡ group → rest_of ≡ [] → slice_get (cond waits (done_calls group) []) 0 ≡ Some call → IsClosing call
    closing false group waits under none at = absurd cc
    closing true None waits under none at = absurd cc
    closing true (Some group) waits under none at =
        let is : done_on group ≡ call = cc in
        record {
          group = group;
          under = under;
          is = sym is;
          waits = waits;
          none = none;
          behind = ap is_empty none;
          last = (λ i. cond (waits i) (done_calls (under i)) []) ∙ ap (λ (c : Call). c ∷ []) is;
        }

    pub first_is : (left : List Call) → rest_of ≡ left → slice_get (left ++ closing_calls plan worker) 0 ≡ Some call → IsOfScript call ⊎ IsClosing call
    first_is [] is at = inr (closing (is_dormant plan worker) (group_of worker plan.scripts) refl refl is at)
    first_is (first ∷ rest) is at =
        let same : first ≡ call = cc in
        inl (record { rest = rest; left = is ∙ ap (λ (c : Call). c ∷ rest) same; within = ap is_empty is; first = ap (λ (l : List Call). slice_get l 0) is ∙ ap Some same })

-- by the first of what is left
pub script_first : (plan : Plan) (worker : ℕ) (given : List (Reply (List ℕ))) (call : Call) → slice_get (left_of (get_or plan.scripts worker []) given) 0 ≡ Some call → IsOfScript plan worker given call
script_first plan worker given call first =
    let left = split_first (left_of (get_or plan.scripts worker []) given) call first in
    record { rest = left.0; left = left.1; within = ap is_empty left.1; first = first }

module _ (plan : Plan) (worker : ℕ) (s : State) (call : Call) (next : next_call plan worker s ≡ Some call) where
  -- who stands before a call is live
  pub next_live : stand_of worker s ≡ Live
  next_live = by_stand (stand_of worker s) next
    where
      by_stand : (stand : Stand) → slice_get (left_once stand (script_left plan worker s ++ closing_calls plan worker)) 0 ≡ Some call → stand ≡ Live
      by_stand Waits at = absurd cc
      by_stand Live at = refl
      by_stand Gone at = absurd cc

  -- so what is left for it is what is left of its script, and the call behind it
  pub next_left : left_for plan worker s ≡ script_left plan worker s ++ closing_calls plan worker
  next_left = live_left plan worker s next_live

  pub next_all : all_left plan worker s ≡ script_left plan worker s ++ closing_calls plan worker
  next_all = live_all plan worker s next_live

  -- and the call is the first of it
  pub next_first : slice_get (script_left plan worker s ++ closing_calls plan worker) 0 ≡ Some call
  next_first = ap (λ (l : List Call). slice_get l 0) (sym next_left) ∙ next

  pub next_is : IsOfScript plan worker (get_or s.replies worker []) call ⊎ IsClosing plan worker (get_or s.replies worker []) call
  next_is = first_is plan worker (get_or s.replies worker []) call (script_left plan worker s) refl next_first

-- where nothing is left of its script it is the `done`
pub closing_is : (plan : Plan) (worker : ℕ) (s : State) (call : Call) → next_call plan worker s ≡ Some call → script_left plan worker s ≡ [] → IsClosing plan worker (get_or s.replies worker []) call
closing_is plan worker s call next none = elim (next_is plan worker s call next) [
  | inl is ↦ (let e : [] ≡ call ∷ is.rest = sym none ∙ is.left in absurd cc)
  | inr is ↦ is
]

-- a live worker stands before the next call of its script
pub next_of_script : (plan : Plan) (worker : ℕ) (s : State) (call : Call) → stand_of worker s ≡ Live → slice_get (script_left plan worker s) 0 ≡ Some call → next_call plan worker s ≡ Some call
next_of_script plan worker s call live first = ap (λ (l : List Call). slice_get l 0) (live_left plan worker s live) ∙ by_left (script_left plan worker s) first
  where
    by_left : (left : List Call) → slice_get left 0 ≡ Some call → slice_get (left ++ closing_calls plan worker) 0 ≡ Some call
    by_left [] at = absurd cc
    by_left (c ∷ left) at = at

-- where it stands before none, nothing is left of its script
pub none_next : (plan : Plan) (worker : ℕ) (s : State) → stand_of worker s ≡ Live → next_call plan worker s ≡ None → script_left plan worker s ≡ []
none_next plan worker s live none = by_left (script_left plan worker s) (ap (λ (l : List Call). slice_get l 0) (sym (live_left plan worker s live)) ∙ none)
  where
    by_left : (left : List Call) → slice_get (left ++ closing_calls plan worker) 0 ≡ None → left ≡ []
    by_left [] at = refl
    by_left (call ∷ left) at = absurd cc

-- ---- who is started under a group

-- the call that starts a worker is among the scripts, on its group
pub record IsStarted (worker : ℕ) (scripts : List (List Call)) (group : ℕ) : Type 0 where
  pub by : ℕ
  pub place : ℕ
  pub call : Call
  pub there : slice_get (get_or scripts by []) place ≡ Some call
  pub on : call.object ≡ group
  pub goes : call.operation ≡ operations.Composed (Go worker)

goes_by : (worker : ℕ) (operation : Operation) → starts worker (record { object = 0; operation = operation }) ≡ true → operation ≡ operations.Composed (Go worker)
goes_by worker (operations.Composed (Go started)) is = ap (λ (w : ℕ). operations.Composed (Go w)) (eqb-true started worker is)
goes_by worker operation is = absurd cc

-- in one script
record IsIn (worker : ℕ) (script : List Call) (group : ℕ) : Type 0 where
  place : ℕ
  call : Call
  there : slice_get script place ≡ Some call
  on : call.object ≡ group
  goes : call.operation ≡ operations.Composed (Go worker)

in_first : (worker : ℕ) (call : Call) (script : List Call) (group : ℕ) (b : Bool) → starts worker call ≡ b → cond b (Some call.object) (group_in worker script) ≡ Some group
    → (group_in worker script ≡ Some group → IsIn worker script group) → IsIn worker (call ∷ script) group
in_first worker call script group true starts_it is later = record { place = 0; call = call; there = refl; on = cc; goes = goes_by worker call.operation starts_it }
in_first worker call script group false other is later =
    let one = later is in
    record { place = suc one.place; call = one.call; there = one.there; on = one.on; goes = one.goes }

one_in : (worker : ℕ) (script : List Call) (group : ℕ) → group_in worker script ≡ Some group → IsIn worker script group
one_in worker [] group is = absurd cc
one_in worker (call ∷ script) group is = in_first worker call script group (starts worker call) refl is (one_in worker script group)

started_first : (worker : ℕ) (script : List Call) (scripts : List (List Call)) (group : ℕ) (o : Option ℕ) → group_in worker script ≡ o → group_or o (group_of worker scripts) ≡ Some group
    → (group_of worker scripts ≡ Some group → IsStarted worker scripts group) → IsStarted worker (script ∷ scripts) group
started_first worker script scripts group (Some first) e is later =
    let one = one_in worker script group (e ∙ is) in
    record { by = 0; place = one.place; call = one.call; there = one.there; on = one.on; goes = one.goes }
started_first worker script scripts group None e is later =
    let one = later is in
    record { by = suc one.by; place = one.place; call = one.call; there = one.there; on = one.on; goes = one.goes }

pub is_started : (worker : ℕ) (scripts : List (List Call)) (group : ℕ) → group_of worker scripts ≡ Some group → IsStarted worker scripts group
is_started worker [] group is = absurd cc
is_started worker (script ∷ scripts) group is = started_first worker script scripts group (group_in worker script) refl is (is_started worker scripts group)

-- ---- a start

-- a worker was started
pub record Wakes (started : Option ℕ) (stands : List Stand) (worker : ℕ) : Type 0 where
  pub by : started ≡ Some worker
  pub waited : get_or stands worker Gone ≡ Waits
  pub live : get_or (stands_behind started stands) worker Gone ≡ Live

abbrev pub Stays : Option ℕ → List Stand → ℕ → Type 0
Stays started stands worker = get_or (stands_behind started stands) worker Gone ≡ get_or stands worker Gone

-- it was started, or stands as before
pub started_stand : (started : Option ℕ) (stands : List Stand) (worker : ℕ) → Stays started stands worker ⊎ Wakes started stands worker
started_stand None stands worker = inl refl
started_stand (Some started) stands worker = elim (eqb worker started) as (λ b. eqb worker started ≡ b → Stays (Some started) stands worker ⊎ Wakes (Some started) stands worker) [
  | true ↦ λ e. subst (λ (w : ℕ). Stays (Some w) stands worker ⊎ Wakes (Some w) stands worker) (eqb-true worker started e) (own (get_or stands worker Gone) refl)
  | false ↦ λ e. inl (get_or-set_other stands started worker (woken (get_or stands started Gone)) Gone (eqb-false worker started e))
] refl
  where
    waits_gone : Waits ≡ Gone → ⊥
    waits_gone e = cc

    set_own : (stands : List Stand) (worker : ℕ) (stand : Stand) → get_or stands worker Gone ≢ Gone → get_or (set stands worker stand) worker Gone ≡ stand
    set_own [] worker stand other = absurd (other refl)
    set_own (x ∷ stands) zero stand other = refl
    set_own (x ∷ stands) (suc worker) stand other = set_own stands worker stand other

    set_same : (stands : List Stand) (worker : ℕ) (stand : Stand) → get_or stands worker Gone ≡ stand → get_or (set stands worker stand) worker Gone ≡ stand
    set_same [] worker stand is = is
    set_same (x ∷ stands) zero stand is = refl
    set_same (x ∷ stands) (suc worker) stand is = set_same stands worker stand is

    own : (stand : Stand) → get_or stands worker Gone ≡ stand → Stays (Some worker) stands worker ⊎ Wakes (Some worker) stands worker
    own Waits is =
        let here : get_or stands worker Gone ≢ Gone = λ (e : get_or stands worker Gone ≡ Gone). waits_gone (sym is ∙ e) in
        inr (record { by = refl; waited = is; live = set_own stands worker (woken (get_or stands worker Gone)) here ∙ ap woken is })
    own Live is = inl (ap (λ (x : Stand). get_or (set stands worker (woken x)) worker Gone) is ∙ set_same stands worker Live is ∙ sym is)
    own Gone is = inl (ap (λ (x : Stand). get_or (set stands worker (woken x)) worker Gone) is ∙ set_same stands worker Gone is ∙ sym is)

-- so whoever doesn't wait stands as before
pub not_woken : (started : Option ℕ) (stands : List Stand) (worker : ℕ) (stand : Stand) → stand ≢ Waits → get_or stands worker Gone ≡ stand → get_or (stands_behind started stands) worker Gone ≡ stand
not_woken started stands worker stand other is = elim (started_stand started stands worker) [
  | inl stays ↦ stays ∙ is
  | inr wakes ↦ absurd (other (sym is ∙ wakes.waited))
]

-- and what may be left for anyone is the same
pub until_started : (started : Option ℕ) (stands : List Stand) (worker : ℕ) (left : List Call) → left_until (get_or (stands_behind started stands) worker Gone) left ≡ left_until (get_or stands worker Gone) left
until_started started stands worker left = elim (started_stand started stands worker) [
  | inl stays ↦ ap (λ stand. left_until stand left) stays
  | inr wakes ↦ ap (λ stand. left_until stand left) wakes.live ∙ ap (λ stand. left_until stand left) (sym wakes.waited)
]

pub started_count : (started : Option ℕ) (stands : List Stand) → length (stands_behind started stands) ≡ length stands
started_count None stands = refl
started_count (Some started) stands = length-set stands started (woken (get_or stands started Gone))

-- ---- whoever goes

-- whether it is there or not
pub gone_own : (stands : List Stand) (worker : ℕ) → get_or (set stands worker Gone) worker Gone ≡ Gone
gone_own [] worker = refl
gone_own (x ∷ stands) zero = refl
gone_own (x ∷ stands) (suc worker) = gone_own stands worker

-- a live worker is there
pub live_there : (stands : List Stand) (worker : ℕ) → get_or stands worker Gone ≡ Live → worker < length stands
live_there [] worker live = absurd cc
live_there (x ∷ stands) zero live = omega arith
live_there (x ∷ stands) (suc worker) live = omega (arith, live_there stands worker live)
