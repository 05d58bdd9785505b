-- Which workers are started, where there is one more call.
use Rattle.std.proofs.Common.{◌≡◌, ℕ, zero, suc, ◌+◌, ◌<◌, ◌≤◌, Bool, true, false, cond, eqb, ◌&&◌, List, [], ◌∷◌, ◌++◌, length, get_or, set, replicate, Option, Some, None, refl, sym, ap, ◌∙◌, arith, get_or-set_same, get_or-set_other}
use Rattle.std.specs.Prelude.{nat_lt, count_by}
use Rattle.std.specs.Option.{option_map_or}
use Rattle.std.specs.List.{list_all}
use Rattle.std.proofs.lemmas.Bool.{eqb-true, eqb-false, ltb-true}
use Rattle.std.proofs.lemmas.List.{length-set}
use Rattle.std.proofs.lemmas.List.Sums.{sum_by-set, sum_by-append}
use Rattle.script_calls.specs.declared.call.Call.{Call}
use Rattle.script_calls.specs.declared.call.ComposedCall.TheVariants.{Go}
use Rattle.script_calls.specs.declared.call.Operation.{Operation}
use Rattle.script_calls.specs.declared.call.Operation.TheVariants as operations
use Rattle.script_calls.specs.Starts.{started_by, starts, start_count}
use Rattle.workload.specs.declared.object.ObjectKind.{ObjectKind}
use Rattle.workload.specs.declared.object.ObjectKind.TheVariants as kinds
use Rattle.workload.specs.Plan.{is_dormant, has_call, starts_dormant}
use Rattle.workload.specs.Draft.{Draft, may_start}
use Rattle.workload.specs.Index.{marked}
use Rattle.workload.proofs.Passing.{both, all_mono}

-- what of a worker says that a call may start it
pub record MayStart (d : Draft) (worker : ℕ) : Type 0 where
  pub inside : nat_lt worker d.plan.workers ≡ true
  pub waits : is_dormant d.plan worker ≡ true
  pub new : start_count worker d.plan.scripts ≡ 0

abbrev pub may_begin : Draft → Option ℕ → Bool
may_begin d worker = option_map_or (λ w. nat_lt w d.plan.workers && (is_dormant d.plan w && eqb (start_count w d.plan.scripts) 0)) worker true

pub start_parts : (d : Draft) (worker : ℕ) → may_begin d (Some worker) ≡ true → MayStart d worker
start_parts d worker h =
    let first = both (nat_lt worker d.plan.workers) (is_dormant d.plan worker && eqb (start_count worker d.plan.scripts) 0) h in
    let second = both (is_dormant d.plan worker) (eqb (start_count worker d.plan.scripts) 0) first.1 in
    record { inside = first.0; waits = second.0; new = eqb-true (start_count worker d.plan.scripts) 0 second.1 }

pub start_from : (d : Draft) (worker : ℕ) → MayStart d worker → may_begin d (Some worker) ≡ true
start_from d worker m = rw (m.inside, m.waits, m.new) refl

-- no object alone has a `go`
pub no_go_alone : (kind : ObjectKind) (worker : ℕ) → has_call kind (operations.Composed (Go worker)) ≡ true → ⊥
no_go_alone kinds.Map worker h = cc
no_go_alone kind worker h = cc

-- so an operation that one has alone starts no worker
pub alone_start : (d : Draft) (kind : ObjectKind) (o : Operation) → has_call kind o ≡ true → may_start d o ≡ true
alone_start d kind (operations.Composed (Go worker)) h = absurd (no_go_alone kind worker h)
alone_start d kind o h = refl

-- ---- counts

one_more : (worker : ℕ) (call : Call) → count_by (starts worker) (call ∷ []) ≡ cond (starts worker call) 1 0
one_more worker call = omega arith

-- how many calls start a worker, with one more
pub starts_more : (worker at : ℕ) (scripts : List (List Call)) (call : Call) → at < length scripts → start_count worker (set scripts at (get_or scripts at [] ++ call ∷ [])) ≡ start_count worker scripts + cond (starts worker call) 1 0
starts_more worker at scripts call here =
    let script = get_or scripts at [] in
    let count : List Call → ℕ = λ calls. count_by (starts worker) calls in
    let grown = sum_by-set count scripts at (script ++ call ∷ []) [] here in
    let longer = sum_by-append (λ (c : Call). cond (starts worker c) 1 0) script (call ∷ []) in
    omega (arith, grown, longer, one_more worker call)

-- a worker that one more call starts was started by none
starts_once : (d : Draft) (by : Option ℕ) (worker : ℕ) → may_begin d by ≡ true → start_count worker d.plan.scripts ≤ 1 → start_count worker d.plan.scripts + cond (option_map_or (λ started. eqb started worker) by false) 1 0 ≤ 1
starts_once d None worker may few = omega (arith, few)
starts_once d (Some started) worker may few =
    elim (eqb started worker) as (λ b. eqb started worker ≡ b → start_count worker d.plan.scripts + cond b 1 0 ≤ 1) [
      | true ↦ λ same. let none = ap (λ (n : ℕ). start_count n d.plan.scripts) (sym (eqb-true started worker same)) ∙ (start_parts d started may).new in omega (arith, none)
      | false ↦ λ other. omega (arith, few)
    ] refl

pub starts_few : (d : Draft) (call : Call) (at worker : ℕ) → at < length d.plan.scripts → may_start d call.operation ≡ true → start_count worker d.plan.scripts ≤ 1 → start_count worker (set d.plan.scripts at (get_or d.plan.scripts at [] ++ call ∷ [])) ≤ 1
starts_few d call at worker here may few = omega (arith, starts_more worker at d.plan.scripts call here, starts_once d (started_by call.operation) worker may few)

-- ---- marks

marked_by : (d : Draft) (begun : List Bool) (by : Option ℕ) (worker : ℕ) → length begun ≡ d.plan.workers → may_begin d by ≡ true → get_or begun worker false ≡ nat_lt 0 (start_count worker d.plan.scripts)
    → get_or (marked begun by) worker false ≡ nat_lt 0 (start_count worker d.plan.scripts + cond (option_map_or (λ started. eqb started worker) by false) 1 0)
marked_by d begun None worker long may is = is ∙ ap (λ (n : ℕ). nat_lt 0 n) (omega arith)
marked_by d begun (Some started) worker long may is =
    let parts = start_parts d started may in
    elim (eqb started worker) as (λ b. eqb started worker ≡ b → get_or (set begun started true) worker false ≡ nat_lt 0 (start_count worker d.plan.scripts + cond b 1 0)) [
      | true ↦ λ same.
          let is_it = eqb-true started worker same in
          let none = ap (λ (n : ℕ). start_count n d.plan.scripts) (sym is_it) ∙ parts.new in
          ap (λ (n : ℕ). get_or (set begun started true) n false) (sym is_it)
          ∙ get_or-set_same begun started true false (omega (arith, long, ltb-true started d.plan.workers parts.inside))
          ∙ ap (λ (n : ℕ). nat_lt 0 (n + 1)) (sym none)
      | false ↦ λ other.
          get_or-set_other begun started worker true false (λ e. eqb-false started worker other (sym e)) ∙ is ∙ ap (λ (n : ℕ). nat_lt 0 n) (omega arith)
    ] refl

-- one more call marks the worker that it starts
pub marks_more : (d : Draft) (begun : List Bool) (call : Call) (at worker : ℕ) → at < length d.plan.scripts → length begun ≡ d.plan.workers → may_start d call.operation ≡ true → get_or begun worker false ≡ nat_lt 0 (start_count worker d.plan.scripts)
    → get_or (marked begun (started_by call.operation)) worker false ≡ nat_lt 0 (start_count worker (set d.plan.scripts at (get_or d.plan.scripts at [] ++ call ∷ [])))
marks_more d begun call at worker here long may is =
    marked_by d begun (started_by call.operation) worker long may is ∙ ap (λ (n : ℕ). nat_lt 0 n) (sym (starts_more worker at d.plan.scripts call here))

pub marked_length : (begun : List Bool) (by : Option ℕ) → length (marked begun by) ≡ length begun
marked_length begun None = refl
marked_length begun (Some started) = length-set begun started true

-- ---- workers that wait

waits_by : (d : Draft) (by : Option ℕ) → may_begin d by ≡ true → option_map_or (λ worker. get_or d.plan.dormant worker false) by true ≡ true
waits_by d None may = refl
waits_by d (Some started) may = (start_parts d started may).waits

-- whom a call may start waits
pub may_waits : (d : Draft) (o : Operation) → may_start d o ≡ true → starts_dormant d.plan.dormant o ≡ true
may_waits d o may = waits_by d (started_by o) may

still_waits : (dormant : List Bool) (more worker : ℕ) → get_or dormant worker false ≡ true → get_or (set dormant more true) worker false ≡ true
still_waits [] more worker h = absurd cc
still_waits (b ∷ dormant) zero zero h = refl
still_waits (b ∷ dormant) zero (suc worker) h = h
still_waits (b ∷ dormant) (suc more) zero h = h
still_waits (b ∷ dormant) (suc more) (suc worker) h = still_waits dormant more worker h

still_by : (dormant : List Bool) (more : ℕ) (by : Option ℕ) → option_map_or (λ worker. get_or dormant worker false) by true ≡ true → option_map_or (λ worker. get_or (set dormant more true) worker false) by true ≡ true
still_by dormant more None h = refl
still_by dormant more (Some started) h = still_waits dormant more started h

-- who waits still does where one more does
pub all_wait : (dormant : List Bool) (more : ℕ) (scripts : List (List Call)) → list_all (list_all (λ call. starts_dormant dormant call.operation)) scripts ≡ true → list_all (list_all (λ call. starts_dormant (set dormant more true) call.operation)) scripts ≡ true
all_wait dormant more scripts h =
    all_mono (list_all (λ call. starts_dormant dormant call.operation)) (list_all (λ call. starts_dormant (set dormant more true) call.operation))
    (λ script. all_mono (λ (c : Call). starts_dormant dormant c.operation) (λ (c : Call). starts_dormant (set dormant more true) c.operation) (λ c. still_by dormant more (started_by c.operation)) script) scripts h

-- who waits is one of them
pub dormant_inside : (dormant : List Bool) (worker : ℕ) → get_or dormant worker false ≡ true → worker < length dormant
dormant_inside [] worker h = absurd cc
dormant_inside (b ∷ dormant) zero h = omega arith
dormant_inside (b ∷ dormant) (suc worker) h = omega (arith, dormant_inside dormant worker h)

-- ---- none

pub no_starts : (worker n : ℕ) → start_count worker (replicate n []) ≡ 0
no_starts worker zero = refl
no_starts worker (suc n) = no_starts worker n

pub no_marks : (n worker : ℕ) → get_or (replicate n false) worker false ≡ false
no_marks zero worker = refl
no_marks (suc n) zero = refl
no_marks (suc n) (suc worker) = no_marks n worker
