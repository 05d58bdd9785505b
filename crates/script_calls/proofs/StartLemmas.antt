-- Which calls start a worker, and how many.
use Rattle.std.proofs.Common.{◌≡◌, ℕ, zero, suc, ◌+◌, ◌≤◌, ◌⊎◌, inl, inr, ⊎_elim, Bool, true, false, eqb, List, [], ◌∷◌, Option, Some, None, slice_get, refl, sym, ap, ◌∙◌, arith}
use Rattle.std.specs.Prelude.{cond, count_by}
use Rattle.std.specs.Option.{option_map_or}
use Rattle.std.proofs.lemmas.Bool.{eqb-true, eq-eqb}
use Rattle.std.proofs.lemmas.List.Sums.{sum_by-cons}
use Rattle.script_calls.specs.declared.call.Call.{Call}
use Rattle.script_calls.specs.declared.call.ComposedCall.TheVariants.{Go}
use Rattle.script_calls.specs.declared.call.Operation.{Operation}
use Rattle.script_calls.specs.declared.call.Operation.TheVariants as operations
use Rattle.script_calls.specs.Starts.{started_by, starts, start_count, group_in, group_or, group_of}

-- ---- one call

go_of : (worker : ℕ) (operation : Operation) → option_map_or (λ started. eqb started worker) (started_by operation) false ≡ true → operation ≡ operations.Composed (Go worker)
go_of worker (operations.Composed (Go started)) h = ap (λ (n : ℕ). operations.Composed (Go n)) (eqb-true started worker h)
go_of worker operation h = absurd cc

pub is_go : (worker : ℕ) (call : Call) → starts worker call ≡ true → call.operation ≡ operations.Composed (Go worker)
is_go worker call h = go_of worker call.operation h

pub go_starts : (worker : ℕ) (call : Call) → call.operation ≡ operations.Composed (Go worker) → starts worker call ≡ true
go_starts worker call is = ap (λ (o : Operation). option_map_or (λ started. eqb started worker) (started_by o) false) is ∙ eq-eqb worker worker refl

some_is : {X : Type 0} {x y : X} → Some x ≡ Some y → x ≡ y
some_is e = cc

apart : false ≡ true → ⊥
apart e = cc

-- ---- one script

first_none : (b : Bool) (group : ℕ) (later : Option ℕ) → cond b (Some group) later ≡ None → (b ≡ false) × (later ≡ None)
first_none true group later h = absurd cc
first_none false group later h = (refl, h)

none_first : (b : Bool) (more : ℕ) → cond b 1 0 + more ≡ 0 → (b ≡ false) × (more ≡ 0)
none_first true more h = absurd (omega (arith, h))
none_first false more h = (refl, omega (arith, h))

first_some : (b : Bool) (group place : ℕ) (later : Option ℕ) → cond b (Some group) later ≡ Some place → ((b ≡ true) × (group ≡ place)) ⊎ (later ≡ Some place)
first_some true group place later h = inl (refl, some_is h)
first_some false group place later h = inr h

or_none : (group later : Option ℕ) → group_or group later ≡ None → (group ≡ None) × (later ≡ None)
or_none None later h = (refl, h)
or_none (Some group) later h = absurd cc

or_some : (group later : Option ℕ) (place : ℕ) → group_or group later ≡ Some place → (group ≡ Some place) ⊎ (later ≡ Some place)
or_some None later place h = inr h
or_some (Some group) later place h = inl h

-- of one that may count and others that do, this one doesn't
not_two : (b : Bool) (all more : ℕ) → all ≡ cond b 1 0 + more → all ≤ 1 → 1 ≤ more → (b ≡ false) × (more ≤ 1)
not_two true all more count few some = absurd (omega (arith, count, few, some))
not_two false all more count few some = (refl, omega (arith, count, few))

module _ (worker : ℕ) where
  abbrev pub in_script : List Call → ℕ
  in_script script = count_by (starts worker) script

  pub counted : (call : Call) (script : List Call) → in_script (call ∷ script) ≡ cond (starts worker call) 1 0 + in_script script
  counted call script = sum_by-cons (λ c. cond (starts worker c) 1 0) call script

  pub summed : (script : List Call) (scripts : List (List Call)) → start_count worker (script ∷ scripts) ≡ in_script script + start_count worker scripts
  summed script scripts = sum_by-cons in_script script scripts

  none_in : (script : List Call) → group_in worker script ≡ None → in_script script ≡ 0
  none_in [] h = refl
  none_in (call ∷ script) h =
      let parts = first_none (starts worker call) call.object (group_in worker script) h in
      counted call script ∙ ap (λ (b : Bool). cond b 1 0 + in_script script) parts.0 ∙ omega (arith, none_in script parts.1)

  in_none : (script : List Call) → in_script script ≡ 0 → group_in worker script ≡ None
  in_none [] h = refl
  in_none (call ∷ script) h =
      let parts = none_first (starts worker call) (in_script script) (sym (counted call script) ∙ h) in
      ap (λ (b : Bool). cond b (Some call.object) (group_in worker script)) parts.0 ∙ in_none script parts.1

  -- a call that starts the worker counts
  some_in : (script : List Call) (place : ℕ) (call : Call) → slice_get script place ≡ Some call → starts worker call ≡ true → 1 ≤ in_script script
  some_in [] place call at is = absurd cc
  some_in (c ∷ script) zero call at is =
      let here : starts worker c ≡ true = ap (starts worker) (some_is at) ∙ is in
      let count = counted c script ∙ ap (λ (b : Bool). cond b 1 0 + in_script script) here in
      omega (arith, count)
  some_in (c ∷ script) (suc place) call at is = omega (arith, counted c script, some_in script place call at is)

  -- the first such call is the only one where they count one
  group_here : (script : List Call) (place : ℕ) (call : Call) → in_script script ≤ 1 → slice_get script place ≡ Some call → starts worker call ≡ true → group_in worker script ≡ Some call.object
  group_here [] place call few at is = absurd cc
  group_here (c ∷ script) zero call few at is =
      let same : c ≡ call = some_is at in
      ap (λ (b : Bool). cond b (Some c.object) (group_in worker script)) (ap (starts worker) same ∙ is) ∙ ap (λ (x : Call). Some x.object) same
  group_here (c ∷ script) (suc place) call few at is =
      let later = not_two (starts worker c) (in_script (c ∷ script)) (in_script script) (counted c script) few (some_in script place call at is) in
      ap (λ (b : Bool). cond b (Some c.object) (group_in worker script)) later.0 ∙ group_here script place call later.1 at is

  one_here : (script : List Call) (place other : ℕ) (call another : Call) → in_script script ≤ 1 → slice_get script place ≡ Some call → slice_get script other ≡ Some another → starts worker call ≡ true → starts worker another ≡ true → place ≡ other
  one_here [] place other call another few at there is are = absurd cc
  one_here (c ∷ script) zero zero call another few at there is are = refl
  one_here (c ∷ script) zero (suc other) call another few at there is are =
      let later = not_two (starts worker c) (in_script (c ∷ script)) (in_script script) (counted c script) few (some_in script other another there are) in
      absurd (apart (sym later.0 ∙ ap (starts worker) (some_is at) ∙ is))
  one_here (c ∷ script) (suc place) zero call another few at there is are =
      let later = not_two (starts worker c) (in_script (c ∷ script)) (in_script script) (counted c script) few (some_in script place call at is) in
      absurd (apart (sym later.0 ∙ ap (starts worker) (some_is there) ∙ are))
  one_here (c ∷ script) (suc place) (suc other) call another few at there is are =
      let later = not_two (starts worker c) (in_script (c ∷ script)) (in_script script) (counted c script) few (some_in script place call at is) in
      ap suc (one_here script place other call another later.1 at there is are)

  found_here : (script : List Call) (group : ℕ) → group_in worker script ≡ Some group → (place : ℕ) × (call : Call) × (slice_get script place ≡ Some call) × (call.operation ≡ operations.Composed (Go worker)) × (call.object ≡ group)
  found_here [] group h = absurd cc
  found_here (call ∷ script) group h =
      ⊎_elim
      (λ here. (0, call, refl, is_go worker call here.0, here.1))
      (λ later. let there = found_here script group later in (suc there.0, there.1, there.2, there.3, there.4))
      (first_some (starts worker call) call.object group (group_in worker script) h)

  -- ---- all scripts

  pub nobody_none : (scripts : List (List Call)) → group_of worker scripts ≡ None → start_count worker scripts ≡ 0
  nobody_none [] h = refl
  nobody_none (script ∷ scripts) h =
      let parts = or_none (group_in worker script) (group_of worker scripts) h in
      omega (arith, summed script scripts, none_in script parts.0, nobody_none scripts parts.1)

  pub none_nobody : (scripts : List (List Call)) → start_count worker scripts ≡ 0 → group_of worker scripts ≡ None
  none_nobody [] h = refl
  none_nobody (script ∷ scripts) h =
      let count = summed script scripts in
      ap (λ (o : Option ℕ). group_or o (group_of worker scripts)) (in_none script (omega (arith, h, count))) ∙ none_nobody scripts (omega (arith, h, count))

  some_of : (scripts : List (List Call)) (at place : ℕ) (script : List Call) (call : Call) → slice_get scripts at ≡ Some script → slice_get script place ≡ Some call → starts worker call ≡ true → 1 ≤ start_count worker scripts
  some_of [] at place script call has stands is = absurd cc
  some_of (s ∷ scripts) zero place script call has stands is =
      let some = some_in s place call (ap (λ (l : List Call). slice_get l place) (some_is has) ∙ stands) is in
      omega (arith, summed s scripts, some)
  some_of (s ∷ scripts) (suc at) place script call has stands is = omega (arith, summed s scripts, some_of scripts at place script call has stands is)

  pub group_there : (scripts : List (List Call)) (at place : ℕ) (script : List Call) (call : Call) → start_count worker scripts ≤ 1 → slice_get scripts at ≡ Some script → slice_get script place ≡ Some call → starts worker call ≡ true
      → group_of worker scripts ≡ Some call.object
  group_there [] at place script call few has stands is = absurd cc
  group_there (s ∷ scripts) zero place script call few has stands is =
      let here = group_here s place call (omega (arith, few, summed s scripts)) (ap (λ (l : List Call). slice_get l place) (some_is has) ∙ stands) is in
      ap (λ (o : Option ℕ). group_or o (group_of worker scripts)) here
  group_there (s ∷ scripts) (suc at) place script call few has stands is =
      let some = some_of scripts at place script call has stands is in
      let count = summed s scripts in
      ap (λ (o : Option ℕ). group_or o (group_of worker scripts)) (in_none s (omega (arith, few, some, count)))
      ∙ group_there scripts at place script call (omega (arith, few, count)) has stands is

  pub one_there : (scripts : List (List Call)) (at after place other : ℕ) (script later : List Call) (call another : Call) → start_count worker scripts ≤ 1
      → slice_get scripts at ≡ Some script → slice_get script place ≡ Some call → starts worker call ≡ true → slice_get scripts after ≡ Some later → slice_get later other ≡ Some another → starts worker another ≡ true
      → (at ≡ after) × (place ≡ other)
  one_there [] at after place other script later call another few has stands is have stand are = absurd cc
  one_there (s ∷ scripts) zero zero place other script later call another few has stands is have stand are =
      (refl, one_here s place other call another (omega (arith, few, summed s scripts)) (ap (λ (l : List Call). slice_get l place) (some_is has) ∙ stands) (ap (λ (l : List Call). slice_get l other) (some_is have) ∙ stand) is are)
  one_there (s ∷ scripts) zero (suc after) place other script later call another few has stands is have stand are =
      let here = some_in s place call (ap (λ (l : List Call). slice_get l place) (some_is has) ∙ stands) is in
      absurd (omega (arith, few, summed s scripts, here, some_of scripts after other later another have stand are))
  one_there (s ∷ scripts) (suc at) zero place other script later call another few has stands is have stand are =
      let here = some_in s other another (ap (λ (l : List Call). slice_get l other) (some_is have) ∙ stand) are in
      absurd (omega (arith, few, summed s scripts, here, some_of scripts at place script call has stands is))
  one_there (s ∷ scripts) (suc at) (suc after) place other script later call another few has stands is have stand are =
      let same = one_there scripts at after place other script later call another (omega (arith, few, summed s scripts)) has stands is have stand are in
      (ap suc same.0, same.1)

  pub found_there : (scripts : List (List Call)) (group : ℕ) → group_of worker scripts ≡ Some group
      → (at place : ℕ) × (script : List Call) × (call : Call) × (slice_get scripts at ≡ Some script) × (slice_get script place ≡ Some call) × (call.operation ≡ operations.Composed (Go worker)) × (call.object ≡ group)
  found_there [] group h = absurd cc
  found_there (script ∷ scripts) group h =
      ⊎_elim
      (λ here. let found = found_here script group here in (0, found.0, script, found.1, refl, found.2, found.3, found.4))
      (λ later. let found = found_there scripts group later in (suc found.0, found.1, found.2, found.3, found.4, found.5, found.6, found.7))
      (or_some (group_in worker script) (group_of worker scripts) group h)
