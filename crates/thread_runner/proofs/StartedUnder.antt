-- The group under which a worker is started.
use Rattle.std.proofs.Common.{◌≡◌, ℕ, zero, suc, ◌+◌, ◌<◌, Bool, true, false, cond, List, [], ◌∷◌, drop, length, get_or, Option, Some, None, slice_get, refl, sym, ap, ◌∙◌, subst, arith}
use Rattle.std.specs.List.{list_all}
use Rattle.std.proofs.lemmas.Option.{none-some, same_Some}
use Rattle.script_calls.specs.declared.call.Call.{Call}
use Rattle.script_calls.specs.declared.call.ComposedCall.TheVariants.{Go}
use Rattle.script_calls.specs.declared.call.Operation.{Operation}
use Rattle.script_calls.specs.declared.call.Operation.TheVariants as operations
use Rattle.script_calls.specs.Starts.{starts, group_in, group_or, group_of}
use Rattle.workload.specs.declared.object.ObjectKind.{ObjectKind}
use Rattle.workload.specs.declared.object.ObjectKind.TheVariants as kinds
use Rattle.workload.specs.Plan.{Plan, has_among, is_on, is_valid}
use Rattle.thread_objects.specs.Catalog.{IsAt}
use Rattle.thread_runner.proofs.ByKind.{go_kind, line_of}
use Rattle.thread_runner.proofs.ScriptCalls.{all_at, calls_are_on}

module _ (worker : ℕ) where
  -- the search of a script goes on behind a call that doesn't start the worker, and ends with one that does
  pub goes_on : (script : List Call) (i : ℕ) (call : Call) → slice_get script i ≡ Some call → starts worker call ≡ false → group_in worker (drop (suc i) script) ≡ group_in worker (drop i script)
  goes_on [] i call at is = absurd (none-some call at)
  goes_on (c ∷ script) zero call at is = sym (ap (λ (b : Bool). cond b (Some c.object) (group_in worker script)) (ap (starts worker) (same_Some c call at) ∙ is))
  goes_on (c ∷ script) (suc i) call at is = goes_on script i call at is

  pub ends_with : (script : List Call) (i : ℕ) (call : Call) → slice_get script i ≡ Some call → starts worker call ≡ true → group_in worker (drop i script) ≡ Some call.object
  ends_with [] i call at is = absurd (none-some call at)
  ends_with (c ∷ script) zero call at is =
      let same = same_Some c call at in
      ap (λ (b : Bool). cond b (Some c.object) (group_in worker script)) (ap (starts worker) same ∙ is) ∙ ap (λ (x : Call). Some x.object) same
  ends_with (c ∷ script) (suc i) call at is = ends_with script i call at is

  -- and so does that of all scripts
  pub goes_on_all : (scripts : List (List Call)) (i : ℕ) → i < length scripts → group_in worker (get_or scripts i []) ≡ None → group_of worker (drop (suc i) scripts) ≡ group_of worker (drop i scripts)
  goes_on_all [] i within none = absurd (omega (arith, within))
  goes_on_all (script ∷ scripts) zero within none = sym (ap (λ (o : Option ℕ). group_or o (group_of worker scripts)) none)
  goes_on_all (script ∷ scripts) (suc i) within none = goes_on_all scripts i (omega (arith, within)) none

  pub ends_with_one : (scripts : List (List Call)) (i group : ℕ) → i < length scripts → group_in worker (get_or scripts i []) ≡ Some group → group_of worker (drop i scripts) ≡ Some group
  ends_with_one [] i group within some = absurd (omega (arith, within))
  ends_with_one (script ∷ scripts) zero group within some = ap (λ (o : Option ℕ). group_or o (group_of worker scripts)) some
  ends_with_one (script ∷ scripts) (suc i) group within some = ends_with_one scripts i group (omega (arith, within)) some

-- the call under whose group a worker is started stands in a script
abbrev IsFound : Type 0
IsFound = (worker group : ℕ) (scripts : List (List Call)) → group_of worker scripts ≡ Some group
    → (at place : ℕ) × (script : List Call) × (call : Call) × (slice_get scripts at ≡ Some script) × (slice_get script place ≡ Some call) × (call.operation ≡ operations.Composed (Go worker)) × (call.object ≡ group)

-- so a wait group is declared at the group's place
pub group_at_place : (plan : Plan) (worker group : ℕ) → IsFound → is_valid plan ≡ true → group_of worker plan.scripts ≡ Some group → (start : ℕ) × IsAt plan group (kinds.WaitGroup start)
group_at_place plan worker group find valid is =
    let found = find worker group plan.scripts is in
    let call = found.3 in
    let each = λ (c : Call). is_on plan.objects (slice_get plan.objects c.object) c in
    let on = all_at each found.2 found.1 call (all_at (list_all each) plan.scripts found.0 found.2 (calls_are_on plan valid) found.4) found.5 in
    let line = line_of plan.objects call on in
    let kind = go_kind plan line.0.kind worker (ap (λ (o : Operation). has_among plan.objects line.0.kind o) (sym found.6) ∙ line.2) in
    (kind.0, (line.0, ap (λ n. slice_get plan.objects n) (sym found.7) ∙ line.1, kind.1))
