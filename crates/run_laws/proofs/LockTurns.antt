-- The locks and unlocks of a script, counted.
use Rattle.std.proofs.Common.{◌≡◌, ℕ, ◌+◌, ◌==◌, Bool, true, false, ◌||◌, cond, List, [], ◌∷◌, ◌++◌, refl, sym, ap, ◌∙◌, subst, arith}
use Rattle.std.specs.Prelude.{◌&&◌, not, count_by}
use Rattle.std.specs.List.{list_any}
use Rattle.std.proofs.lemmas.Bool.{false≢true, and_parts, eq-eqb}
use Rattle.std.proofs.lemmas.List.Sums.{sum_by-cons}
use Rattle.script_calls.specs.declared.call.Call.{Call}
use Rattle.script_calls.specs.declared.call.Operation.{Operation}
use Rattle.script_calls.specs.declared.call.Operation.TheVariants as operations
use Rattle.sync_types.specs.declared.lock_call.MutexCall.TheVariants.{Lock, Unlock, TryLock}
use Rattle.run_laws.specs.Locks.{is_in_turn, keeps_lock, is_lock, is_unlock, locks_at, unlocks_at}
use Rattle.run_laws.proofs.LockLines.{comes_in_turn, next_held, keeps_on}

-- an operation that comes in its turn locks what isn't held, and unlocks what is
of_turn : (held : Bool) (operation : Operation) → is_in_turn held operation ≡ true → (is_lock operation ≡ not held) × (is_unlock operation ≡ held)
of_turn false (operations.Mutex Lock) turn = (refl, refl)
of_turn true (operations.Mutex Unlock) turn = (refl, refl)
of_turn false (operations.Mutex Unlock) turn = absurd (false≢true turn)
of_turn false (operations.Mutex TryLock) turn = absurd (false≢true turn)
of_turn true (operations.Mutex Lock) turn = absurd (false≢true turn)
of_turn true (operations.Mutex TryLock) turn = absurd (false≢true turn)
of_turn false operation turn = absurd (false≢true turn)
of_turn true operation turn = absurd (false≢true turn)

abbrev as_number : Bool → ℕ
as_number b = cond b 1 0

module _ (place : ℕ) where
  -- one call more, and whether the worker holds the mutex then
  counts_on : (held : Bool) (call : Call) → comes_in_turn place held call ≡ true
      → as_number held + as_number (locks_at place call) ≡ as_number (unlocks_at place call) + as_number (next_held place held call)
  counts_on held call turn = by_object (call.object == place) held turn where
    by_object : (b held : Bool) → cond b (is_in_turn held call.operation) true ≡ true → as_number held + as_number (b && is_lock call.operation) ≡ as_number (b && is_unlock call.operation) + as_number (cond b (not held) held)
    by_object false held turn = omega arith
    by_object true held turn = let is = of_turn held call.operation turn in
        subst (λ (l : Bool). as_number held + as_number l ≡ as_number (is_unlock call.operation) + as_number (not held)) (sym is.0)
        (subst (λ (u : Bool). as_number held + as_number (not held) ≡ as_number u + as_number (not held)) (sym is.1) refl)

  -- the calls before one: whether the worker then holds the mutex
  counted : (earlier later : List Call) (call : Call) (held : Bool) → keeps_lock place held (earlier ++ call ∷ later) ≡ true
      → (then : Bool) × (comes_in_turn place then call ≡ true) × (as_number held + count_by (locks_at place) earlier ≡ count_by (unlocks_at place) earlier + as_number then)
  counted [] later call held keeps = (held, (keeps_on place held call later keeps).0, omega arith)
  counted (x ∷ earlier) later call held keeps =
      let on = keeps_on place held x (earlier ++ call ∷ later) keeps in
      let rest = counted earlier later call (next_held place held x) on.1 in
      let one = counts_on held x on.0 in
      let e = rest.2 in
      (rest.0, rest.1, omega (arith, one, e, sum_by-cons (λ c. as_number (locks_at place c)) x earlier, sum_by-cons (λ c. as_number (unlocks_at place c)) x earlier))

  -- a call in its turn, on the mutex
  in_turn : (held : Bool) (call : Call) → comes_in_turn place held call ≡ true → (call.object == place) ≡ true → (is_lock call.operation ≡ not held) × (is_unlock call.operation ≡ held)
  in_turn held call turn on = of_turn held call.operation (ap (λ (b : Bool). cond b (is_in_turn held call.operation) true) (sym on) ∙ turn)

  pub before_unlock : (earlier later : List Call) (call : Call) → keeps_lock place false (earlier ++ call ∷ later) ≡ true → unlocks_at place call ≡ true → count_by (locks_at place) earlier ≡ count_by (unlocks_at place) earlier + 1
  before_unlock earlier later call keeps unlocks =
      let at = counted earlier later call false keeps in
      let both = and_parts (call.object == place) (is_unlock call.operation) unlocks in
      let holds : at.0 ≡ true = sym (in_turn at.0 call at.1 both.0).1 ∙ both.1 in
      let e = at.2 in
      omega (arith, e, ap as_number holds)

  pub before_lock : (earlier later : List Call) (call : Call) → keeps_lock place false (earlier ++ call ∷ later) ≡ true → locks_at place call ≡ true → count_by (locks_at place) earlier ≡ count_by (unlocks_at place) earlier
  before_lock earlier later call keeps locks =
      let at = counted earlier later call false keeps in
      let both = and_parts (call.object == place) (is_lock call.operation) locks in
      let free : as_number at.0 ≡ 0 = none at.0 (sym (in_turn at.0 call at.1 both.0).0 ∙ both.1) in
      let e = at.2 in
      omega (arith, e, free) where
        none : (b : Bool) → not b ≡ true → as_number b ≡ 0
        none false is = refl
        none true is = absurd (false≢true is)

  pub no_try : (earlier later : List Call) (call : Call) → keeps_lock place false (earlier ++ call ∷ later) ≡ true → call.object ≡ place → call.operation ≡ operations.Mutex TryLock → ⊥
  no_try earlier later call keeps on tries =
      let at = counted earlier later call false keeps in
      let is = in_turn at.0 call at.1 (eq-eqb call.object place on) in
      neither at.0 (sym (ap is_lock tries) ∙ is.0) (sym (ap is_unlock tries) ∙ is.1) where
        neither : (b : Bool) → false ≡ not b → false ≡ b → ⊥
        neither true first second = false≢true second
        neither false first second = false≢true first

  -- calls on other objects
  passed : (held : Bool) (between later : List Call) → list_any (λ call. call.object == place) between ≡ false → keeps_lock place held (between ++ later) ≡ keeps_lock place held later
  passed held [] later none = refl
  passed held (call ∷ between) later none = by_object (call.object == place) none (passed held between later) where
    by_object : (b : Bool) → (b || list_any (λ c. c.object == place) between) ≡ false → (list_any (λ c. c.object == place) between ≡ false → keeps_lock place held (between ++ later) ≡ keeps_lock place held later)
        → cond b (is_in_turn held call.operation && keeps_lock place (not held) (between ++ later)) (keeps_lock place held (between ++ later)) ≡ keeps_lock place held later
    by_object true none on = absurd (false≢true (sym none))
    by_object false none on = on none

  -- one call of the mutex in its turn
  one_call : (held : Bool) (call : Call) (later : List Call) → (call.object == place) ≡ true → is_in_turn held call.operation ≡ true → keeps_lock place held (call ∷ later) ≡ keeps_lock place (not held) later
  one_call held call later on turn = ap (λ (b : Bool). cond b (is_in_turn held call.operation && keeps_lock place (not held) later) (keeps_lock place held later)) on ∙ ap (λ (b : Bool). b && keeps_lock place (not held) later) turn

  locks_in_turn : (operation : Operation) → is_lock operation ≡ true → is_in_turn false operation ≡ true
  locks_in_turn (operations.Mutex Lock) is = refl
  locks_in_turn (operations.Mutex Unlock) is = absurd (false≢true is)
  locks_in_turn (operations.Mutex TryLock) is = absurd (false≢true is)
  locks_in_turn operation is = absurd (false≢true is)

  unlocks_in_turn : (operation : Operation) → is_unlock operation ≡ true → is_in_turn true operation ≡ true
  unlocks_in_turn (operations.Mutex Unlock) is = refl
  unlocks_in_turn (operations.Mutex Lock) is = absurd (false≢true is)
  unlocks_in_turn (operations.Mutex TryLock) is = absurd (false≢true is)
  unlocks_in_turn operation is = absurd (false≢true is)

  pub once_more : (between later : List Call) (first last : Call) → locks_at place first ≡ true → list_any (λ call. call.object == place) between ≡ false → unlocks_at place last ≡ true
      → keeps_lock place false (first ∷ (between ++ last ∷ later)) ≡ keeps_lock place false later
  once_more between later first last locks none unlocks =
      let begin = and_parts (first.object == place) (is_lock first.operation) locks in
      let end = and_parts (last.object == place) (is_unlock last.operation) unlocks in
      one_call false first (between ++ last ∷ later) begin.0 (locks_in_turn first.operation begin.1) ∙ (passed true between (last ∷ later) none ∙ one_call true last later end.0 (unlocks_in_turn last.operation end.1))
