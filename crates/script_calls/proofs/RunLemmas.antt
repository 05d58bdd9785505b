-- Runs of scripts, call by call.
use Rattle.std.proofs.Common.{◌≡◌, ℕ, zero, suc, ◌+◌, ◌<◌, ◌≤◌, Bool, true, false, List, [], ◌∷◌, ◌++◌, map, length, take, drop, Some, slice_get, refl, sym, ap, ◌∙◌, subst, arith}
use Rattle.std.specs.Prelude.{◌||◌, cond}
use Rattle.sync_types.specs.declared.atomic_object.AtomicReply.TheVariants.{Compared}
use Rattle.sync_types.specs.declared.atomic_object.Number.{Number}
use Rattle.script_calls.specs.declared.call.Call.{Call}
use Rattle.script_calls.specs.declared.call.ComposedCall.TheVariants.{IfEqual}
use Rattle.script_calls.specs.declared.call.Operation.{Operation}
use Rattle.script_calls.specs.declared.call.Operation.TheVariants as operations
use Rattle.script_calls.specs.declared.call.Reply.{Reply}
use Rattle.script_calls.specs.declared.call.Reply.TheVariants as replies
use Rattle.script_calls.specs.Outcome.{with_keys_renamed}
use Rattle.script_calls.specs.Runs.{says_no, passes_of, passed_over, is_test_operation, is_test, has_test, left_of, made_of, places_from, RunsAlong}

or_both : (a b : Bool) → (a || b) ≡ false → (a ≡ false) × (b ≡ false)
or_both true b h = cc
or_both false b h = (refl, h)

drop_none : (n : ℕ) (xs : List Call) → n ≡ 0 → drop n xs ≡ xs
drop_none n xs h = ap (λ k. drop k xs) h

drop_get : (n i j : ℕ) (xs : List Call) → j ≡ n + i → slice_get (drop n xs) i ≡ slice_get xs j
drop_get zero i j xs is = let e : i ≡ j = omega (arith, is) in ap (λ k. slice_get xs k) e
drop_get (suc n) i j [] is = refl
drop_get (suc n) i zero (x ∷ xs) is = absurd (omega (arith, is))
drop_get (suc n) i (suc j) (x ∷ xs) is = drop_get n i j xs (omega (arith, is))

drop_short : (n : ℕ) (xs : List Call) → length (drop n xs) ≤ length xs
drop_short zero xs = omega arith
drop_short (suc n) [] = omega arith
drop_short (suc n) (x ∷ xs) = let less = drop_short n xs in omega (arith, less)

pub drop_past : (n : ℕ) (xs : List Call) → length xs ≤ n → drop n xs ≡ []
drop_past zero [] h = refl
drop_past (suc n) [] h = refl
drop_past zero (x ∷ xs) h = absurd (omega (arith, h))
drop_past (suc n) (x ∷ xs) h = drop_past n xs (omega (arith, h))

pub drop_at : (place : ℕ) (xs : List Call) (call : Call) → slice_get xs place ≡ Some call → drop place xs ≡ call ∷ drop (suc place) xs
drop_at place [] call at = cc
drop_at zero (x ∷ xs) call at = let same : x ≡ call = cc in ap (λ c. c ∷ xs) same
drop_at (suc place) (x ∷ xs) call at = drop_at place xs call at

nothing : (k : ℕ) → drop {A = Call} k [] ≡ []
nothing zero = refl
nothing (suc k) = refl

pub drop_more : (place passes n : ℕ) (xs : List Call) → n ≡ place + 1 + passes → drop passes (drop (suc place) xs) ≡ drop n xs
drop_more place passes n [] is = nothing passes ∙ sym (nothing n)
drop_more place passes zero (x ∷ xs) is = absurd (omega (arith, is))
drop_more zero passes (suc n) (x ∷ xs) is = let e : passes ≡ n = omega (arith, is) in ap (λ k. drop k xs) e
drop_more (suc place) passes (suc n) (x ∷ xs) is = drop_more place passes n xs (omega (arith, is))

pub drop_over : (script : List Call) (place passes : ℕ) → drop passes (drop (place + 1) script) ≡ drop (place + 1 + passes) script
drop_over script place passes = let more : suc place ≡ place + 1 = omega arith in ap (λ n. drop passes (drop n script)) (sym more) ∙ drop_more place passes (place + 1 + passes) script refl

pub past : (script : List Call) (place : ℕ) → length script ≤ place → drop place script ≡ []
past script place h = drop_past place script h

pub at_place : (script : List Call) (place : ℕ) (call : Call) → slice_get script place ≡ Some call → drop place script ≡ call ∷ drop (place + 1) script
at_place script place call at = let more : suc place ≡ place + 1 = omega arith in drop_at place script call at ∙ ap (λ n. call ∷ drop n script) more

either : (no : Bool) {n : ℕ} → n ≡ 0 → cond no n 0 ≡ 0
either true is = is
either false is = refl

tests_alone : (operation : Operation) → is_test_operation operation ≡ false → passes_of operation ≡ 0
tests_alone (operations.Composed (IfEqual value passes)) h = cc
tests_alone operation h = cc

-- the operation that passes some over
some_test : (operation : Operation) → 0 < passes_of operation → (value : Number) × (passes : ℕ) × (operation ≡ operations.Composed (IfEqual value passes))
some_test (operations.Composed (IfEqual value passes)) h = (value, passes, refl)
some_test operation h = absurd (omega (arith, h))

some_no : {K : Type 0} (reply : Reply K) (n : ℕ) → 0 < cond (says_no reply) n 0 → (reply ≡ replies.Atomic (Compared false)) × (0 < n)
some_no (replies.Atomic (Compared false)) n h = (refl, h)
some_no reply n h = absurd (omega (arith, h))

module _ {K : Type 0} where
  pub passes_so : (call : Call) (value : Number) (passes : ℕ) (reply : Reply K) → call.operation ≡ operations.Composed (IfEqual value passes) → reply ≡ replies.Atomic (Compared false) → passed_over call reply ≡ passes
  passes_so call value passes reply is denied = ap (λ (r : Reply K). passed_over call r) denied ∙ ap passes_of is

  pub passes_only : (call : Call) (reply : Reply K) → 0 < passed_over call reply
      → ((value : Number) × (passes : ℕ) × (call.operation ≡ operations.Composed (IfEqual value passes))) × (reply ≡ replies.Atomic (Compared false))
  passes_only call reply some =
      let denied = some_no reply (passes_of call.operation) some in
      (some_test call.operation denied.1, denied.0)

  passes_none : (call : Call) (reply : Reply K) → is_test call ≡ false → passed_over call reply ≡ 0
  passes_none call reply h = either (says_no reply) (tests_alone (call.operation) h)

  pub own_left : (script : List Call) (given : List (Reply K)) → has_test script ≡ false → left_of script given ≡ drop (length given) script
  own_left script [] none = refl
  own_left [] (reply ∷ given) none = refl
  own_left (call ∷ script) (reply ∷ given) none =
      let parts = or_both (is_test call) (has_test script) none in
      ap (λ (l : List Call). left_of l given) (drop_none (passed_over call reply) script (passes_none call reply parts.0)) ∙ own_left script given parts.1

  pub own_made : (script : List Call) (given : List (Reply K)) → has_test script ≡ false → made_of script given ≡ take (length given) script
  own_made script [] none = refl
  own_made [] (reply ∷ given) none = refl
  own_made (call ∷ script) (reply ∷ given) none =
      let parts = or_both (is_test call) (has_test script) none in
      ap (λ (l : List Call). call ∷ made_of l given) (drop_none (passed_over call reply) script (passes_none call reply parts.0)) ∙ ap (λ (l : List Call). call ∷ l) (own_made script given parts.1)

  pub own_run : (script rest : List Call) (made : List (Call × Reply K)) → has_test script ≡ false → RunsAlong script made rest → script ≡ map (λ one. one.0) made ++ rest
  own_run script rest [] none run = sym run
  own_run script rest (one ∷ made) none (behind, is, later) =
      let parts = or_both (is_test one.0) (has_test behind) (sym (ap (has_test) is) ∙ none) in
      let same = drop_none (passed_over one.0 one.1) behind (passes_none one.0 one.1 parts.0) in
      is ∙ ap (λ (l : List Call). one.0 ∷ l) (own_run behind rest made parts.1 (subst (λ (l : List Call). RunsAlong l made rest) same later))

  pub run_told : (script rest : List Call) (made : List (Call × Reply K)) → RunsAlong script made rest
      → (map (λ one. one.0) made ≡ made_of script (map (λ one. one.1) made)) × (rest ≡ left_of script (map (λ one. one.1) made))
  run_told script rest [] run = (refl, run)
  run_told script rest (one ∷ made) (behind, is, later) =
      let told = run_told (drop (passed_over one.0 one.1) behind) rest made later in
      (ap (λ (l : List Call). one.0 ∷ l) told.0 ∙ ap (λ (l : List Call). made_of l (one.1 ∷ map (λ o. o.1) made)) (sym is), told.1 ∙ ap (λ (l : List Call). left_of l (one.1 ∷ map (λ o. o.1) made)) (sym is))

  pub run_back : (script : List Call) (given : List (Reply K)) → length (made_of script given) ≡ length given → (made : List (Call × Reply K)) × (map (λ one. one.1) made ≡ given) × RunsAlong script made (left_of script given)
  run_back script [] full = ([], refl, refl)
  run_back [] (reply ∷ given) full = absurd (omega (arith, full))
  run_back (call ∷ script) (reply ∷ given) full =
      let back = run_back (drop (passed_over call reply) script) given (omega (arith, full)) in
      ((call, reply) ∷ back.0, ap (λ (l : List (Reply K)). reply ∷ l) back.1, (script, refl, back.2))

  -- the place of a call is that in what is left, behind where that begins
  place_from : (base : ℕ) (script : List Call) (given : List (Reply K)) (i place : ℕ) → slice_get (places_from base script given) i ≡ Some place
      → (within : ℕ) × (place ≡ base + within) × (slice_get script within ≡ slice_get (made_of script given) i)
  place_from base script [] i place at = cc
  place_from base [] (reply ∷ given) i place at = cc
  place_from base (call ∷ script) (reply ∷ given) zero place at = (0, (let same : base ≡ place = cc in omega (arith, same)), refl)
  place_from base (call ∷ script) (reply ∷ given) (suc i) place at =
      let passes = passed_over call reply in
      let found = place_from (base + 1 + passes) (drop passes script) given i place at in
      let e = found.1 in
      (suc (passes + found.0), omega (arith, e), sym (drop_get passes found.0 (passes + found.0) script refl) ∙ found.2)

  pub place_kept : (script : List Call) (given : List (Reply K)) (i place : ℕ) → slice_get (places_from 0 script given) i ≡ Some place → slice_get script place ≡ slice_get (made_of script given) i
  place_kept script given i place at = let found = place_from 0 script given i place at in let at_it = found.1 in let e : place ≡ found.0 = omega (arith, at_it) in ap (λ p. slice_get script p) e ∙ found.2

  next_from : (base : ℕ) (script : List Call) (given : List (Reply K)) (i place after : ℕ) (reply : Reply K) → slice_get (places_from base script given) i ≡ Some place → slice_get (places_from base script given) (suc i) ≡ Some after
      → slice_get given i ≡ Some reply → (call : Call) × (slice_get (made_of script given) i ≡ Some call) × (after ≡ place + 1 + passed_over call reply)
  next_from base script [] i place after reply at next given_at = cc
  next_from base [] (r ∷ given) i place after reply at next given_at = cc
  next_from base (call ∷ script) (r ∷ given) zero place after reply at next given_at = (call, refl, first_next (drop (passed_over call r) script) given next) where
    first_next : (l : List Call) (more : List (Reply K)) → slice_get (places_from (base + 1 + passed_over call r) l more) 0 ≡ Some after → after ≡ place + 1 + passed_over call reply
    first_next l [] h = cc
    first_next [] (x ∷ more) h = cc
    first_next (c ∷ l) (x ∷ more) h =
        let same : base ≡ place = cc in
        let is : r ≡ reply = cc in
        let e : base + 1 + passed_over call r ≡ after = cc in
        sym e ∙ (ap (λ b. b + 1 + passed_over call r) same ∙ ap (λ (x : Reply K). place + 1 + passed_over call x) is)
  next_from base (call ∷ script) (r ∷ given) (suc i) place after reply at next given_at = next_from (base + 1 + passed_over call r) (drop (passed_over call r) script) given i place after reply at next given_at

  pub place_next : (script : List Call) (given : List (Reply K)) (i place after : ℕ) (call : Call) (reply : Reply K) → slice_get (places_from 0 script given) i ≡ Some place → slice_get (places_from 0 script given) (i + 1) ≡ Some after
      → slice_get script place ≡ Some call → slice_get given i ≡ Some reply → after ≡ place + 1 + passed_over call reply
  place_next script given i place after call reply at next is given_at =
      let more : i + 1 ≡ suc i = omega arith in
      let found = next_from 0 script given i place after reply at (sym (ap (λ n. slice_get (places_from 0 script given) n) more) ∙ next) given_at in
      let both : Some call ≡ Some found.0 = sym is ∙ (place_kept script given i place at ∙ found.1) in
      let same : call ≡ found.0 = cc in
      found.2 ∙ ap (λ (c : Call). place + 1 + passed_over c reply) (sym same)

  pub left_more : (script : List Call) (given : List (Reply K)) (call : Call) (rest : List Call) (reply : Reply K) → left_of script given ≡ call ∷ rest → left_of script (given ++ reply ∷ []) ≡ drop (passed_over call reply) rest
  left_more script [] call rest reply is = ap (λ (l : List Call). left_of l (reply ∷ [])) is
  left_more [] (r ∷ given) call rest reply is = cc
  left_more (c ∷ script) (r ∷ given) call rest reply is = left_more (drop (passed_over c r) script) given call rest reply is

  pub made_more : (script : List Call) (given : List (Reply K)) (call : Call) (rest : List Call) (reply : Reply K) → left_of script given ≡ call ∷ rest → made_of script (given ++ reply ∷ []) ≡ made_of script given ++ call ∷ []
  made_more script [] call rest reply is = ap (λ (l : List Call). made_of l (reply ∷ [])) is
  made_more [] (r ∷ given) call rest reply is = cc
  made_more (c ∷ script) (r ∷ given) call rest reply is = ap (λ (l : List Call). c ∷ l) (made_more (drop (passed_over c r) script) given call rest reply is)

  pub few : (script : List Call) (given : List (Reply K)) → length (made_of script given) + length (left_of script given) ≤ length script
  few script [] = omega arith
  few [] (r ∷ given) = omega arith
  few (c ∷ script) (r ∷ given) = let less = few (drop (passed_over c r) script) given in let short = drop_short (passed_over c r) script in omega (arith, less, short)

  pub own_back : (made : List (Call × Reply K)) (rest : List Call) → has_test (map (λ one. one.0) made ++ rest) ≡ false → RunsAlong (map (λ one. one.0) made ++ rest) made rest
  own_back [] rest none = refl
  own_back (one ∷ made) rest none =
      let parts = or_both (is_test one.0) (has_test (map (λ one. one.0) made ++ rest)) none in
      let same = drop_none (passed_over one.0 one.1) (map (λ one. one.0) made ++ rest) (passes_none one.0 one.1 parts.0) in
      (map (λ one. one.0) made ++ rest, refl, subst (λ (l : List Call). RunsAlong l made rest) (sym same) (own_back made rest parts.1))

  pub along_more : (script : List Call) (made : List (Call × Reply K)) (call : Call) (rest : List Call) (reply : Reply K) → RunsAlong script made (call ∷ rest) → RunsAlong script (made ++ (call, reply) ∷ []) (drop (passed_over call reply) rest)
  along_more script [] call rest reply run = (rest, sym run, refl)
  along_more script (one ∷ made) call rest reply (behind, is, later) = (behind, is, along_more (drop (passed_over one.0 one.1) behind) made call rest reply later)

module _ {K L : Type 0} (rename : K → L) where
  says_renamed : (reply : Reply K) → says_no (with_keys_renamed rename reply) ≡ says_no reply
  says_renamed (replies.Map reply) = refl
  says_renamed (replies.Pairs pairs) = refl
  says_renamed (replies.Atomic reply) = refl
  says_renamed (replies.Lock reply) = refl
  says_renamed replies.Returned = refl
  says_renamed (replies.Once reply) = refl
  says_renamed (replies.OnceFunc code) = refl
  says_renamed (replies.OnceValue value) = refl
  says_renamed (replies.Pool reply) = refl
  says_renamed (replies.Flown value shared) = refl
  says_renamed (replies.Var reply) = refl

  pub passed_renamed : (call : Call) (reply : Reply K) → passed_over call (with_keys_renamed rename reply) ≡ passed_over call reply
  passed_renamed call reply = ap (λ no. cond no (passes_of call.operation) 0) (says_renamed reply)

  pub left_renamed : (script : List Call) (given : List (Reply K)) → left_of script (map (with_keys_renamed rename) given) ≡ left_of script given
  left_renamed script [] = refl
  left_renamed [] (reply ∷ given) = refl
  left_renamed (call ∷ script) (reply ∷ given) = ap (λ n. left_of (drop n script) (map (with_keys_renamed rename) given)) (passed_renamed call reply) ∙ left_renamed (drop (passed_over call reply) script) given

  pub made_renamed : (script : List Call) (given : List (Reply K)) → made_of script (map (with_keys_renamed rename) given) ≡ made_of script given
  made_renamed script [] = refl
  made_renamed [] (reply ∷ given) = refl
  made_renamed (call ∷ script) (reply ∷ given) =
      ap (λ n. call ∷ made_of (drop n script) (map (with_keys_renamed rename) given)) (passed_renamed call reply) ∙ ap (λ (l : List Call). call ∷ l) (made_renamed (drop (passed_over call reply) script) given)
