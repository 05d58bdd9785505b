-- What is left of a script behind replies.
use Rattle.std.proofs.Common.{◌≡◌, ℕ, zero, suc, ◌+◌, ◌≤◌, Bool, true, false, ◌||◌, List, [], ◌∷◌, ◌++◌, drop, length, get_or, Some, None, refl, sym, ap, ◌∙◌, arith}
use Rattle.std.specs.Prelude.{slice_get, count_by, cond}
use Rattle.std.proofs.lemmas.List.{drop-drop}
use Rattle.std.proofs.lemmas.List.Sums.{sum_by-take-drop}
use Rattle.script_calls.specs.declared.call.Call.{Call}
use Rattle.script_calls.specs.declared.call.Reply.{Reply}
use Rattle.script_calls.specs.Runs.{passed_over, has_test, have_tests, left_of, made_of}

-- what the law says of a run with one reply more
pub record GoesFurther : Type 0 where
  pub left : (script : List Call) (given : List (Reply (List ℕ))) (call : Call) (rest : List Call) (reply : Reply (List ℕ)) → left_of script given ≡ call ∷ rest
      → left_of script (given ++ reply ∷ []) ≡ drop (passed_over call reply) rest
  pub made : (script : List Call) (given : List (Reply (List ℕ))) (call : Call) (rest : List Call) (reply : Reply (List ℕ)) → left_of script given ≡ call ∷ rest
      → made_of script (given ++ reply ∷ []) ≡ made_of script given ++ call ∷ []
  pub few : (script : List Call) (given : List (Reply (List ℕ))) → length (made_of script given) + length (left_of script given) ≤ length script

-- ---- the first call of a list

pub split_first : {X : Type 0} (ys : List X) (y : X) → slice_get ys 0 ≡ Some y → (rest : List X) × (ys ≡ y ∷ rest)
split_first [] y at = absurd cc
split_first {X = X} (x ∷ ys) y at = (ys, ap (λ (z : X). z ∷ ys) (one at))
  where
    one : {a b : X} → Some a ≡ Some b → a ≡ b
    one e = cc

pub none_first : {X : Type 0} (ys : List X) → slice_get ys 0 ≡ None → ys ≡ []
none_first [] at = refl
none_first (x ∷ ys) at = absurd cc

pub get_at : {X : Type 0} (k : ℕ) (xs : List X) → slice_get (drop k xs) 0 ≡ slice_get xs k
get_at zero xs = refl
get_at (suc k) [] = refl
get_at (suc k) (x ∷ xs) = get_at k xs

-- ---- what is left is the script from a place on

pub left_from : {K : Type 0} (script : List Call) (given : List (Reply K)) → (place : ℕ) × (left_of script given ≡ drop place script)
left_from script [] = (0, refl)
left_from [] (reply ∷ given) = (0, refl)
left_from (call ∷ script) (reply ∷ given) =
    let n = passed_over call reply in
    let rest = left_from (drop n script) given in
    (suc (n + rest.0), rest.1 ∙ drop-drop rest.0 n script)

-- so a call that is left is one of the script
pub in_script : {K : Type 0} (script : List Call) (given : List (Reply K)) (call : Call) → slice_get (left_of script given) 0 ≡ Some call → (place : ℕ) × (slice_get script place ≡ Some call)
in_script script given call at =
    let from = left_from script given in
    (from.0, sym (get_at from.0 script) ∙ ap (λ (l : List Call). slice_get l 0) (sym from.1) ∙ at)

pub none_left : {K : Type 0} (given : List (Reply K)) → left_of [] given ≡ []
none_left [] = refl
none_left (reply ∷ given) = refl

-- there are no more of a sort behind some calls than before
pub count_behind : (p : Call → Bool) (k : ℕ) (calls : List Call) → count_by p (drop k calls) ≤ count_by p calls
count_behind p k calls = omega (arith, sum_by-take-drop (λ (call : Call). cond (p call) 1 0) calls k)

-- ---- scripts none of whose calls passes others over

or_false : (a b : Bool) → (a || b) ≡ false → (a ≡ false) × (b ≡ false)
or_false true b e = absurd cc
or_false false b e = (refl, e)

pub no_test : (scripts : List (List Call)) (worker : ℕ) → have_tests scripts ≡ false → has_test (get_or scripts worker []) ≡ false
no_test [] worker none = refl
no_test (script ∷ scripts) zero none = (or_false (has_test script) (have_tests scripts) none).0
no_test (script ∷ scripts) (suc worker) none = no_test scripts worker (or_false (has_test script) (have_tests scripts) none).1
