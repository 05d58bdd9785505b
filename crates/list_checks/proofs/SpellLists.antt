-- Parts of lists, from one place up to another.
use Rattle.std.proofs.Common.{◌≡◌, ℕ, zero, suc, ◌+◌, ◌-◌, ◌≤◌, List, [], ◌∷◌, ◌++◌, take, drop, Some, slice_get, sym, ap, ◌∙◌, arith}
use Rattle.std.specs.List.{slice_range}
use Rattle.std.proofs.Math.Seq.{take-add}
use Rattle.std.proofs.lemmas.List.{drop-drop}
use Rattle.std.proofs.lemmas.Option.{none-some, same_Some}

drop_at : {X : Type 0} (list : List X) (place : ℕ) (x : X) → slice_get list place ≡ Some x → drop place list ≡ x ∷ drop (suc place) list
drop_at [] place x at = absurd (none-some x at)
drop_at (y ∷ list) zero x at = ap (λ z. z ∷ list) (same_Some y x at)
drop_at (y ∷ list) (suc place) x at = drop_at list place x at

-- a list behind a place begins with what is there
pub at_place : {X : Type 0} (list : List X) (place : ℕ) (x : X) → slice_get list place ≡ Some x → drop place list ≡ x ∷ drop (place + 1) list
at_place list place x at = let more : suc place ≡ place + 1 = omega arith in drop_at list place x at ∙ ap (λ n. x ∷ drop n list) more

-- two parts that meet
pub joined : {X : Type 0} (list : List X) (a b c : ℕ) → a ≤ b → b ≤ c → slice_range list a b ++ slice_range list b c ≡ slice_range list a c
joined list a b c first second =
    let there : a + (b - a) ≡ b = omega (arith, first) in
    let all : (b - a) + (c - b) ≡ c - a = omega (arith, first, second) in
    ap (λ rest. take (b - a) (drop a list) ++ take (c - b) rest) (ap (λ n. drop n list) (sym there) ∙ sym (drop-drop (b - a) a list))
    ∙ sym (take-add (b - a) (c - b) (drop a list)) ∙ ap (λ n. take n (drop a list)) all

-- nothing stands between a place and itself
pub nothing : {X : Type 0} (list : List X) (place : ℕ) → slice_range list place place ≡ []
nothing list place = let none : place - place ≡ 0 = omega arith in ap (λ n. take n (drop place list)) none

-- one element
pub one : {X : Type 0} (list : List X) (place : ℕ) (x : X) → slice_get list place ≡ Some x → slice_range list place (place + 1) ≡ x ∷ []
one list place x at =
    let single : (place + 1) - place ≡ 1 = omega arith in
    ap (λ n. take n (drop place list)) single ∙ ap (take 1) (at_place list place x at)

-- one more
pub one_more : {X : Type 0} (list : List X) (from place : ℕ) (x : X) → slice_get list place ≡ Some x → from ≤ place → slice_range list from place ++ x ∷ [] ≡ slice_range list from (place + 1)
one_more list from place x at behind = ap (λ end. slice_range list from place ++ end) (sym (one list place x at)) ∙ joined list from place (place + 1) behind (omega arith)
