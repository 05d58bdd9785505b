-- Places go on: their lists, and that fewer steps are left.
use Rattle.std.proofs.Common.{◌≡◌, ℕ, zero, suc, ◌+◌, ◌-◌, ◌*◌, ◌^◌, ◌<◌, ◌≤◌, List, [], ◌∷◌, ◌++◌, length, get_or, take, set, refl, sym, ap, subst, ◌∙◌, arith, length-append, add_assoc}
use Rattle.std.specs.Prelude.{slice_index}
use Rattle.std.proofs.lemmas.List.{take_more_set}
use Rattle.std.proofs.Math.Nat.{one-le-pow, pow-succ', mul-le-mul_right}
use Rattle.trie_nodes.specs.Places.{bump, but_last, last_of, come, steps_left}

-- writes to an array, of which the first places count
pub bump_set : (xs : List ℕ) (d e : ℕ) → d ≡ suc e → e < length xs → take d (set xs e (get_or xs e 0 + 1)) ≡ bump (take d xs)
bump_set xs zero e is below = absurd (omega arith)
bump_set [] (suc d) e is below = absurd (omega arith)
bump_set (x ∷ xs) (suc zero) zero is below = let one : x + 1 ≡ suc x = omega arith in ap (λ n. n ∷ []) one
bump_set (x ∷ xs) (suc zero) (suc e) is below = absurd (omega arith)
bump_set (x ∷ xs) (suc (suc d)) zero is below = absurd (omega arith)
bump_set (x ∷ []) (suc (suc d)) (suc e) is below = absurd (omega arith)
bump_set (x ∷ y ∷ xs) (suc (suc d)) (suc e) is below = ap (λ l. x ∷ l) (bump_set (y ∷ xs) (suc d) e (omega arith) (omega arith))

pub take_but_last : (xs : List ℕ) (d : ℕ) → suc d ≤ length xs → take d xs ≡ but_last (take (suc d) xs)
take_but_last [] d le = absurd (omega arith)
take_but_last (x ∷ xs) zero le = refl
take_but_last (x ∷ []) (suc d) le = absurd (omega arith)
take_but_last (x ∷ y ∷ xs) (suc d) le = ap (λ l. x ∷ l) (take_but_last (y ∷ xs) d (omega arith))

pow_some : (n : ℕ) → 1 ≤ 17 ^ n
pow_some n = one-le-pow n 17 (omega arith)

pow_more : (n : ℕ) → 17 ^ suc n ≡ 17 * 17 ^ n
pow_more n = pow-succ' 17 n

-- one more slot at the end counts by its level
come_last : (n : ℕ) (xs : List ℕ) (x : ℕ) → length xs ≤ n → come n (xs ++ x ∷ []) ≡ come n xs + x * 17 ^ (n - length xs)
unfolding come
come_last n [] x le = let e : n - 0 ≡ n = omega arith in ap (λ m. x * 17 ^ m + 0) (sym e) ∙ (let zero_sum : x * 17 ^ (n - 0) + 0 ≡ 0 + x * 17 ^ (n - 0) = omega arith in zero_sum)
come_last n (y ∷ xs) x le =
    let deeper = come_last (n - 1) xs x (omega arith) in
    let e : n - 1 - length xs ≡ n - length (y ∷ xs) = omega arith in
    ap (λ m. y * 17 ^ n + m) (deeper ∙ ap (λ m. come (n - 1) xs + x * 17 ^ m) e) ∙ sym (add_assoc (y * 17 ^ n) (come (n - 1) xs) (x * 17 ^ (n - length (y ∷ xs))))

bump_item : (xs : List ℕ) (x : ℕ) → bump (xs ++ x ∷ []) ≡ xs ++ suc x ∷ []
bump_item [] x = refl
bump_item (y ∷ []) x = refl
bump_item (y ∷ z ∷ xs) x = ap (λ l. y ∷ l) (bump_item (z ∷ xs) x)

-- a list is its front and its last
pub parts : (x : ℕ) (xs : List ℕ) → x ∷ xs ≡ but_last (x ∷ xs) ++ last_of (x ∷ xs) ∷ []
parts x [] = refl
parts x (y ∷ xs) = ap (λ l. x ∷ l) (parts y xs)

-- no place is behind the last
come_small : (n : ℕ) (xs : List ℕ) → length xs ≤ suc n → ((i : ℕ) → slice_index xs i ≤ 16) → suc (come n xs) ≤ 17 ^ suc n
unfolding come
come_small n [] le small = pow_some (suc n)
come_small zero (x ∷ []) le small = let first : x ≤ 16 = small 0 in omega arith
come_small zero (x ∷ y ∷ xs) le small = absurd (omega arith)
come_small (suc n) (x ∷ xs) le small =
    let deeper = come_small n xs (omega arith) (λ i. small (suc i)) in
    let e : suc n - 1 ≡ n = omega arith in
    let same : come (suc n - 1) xs ≡ come n xs = ap (λ m. come m xs) e in
    let more = pow_more (suc n) in
    let first : x ≤ 16 = small 0 in
    let times : x * 17 ^ suc n ≤ 16 * 17 ^ suc n = mul-le-mul_right (17 ^ suc n) first in
    omega arith

length_bump : (xs : List ℕ) → length (bump xs) ≡ length xs
length_bump [] = refl
length_bump (x ∷ []) = refl
length_bump (x ∷ y ∷ xs) = ap suc (length_bump (y ∷ xs))

bump_small : (xs : List ℕ) → ((i : ℕ) → slice_index xs i ≤ 16) → last_of xs < 16 → (i : ℕ) → slice_index (bump xs) i ≤ 16
bump_small [] small last i = small i
bump_small (x ∷ []) small last zero = omega arith
bump_small (x ∷ []) small last (suc i) = omega arith
bump_small (x ∷ y ∷ xs) small last zero = small 0
bump_small (x ∷ y ∷ xs) small last (suc i) = bump_small (y ∷ xs) (λ i. small (suc i)) last i

come_bump : (x : ℕ) (xs : List ℕ) → length (x ∷ xs) ≤ 8 → come 7 (bump (x ∷ xs)) ≡ come 7 (x ∷ xs) + 17 ^ (7 - length (but_last (x ∷ xs)))
come_bump x xs le =
    let f = but_last (x ∷ xs) in
    let s = last_of (x ∷ xs) in
    let is = parts x xs in
    let long = ap length is ∙ length-append f (s ∷ []) in
    let one = ap (come 7) is ∙ come_last 7 f s (omega arith) in
    let two = ap (λ l. come 7 (bump l)) is ∙ ap (come 7) (bump_item f s) ∙ come_last 7 f (suc s) (omega arith) in
    let more : suc s * 17 ^ (7 - length f) ≡ s * 17 ^ (7 - length f) + 17 ^ (7 - length f) = omega arith in
    omega arith

-- each step leaves fewer
pub less_on : (x : ℕ) (xs : List ℕ) → length (x ∷ xs) ≤ 8 → ((i : ℕ) → slice_index (x ∷ xs) i ≤ 16) → last_of (x ∷ xs) < 16 → steps_left (bump (x ∷ xs)) < steps_left (x ∷ xs)
unfolding steps_left
less_on x xs le small last =
    let long = length_bump (x ∷ xs) in
    let more = come_bump x xs le in
    let some_more = pow_some (7 - length (but_last (x ∷ xs))) in
    let bound = come_small 7 (bump (x ∷ xs)) (omega arith) (bump_small (x ∷ xs) small last) in
    omega arith

pub less_down : (xs : List ℕ) → length xs < 8 → steps_left (xs ++ 0 ∷ []) < steps_left xs
unfolding steps_left
less_down xs lt =
    let long = length-append xs (0 ∷ []) in
    let same = come_last 7 xs 0 (omega arith) in
    omega arith

pub less_up : (x y : ℕ) (xs : List ℕ) → length (x ∷ y ∷ xs) ≤ 8 → ((i : ℕ) → slice_index (x ∷ y ∷ xs) i ≤ 16) → last_of (x ∷ y ∷ xs) ≤ 16 → last_of (but_last (x ∷ y ∷ xs)) < 16 → ((i : ℕ) → slice_index (but_last (x ∷ y ∷ xs)) i ≤ 16)
    → steps_left (bump (but_last (x ∷ y ∷ xs))) < steps_left (x ∷ y ∷ xs)
unfolding steps_left
less_up x y xs le small last upper small_front =
    let f = but_last (x ∷ y ∷ xs) in
    let s = last_of (x ∷ y ∷ xs) in
    let is = parts x (y ∷ xs) in
    let long = ap length is ∙ length-append f (s ∷ []) in
    let all = ap (come 7) is ∙ come_last 7 f s (omega arith) in
    let front = parts x (but_last (y ∷ xs)) in
    let front_long = ap length front ∙ length-append (but_last f) (last_of f ∷ []) in
    let more = come_bump x (but_last (y ∷ xs)) (omega arith) in
    let e : 7 - length (but_last f) ≡ suc (7 - length f) = omega arith in
    let power = ap (λ n. 17 ^ n) e ∙ pow_more (7 - length f) in
    let some_more = pow_some (7 - length f) in
    let times : s * 17 ^ (7 - length f) ≤ 16 * 17 ^ (7 - length f) = mul-le-mul_right (17 ^ (7 - length f)) last in
    let bump_long = length_bump f in
    let bound = come_small 7 (bump f) (omega arith) (bump_small f small_front upper) in
    omega arith

-- the first places of an array
take_small : (xs : List ℕ) (d : ℕ) → ((i : ℕ) → slice_index xs i ≤ 16) → (i : ℕ) → slice_index (take d xs) i ≤ 16
take_small [] zero small i = small i
take_small [] (suc d) small i = small i
take_small (x ∷ xs) zero small i = omega arith
take_small (x ∷ xs) (suc d) small zero = small 0
take_small (x ∷ xs) (suc d) small (suc i) = take_small xs d (λ i. small (suc i)) i

last_take : (xs : List ℕ) (e : ℕ) → e < length xs → last_of (take (suc e) xs) ≡ slice_index xs e
last_take [] e below = absurd (omega arith)
last_take (x ∷ xs) zero below = refl
last_take (x ∷ []) (suc e) below = absurd (omega arith)
last_take (x ∷ y ∷ xs) (suc e) below = last_take (y ∷ xs) e (omega arith)

pub long_take : (xs : List ℕ) (d : ℕ) → d ≤ length xs → length (take d xs) ≡ d
long_take [] zero le = refl
long_take [] (suc d) le = absurd (omega arith)
long_take (x ∷ xs) zero le = refl
long_take (x ∷ xs) (suc d) le = ap suc (long_take xs d (omega arith))

on_list : (l : List ℕ) → 0 < length l → length l ≤ 8 → ((i : ℕ) → slice_index l i ≤ 16) → last_of l < 16 → steps_left (bump l) < steps_left l
on_list [] some le small last = absurd (omega arith)
on_list (x ∷ xs) some le small last = less_on x xs le small last

up_list : (l : List ℕ) → 1 < length l → length l ≤ 8 → ((i : ℕ) → slice_index l i ≤ 16) → last_of l ≤ 16 → last_of (but_last l) < 16 → ((i : ℕ) → slice_index (but_last l) i ≤ 16) → steps_left (bump (but_last l)) < steps_left l
up_list [] some le small last upper front = absurd (omega arith)
up_list (x ∷ []) some le small last upper front = absurd (omega arith)
up_list (x ∷ y ∷ xs) some le small last upper front = less_up x y xs le small last upper front

-- in the first so many slots of eight
module _ (slots : List ℕ) (wide : length slots ≡ 8) (depth : ℕ) (some : 0 < depth) (few : depth ≤ 8) (small : (i : ℕ) → slice_index slots i ≤ 16) where
  pub goes_on_less : last_of (take depth slots) < 16 → steps_left (take depth (set slots (depth - 1) (get_or slots (depth - 1) 0 + 1))) < steps_left (take depth slots)
  goes_on_less last =
      let long = long_take slots depth (omega arith) in
      subst (λ l. steps_left l < steps_left (take depth slots)) (sym (bump_set slots depth (depth - 1) (omega arith) (omega arith))) (on_list (take depth slots) (omega arith) (omega arith) (take_small slots depth small) last)

  pub goes_down_less : depth < 8 → steps_left (take (depth + 1) (set slots depth 0)) < steps_left (take depth slots)
  goes_down_less below =
      let long = long_take slots depth (omega arith) in
      subst (λ l. steps_left l < steps_left (take depth slots)) (sym (take_more_set slots depth 0 (omega arith))) (less_down (take depth slots) (omega arith))

  pub goes_up_less : 1 < depth → ((i : ℕ) → suc i < depth → slice_index slots i < 16) → steps_left (take (depth - 1) (set slots (depth - 1 - 1) (get_or slots (depth - 1 - 1) 0 + 1))) < steps_left (take depth slots)
  goes_up_less deep entered =
      let long = long_take slots depth (omega arith) in
      let d : depth ≡ suc (depth - 1) = omega arith in
      let front : take (depth - 1) slots ≡ but_last (take depth slots) = take_but_last slots (depth - 1) (omega arith) ∙ ap (λ n. but_last (take n slots)) (sym d) in
      let two : suc (depth - 1 - 1) ≡ depth - 1 = omega arith in
      let upper : last_of (take (depth - 1) slots) ≡ slice_index slots (depth - 1 - 1) = ap (λ n. last_of (take n slots)) (sym two) ∙ last_take slots (depth - 1 - 1) (omega arith) in
      let upper_small = entered (depth - 1 - 1) (omega arith) in
      let lowest : last_of (take depth slots) ≡ slice_index slots (depth - 1) = ap (λ n. last_of (take n slots)) d ∙ last_take slots (depth - 1) (omega arith) in
      let lowest_small = small (depth - 1) in
      subst (λ l. steps_left l < steps_left (take depth slots)) (sym (bump_set slots (depth - 1) (depth - 1 - 1) (omega arith) (omega arith) ∙ ap bump front))
      (up_list (take depth slots) (omega arith) (omega arith) (take_small slots depth small) (omega arith) (subst (λ l. last_of l < 16) front (omega arith)) (λ i. subst (λ l. slice_index l i ≤ 16) front (take_small slots (depth - 1) small i)))

pub front_nodes : (nodes : List ℕ) (depth : ℕ) → 0 < depth → depth ≤ length nodes → take (depth - 1) nodes ≡ but_last (take depth nodes)
front_nodes nodes depth some few = let d : depth ≡ suc (depth - 1) = omega arith in take_but_last nodes (depth - 1) (omega arith) ∙ ap (λ n. but_last (take n nodes)) (sym d)
