-- That pairs whose keys have different names are sorted in one order.
use Rattle.std.proofs.Common.{◌≡◌, ℕ, suc, ◌+◌, ◌<◌, Bool, true, false, ◌&&◌, cond, List, [], ◌∷◌, map, Ordering, Less, Equal, Greater, slice_index_or, refl, sym, ap, ◌∙◌, subst, arith}
use Rattle.std.specs.Prelude.{◌==◌, IsPermutation, IsSortedByKey, count_by}
use Rattle.std.specs.Cmp.{IsStrictWeakOrder}
use Rattle.std.specs.Cmp.Lexicographic.{slice_cmp}
use Rattle.std.specs.List.{AllByRecursion, IsDistinct}
use Rattle.std.specs.Ordering.{is_eq, is_lt, nat_cmp, ordering_reverse}
use Rattle.std.specs.Str.{bytes_eq}
use Rattle.std.proofs.lemmas.Bool.{and_parts, false≢true}
use Rattle.std.proofs.lemmas.Bool.Decides.{Decides-eqb}
use Rattle.std.proofs.lemmas.Cmp.{nat_list_cmp_total}
use Rattle.std.proofs.lemmas.List.MinMax.{ranks_by}
use Rattle.std.proofs.lemmas.List.Sorted.{IsPermutation-sym, IsPermutation-trans, sum_by-IsPermutation}
use Rattle.std.proofs.lemmas.List.Sums.{sum_by-cons}
use Rattle.std.proofs.lemmas.Map.Keys.{IsDistinct-IsPermutation, IsDistinct-head, IsDistinct-tail}
use Rattle.std.proofs.lemmas.Map.Text.{is_eq-slice_cmp}
use Rattle.script_calls.specs.declared.call.Call.{Call}
use Rattle.script_calls.specs.declared.call.Operation.{Operation}
use Rattle.script_calls.specs.declared.call.Operation.TheVariants as operations
use Rattle.script_calls.specs.declared.call.Reply.{Reply}
use Rattle.script_calls.specs.declared.call.Reply.TheVariants as replies
use Rattle.workload.specs.Keys.{key_name, keys_in}
use Rattle.workload.specs.Plan.{Plan}
use Rattle.run_record.specs.Lines.{SpeltCall}
use Rattle.run_record.specs.MapKind.{AreSorted}
use Rattle.run_cuts.specs.OneLine.{SettlesEach, settled_as, settles_by}
use Rattle.record_clauses.specs.PairOrder.{AreApart, RepliesApart}

abbrev Pair : Type 0
Pair = ℕ × ℕ

abbrev is : Pair → Pair → Bool
is x y = (y.0 == x.0) && (y.1 == x.1)

same_pair : (x y : Pair) → is x y ≡ true → x ≡ y
same_pair (a, b) (c, d) e =
    let parts = and_parts (c == a) (d == b) e in
    let first : c ≡ a = (Decides-eqb c a).0 parts.0 in
    let second : d ≡ b = (Decides-eqb d b).0 parts.1 in
    ap (λ (n : ℕ). (n, b)) (sym first) ∙ ap (λ (n : ℕ). (c, n)) (sym second)

is_itself : (x : Pair) → is x x ≡ true
is_itself (a, b) = ap (λ (t : Bool). t && (b == b)) ((Decides-eqb a a).1 refl) ∙ (Decides-eqb b b).1 refl

-- one of them, where they are counted
pick : (P : Pair → Type 0) (p : Pair → Bool) (xs : List Pair) → AllByRecursion P xs → 0 < count_by p xs → (x : Pair) × (p x ≡ true) × P x
pick P p [] all some = absurd (omega (arith, some))
pick P p (x ∷ xs) all some = by (p x) refl (λ more. pick P p xs all.1 more) where
  by : (b : Bool) → p x ≡ b → (0 < count_by p xs → (y : Pair) × (p y ≡ true) × P y) → (y : Pair) × (p y ≡ true) × P y
  by true e later = (x, e, all.0)
  by false e later = later (let one = sum_by-cons (λ (y : Pair). cond (p y) 1 0) x xs in let none : ◌≡◌ {A = ℕ} (cond (p x) 1 0) 0 = ap (λ (b : Bool). cond b 1 0) e in omega (arith, some, one, none))

-- what is counted of one list is counted of the other
abbrev AreCounted : List Pair → List Pair → Type 0
AreCounted xs ys = (p : Pair → Bool) → count_by p xs ≡ count_by p ys

module _ (keys : List (List ℕ)) where
  abbrev name : Pair → List ℕ
  name pair = key_name keys pair.0

  abbrev lt : Pair → Pair → Bool
  lt x y = is_lt (slice_cmp nat_cmp (name x) (name y))

  abbrev named_alike : Pair → Pair → Bool
  named_alike x y = bytes_eq (name x) (name y)

  order : IsStrictWeakOrder lt
  order = ranks_by nat_list_cmp_total name

  -- neither is below the other
  alike : (x y : Pair) → lt x y ≡ false → lt y x ≡ false → named_alike x y ≡ true
  alike x y not_below not_above = sym (is_eq-slice_cmp (name x) (name y)) ∙ by (slice_cmp nat_cmp (name x) (name y)) not_below (ap is_lt (sym (nat_list_cmp_total.antisymm (name y) (name x))) ∙ not_above) where
    by : (o : Ordering) → is_lt o ≡ false → is_lt (ordering_reverse o) ≡ false → is_eq o ≡ true
    by Less below above = absurd (false≢true (sym below))
    by Equal below above = refl
    by Greater below above = absurd (false≢true (sym above))

  pub flips : (x y : Pair) → named_alike x y ≡ named_alike y x
  flips x y = sym (is_eq-slice_cmp (name x) (name y)) ∙ ap is_eq (nat_list_cmp_total.antisymm (name x) (name y)) ∙ by (slice_cmp nat_cmp (name y) (name x)) ∙ is_eq-slice_cmp (name y) (name x) where
    by : (o : Ordering) → is_eq (ordering_reverse o) ≡ is_eq o
    by Less = refl
    by Equal = refl
    by Greater = refl

  -- none is below one before it
  abbrev Rises : List Pair → Type 0
  Rises [] = Unit {0}
  Rises (x ∷ xs) = AllByRecursion (λ y. lt y x ≡ false) xs × Rises xs

  further : (x y : Pair) (xs : List Pair) → lt y x ≡ false → AllByRecursion (λ z. lt z y ≡ false) xs → AllByRecursion (λ z. lt z x ≡ false) xs
  further x y [] above all = tt
  further x y (z ∷ xs) above all = (order.chain z y x all.0 above, further x y xs above all.1)

  rises : (xs : List Pair) → IsSortedByKey name (slice_cmp nat_cmp) xs → Rises xs
  rises [] sorted = tt
  rises (x ∷ []) sorted = (tt, tt)
  rises (x ∷ (y ∷ ys)) sorted =
      let later = rises (y ∷ ys) (λ k d from less.
      let e : suc k + 1 ≡ suc (k + 1) = omega arith in
      let at = sorted (suc k) d (omega arith) (omega (arith, less)) in
      ap (λ (n : ℕ). lt (slice_index_or (x ∷ (y ∷ ys)) n d) (slice_index_or (x ∷ (y ∷ ys)) (suc k) d)) (sym e) ∙ at) in
      let first : lt y x ≡ false = sorted 0 x (omega arith) (omega arith) in
      ((first, further x y ys first later.0), later)

  counted_head : (x : Pair) (xs : List Pair) → 0 < count_by (is x) (x ∷ xs)
  counted_head x xs =
      let one = sum_by-cons (λ (y : Pair). cond (is x y) 1 0) x xs in
      let here : ◌≡◌ {A = ℕ} (cond (is x x) 1 0) 1 = ap (λ (b : Bool). cond b 1 0) (is_itself x) in
      omega (arith, one, here)

  -- a pair that is counted of a list whose first is another is behind that
  counted_behind : (x y : Pair) (ys : List Pair) → is x y ≡ false → 0 < count_by (is x) (y ∷ ys) → 0 < count_by (is x) ys
  counted_behind x y ys other some =
      let one = sum_by-cons (λ (z : Pair). cond (is x z) 1 0) y ys in
      let none : ◌≡◌ {A = ℕ} (cond (is x y) 1 0) 0 = ap (λ (b : Bool). cond b 1 0) other in
      omega (arith, some, one, none)

  not_same : (x y : Pair) → is x y ≡ false → is y x ≡ false
  not_same x y other = by (is y x) refl where
    by : (b : Bool) → is y x ≡ b → b ≡ false
    by true e = absurd (false≢true (sym other ∙ ap (is x) (same_pair y x e) ∙ is_itself x))
    by false e = refl

  -- the first of two such lists is one pair
  first_same : (x y : Pair) (xs ys : List Pair) → AreCounted (x ∷ xs) (y ∷ ys) → Rises (x ∷ xs) → Rises (y ∷ ys) → IsDistinct named_alike (y ∷ ys) → x ≡ y
  first_same x y xs ys counted ups up apart = by (is x y) refl where
    other : is x y ≡ false → x ≡ y
    other e =
        let in_ys = counted_behind x y ys e (subst (λ (n : ℕ). 0 < n) (counted (is x)) (counted_head x xs)) in
        let in_xs = counted_behind y x xs (not_same x y e) (subst (λ (n : ℕ). 0 < n) (sym (counted (is y))) (counted_head y ys)) in
        let (z, is_x, above) = pick (λ z. lt z y ≡ false) (is x) ys up.0 in_ys in
        let (w, is_y, above_x) = pick (λ z. lt z x ≡ false) (is y) xs ups.0 in_xs in
        let (v, again, differs) = pick (λ z. named_alike y z ≡ false) (is x) ys (IsDistinct-head named_alike y ys apart) in_ys in
        let not_below : lt x y ≡ false = subst (λ (p : Pair). lt p y ≡ false) (sym (same_pair x z is_x)) above in
        let not_above : lt y x ≡ false = subst (λ (p : Pair). lt p x ≡ false) (sym (same_pair y w is_y)) above_x in
        let apart_so : named_alike y x ≡ false = subst (λ (p : Pair). named_alike y p ≡ false) (sym (same_pair x v again)) differs in
        absurd (false≢true (sym apart_so ∙ alike y x not_above not_below))

    by : (b : Bool) → is x y ≡ b → x ≡ y
    by true e = same_pair x y e
    by false e = other e

  one_list : (xs ys : List Pair) → AreCounted xs ys → Rises xs → Rises ys → IsDistinct named_alike ys → xs ≡ ys
  one_list [] [] counted ups up apart = refl
  one_list [] (y ∷ ys) counted ups up apart = absurd (let some = counted_head y ys in let none = counted (is y) in omega (arith, some, none))
  one_list (x ∷ xs) [] counted ups up apart = absurd (let some = counted_head x xs in let none = counted (is x) in omega (arith, some, none))
  one_list (x ∷ xs) (y ∷ ys) counted ups up apart =
      let first = first_same x y xs ys counted ups up apart in
      let rest = one_list xs ys (λ p.
      let a = sum_by-cons (λ (z : Pair). cond (p z) 1 0) x xs in
      let b = sum_by-cons (λ (z : Pair). cond (p z) 1 0) y ys in
      let c = counted p in
      let d : ◌≡◌ {A = ℕ} (cond (p x) 1 0) (cond (p y) 1 0) = ap (λ (z : Pair). cond (p z) 1 0) first in
      omega (arith, a, b, c, d)) ups.1 up.1 (IsDistinct-tail named_alike y ys apart) in
      ap (λ (z : Pair). z ∷ xs) first ∙ ap (λ (l : List Pair). y ∷ l) rest

  -- two lists that have the same pairs, no two with one name
  same_order : (one other : List Pair) → IsPermutation one other → AreApart keys other → IsSortedByKey name (slice_cmp nat_cmp) one → IsSortedByKey name (slice_cmp nat_cmp) other → one ≡ other
  same_order one other moved apart sorted sorted_too = one_list one other (λ p. sym (sum_by-IsPermutation (λ (z : Pair). cond (p z) 1 0) one other moved)) (rises one sorted) (rises other sorted_too) apart

  pub one_order : (m : ℕ) (shown one other : List Pair) → AreApart keys shown → AreSorted keys m shown one → AreSorted keys m shown other → one ≡ other
  one_order m shown one other apart first second =
      same_order one other (IsPermutation-trans one shown other (IsPermutation-sym shown one first.0) second.0) (IsDistinct-IsPermutation named_alike flips shown other second.0 apart) first.1 second.1

  pairs_are : (a b : List Pair) → replies.Pairs a ≡ replies.Pairs b → a ≡ b
  pairs_are a b e = cc

  -- a call that is told one reply has one
  one_reply : (operation : Operation) (told reply other : Reply ℕ) → ((pairs : List Pair) → operation ≡ operations.Range → other ≡ replies.Pairs pairs → AreApart keys pairs) → settled_as keys operation told reply → settled_as keys operation told other → reply ≡ other
  one_reply operations.Range told reply other apart (m, shown, pairs, is_shown, is_reply, sorted) (n, more, others, is_more, is_other, also) =
      let same : shown ≡ more = pairs_are shown more (sym is_shown ∙ is_more) in
      let second : IsPermutation shown others = subst (λ (l : List Pair). IsPermutation l others) (sym same) also.0 in
      let one : pairs ≡ others = same_order pairs others (IsPermutation-trans pairs shown others (IsPermutation-sym shown pairs sorted.0) second) (apart others refl is_other) sorted.1 also.1 in
      is_reply ∙ ap (λ (l : List Pair). replies.Pairs l) one ∙ sym is_other
  one_reply operation told reply other apart first second = sym first ∙ second

pub one_replies : (plan : Plan) (told one other : List SpeltCall) → RepliesApart (keys_in plan.scripts) other → SettlesEach (settles_by plan) told one → SettlesEach (settles_by plan) told other → map (λ (s : SpeltCall). s.reply) one ≡ map (λ (s : SpeltCall). s.reply) other
one_replies plan [] one other apart first second = ap (map (λ (s : SpeltCall). s.reply)) (first ∙ sym second)
one_replies plan (t ∷ told) [] other apart first second = absurd first
one_replies plan (t ∷ told) (s ∷ one) [] apart first second = absurd second
one_replies plan (t ∷ told) (s ∷ one) (r ∷ other) apart (a, b, settled, first) (c, d, also, second) =
    let here : s.reply ≡ r.reply = one_reply (keys_in plan.scripts) t.call.operation t.reply s.reply r.reply (λ pairs is_range reply. apart.0 pairs (ap (λ (k : Call). k.operation) c ∙ is_range) reply) settled also in
    ap (λ (x : Reply ℕ). x ∷ map (λ (s : SpeltCall). s.reply) one) here ∙ ap (λ (l : List (Reply ℕ)). r.reply ∷ l) (one_replies plan told one other apart.1 first second)
