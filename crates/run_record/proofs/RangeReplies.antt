-- What the reply of a range has to do with the map.
use Rattle.std.proofs.Common.{◌≡◌, ℕ, zero, suc, ◌+◌, ◌-◌, ◌^◌, ◌<◌, ◌≤◌, Bool, true, false, ◌==◌, cond, List, [], ◌∷◌, ◌++◌, length, map, Some, None, slice_get, get_or, Ok, refl, sym, ap, ◌∙◌, subst, arith}
use Rattle.std.specs.Prelude.{Contains, count_by, IsPermutation}
use Rattle.std.specs.Option.{option_map}
use Rattle.std.proofs.lemmas.Bool.{eqb-true}
use Rattle.std.proofs.lemmas.List.{length-map}
use Rattle.std.proofs.lemmas.List.Elements.{Contains-get_or, at_from_Contains}
use Rattle.std.proofs.lemmas.List.Sorted.{Contains-permutation, IsPermutation-sym, sum_by-IsPermutation}
use Rattle.std.proofs.lemmas.List.Sums.{sum_by-cons}
use Rattle.std.proofs.lemmas.Option.{none-some, same_Some, slice_get-map, slice_get_within, slice_get-get_or, get_or_from_slice_get}
use Rattle.script_calls.specs.declared.call.Reply.TheVariants as replies
use Rattle.sync_model.specs.declared.answer.Answer.TheVariants.{Done}
use Rattle.sync_model.specs.declared.item.Item.{Item}
use Rattle.sync_model.specs.declared.item.SharedCall.{SharedCall}
use Rattle.sync_model.specs.declared.item.SharedCall.TheVariants as calls
use Rattle.sync_model.specs.declared.item.SharedReply.{SharedReply}
use Rattle.sync_model.specs.declared.item.SharedReply.TheVariants as answers
use Rattle.sync_model.specs.SharedCalls.{IsStep, IsUnshown, WasSo, Lawful}
use Rattle.workload.specs.Keys.{keys_in}
use Rattle.workload.specs.Plan.{Plan}
use Rattle.run_record.specs.declared.made.Made.{Made}
use Rattle.run_record.specs.declared.made.Made.TheVariants.{Shared}
use Rattle.run_record.specs.Limits.{step_of, told}
use Rattle.run_record.specs.MapKind.{range_call}
use Rattle.run_record.specs.Objects.{contents_of}
use Rattle.run_record.specs.Ranges.{ShowsWhatWasThere}
use Rattle.run_record.specs.Record.{Record, calls_of, list_of, shared_in}
use Rattle.run_record.proofs.PairLemmas.{shared_both, shared_of}

module _ {A : Type 0} where
  get_left : (xs ys : List A) (i : ℕ) (x : A) → slice_get xs i ≡ Some x → slice_get (xs ++ ys) i ≡ Some x
  get_left [] ys i x at = absurd (none-some x at)
  get_left (y ∷ xs) ys zero x at = at
  get_left (y ∷ xs) ys (suc i) x at = get_left xs ys i x at

  get_middle : (before made after : List A) (i : ℕ) (x : A) → slice_get made i ≡ Some x → slice_get (before ++ (made ++ after)) (length before + i) ≡ Some x
  get_middle [] made after i x at = let same : i ≡ 0 + i = omega arith in subst (λ n. slice_get (made ++ after) n ≡ Some x) same (get_left made after i x at)
  get_middle (y ∷ before) made after i x at =
      let same : suc (length before + i) ≡ length (y ∷ before) + i = omega arith in
      subst (λ n. slice_get (y ∷ (before ++ (made ++ after))) n ≡ Some x) same (get_middle before made after i x at)

  get_end : (xs : List A) (x : A) → slice_get (xs ++ x ∷ []) (length xs) ≡ Some x
  get_end [] x = refl
  get_end (y ∷ xs) x = get_end xs x

  -- an item that is in a list, with its place
  place_of : (xs : List A) (x : A) → Contains xs x → (k : ℕ) × (slice_get xs k ≡ Some x)
  place_of xs x has = let at = at_from_Contains xs x has in (at.0, slice_get-get_or xs at.0 x at.1 ∙ ap Some (at.2 x))

  has_place : (xs : List A) (k : ℕ) (x : A) → slice_get xs k ≡ Some x → Contains xs x
  has_place xs k x at = subst (Contains xs) (get_or_from_slice_get xs k x x at) (Contains-get_or xs k x (slice_get_within xs k x at))

-- the item that a mapped one comes from
from_map : {A B : Type 0} (f : A → B) (xs : List A) (i : ℕ) (y : B) → slice_get (map f xs) i ≡ Some y → (x : A) × (slice_get xs i ≡ Some x) × (f x ≡ y)
from_map f [] i y at = absurd (none-some y at)
from_map f (x ∷ xs) zero y at = (x, refl, same_Some (f x) y at)
from_map f (x ∷ xs) (suc i) y at = from_map f xs i y at

-- a key stands once in a list, where no two pairs have it
module _ (key : ℕ) where
  abbrev is_key : ℕ × ℕ → Bool
  is_key pair = pair.0 == key

  counted_none : (pairs : List (ℕ × ℕ)) → ((k : ℕ) (pair : ℕ × ℕ) → slice_get pairs k ≡ Some pair → pair.0 ≡ key → ⊥) → count_by is_key pairs ≡ 0
  counted_none [] none = refl
  counted_none (pair ∷ pairs) none = sum_by-cons (λ p. cond (is_key p) 1 0) pair pairs ∙ by_test (is_key pair) refl (counted_none pairs (λ k p at. none (suc k) p at))
    where
      by_test : (b : Bool) → is_key pair ≡ b → count_by is_key pairs ≡ 0 → cond {A = ℕ} b 1 0 + count_by is_key pairs ≡ 0
      by_test true same rest = absurd (none zero pair refl (eqb-true pair.0 key same))
      by_test false other rest = omega (arith, rest)

  counted_once : (pairs : List (ℕ × ℕ)) → ((i j : ℕ) (one other : ℕ × ℕ) → i < j → slice_get pairs i ≡ Some one → slice_get pairs j ≡ Some other → one.0 ≡ key → other.0 ≡ key → ⊥) → count_by is_key pairs ≤ 1
  counted_once [] apart = omega arith
  counted_once (pair ∷ pairs) apart = by_test (is_key pair) refl (counted_once pairs (λ i j one other before. let later : suc i < suc j = omega arith in apart (suc i) (suc j) one other later))
    where
      by_test : (b : Bool) → is_key pair ≡ b → count_by is_key pairs ≤ 1 → count_by is_key (pair ∷ pairs) ≤ 1
      by_test true same rest =
          let none = counted_none pairs (λ k other at is. let first : 0 < suc k = omega arith in apart zero (suc k) pair other first refl at (eqb-true pair.0 key same) is) in
          let here : ◌≡◌ {A = ℕ} (cond (is_key pair) 1 0) 1 = ap (λ b. cond {A = ℕ} b 1 0) same in
          omega (arith, none, here, sum_by-cons (λ p. cond (is_key p) 1 0) pair pairs)
      by_test false other rest =
          let here : ◌≡◌ {A = ℕ} (cond (is_key pair) 1 0) 0 = ap (λ b. cond {A = ℕ} b 1 0) other in
          omega (arith, rest, here, sum_by-cons (λ p. cond (is_key p) 1 0) pair pairs)

module _ (plan : Plan) (r : Record) (worker : ℕ) (lawful : Lawful (contents_of plan) r.history (calls_of r))
    (ordered : (i j : ℕ) (first second : Item) → i < j → slice_get (calls_of r worker) i ≡ Some first → slice_get (calls_of r worker) j ≡ Some second → first.place ≤ second.place)
    (m : ℕ) (before made after : List Item) (own : calls_of r worker ≡ before ++ (made ++ after)) (shown : List (ℕ × ℕ))
    (steps : map told made ≡ (calls.Begin m, answers.Begun) ∷ (map (step_of (length before)) shown ++ (calls.Next (length before), answers.Shown None) ∷ [])) where
  -- number i of the cursor's calls
  pub record IsMade (i : ℕ) (call : SharedCall × SharedReply) : Type 0 where
    pub x : Item
    pub at : slice_get made i ≡ Some x
    pub placed : slice_get (calls_of r worker) (length before + i) ≡ Some x
    pub call_is : x.call ≡ call.0
    pub reply_is : x.reply ≡ call.1

  is_made : (i : ℕ) (call : SharedCall × SharedReply) → slice_get ((calls.Begin m, answers.Begun) ∷ (map (step_of (length before)) shown ++ (calls.Next (length before), answers.Shown None) ∷ [])) i ≡ Some call → IsMade i call
  is_made i call at =
      let it = from_map told made i call (ap (λ xs. slice_get xs i) steps ∙ at) in
      record {
        x = it.0;
        at = it.1;
        placed = ap (λ xs. slice_get xs (length before + i)) own ∙ get_middle before made after i it.0 it.1;
        call_is = ap (λ (c : SharedCall × SharedReply). c.0) it.2;
        reply_is = ap (λ (c : SharedCall × SharedReply). c.1) it.2;
      }

  pub begun : IsMade 0 (calls.Begin m, answers.Begun)
  begun = is_made 0 (calls.Begin m, answers.Begun) refl

  pub stepped : (k : ℕ) (pair : ℕ × ℕ) → slice_get shown k ≡ Some pair → IsMade (suc k) (step_of (length before) pair)
  stepped k pair at = is_made (suc k) (step_of (length before) pair)
      (get_left (map (step_of (length before)) shown) ((calls.Next (length before), answers.Shown None) ∷ []) k (step_of (length before) pair) (slice_get-map (step_of (length before)) shown k ∙ ap (option_map (step_of (length before))) at))

  pub ended : IsMade (suc (length shown)) (calls.Next (length before), answers.Shown None)
  ended = is_made (suc (length shown)) (calls.Next (length before), answers.Shown None)
      (subst (λ n. slice_get (map (step_of (length before)) shown ++ (calls.Next (length before), answers.Shown None) ∷ []) n ≡ Some (calls.Next (length before), answers.Shown None)) (length-map shown (step_of (length before)))
      (get_end (map (step_of (length before)) shown) (calls.Next (length before), answers.Shown None)))

  first_at : slice_get (calls_of r worker) (length before) ≡ Some begun.x
  first_at = let same : length before + 0 ≡ length before = omega arith in subst (λ n. slice_get (calls_of r worker) n ≡ Some begun.x) same begun.placed

  -- what a shown pair's step, and the last one, are by the Range law
  step_shows : (k : ℕ) (pair : ℕ × ℕ) (at : slice_get shown k ≡ Some pair)
      → IsUnshown (calls_of r worker) (length before) (length before + suc k) pair.0 × WasSo (contents_of plan) r.history (calls_of r) begun.x.front (stepped k pair at).x.place m pair.0 (Some pair.1)
  step_shows k pair at =
      let step = stepped k pair at in
      lawful.ranges worker (length before) m begun.x first_at begun.call_is (length before + suc k) step.x (Some pair) (record { at = step.placed; call = step.call_is; reply = step.reply_is })

  was_so : (key value : ℕ) → Contains shown (key, value) → WasSo (contents_of plan) r.history (calls_of r) begun.x.front ended.x.place m key (Some value)
  was_so key value has =
      let k = place_of shown (key, value) has in
      let step = stepped k.0 (key, value) k.1 in
      let was = (step_shows k.0 (key, value) k.1).1 in
      let inside = slice_get_within shown k.0 (key, value) k.1 in
      let earlier : length before + suc k.0 < length before + suc (length shown) = omega (arith, inside) in
      let below = ordered (length before + suc k.0) (length before + suc (length shown)) step.x ended.x earlier step.placed ended.placed in
      let within = was.within in
      record { moment = was.moment; knows = was.knows; within = omega (arith, within, below); is = was.is }

  -- a step of this cursor shows one of the pairs
  is_shown : (j : ℕ) (x : Item) (key value : ℕ) → j < length before + suc (length shown) → IsStep (calls_of r worker) (length before) j x (Some (key, value)) → Contains shown (key, value)
  is_shown j x key value below step =
      let begins = (lawful.sound worker j x step.at).begun (length before) step.call in
      let behind = begins.2 in
      let is : j ≡ length before + suc (j - suc (length before)) = omega arith in
      let inside : j - suc (length before) < length shown = omega arith in
      let k = j - suc (length before) in
      let pair = get_or shown k (key, value) in
      let at = slice_get-get_or shown k (key, value) inside in
      let it = stepped k pair at in
      let one : it.x ≡ x = same_Some it.x x (sym it.placed ∙ ap (slice_get (calls_of r worker)) (sym is) ∙ step.at) in
      subst (Contains shown) (pair_shown pair (key, value) (sym it.reply_is ∙ ap (λ (y : Item). y.reply) one ∙ step.reply)) (has_place shown k pair at)
    where
      pair_shown : (one other : ℕ × ℕ) → answers.Shown (Some one) ≡ answers.Shown (Some other) → one ≡ other
      pair_shown one other e = cc

  missed : (key : ℕ) → key < 2 ^ 32 → ((value : ℕ) → Contains shown (key, value) → ⊥) → WasSo (contents_of plan) r.history (calls_of r) begun.x.front ended.x.place m key None
  missed key small absent =
      lawful.ranges worker (length before) m begun.x first_at begun.call_is (length before + suc (length shown)) ended.x None (record { at = ended.placed; call = ended.call_is; reply = ended.reply_is }) key small
      (λ j x value below step. absent value (is_shown j x key value below step))

  -- no key is shown twice
  apart : (key i j : ℕ) (one other : ℕ × ℕ) → i < j → slice_get shown i ≡ Some one → slice_get shown j ≡ Some other → one.0 ≡ key → other.0 ≡ key → ⊥
  apart key i j one other early at_one at_other same also =
      let first = stepped i one at_one in
      let unshown = (step_shows j other at_other).0 in
      let earlier : length before + suc i < length before + suc j = omega (arith, early) in
      let pair : one ≡ (other.0, one.1) = ap (λ k. (k, one.1)) (same ∙ sym also) in
      unshown (length before + suc i) first.x one.1 earlier (record { at = first.placed; call = first.call_is; reply = first.reply_is ∙ ap (λ p. answers.Shown (Some p)) pair })

  shows : (items : List Made) (pairs : List (ℕ × ℕ)) → items ≡ map Shared made → IsPermutation shown pairs → ShowsWhatWasThere plan r m items pairs
  shows items pairs are sorted = record {
    begin = begun.x;
    last = ended.x;
    i = suc (length shown);
    begins = ap (λ xs. slice_get xs 0) are ∙ slice_get-map Shared made 0 ∙ ap (option_map Shared) begun.at;
    ends = ap (λ xs. slice_get xs (suc (length shown))) are ∙ slice_get-map Shared made (suc (length shown)) ∙ ap (option_map Shared) ended.at;
    shown = λ key value has. was_so key value (Contains-permutation pairs shown (key, value) (IsPermutation-sym shown pairs sorted) has);
    missed = λ key small absent. missed key small (λ value has. absent value (Contains-permutation shown pairs (key, value) sorted has));
    once = λ key.
        let few = counted_once key shown (λ i j one other. apart key i j one other) in
        let same = sum_by-IsPermutation (λ p. cond (is_key key p) 1 0) shown pairs sorted in
        omega (arith, few, same);
  }

-- the same of a call in a worker's list
pub range_shows : (plan : Plan) (r : Record) (worker : ℕ) → Lawful (contents_of plan) r.history (calls_of r)
    → ((i j : ℕ) (first second : Item) → i < j → slice_get (calls_of r worker) i ≡ Some first → slice_get (calls_of r worker) j ≡ Some second → first.place ≤ second.place)
    → (m : ℕ) (earlier items later : List Made) (pairs : List (ℕ × ℕ)) → list_of r worker ≡ earlier ++ (items ++ later)
    → range_call (keys_in plan.scripts) m (length (shared_in earlier)) items (Done (Ok (replies.Pairs pairs))) → ShowsWhatWasThere plan r m items pairs
range_shows plan r worker lawful ordered m earlier items later pairs whole (shown, replied, (made, are, steps), sorted, is) =
    let own : calls_of r worker ≡ shared_in earlier ++ (made ++ shared_in later) =
    ap shared_in whole
    ∙ shared_both earlier (items ++ later)
    ∙ ap (λ (l : List Item). shared_in earlier ++ l) (shared_both items later ∙ ap (λ (l : List Made). shared_in l ++ shared_in later) are ∙ ap (λ (l : List Item). l ++ shared_in later) (shared_of made)) in
    let same : replied ≡ pairs = cc in
    shows plan r worker lawful ordered m (shared_in earlier) made (shared_in later) own shown steps items pairs are (subst (IsPermutation shown) same sorted.0)
