-- What numbers are behind one more that is given.
use Rattle.std.proofs.Common.{◌≡◌, ◌⊎◌, ℕ, ◌<◌, ◌≤◌, inl, inr, Bool, true, false, cond, List, [], ◌∷◌, ◌++◌, Option, Some, None, refl, sym, ap, ◌∙◌, append-nil, append_assoc, arith}
use Rattle.std.specs.Option.{option_to_list}
use Rattle.std.specs.Prelude.{◌&&◌, ◌||◌, Contains}
use Rattle.std.proofs.lemmas.Bool.{false≢true}
use Rattle.std.proofs.lemmas.List.Elements.{Contains-append_left, Contains-push, Contains-push_cases}
use Rattle.std.proofs.lemmas.List.Folds.{list_any-append}
use Rattle.race_clocks.specs.Channels as all
use Rattle.race_clocks.specs.Handing.{is_for, are_for, is_each}
use Rattle.race_clocks.specs.Numbering.{number_of, number_at, numbers_of, kept_number, is_replacing, IsGiven, IsFresh, IsNumbered, HandedOn}
use Rattle.race_clocks.specs.declared.channel.Channel.{Channel}
use Rattle.race_clocks.specs.declared.numbers.Numbers.{Numbers}
use Rattle.race_clocks.specs.declared.tables.Tables.{Tables}
use Rattle.race_clocks.proofs.TableLemmas.{of, replaced_for, is_of, stands_for, number_by, not_each, set_is}

wrong : {A : Type 0} → false ≡ true → A
wrong e = absurd (false≢true e)

differ : {A : Type 0} → true ≡ false → A
differ e = wrong (sym e)

none_some : {A : Type 0} (v : ℕ) (n : Option ℕ) → n ≡ None → n ≡ Some v → A
none_some v n none some = let e : None ≡ Some v = sym none ∙ some in absurd cc

some_some : (v w : ℕ) (n : Option ℕ) → n ≡ Some v → n ≡ Some w → v ≡ w
some_some v w n one other = let e : Some v ≡ Some w = sym one ∙ other in cc

by_test : {A : Type 0} (b : Bool) → (b ≡ true → A) → (b ≡ false → A) → A
by_test true is_so isnt = is_so refl
by_test false is_so isnt = isnt refl

-- ---- one number

-- what its channel has then, and all others; and whether it is new
record Gave (d : Channel) (v : ℕ) (mid new : Numbers) : Type 0 where
  pub there : (c : all.Channel) → is_for c d ≡ true → number_of new.tables c ≡ Some v
  pub others : (c : all.Channel) → is_for c d ≡ false → number_of new.tables c ≡ number_of mid.tables c
  pub rises : mid.next ≤ new.next
  pub below : v < new.next
  pub kind : ((mid.next ≤ v) × ((c : all.Channel) → is_for c d ≡ true → all.is_replaced c ≡ false → number_of mid.tables c ≡ None)) ⊎ ((is_replacing d ≡ false) × (number_at mid.tables d ≡ Some v))

by_kept : (b : Bool) (n : Option ℕ) (v : ℕ) → cond b None n ≡ Some v → (b ≡ false) × (n ≡ Some v)
by_kept true n v is = none_some v None refl is
by_kept false n v is = (refl, is)

none_kept : (b : Bool) (n : Option ℕ) → cond b None n ≡ None → b ≡ false → n ≡ None
none_kept true n is isnt = differ isnt
none_kept false n is isnt = is

module _ (d : Channel) (v : ℕ) (mid new : Numbers) (numbered : IsNumbered mid) where
  found : (c : all.Channel) → is_for c d ≡ true → is_replacing d ≡ false → number_of mid.tables c ≡ number_at mid.tables d
  found c is keeps = let one = not_each d keeps in ap (number_of mid.tables) (is_of c d is one) ∙ number_by mid.tables d one

  kept_gave : kept_number mid.tables d ≡ Some v → new ≡ mid → Gave d v mid new
  kept_gave kept same =
      let by = by_kept (is_replacing d) (number_at mid.tables d) v kept in
      let tables : new.tables ≡ mid.tables = ap (λ (n : Numbers). n.tables) same in
      let next : new.next ≡ mid.next = ap (λ (n : Numbers). n.next) same in
      let one = not_each d by.0 in
      let under : v < mid.next = numbered.below (of d) v (number_by mid.tables d one ∙ by.1) in
      record {
        there = λ c is. ap (λ t. number_of t c) tables ∙ found c is by.0 ∙ by.1;
        others = λ c is. ap (λ t. number_of t c) tables;
        rises = omega (arith, next);
        below = omega (arith, next, under);
        kind = inr (by.0, by.1);
      }

  fresh_gave : IsFresh d v mid new → Gave d v mid new
  fresh_gave fresh =
      let is_next = fresh.is_next in
      let next = fresh.next in
      let set = set_is v mid.tables new.tables (λ c number is. let under = numbered.below c number is in omega (arith, under, is_next)) d fresh.set in
      record {
        there = λ c is. set c ∙ ap (λ b. cond b (Some v) (number_of mid.tables c)) is;
        others = λ c is. set c ∙ ap (λ b. cond b (Some v) (number_of mid.tables c)) is;
        rises = omega (arith, next);
        below = omega (arith, next, is_next);
        kind = inl (omega (arith, is_next), λ c is keeps. let stays : is_replacing d ≡ false = sym (replaced_for c d is) ∙ keeps in found c is stays ∙ none_kept (is_replacing d) (number_at mid.tables d) fresh.none stays);
      }

  gave : IsGiven d v mid new → Gave d v mid new
  gave (inl (kept, same)) = kept_gave kept same
  gave (inr fresh) = fresh_gave fresh

-- ---- one more number

module _ (old mid new : Numbers) (d : Channel) (v : ℕ) (gives : List ℕ) (ds : List Channel) (so_far : HandedOn old mid gives ds) (given : Gave d v mid new) where
  one_any : (c : all.Channel) → are_for c (ds ++ d ∷ []) ≡ (are_for c ds || is_for c d)
  one_any c = list_any-append (is_for c) ds (d ∷ []) ∙ ap (λ b. are_for c ds || b) (last (is_for c d))
    where
      last : (b : Bool) → (b || false) ≡ b
      last true = refl
      last false = refl

  or_right : (a b : Bool) → b ≡ true → (a || b) ≡ true
  or_right true b is = refl
  or_right false b is = is

  or_left : (a b : Bool) → a ≡ true → (a || b) ≡ true
  or_left a b is = ap (λ x. x || b) is

  or_either : (a b : Bool) → (a || b) ≡ true → b ≡ false → a ≡ true
  or_either true b is isnt = refl
  or_either false b is isnt = wrong (sym isnt ∙ is)

  and_left : (r a b : Bool) → (r && (a || b)) ≡ false → (r && a) ≡ false
  and_left true true b is = is
  and_left true false b is = refl
  and_left false a b is = refl

  and_keeps : (r a b : Bool) → (r && (a || b)) ≡ false → b ≡ true → r ≡ false
  and_keeps true true b is is_so = is
  and_keeps true false b is is_so = sym is_so ∙ is
  and_keeps false a b is is_so = refl

  still : (c : all.Channel) (w : ℕ) → is_for c d ≡ false → number_of new.tables c ≡ Some w → number_of mid.tables c ≡ Some w
  still c w is has = sym (given.others c is) ∙ has

  -- no other channel has the number, but where the number is kept by the channel
  alone : (b c : all.Channel) → is_for b d ≡ true → is_for c d ≡ false → number_of mid.tables c ≡ Some v → all.is_replaced b ≡ false → (b ≡ c) × (b ≡ c)
  alone b c is isnt has keeps = elim given.kind [
    | inl fresh ↦ let under = so_far.numbered.below c v has in absurd (omega (arith, under, fresh.0))
    | inr (stays, found_v) ↦
        let one = not_each d stays in
        let same = so_far.numbered.apart b c v (ap (number_of mid.tables) (is_of b d is one) ∙ number_by mid.tables d one ∙ found_v) has keeps in (same, same)
  ]

  below_new : (c : all.Channel) (w : ℕ) → number_of new.tables c ≡ Some w → w < new.next
  below_new c w has =
      by_test (is_for c d)
      (λ is. let same = some_some v w (number_of new.tables c) (given.there c is) has in let under = given.below in omega (arith, same, under))
      (λ is. let under = so_far.numbered.below c w (still c w is has) in let rises = given.rises in omega (arith, under, rises))

  apart_new : (b c : all.Channel) (w : ℕ) → number_of new.tables b ≡ Some w → number_of new.tables c ≡ Some w → all.is_replaced b ≡ false → b ≡ c
  apart_new b c w first second keeps =
      by_test (is_for b d)
      (λ is.
      let one : is_each d ≡ false = not_each d (sym (replaced_for b d is) ∙ keeps) in
      let same = some_some w v (number_of new.tables b) first (given.there b is) in
      by_test (is_for c d)
      (λ also. is_of b d is one ∙ sym (is_of c d also one))
      (λ isnt. (alone b c is isnt (still c w isnt second ∙ ap Some same) keeps).0))
      (λ isnt.
      by_test (is_for c d)
      (λ also.
      let same = some_some w v (number_of new.tables c) second (given.there c also) in
      elim given.kind [
        | inl fresh ↦ let under = so_far.numbered.below b v (still b w isnt first ∙ ap Some same) in absurd (omega (arith, under, fresh.0))
        | inr (stays, found_v) ↦
            let one = not_each d stays in
            so_far.numbered.apart b c v (still b w isnt first ∙ ap Some same) (ap (number_of mid.tables) (is_of c d also one) ∙ number_by mid.tables d one ∙ found_v) keeps
      ])
      (λ neither. so_far.numbered.apart b c w (still b w isnt first) (still c w neither second) keeps))

  given_new : (c : all.Channel) (w : ℕ) → number_of new.tables c ≡ Some w → Contains (gives ++ v ∷ []) w → are_for c (ds ++ d ∷ []) ≡ true
  given_new c w has among =
      by_test (is_for c d)
      (λ is. one_any c ∙ or_right (are_for c ds) (is_for c d) is)
      (λ isnt. elim (Contains-push_cases gives v w among) [
        | inl before ↦ one_any c ∙ or_left (are_for c ds) (is_for c d) (so_far.given c w (still c w isnt has) before)
        | inr same ↦ elim given.kind [
          | inl fresh ↦ let under = so_far.numbered.below c w (still c w isnt has) in absurd (omega (arith, under, fresh.0, same))
          | inr (stays, found_v) ↦
              let one = not_each d stays in
              let owner = so_far.numbered.apart (of d) c v (number_by mid.tables d one ∙ found_v) (still c w isnt has ∙ ap Some (sym same)) (replaced_for (of d) d (stands_for d one) ∙ stays) in
              differ (sym (ap (λ x. is_for x d) (sym owner) ∙ stands_for d one) ∙ isnt)
        ]
      ])

  kept_new : (c : all.Channel) (w : ℕ) → (all.is_replaced c && are_for c (ds ++ d ∷ [])) ≡ false → number_of old.tables c ≡ Some w → number_of new.tables c ≡ Some w
  kept_new c w stays has =
      let test : (all.is_replaced c && (are_for c ds || is_for c d)) ≡ false = ap (λ b. all.is_replaced c && b) (sym (one_any c)) ∙ stays in
      let before = so_far.kept c w (and_left (all.is_replaced c) (are_for c ds) (is_for c d) test) has in
      by_test (is_for c d)
      (λ is.
      let keeps = and_keeps (all.is_replaced c) (are_for c ds) (is_for c d) test is in
      elim given.kind [
        | inl fresh ↦ none_some w (number_of mid.tables c) (fresh.1 c is keeps) before
        | inr (by, found_v) ↦
            let one = not_each d by in
            given.there c is ∙ ap Some (some_some v w (number_of mid.tables c) (ap (number_of mid.tables) (is_of c d is one) ∙ number_by mid.tables d one ∙ found_v) before)
      ])
      (λ isnt. given.others c isnt ∙ before)

  fresh_new : (c : all.Channel) (w : ℕ) → number_of new.tables c ≡ Some w → (number_of old.tables c ≡ Some w) ⊎ (old.next ≤ w)
  fresh_new c w has =
      by_test (is_for c d)
      (λ is.
      let same = some_some v w (number_of new.tables c) (given.there c is) has in
      elim given.kind [
        | inl fresh ↦ let rises = so_far.rises in inr (omega (arith, fresh.0, same, rises))
        | inr (by, found_v) ↦
            let one = not_each d by in
            so_far.fresh c w (ap (number_of mid.tables) (is_of c d is one) ∙ number_by mid.tables d one ∙ found_v ∙ ap Some same)
      ])
      (λ isnt. so_far.fresh c w (still c w isnt has))

  handed_new : (c : all.Channel) → are_for c (ds ++ d ∷ []) ≡ true → (w : ℕ) × (number_of new.tables c ≡ Some w) × Contains (gives ++ v ∷ []) w × (all.is_replaced c ≡ true → old.next ≤ w)
  handed_new c is =
      by_test (is_for c d)
      (λ here. (
        v,
        given.there c here,
        Contains-push gives v,
        λ replaced. elim given.kind [
          | inl fresh ↦ let rises = so_far.rises in omega (arith, fresh.0, rises)
          | inr (by, found_v) ↦ wrong (sym by ∙ sym (replaced_for c d here) ∙ replaced)
        ],
      ))
      (λ isnt.
      let before = so_far.handed c (or_either (are_for c ds) (is_for c d) (sym (one_any c) ∙ is) isnt) in
      (before.0, given.others c isnt ∙ before.1, Contains-append_left gives (v ∷ []) before.0 before.2, before.3))

  more : HandedOn old new (gives ++ v ∷ []) (ds ++ d ∷ [])
  more = record {
    numbered = record { below = below_new; apart = apart_new };
    rises = let first = so_far.rises in let second = given.rises in omega (arith, first, second);
    below = λ w among. elim (Contains-push_cases gives v w among) [
      | inl before ↦ let under = so_far.below w before in let rises = given.rises in omega (arith, under, rises)
      | inr same ↦ let under = given.below in omega (arith, under, same)
    ];
    handed = handed_new;
    given = given_new;
    kept = kept_new;
    fresh = fresh_new;
  }

pub handed_more : (old mid new : Numbers) (d : Channel) (v : ℕ) (gives : List ℕ) (ds : List Channel) → HandedOn old mid gives ds → IsGiven d v mid new → HandedOn old new (gives ++ v ∷ []) (ds ++ d ∷ [])
handed_more old mid new d v gives ds so_far is = more old mid new d v gives ds so_far (gave d v mid new so_far.numbered is)

pub handed_none : (old : Numbers) → IsNumbered old → HandedOn old old [] []
handed_none old numbered = record {
  numbered = numbered;
  rises = omega arith;
  below = λ w among. absurd (omega (arith, among.1));
  handed = λ c is. wrong is;
  given = λ c w has among. absurd (omega (arith, among.1));
  kept = λ c w stays has. has;
  fresh = λ c w has. inl has;
}

pub numbers_more : (t : Tables) (ds : List Channel) (d : Channel) → numbers_of t (ds ++ d ∷ []) ≡ numbers_of t ds ++ option_to_list (number_at t d)
numbers_more t [] d = append-nil (option_to_list (number_at t d))
numbers_more t (other ∷ ds) d =
    ap (λ more. option_to_list (number_at t other) ++ more) (numbers_more t ds d) ∙ sym (append_assoc (option_to_list (number_at t other)) (numbers_of t ds) (option_to_list (number_at t d)))
