-- Seats are cut in two and taken in, between calls. No word changes.
use Rattle.std.proofs.Common.{◌≡◌, ◌≢◌, ℕ, zero, suc, ◌+◌, ◌<◌, ◌≤◌, ◌==◌, Bool, true, false, cond, nat_le, max, eq-eqb, ne_eqb, List, [], ◌∷◌, ◌++◌, length, set, Some, slice_get, slice_index, ◌⊎◌, inl, inr, refl, sym, ap, ◌∙◌, subst, arith, length-append, le_refl}
use Rattle.std.proofs.lemmas.Bool.{leb-true, le-leb}
use Rattle.std.proofs.lemmas.List.{append-nil}
use Rattle.std.proofs.lemmas.List.Elements.{Contains-append_cases}
use Rattle.std.proofs.lemmas.Option.{none-some, same_Some, slice_get_within}
use mathlib.Core.Option.{some}
use lib.ListN.{get_elem?}
use Rattle.atomic_table.specs.Table.{Splits, Joins}
use Rattle.atomic_table.proofs.Lists.{set_else}
use Rattle.table_rule.specs.Unused.{IsUndrafted}
use Rattle.table_words.proofs.Unused.{cut_in_two, taken_in}
use Rattle.sync_model.specs.declared.item.SharedEntry.{SharedEntry}
use Rattle.sync_model.specs.declared.item.Item.{Item}
use Rattle.sync_model.specs.Front.{AtLeast}
use Rattle.sync_model.specs.Journal.{Begins}
use Rattle.sync_model.specs.SharedCalls.{Knows}
use Rattle.table_rule.specs.declared.begin.Begin.{Begin}
use Rattle.table_rule.specs.declared.view.Own.{Own}
use Rattle.table_rule.specs.declared.view.Gate.{Gate}
use Rattle.table_rule.specs.declared.view.Gate.TheVariants.{Outside, Inside, Closed}
use Rattle.table_rule.specs.declared.view.View.{View}
use Rattle.table_words.specs.Laws.{HistoryLaws}
use Rattle.table_rule.specs.Layout.{callers_of}
use Rattle.table_rule.specs.Ledger.{Owned, Fits}
use Rattle.table_rule.specs.Order.{IsTimely}
use Rattle.table_rule.specs.Owed.{HasRoom, AtGate, Suits}
use Rattle.table_words.proofs.Still.{holds_none}
use Rattle.table_rule.specs.Rule.{TableState, Kept}
use Rattle.table_rule.specs.Views.{IsIdle, first_of, others_of, copied, dealt, kept, most, longest, joined, spent}
use Rattle.table_words.proofs.Lists.{each_after, at_end, item_there, item_front, item_back}
use Rattle.table_words.proofs.Moves.{with_views}

module _ (callers : ℕ) (log : List SharedEntry) (calls : ℕ → List Item) where
  -- other seats' callers stay theirs
  fits_claim : (claim claim' : ℕ → ℕ) (j : ℕ) (v : View) → ((d : ℕ) → claim d ≡ j → claim' d ≡ j) → Fits callers log calls claim j v → Fits callers log calls claim' j v
  fits_claim claim claim' j v same f = record {
    seen = f.seen;
    heard = f.heard;
    long = f.long;
    front = f.front;
    owns = λ i own at. let o = f.owns i own at in record { below = o.below; claimed = same (v.number + i) o.claimed; items = o.items; counted = o.counted; knew = o.knew };
  }

in_first : (owns : List Own) (i : ℕ) (own : Own) → slice_get (first_of owns) i ≡ Some own → (i ≡ 0) × (slice_get owns i ≡ Some own)
in_first [] i own at = absurd (none-some own at)
in_first (first ∷ owns) zero own at = (refl, at)
in_first (first ∷ owns) (suc i) own at = absurd (none-some own at)

in_others : (owns : List Own) (i : ℕ) (own : Own) → slice_get (others_of owns) i ≡ Some own → slice_get owns (suc i) ≡ Some own
in_others [] i own at = absurd (none-some own at)
in_others (first ∷ owns) i own at = at

-- what neither part has drafted, nobody has
both_parts : (owns : List Own) (i : ℕ) → IsUndrafted (others_of owns) i → IsUndrafted (first_of owns) i → IsUndrafted owns i
both_parts [] i others first n own at = absurd (none-some own at)
both_parts (o ∷ owns) i others first zero own at = first 0 own at
both_parts (o ∷ owns) i others first (suc n) own at = others n own at

out_of : (g : Gate) (m : ℕ) → g ≡ Outside → g ≡ Inside m → ⊥
out_of g m out inside = let e : Outside ≡ Inside m = sym out ∙ inside in absurd (cc)

-- a seat is cut in two
module _ (k : Begin) (s : TableState) (r : Kept k s) (id : ℕ) (v : View) (at_me : get_elem? s.views id ≡ some v) (left right : View) (claim : ℕ → ℕ) (stays : (d j : ℕ) → j ≢ id → r.claim d ≡ j → claim d ≡ j)
    (fits_left : Fits (callers_of k) r.log r.calls claim id left) (fits_right : Fits (callers_of k) r.log r.calls claim (length (set s.views id left)) right)
    (live_left : left.live ≡ true) (live_right : right.live ≡ true) (owns : (i : ℕ) → IsUndrafted left.owns i → IsUndrafted right.owns i → IsUndrafted v.owns i)
    (suits_left : Suits k r.shape r.log r.calls s.words left) (suits_right : Suits k r.shape r.log r.calls s.words right)
    (timely_left : IsTimely r.shape r.log r.ordered.entry_times r.ordered.times r.ordered.clock left) (timely_right : IsTimely r.shape r.log r.ordered.entry_times r.ordered.times r.ordered.clock right) where
  pub divided : Kept k record { words = s.words; homes = s.homes; views = set s.views id left ++ right ∷ [] }
  divided = with_views k s r r.ordered.clock (le_refl r.ordered.clock) claim (set s.views id left ++ right ∷ [])
      (cut_in_two k r.shape s.views id v left right at_me live_left live_right owns)
      (λ j u at live. elim (at_end (set s.views id left) right u j at) [
        | inl old ↦ each_after (λ j u. u.live ≡ true → Fits (callers_of k) r.log r.calls claim j u) s.views id left (λ live. fits_left)
            (λ j u other at live. fits_claim (callers_of k) r.log r.calls r.claim claim j u (λ d. stays d j other) (r.fits j u at live)) j u old live
        | inr new ↦ subst (λ (x : ℕ × View). Fits (callers_of k) r.log r.calls claim x.0 x.1) (λ i. (sym new.0 i, new.1 i)) fits_right
      ])
      (λ j u at live. elim (at_end (set s.views id left) right u j at) [
        | inl old ↦ each_after (λ j u. u.live ≡ true → IsTimely r.shape r.log r.ordered.entry_times r.ordered.times r.ordered.clock u) s.views id left (λ live. timely_left) (λ j u other at live. r.ordered.seats j u at live) j u old live
        | inr new ↦ subst (IsTimely r.shape r.log r.ordered.entry_times r.ordered.times r.ordered.clock) new.1 timely_right
      ])
      (λ j u at live. elim (at_end (set s.views id left) right u j at) [
        | inl old ↦ each_after (λ j u. u.live ≡ true → Suits k r.shape r.log r.calls s.words u) s.views id left (λ live. suits_left) (λ j u other at live. r.suits j u at live) j u old live
        | inr new ↦ subst (Suits k r.shape r.log r.calls s.words) new.1 suits_right
      ])

-- a seat that stands for nobody, where another stands that is outside of all gates
module _ (k : Begin) (s : TableState) (r : Kept k s) (id : ℕ) (v : View) (at_me : get_elem? s.views id ≡ some v) (live : v.live ≡ true) where
  pub fits_copied : (new : ℕ) → Fits (callers_of k) r.log r.calls r.claim new (copied v)
  fits_copied new = let f = r.fits id v at_me live in record { seen = f.seen; heard = λ i xs at. absurd (none-some xs at); long = f.long; front = f.front; owns = λ i own at. absurd (none-some own at) }

  pub suits_copied : v.gate ≡ Outside → Suits k r.shape r.log r.calls s.words (copied v)
  suits_copied outside = let u = r.suits id v at_me live in record {
    begin = u.begin;
    walk = u.walk;
    steady = u.steady;
    leaf = u.leaf;
    spot = u.spot;
    cut = u.cut;
    room = λ i own at. absurd (none-some own at);
    gate = u.gate;
    only = λ m i own at inside. absurd (none-some own at);
    holder = λ p i own at reach held. absurd (none-some own at);
    closer = λ m i own at closed. absurd (none-some own at);
    lock = u.lock;
    upper = u.upper;
    nobody = λ e. outside;
  }

  pub timely_copied : IsTimely r.shape r.log r.ordered.entry_times r.ordered.times r.ordered.clock (copied v)
  timely_copied = let t = r.ordered.seats id v at_me live in record { owns = λ i own at. absurd (none-some own at); told = t.told; since = t.since }

-- a copy of a seat
pub copies : (k : Begin) (id : ℕ) (v : View) → v.live ≡ true → IsIdle v → Splits (Kept k) id v v (copied v)
copies k id v live idle s r at_me = divided k s r id v at_me v (copied v) r.claim (λ d j other is. is) (r.fits id v at_me live) (fits_copied k s r id v at_me live (length (set s.views id v))) live live (λ i left right. left) (r.suits id v at_me live) (suits_copied k s r id v at_me live idle.gate) (r.ordered.seats id v at_me live) (timely_copied k s r id v at_me live)

-- a new seat for the first caller
pub deals : (k : Begin) (id : ℕ) (v : View) → v.live ≡ true → IsIdle v → 0 < length v.owns → Splits (Kept k) id v (kept v) (dealt v)
deals k id v live idle stands s r at_me =
    divided k s r id v at_me (kept v) (dealt v) claim
    (λ d j other is. given d j is (λ mine. other (sym is ∙ mine)))
    record {
      seen = f.seen;
      heard = f.heard;
      long = f.long;
      front = f.front;
      owns = λ i own at. let o = f.owns (suc i) own (in_others v.owns i own at) in let number : v.number + suc i ≡ (v.number + 1) + i = omega arith in
          subst (λ c. Owned (callers_of k) r.calls claim id v.front c own) number record { below = o.below; claimed = apart (v.number + suc i) id o.claimed (λ e. omega arith); items = o.items; counted = o.counted; knew = o.knew };
    }
    record {
      seen = f.seen;
      heard = λ i xs at. absurd (none-some xs at);
      long = f.long;
      front = f.front;
      owns = λ i own at. let first = in_first v.owns i own at in let o = f.owns i own first.1 in let is = first.0 in let number : v.number + i ≡ v.number = omega arith in
          record { below = o.below; claimed = ap claim number ∙ mine; items = o.items; counted = o.counted; knew = o.knew };
    }
    live
    live
    (λ i left right. both_parts v.owns i left right)
    record {
      begin = u.begin;
      walk = u.walk;
      steady = u.steady;
      leaf = u.leaf;
      spot = u.spot;
      cut = u.cut;
      room = λ i own at. let number : v.number + suc i ≡ (v.number + 1) + i = omega arith in subst (λ c. HasRoom k r.shape s.words c own) number (u.room (suc i) own (in_others v.owns i own at));
      gate = subst (AtGate k r.shape (v.number + 1)) (sym idle.gate) tt;
      only = λ m i own at inside. let number : (v.number + 1) + i ≡ v.number + suc i = omega arith in u.only m (suc i) own (in_others v.owns i own at) (ap (r.shape.inside m) (sym number) ∙ inside);
      holder = λ p i own at reach held. let number : (v.number + 1) + i ≡ v.number + suc i = omega arith in u.holder p (suc i) own (in_others v.owns i own at) reach (held ∙ ap suc number);
      closer = λ m i own at closed. let number : (v.number + 1) + i ≡ v.number + suc i = omega arith in u.closer m (suc i) own (in_others v.owns i own at) (closed ∙ ap suc number);
      lock = λ l is. absurd (none-some l (sym idle.lock ∙ is));
      upper = λ l is. absurd (none-some l (sym idle.upper ∙ is));
      nobody = λ e. idle.gate;
    }
    record {
      begin = u.begin;
      walk = u.walk;
      steady = u.steady;
      leaf = u.leaf;
      spot = u.spot;
      cut = u.cut;
      room = λ i own at. u.room i own (in_first v.owns i own at).1;
      gate = u.gate;
      only = λ m i own at. u.only m i own (in_first v.owns i own at).1;
      holder = λ p i own at. u.holder p i own (in_first v.owns i own at).1;
      closer = λ m i own at. u.closer m i own (in_first v.owns i own at).1;
      lock = u.lock;
      upper = u.upper;
      nobody = λ e. idle.gate;
    }
    record {
      owns = λ i own at. let number : v.number + suc i ≡ (v.number + 1) + i = omega arith in ap r.ordered.times (sym number) ∙ t.owns (suc i) own (in_others v.owns i own at);
      told = t.told;
      since = t.since;
    }
    record { owns = λ i own at. t.owns i own (in_first v.owns i own at).1; told = t.told; since = t.since }
  where
    t : IsTimely r.shape r.log r.ordered.entry_times r.ordered.times r.ordered.clock v
    t = r.ordered.seats id v at_me live

    f : Fits (callers_of k) r.log r.calls r.claim id v
    f = r.fits id v at_me live

    u : Suits k r.shape r.log r.calls s.words v
    u = r.suits id v at_me live

    new : ℕ
    new = length (set s.views id (kept v))

    claim : ℕ → ℕ
    claim d = cond (d == v.number) (length (set s.views id (kept v))) (r.claim d)

    mine : claim v.number ≡ length (set s.views id (kept v))
    mine = ap (λ b. cond b (length (set s.views id (kept v))) (r.claim v.number)) (eq-eqb v.number v.number refl)

    apart : (d j : ℕ) → r.claim d ≡ j → d ≢ v.number → claim d ≡ j
    apart d j is ne = ap (λ b. cond b (length (set s.views id (kept v))) (r.claim d)) (ne_eqb d v.number ne) ∙ is

    given : (d j : ℕ) → r.claim d ≡ j → (r.claim d ≡ id → ⊥) → claim d ≡ j
    given d j is other = apart d j is (λ e. let first = item_there v.owns 0 stands in let zeroth : d ≡ v.number + 0 = omega arith in other (ap r.claim zeroth ∙ (f.owns 0 first.0 first.1).claimed))

-- of two numbers for each caller, the larger
most-index : (xs ys : List ℕ) (i : ℕ) → slice_index (most xs ys) i ≡ max (slice_index xs i) (slice_index ys i)
most-index [] ys i = omega arith
most-index (x ∷ xs) [] i = omega arith
most-index (x ∷ xs) (y ∷ ys) zero = refl
most-index (x ∷ xs) (y ∷ ys) (suc i) = most-index xs ys i

most-length : (xs ys : List ℕ) (n : ℕ) → length xs ≡ n → length ys ≡ n → length (most xs ys) ≡ n
most-length [] ys n one two = two
most-length (x ∷ xs) [] n one two = one
most-length (x ∷ xs) (y ∷ ys) zero one two = absurd (omega arith)
most-length (x ∷ xs) (y ∷ ys) (suc n) one two = ap suc (most-length xs ys n (omega arith) (omega arith))

pub most_first : (xs ys : List ℕ) → AtLeast (most xs ys) xs
most_first xs ys i = let e = most-index xs ys i in omega arith

pub most_second : (xs ys : List ℕ) → AtLeast (most xs ys) ys
most_second xs ys i = let e = most-index xs ys i in omega arith

module _ {A : Type 0} where
  longest-is : (P : List A → Type 0) (xs ys : List A) → P xs → P ys → P (longest xs ys)
  longest-is P xs ys one two = by_test (nat_le (length xs) (length ys))
    where
      by_test : (b : Bool) → P (cond b ys xs)
      by_test true = two
      by_test false = one

  longest-long : (xs ys : List A) → (length xs ≤ length (longest xs ys)) × (length ys ≤ length (longest xs ys))
  longest-long xs ys = by_test (nat_le (length xs) (length ys)) refl
    where
      by_test : (b : Bool) → nat_le (length xs) (length ys) ≡ b → (length xs ≤ length (cond b ys xs)) × (length ys ≤ length (cond b ys xs))
      by_test true e = (leb-true (length xs) (length ys) e, omega arith)
      by_test false e = let not_le : length xs ≤ length ys → ⊥ = (λ le. let f : true ≡ false = sym (le-leb (length xs) (length ys) le) ∙ e in absurd (cc)) in (omega arith, omega arith)

  in_both : (xs ys : List A) (i : ℕ) (x : A) → slice_get (xs ++ ys) i ≡ Some x → (slice_get xs i ≡ Some x) ⊎ ((j : ℕ) × (length xs + j ≡ i) × (slice_get ys j ≡ Some x))
  in_both [] ys i x at = inr (i, omega arith, at)
  in_both (y ∷ xs) ys zero x at = inl at
  in_both (y ∷ xs) ys (suc i) x at = elim (in_both xs ys i x at) [ inl old ↦ inl old | inr new ↦ let is = new.1 in inr (new.0, omega arith, new.2) ]

-- a seat takes in another, which stands for the next callers
pub joins : (k : Begin) → HistoryLaws → (id : ℕ) (v : View) (other : ℕ) (w : View) → v.live ≡ true → w.live ≡ true → IsIdle w → (0 < length w.owns → v.number + length v.owns ≡ w.number) → Joins (Kept k) id v other w (joined v w) spent
joins k laws id v other w live live_it idle next_callers s r at_me apart at_it = with_views k s r r.ordered.clock (le_refl r.ordered.clock) claim (set (set s.views id (joined v w)) other spent)
    (taken_in k r.shape s.views id other v w (joined v w) spent at_me at_w apart live (λ i both. (λ n own at. both n own (item_front v.owns w.owns own n at), λ n own at. both (length v.owns + n) own (item_back v.owns w.owns own n at))))
    (each_after (λ j u. u.live ≡ true → Fits (callers_of k) r.log r.calls claim j u) (set s.views id (joined v w)) other spent (λ alive. absurd (cc))
    (λ j u not_it at. each_after (λ j u. j ≢ other → u.live ≡ true → Fits (callers_of k) r.log r.calls claim j u) s.views id (joined v w) (λ ne alive. fits_joined)
    (λ j u not_me at ne alive. fits_claim (callers_of k) r.log r.calls r.claim claim j u (λ d is. stays d j is ne) (r.fits j u at alive)) j u at not_it))
    (each_after (λ j u. u.live ≡ true → IsTimely r.shape r.log r.ordered.entry_times r.ordered.times r.ordered.clock u) (set s.views id (joined v w)) other spent (λ alive. absurd (cc))
    (λ j u not_it at. each_after (λ j u. u.live ≡ true → IsTimely r.shape r.log r.ordered.entry_times r.ordered.times r.ordered.clock u) s.views id (joined v w) (λ alive. timely_joined) (λ j u not_me at. r.ordered.seats j u at) j u at))
    (each_after (λ j u. u.live ≡ true → Suits k r.shape r.log r.calls s.words u) (set s.views id (joined v w)) other spent (λ alive. absurd (cc))
    (λ j u not_it at. each_after (λ j u. u.live ≡ true → Suits k r.shape r.log r.calls s.words u) s.views id (joined v w) (λ alive. suits_joined) (λ j u not_me at. r.suits j u at) j u at))
  where
    at_w : get_elem? s.views other ≡ some w
    at_w = sym (set_else s.views id other (joined v w) apart) ∙ at_it

    f : Fits (callers_of k) r.log r.calls r.claim id v
    f = r.fits id v at_me live

    g : Fits (callers_of k) r.log r.calls r.claim other w
    g = r.fits other w at_w live_it

    u : Suits k r.shape r.log r.calls s.words v
    u = r.suits id v at_me live

    h : Suits k r.shape r.log r.calls s.words w
    h = r.suits other w at_w live_it

    claim : ℕ → ℕ
    claim d = cond (r.claim d == other) id (r.claim d)

    stays : (d j : ℕ) → r.claim d ≡ j → j ≢ other → claim d ≡ j
    stays d j is ne = ap (λ b. cond b id (r.claim d)) (ne_eqb (r.claim d) other (λ e. ne (sym is ∙ e))) ∙ is

    taken : (d : ℕ) → r.claim d ≡ other → claim d ≡ id
    taken d is = ap (λ b. cond b id (r.claim d)) (eq-eqb (r.claim d) other is)

    number_of : (i j : ℕ) → j < length w.owns → length v.owns + j ≡ i → w.number + j ≡ v.number + i
    number_of i j inside is = let run = next_callers (omega arith) in omega arith

    known : Knows r.calls (most v.front w.front) (length (longest v.seen w.seen))
    known = let long = longest-long v.seen w.seen in
        laws.known_both r.calls (most v.front w.front) v.front w.front (length (longest v.seen w.seen)) (λ c. let e = most-index v.front w.front c in omega arith)
        (laws.known r.calls r.calls v.front (length v.seen) (length (longest v.seen w.seen)) (λ d. ([], sym (append-nil (r.calls d)))) long.0 f.front)
        (laws.known r.calls r.calls w.front (length w.seen) (length (longest v.seen w.seen)) (λ d. ([], sym (append-nil (r.calls d)))) long.1 g.front)

    fits_joined : Fits (callers_of k) r.log r.calls claim id (joined v w)
    fits_joined = record {
      seen = longest-is (Begins r.log) v.seen w.seen f.seen g.seen;
      heard = heard;
      long = most-length v.front w.front (callers_of k) f.long g.long;
      front = known;
      owns = λ i own at. elim (in_both v.owns w.owns i own at) [
        | inl mine ↦ let o = f.owns i own mine in let more = g.front.made (v.number + i) in let all = ap length o.items in let counted = o.counted in let e = most-index v.front w.front (v.number + i) in record {
          below = o.below;
          claimed = stays (v.number + i) id o.claimed (λ e. apart (sym e));
          items = o.items;
          counted = omega arith;
          knew = λ j x at c. let up = most_first v.front w.front c in let was = o.knew j x at c in omega arith;
        }
        | inr its ↦ let o = g.owns its.0 own its.2 in let more = f.front.made (w.number + its.0) in let all = ap length o.items in let counted = o.counted in let e = most-index v.front w.front (w.number + its.0) in
            let inside = slice_get_within w.owns its.0 own its.2 in
            subst (λ c. Owned (callers_of k) r.calls claim id (most v.front w.front) c own) (number_of i its.0 inside its.1) record {
              below = o.below;
              claimed = taken (w.number + its.0) o.claimed;
              items = o.items;
              counted = omega arith;
              knew = λ j x at c. let up = most_second v.front w.front c in let was = o.knew j x at c in omega arith;
            }
      ];
    }
      where
        heard : (i : ℕ) (xs : List SharedEntry) → slice_get (v.seen ∷ w.seen ∷ (v.heard ++ w.heard)) i ≡ Some xs → Begins r.log xs
        heard zero xs at = subst (Begins r.log) (same_Some v.seen xs at) f.seen
        heard (suc zero) xs at = subst (Begins r.log) (same_Some w.seen xs at) g.seen
        heard (suc (suc i)) xs at = elim (in_both v.heard w.heard i xs at) [ inl mine ↦ f.heard i xs mine | inr its ↦ g.heard its.0 xs its.2 ]

    timely_joined : IsTimely r.shape r.log r.ordered.entry_times r.ordered.times r.ordered.clock (joined v w)
    timely_joined = let mine = r.ordered.seats id v at_me live in let its = r.ordered.seats other w at_w live_it in record {
      owns = λ i own at. elim (in_both v.owns w.owns i own at) [
        | inl first ↦ mine.owns i own first
        | inr second ↦ let inside = slice_get_within w.owns second.0 own second.2 in ap r.ordered.times (sym (number_of i second.0 inside second.1)) ∙ its.owns second.0 own second.2
      ];
      told = mine.told;
      since = mine.since;
    }

    suits_joined : Suits k r.shape r.log r.calls s.words (joined v w)
    suits_joined = record {
      begin = u.begin;
      walk = u.walk;
      steady = u.steady;
      leaf = u.leaf;
      spot = u.spot;
      cut = λ d has. elim (Contains-append_cases v.cut w.cut d has) [ inl mine ↦ u.cut d mine | inr its ↦ h.cut d its ];
      room = λ i own at. elim (in_both v.owns w.owns i own at) [
        | inl mine ↦ u.room i own mine
        | inr its ↦ let inside = slice_get_within w.owns its.0 own its.2 in subst (λ c. HasRoom k r.shape s.words c own) (number_of i its.0 inside its.1) (h.room its.0 own its.2)
      ];
      gate = u.gate;
      only = λ m i own at inside. elim (in_both v.owns w.owns i own at) [
        | inl mine ↦ u.only m i own mine inside
        | inr its ↦ let within = slice_get_within w.owns its.0 own its.2 in absurd (out_of w.gate m idle.gate (h.only m its.0 own its.2 (ap (r.shape.inside m) (number_of i its.0 within its.1) ∙ inside)))
      ];
      holder = λ p i own at reach held. elim (in_both v.owns w.owns i own at) [
        | inl mine ↦ u.holder p i own mine reach held
        | inr its ↦ let within = slice_get_within w.owns its.0 own its.2 in absurd (holds_none w p idle.lock idle.upper (h.holder p its.0 own its.2 reach (held ∙ ap suc (sym (number_of i its.0 within its.1)))))
      ];
      closer = λ m i own at closed. elim (in_both v.owns w.owns i own at) [
        | inl mine ↦ u.closer m i own mine closed
        | inr its ↦ let within = slice_get_within w.owns its.0 own its.2 in let was = h.closer m its.0 own its.2 (closed ∙ ap suc (sym (number_of i its.0 within its.1))) in absurd (let e : Outside ≡ Closed m was.0 = sym idle.gate ∙ was.1 in (cc))
      ];
      lock = u.lock;
      upper = u.upper;
      nobody = λ e. u.nobody (let long : length (v.owns ++ w.owns) ≡ 0 = e in omega (arith, length-append v.owns w.owns));
    }
