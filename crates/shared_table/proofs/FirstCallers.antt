-- The callers of a new table are dealt out.
use Rattle.std.proofs.Common.{◌≡◌, ℕ, zero, suc, ◌+◌, ◌*◌, ◌^◌, ◌<◌, ◌≤◌, List, [], ◌∷◌, length, drop, sum, Some, slice_get, slice_index, refl, sym, ap, ◌∙◌, subst, arith, ◌++◌, ◌⊎◌, inl, inr, get_or, replicate, length-append}
use Rattle.std.proofs.Math.Seq.{get_or-append_seam}
use Rattle.std.proofs.lemmas.Bool.{cases_lt}
use Rattle.std.proofs.lemmas.List.{drop_more, get_or-replicate, get_or_append_left, get_or_past, length-replicate}
use Rattle.std.proofs.lemmas.List.Sums.{sum_by-cons}
use Rattle.std.proofs.lemmas.Option.{none-some, same_Some, get_or_from_slice_get, slice_get-get_or, slice_get_within}
use Rattle.atomic_table.specs.Table.{Me}
use Rattle.sync_model.specs.declared.caller.Caller.{Caller}
use Rattle.sync_model.specs.Note.{IsCounted}
use Rattle.trie_nodes.specs.Layout.{unit_words}
use Rattle.table_rule.specs.declared.begin.Begin.{Begin}
use Rattle.table_words.specs.Seats.{IsSeatOf, begin_of}
use Rattle.shared_table.specs.declared.note.SharedNote.{SharedNote}
use Rattle.shared_table.specs.declared.table.SharedTable.{SharedTable}
use Rattle.table_rule.specs.declared.view.Own.{Own}
use Rattle.table_rule.specs.declared.view.View.{View}
use Rattle.shared_table.specs.Dealing.{left_view, IsNewCaller}
use Rattle.table_rule.specs.Layout.{callers_of, size_of, IsBegin}
use Rattle.shared_table.specs.NewCallers.{AreNewCallers}
use Rattle.table_rule.specs.Views.{held_in, next_in, spare_in, new_owns, first_view, dealt, kept, others_of, first_of, IsIdle}

-- a list of zeros has 0 at each place, and beyond its end
none_known : (n c : ℕ) → slice_index (replicate n 0) c ≡ 0
none_known n c = elim (cases_lt c n) [
  | inl below ↦ get_or-replicate n c 0 0 below
  | inr past ↦ get_or_past (replicate n 0) c 0 (omega (arith, length-replicate {A = ℕ} n 0))
]

-- an item of a list with one more is one of the list, or the last
pub item_on : {A : Type 0} (xs : List A) (z x : A) (i : ℕ) → slice_get (xs ++ z ∷ []) i ≡ Some x → (slice_get xs i ≡ Some x) ⊎ ((i ≡ length xs) × (x ≡ z))
item_on xs z x i at =
    let is : get_or (xs ++ z ∷ []) i x ≡ x = get_or_from_slice_get (xs ++ z ∷ []) i x x at in
    elim (cases_lt i (length xs)) [
      | inl below ↦ inl (slice_get-get_or xs i x below ∙ ap (λ y. Some y) (sym (get_or_append_left xs (z ∷ []) x i below) ∙ is))
      | inr past ↦
          let within = slice_get_within (xs ++ z ∷ []) i x at in
          let last : i ≡ length xs = omega (arith, length-append xs (z ∷ [])) in
          inr (last, sym is ∙ ap (λ n. get_or (xs ++ z ∷ []) n x) last ∙ get_or-append_seam xs z [] x)
    ]

pub one_longer : {A : Type 0} (xs : List A) (x : A) (n : ℕ) → length xs ≡ n → length (xs ++ x ∷ []) ≡ n + 1
one_longer xs x n is = omega (arith, length-append xs (x ∷ []))

pub left_idle : (k : Begin) (n next : ℕ) → IsIdle (left_view k n next)
left_idle k n next = record { walk = refl; leaf = refl; lock = refl; upper = refl; gate = refl; spot = refl }

module _ (k : Begin) (n next : ℕ) (inside : n < length k.spares) where
  one : drop n k.spares ≡ slice_index k.spares n ∷ drop (n + 1) k.spares
  one = drop_more k.spares n 0 inside

  abbrev new_one : Own
  new_one = record { items = []; times = []; next = next; spare = slice_index k.spares n; draft = [] }

  owns_are : new_owns next (drop n k.spares) ≡ new_one ∷ new_owns (next + unit_words * slice_index k.spares n) (drop (n + 1) k.spares)
  owns_are = ap (new_owns next) one

  pub some_left : 0 < length (new_owns next (drop n k.spares))
  some_left = let e = ap length owns_are in omega arith

  pub kept_left : kept (left_view k n next) ≡ left_view k (n + 1) (next + unit_words * slice_index k.spares n)
  kept_left = λ i. record (first_view k) { number = n + 1; owns = others_of (owns_are i) }

  -- the view of the caller's own seat
  abbrev pub new_view : View
  new_view = record (first_view k) { number = n; owns = new_one ∷ [] }

  pub dealt_one : dealt (left_view k n next) ≡ new_view
  dealt_one = λ i. record (first_view k) { number = n; owns = first_of (owns_are i) }

  pub room_left : next + unit_words * sum (drop n k.spares) ≡ size_of k → (next + unit_words * slice_index k.spares n) + unit_words * sum (drop (n + 1) k.spares) ≡ size_of k
  room_left room = let e = ap sum one in let s = sum_by-cons (λ x. x) (slice_index k.spares n) (drop (n + 1) k.spares) in omega arith

  pub fits_left : IsBegin k → next + unit_words * sum (drop n k.spares) ≡ size_of k → next + 128 * slice_index k.spares n < 2 ^ 64
  fits_left begin room = let after = room_left room in let objects = begin.objects in let units = begin.units in omega arith

  -- the caller of that seat is new
  pub is_new : (table : SharedTable) (caller : Caller SharedNote) → begin_of table.words ≡ k → IsSeatOf table.words caller.note.seat → caller.note.seat.me ≡ (dealt (left_view k n next), []) → IsNewCaller table k.spares n caller
  is_new table caller key table_is me =
      let view : caller.note.seat.me.0 ≡ new_view = ap (λ m. m.0) me ∙ dealt_one in
      let same = sym view in record {
        is = record {
          table_is = table_is;
          empty = ap (λ m. m.1) me;
          live = ap (λ (u : View). u.live) view;
          begin = ap (λ (u : View). u.begin) view ∙ sym key;
          idle = subst IsIdle same record { walk = refl; leaf = refl; lock = refl; upper = refl; gate = refl; spot = refl };
          few = subst (λ (u : View). length u.owns ≤ 1) same (omega arith);
          unwritten = subst (λ (u : View). (i : ℕ) (own : Own) → slice_get u.owns i ≡ Some own → own.draft ≡ []) same unwritten;
          counted = subst (λ (u : View). IsCounted (held_in u.number u.owns) u.front) same (none_known (callers_of k) n);
        };
        own = ap (λ (u : View). held_in u.number u.owns) view;
        seen = ap (λ (u : View). u.seen) view;
        knows = λ c. ap (λ (u : View). slice_index u.front c) view ∙ none_known (callers_of k) c;
      }
    where
      unwritten : (i : ℕ) (own : Own) → slice_get (new_one ∷ []) i ≡ Some own → own.draft ≡ []
      unwritten zero own at = subst (λ (o : Own). o.draft ≡ []) (same_Some new_one own at) refl
      unwritten (suc i) own at = absurd (none-some own at)

  pub ghosts_are : (me : Me (Unit {0}) View) → me ≡ (dealt (left_view k n next), []) → (me.0.number ≡ n) × (next_in next me.0.owns ≡ next) × (spare_in (slice_index k.spares n) me.0.owns ≡ slice_index k.spares n)
  ghosts_are me is = let view : me.0 ≡ new_view = ap (λ m. m.0) is ∙ dealt_one in (ap (λ (u : View). u.number) view, ap (λ (u : View). next_in next u.owns) view, ap (λ (u : View). spare_in (slice_index k.spares n) u.owns) view)

-- all callers were dealt
pub all_new : (table : SharedTable) (k : Begin) (callers : List (Caller SharedNote)) → begin_of table.words ≡ k → length callers ≡ length k.spares → ((i : ℕ) (caller : Caller SharedNote) → slice_get callers i ≡ Some caller → IsNewCaller table k.spares i caller) → AreNewCallers table k.spares callers
all_new table k callers key count each = record {
  all = record {
    all = count ∙ ap callers_of (sym key);
    each = λ i caller at. let e = each i caller at in (e.is, (record { number = i; items = []; times = []; spare = slice_index k.spares i }, e.own, refl));
  };
  own = λ i caller at. (each i caller at).own;
  seen = λ i caller at. (each i caller at).seen;
  knows = λ i c caller at. (each i caller at).knows c;
}
