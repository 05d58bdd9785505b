-- The parts of the law of a shared history are the whole law.
use Rattle.std.proofs.Common.{◌≡◌, ◌⊎◌, inl, inr, ℕ, zero, suc, ◌+◌, ◌<◌, ◌≤◌, Bool, true, false, ◌==◌, cond, List, [], ◌∷◌, ◌++◌, length, Some, slice_get, refl, sym, ap, ◌∙◌, subst, arith, append_assoc}
use Rattle.std.proofs.lemmas.Option.{none-some, same_Some}
use Rattle.sync_model.specs.declared.item.SharedEntry.{SharedEntry}
use Rattle.sync_model.specs.declared.item.Item.{Item}
use Rattle.sync_model.specs.SharedHistory.{Contents, contents_after, contents_at, IsReply, is_entry, IsLegal, entries_from, entries_by, entry_of, marked_in}
use Rattle.sync_model.specs.SharedCalls.{bound, Lawful}
use Rattle.sync_model.proofs.Histories.{get_mid, contents_both, contents_same, contents_all}
use Rattle.sync_model.proofs.SharedCallers.{bound_is}
use Rattle.sync_model.proofs.SharedEntries.{IsIn, entry_in, entry_is, mark_in, mark_is, call_of, entry_once}
use Rattle.shared_checks.specs.Fronts.{IsInOrder}
use Rattle.shared_checks.specs.Parts.{IsPlaced, AreEntries, LawfulHistory, AllParts}
use Rattle.shared_checks.proofs.Orders.{order_of}

abbrev Pair : Type 0
Pair = ℕ × SharedEntry

-- the numbers rise along the list
abbrev Rises : List Pair → Type 0
Rises [] = Unit {0}
Rises (p ∷ ps) = ((q : Pair) → IsIn q ps → p.0 < q.0) × Rises ps

-- an element of a list is its first, or one of the rest
first_or_later : (p r : Pair) (ps : List Pair) → IsIn r (p ∷ ps) → (p ≡ r) ⊎ IsIn r ps
first_or_later p r ps (zero, e) = inl (same_Some p r e)
first_or_later p r ps (suc i, e) = inr (i, e)

module _ (p q : Pair) (ps qs : List Pair) (rises : Rises (p ∷ ps)) (others : Rises (q ∷ qs)) (forth : (r : Pair) → IsIn r (p ∷ ps) → IsIn r (q ∷ qs)) (back : (r : Pair) → IsIn r (q ∷ qs) → IsIn r (p ∷ ps)) where
  first_same : p ≡ q
  first_same = by (first_or_later q p qs (forth p (0, refl))) (first_or_later p q ps (back q (0, refl))) where
    by : (q ≡ p) ⊎ IsIn p qs → (p ≡ q) ⊎ IsIn q ps → p ≡ q
    by (inl e) other = sym e
    by (inr there) (inl e) = e
    by (inr there) (inr here) = let one = others.0 p there in let two = rises.0 q here in absurd (omega (arith, one, two))

  later_forth : (r : Pair) → IsIn r ps → IsIn r qs
  later_forth r at = by (first_or_later q r qs (forth r (suc at.0, at.1))) where
    by : (q ≡ r) ⊎ IsIn r qs → IsIn r qs
    by (inr there) = there
    by (inl e) = let above = rises.0 r at in let same : p.0 ≡ r.0 = ap (λ (s : Pair). s.0) (first_same ∙ e) in absurd (omega (arith, above, same))

  later_back : (r : Pair) → IsIn r qs → IsIn r ps
  later_back r at = by (first_or_later p r ps (back r (suc at.0, at.1))) where
    by : (p ≡ r) ⊎ IsIn r ps → IsIn r ps
    by (inr there) = there
    by (inl e) = let above = others.0 r at in let same : q.0 ≡ r.0 = ap (λ (s : Pair). s.0) (sym first_same ∙ e) in absurd (omega (arith, above, same))

-- rising lists of the same elements are equal
rising_same : (ps qs : List Pair) → Rises ps → Rises qs → ((r : Pair) → IsIn r ps → IsIn r qs) → ((r : Pair) → IsIn r qs → IsIn r ps) → ps ≡ qs
rising_same [] [] rises others forth back = refl
rising_same [] (q ∷ qs) rises others forth back = absurd (none-some q (back q (0, refl)).1)
rising_same (p ∷ ps) [] rises others forth back = absurd (none-some p (forth p (0, refl)).1)
rising_same (p ∷ ps) (q ∷ qs) rises others forth back =
    ap (λ r. r ∷ ps) (first_same p q ps qs rises others forth back)
    ∙ ap (λ rs. q ∷ rs) (rising_same ps qs rises.1 others.1 (later_forth p q ps qs rises others forth back) (later_back p q ps qs rises others forth back))

-- what is kept of a rising list, before those that follow
kept_rises : (b : Bool) (p : Pair) (ps : List Pair) → (b ≡ true → (q : Pair) → IsIn q ps → p.0 < q.0) → Rises ps → Rises (cond b (p ∷ ps) ps)
kept_rises true p ps below rises = (below refl, rises)
kept_rises false p ps below rises = rises

module _ (c : ℕ) where
  entries_rise : (n : ℕ) (history : List SharedEntry) → Rises (entries_from n c history)
  entries_rise n [] = tt
  entries_rise n (entry ∷ later) = kept_rises (entry.caller == c) (n, entry) (entries_from (n + 1) c later)
      (λ is q at. let found = entry_is c (n + 1) later q at in let number = found.2 in omega (arith, number)) (entries_rise (n + 1) later)

  marks_rise : (items : List Item) → ((i j : ℕ) (x y : Item) → i < j → slice_get items i ≡ Some x → slice_get items j ≡ Some y → bound x ≤ y.place) → Rises (marked_in c items)
  marks_rise [] behind = tt
  marks_rise (x ∷ later) behind = kept_rises x.entry (x.place, entry_of c x) (marked_in c later)
      (λ is q at.
      let found = mark_is c later q at in
      let place : q.0 ≡ found.1.place = ap (λ (r : Pair). r.0) found.4 in
      let below = behind 0 (suc found.0) x found.1 (omega arith) refl found.2 in
      let entry = bound_is x is in
      omega (arith, place, below, entry))
      (marks_rise later (λ i j y z before at_i at_j. behind (suc i) (suc j) y z (omega (arith, before)) at_i at_j))

module _ (start : Contents) (history : List SharedEntry) (calls : ℕ → List Item) where
  -- the calls of a caller that are entries are the history's, in one order
  marked_of : AreEntries history calls → ((c : ℕ) → IsInOrder c (calls c)) → (c : ℕ) → marked_in c (calls c) ≡ entries_by c history
  marked_of entries order c = rising_same (marked_in c (calls c)) (entries_by c history) (marks_rise c (calls c) (order c).behind) (entries_rise c 0 history) forth back where
    forth : (r : Pair) → IsIn r (marked_in c (calls c)) → IsIn r (entries_by c history)
    forth r at =
        let found = mark_is c (calls c) r at in
        let x : Item = found.1 in
        let number : x.place ≡ 0 + x.place = omega arith in
        entry_in c 0 history x.place (entry_of c x) r (found.4 ∙ ap (λ n. (n, entry_of c x)) number) (entries.entered c found.0 x found.2 found.3) refl

    back : (r : Pair) → IsIn r (entries_by c history) → IsIn r (marked_in c (calls c))
    back r at =
        let found = entry_is c 0 history r at in
        let n : ℕ = found.0 in
        let call = entries.called n r.1 found.1 in
        let x : Item = call.1 in
        let mine : slice_get (calls c) call.0 ≡ Some x = subst (λ d. slice_get (calls d) call.0 ≡ Some x) found.3 call.2 in
        let there : slice_get history n ≡ Some (entry_of c x) = subst (λ k. slice_get history k ≡ Some (entry_of c x)) call.4 (entries.entered c call.0 x mine call.3) in
        let same : r.1 ≡ entry_of c x = same_Some r.1 (entry_of c x) (sym found.1 ∙ there) in
        let place : r.0 ≡ x.place = let number = found.2 in let at_place = call.4 in omega (arith, number, at_place) in
        mark_in c (calls c) call.0 x r (ap (λ k. (k, r.1)) place ∙ ap (λ e. (x.place, e)) same) mine call.3

  pub law_of_parts : AllParts start history calls → Lawful start history calls
  law_of_parts parts = record {
    legal = parts.history_part.legal;
    marked = marked_of parts.history_part.entries (order_of calls parts.fronts_part);
    sound = λ c j x at. record {
      place = (parts.history_part.placed c j x at).place;
      reply = (parts.history_part.placed c j x at).reply;
      entry = (parts.history_part.placed c j x at).entry;
      knows = parts.fronts_part.knows c j x at;
      own = parts.fronts_part.own c j x at;
      begun = (parts.begins_part c j x at).begun;
    };
    rises = parts.fronts_part.rises;
    ranges = parts.ranges_part;
  }

  pub parts_of_law : Lawful start history calls → AllParts start history calls
  parts_of_law law = record {
    history_part = record {
      legal = law.legal;
      entries = record { entered = entered; called = called; once = once };
      placed = λ c j x at. record { place = (law.sound c j x at).place; reply = (law.sound c j x at).reply; entry = (law.sound c j x at).entry };
    };
    fronts_part = record { knows = λ c j x at. (law.sound c j x at).knows; own = λ c j x at. (law.sound c j x at).own; rises = law.rises };
    begins_part = λ c j x at. record { begun = (law.sound c j x at).begun };
    ranges_part = law.ranges;
  } where
    entered : (c j : ℕ) (x : Item) → slice_get (calls c) j ≡ Some x → x.entry ≡ true → slice_get history x.place ≡ Some (entry_of c x)
    entered c j x at is =
        let p : Pair = (x.place, entry_of c x) in
        let there = mark_in c (calls c) j x p refl at is in
        let found = entry_is c 0 history p (subst (λ ps. IsIn p ps) (law.marked c) there) in
        let number = found.2 in
        let place : found.0 ≡ x.place = omega (arith, number) in
        subst (λ n. slice_get history n ≡ Some (entry_of c x)) place found.1

    called : (n : ℕ) (entry : SharedEntry) → slice_get history n ≡ Some entry → (j : ℕ) × (x : Item) × (slice_get (calls entry.caller) j ≡ Some x) × (x.entry ≡ true) × (x.place ≡ n)
    called n entry at = let found = call_of start history calls law n entry at in (found.0, found.1, found.2, found.3, found.4)

    once : (c i j : ℕ) (x y : Item) → slice_get (calls c) i ≡ Some x → slice_get (calls c) j ≡ Some y → x.entry ≡ true → y.entry ≡ true → x.place ≡ y.place → i ≡ j
    once c i j x y at_x at_y is_x is_y same = (entry_once start history calls law c c i j x y at_x at_y is_x is_y same).1

-- the entries of calls are one list
pub same_entries : (first second : List SharedEntry) (calls : ℕ → List Item) → AreEntries first calls → AreEntries second calls → first ≡ second
same_entries first second calls one two = same first second (at first second one two) (at second first two one) where
  at : (xs ys : List SharedEntry) → AreEntries xs calls → AreEntries ys calls → (n : ℕ) (entry : SharedEntry) → slice_get xs n ≡ Some entry → slice_get ys n ≡ Some entry
  at xs ys one two n entry there =
      let call = one.called n entry there in
      let x : Item = call.1 in
      let mine : slice_get xs n ≡ Some (entry_of entry.caller x) = subst (λ k. slice_get xs k ≡ Some (entry_of entry.caller x)) call.4 (one.entered entry.caller call.0 x call.2 call.3) in
      let theirs : slice_get ys n ≡ Some (entry_of entry.caller x) = subst (λ k. slice_get ys k ≡ Some (entry_of entry.caller x)) call.4 (two.entered entry.caller call.0 x call.2 call.3) in
      theirs ∙ sym mine ∙ there

  same : (xs ys : List SharedEntry) → ((n : ℕ) (entry : SharedEntry) → slice_get xs n ≡ Some entry → slice_get ys n ≡ Some entry) → ((n : ℕ) (entry : SharedEntry) → slice_get ys n ≡ Some entry → slice_get xs n ≡ Some entry) → xs ≡ ys
  same [] [] forth back = refl
  same [] (y ∷ ys) forth back = absurd (none-some y (back 0 y refl))
  same (x ∷ xs) [] forth back = absurd (none-some x (forth 0 x refl))
  same (x ∷ xs) (y ∷ ys) forth back = ap (λ z. z ∷ xs) (sym (same_Some y x (forth 0 x refl))) ∙ ap (λ zs. y ∷ zs) (same xs ys (λ n. forth (suc n)) (λ n. back (suc n)))

-- calls have one history
pub one_history : (start other : Contents) (first second : List SharedEntry) (calls : ℕ → List Item) → LawfulHistory start first calls → LawfulHistory other second calls → first ≡ second
one_history start other first second calls one two = same_entries first second calls one.entries two.entries

-- what is left of the history from number n on is legal, where each entry is answered, and is one, at its place
legal_from : (start : Contents) (earlier later : List SharedEntry) → ((n : ℕ) (entry : SharedEntry) → slice_get (earlier ++ later) n ≡ Some entry
    → (is_entry entry.call (contents_at start (earlier ++ later) n) ≡ true) × IsReply entry.call entry.reply (contents_at start (earlier ++ later) n)) → IsLegal (contents_after start earlier) later
legal_from start earlier [] each = tt
legal_from start earlier (entry ∷ later) each =
    let here = each (length earlier) entry (get_mid earlier later entry) in
    let contents : contents_at start (earlier ++ entry ∷ later) (length earlier) ≡ contents_after start earlier =
    contents_same start earlier (entry ∷ later) (length earlier) (omega arith) ∙ contents_all start earlier (length earlier) (omega arith) in
    let both = subst (λ held. (is_entry entry.call held ≡ true) × IsReply entry.call entry.reply held) contents here in
    let shift : (earlier ++ entry ∷ []) ++ later ≡ earlier ++ entry ∷ later = append_assoc earlier (entry ∷ []) later in
    let rest = legal_from start (earlier ++ entry ∷ []) later (subst (λ (history : List SharedEntry). (n : ℕ) (x : SharedEntry) → slice_get history n ≡ Some x
    → (is_entry x.call (contents_at start history n) ≡ true) × IsReply x.call x.reply (contents_at start history n)) (sym shift) each) in
    (both.0, both.1, subst (λ held. IsLegal held later) (contents_both start earlier (entry ∷ [])) rest)

-- a history of calls that are at their places is legal
pub history_of_placed : (start : Contents) (history : List SharedEntry) (calls : ℕ → List Item) → AreEntries history calls → ((c j : ℕ) (x : Item) → slice_get (calls c) j ≡ Some x → IsPlaced start history x) → LawfulHistory start history calls
history_of_placed start history calls entries placed = record { legal = legal_from start [] history each; entries = entries; placed = placed } where
  each : (n : ℕ) (entry : SharedEntry) → slice_get history n ≡ Some entry → (is_entry entry.call (contents_at start history n) ≡ true) × IsReply entry.call entry.reply (contents_at start history n)
  each n entry at =
      let call = entries.called n entry at in
      let x : Item = call.1 in
      let there : slice_get history n ≡ Some (entry_of entry.caller x) = subst (λ k. slice_get history k ≡ Some (entry_of entry.caller x)) call.4 (entries.entered entry.caller call.0 x call.2 call.3) in
      let same : entry_of entry.caller x ≡ entry = same_Some (entry_of entry.caller x) entry (sym there ∙ at) in
      let is = placed entry.caller call.0 x call.2 in
      let at_place = subst (λ k. (x.entry ≡ is_entry x.call (contents_at start history k)) × IsReply x.call x.reply (contents_at start history k)) call.4 (is.entry, is.reply) in
      subst (λ (e : SharedEntry). (is_entry e.call (contents_at start history n) ≡ true) × IsReply e.call e.reply (contents_at start history n)) same (sym at_place.0 ∙ call.3, at_place.1)
