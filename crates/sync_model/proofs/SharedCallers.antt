-- What one caller may conclude from the law of all: its call as it sees it, and the order of its calls.
use Rattle.std.proofs.Common.{◌≡◌, ◌≢◌, ℕ, suc, ◌+◌, ◌<◌, ◌≤◌, Bool, true, false, ◌==◌, cond, List, [], ◌∷◌, ◌++◌, length, Some, slice_get, slice_index, inl, inr, refl, sym, ap, ◌∙◌, subst, arith, append-nil}
use Rattle.std.proofs.lemmas.Option.{slice_get_within}
use Rattle.std.proofs.lemmas.Bool.{cases_lt, eqb-true, eq-eqb}
use Rattle.sync_model.specs.declared.item.SharedCall.{SharedCall}
use Rattle.sync_model.specs.declared.item.SharedReply.{SharedReply}
use Rattle.sync_model.specs.declared.item.SharedEntry.{SharedEntry}
use Rattle.sync_model.specs.declared.item.Item.{Item}
use Rattle.sync_model.specs.Front.{AtLeast}
use Rattle.sync_model.specs.Journal.{Begins}
use Rattle.sync_model.specs.SharedHistory.{Contents, contents_at, IsReply, is_entry, IsLegal, entries_from, entries_by, entry_of, marked_in, history_with}
use Rattle.sync_model.specs.SharedCalls.{bound, Knows, Lawful, MayCall, AddsCall}
use Rattle.sync_model.specs.Shared.{CallerState, Called}
use Rattle.sync_model.specs.SharedLaws.{IsWithinBoth, SameState, TakesIn}
use Rattle.sync_model.proofs.Histories.{get_front, get_last, get_on, contents_same, legal_apart, entries_both, added, added_is}
use Rattle.sync_model.proofs.SharedSteps.{lawful_more}
use Rattle.sync_model.proofs.SameHistory.{heads, tails, late}

-- a front that counts less is known too
pub knows_less : (calls : ℕ → List Item) (front other : List ℕ) (n : ℕ) → AtLeast front other → Knows calls front n → Knows calls other n
knows_less calls front other n less knows = record {
  made = λ c. omega (arith, less c, knows.made c);
  within = λ c j x below at. knows.within c j x (omega (arith, less c)) at;
}

-- and so is one within two that are
pub knows_both : (calls : ℕ → List Item) (both first second : List ℕ) (n : ℕ) → IsWithinBoth both first second → Knows calls first n → Knows calls second n → Knows calls both n
knows_both calls both first second n within one two = record {
  made = λ c. omega (arith, within c, one.made c, two.made c);
  within = λ c j x below at. elim (cases_lt j (slice_index first c)) [
    | inl in_first ↦ one.within c j x in_first at
    | inr not_first ↦ two.within c j x (omega (arith, within c)) at
  ];
}

module _ (start : Contents) (history : List SharedEntry) (calls : ℕ → List Item) (lawful : Lawful start history calls) where
  -- what a caller knows of lies before its call
  pub known_before : (c d i j : ℕ) (x y : Item) → slice_get (calls c) j ≡ Some y → i < slice_index y.front d → slice_get (calls d) i ≡ Some x → bound x ≤ y.place
  known_before c d i j x y at below known = (lawful.sound c j y at).knows.within d i x below known

  -- so do its own earlier calls
  pub own_before : (c i j : ℕ) (x y : Item) → i < j → slice_get (calls c) i ≡ Some x → slice_get (calls c) j ≡ Some y → bound x ≤ y.place
  own_before c i j x y below earlier at = known_before c c i j x y at (let own = (lawful.sound c j y at).own in omega arith) earlier

pub bound_is : (x : Item) → x.entry ≡ true → bound x ≡ x.place + 1
bound_is x is = ap (λ b. cond b (x.place + 1) x.place) is

-- a list of calls that lie within the first n entries has all its entries there
marked_within : (c n : ℕ) (items : List Item) → ((j : ℕ) (x : Item) → slice_get items j ≡ Some x → bound x ≤ n) → (p : ℕ × SharedEntry) (front back : List (ℕ × SharedEntry)) → marked_in c items ≡ front ++ p ∷ back → p.0 < n
marked_within c n [] within p [] back e = absurd cc
marked_within c n [] within p (q ∷ front) back e = absurd cc
marked_within c n (x ∷ items) within p front back e =
    let mine : ℕ × SharedEntry = (x.place, entry_of c x) in
    by_entry x.entry refl mine refl (marked_in c items) (marked_within c n items (λ j. within (suc j)) p) (within 0 x refl) front e
  where
    by_entry : (b : Bool) → x.entry ≡ b → (mine : ℕ × SharedEntry) → mine.0 ≡ x.place → (others : List (ℕ × SharedEntry)) → ((front back : List (ℕ × SharedEntry)) → others ≡ front ++ p ∷ back → p.0 < n) → bound x ≤ n
        → (front : List (ℕ × SharedEntry)) → cond b (mine ∷ others) others ≡ front ++ p ∷ back → p.0 < n
    by_entry false is mine place others later here front e = later front back e
    by_entry true is mine place others later here [] e = let same : mine.0 ≡ p.0 = ap (λ (q : ℕ × SharedEntry). q.0) (heads mine p others back e) in let bounded = bound_is x is in omega arith
    by_entry true is mine place others later here (q ∷ front) e = later front back (tails mine q others (front ++ p ∷ back) e)

-- whoever has seen as much of a history as its own calls lie within has seen all its own entries
pub all_mine : (c : ℕ) (items : List Item) (seen later : List SharedEntry) → marked_in c items ≡ entries_by c (seen ++ later) → ((j : ℕ) (x : Item) → slice_get items j ≡ Some x → bound x ≤ length seen) → marked_in c items ≡ entries_by c seen
all_mine c items seen later marked within = by_rest (entries_from (0 + length seen) c later) refl
  where
    both : marked_in c items ≡ entries_by c seen ++ entries_from (0 + length seen) c later
    both = marked ∙ entries_both c 0 seen later

    by_rest : (rest : List (ℕ × SharedEntry)) → entries_from (0 + length seen) c later ≡ rest → marked_in c items ≡ entries_by c seen
    by_rest [] e = both ∙ ap (λ xs. entries_by c seen ++ xs) e ∙ append-nil (entries_by c seen)
    by_rest (p ∷ rest) e =
        let above = late (0 + length seen) c later p rest e in
        let below = marked_within c (length seen) items within p (entries_by c seen) rest (both ∙ ap (λ xs. entries_by c seen ++ xs) e) in
        absurd (omega arith)

-- the lists of all callers, of which one is this
abbrev one_more : (ℕ → List Item) → ℕ → List Item → ℕ → List Item
one_more calls c items d = cond (d == c) items (calls d)

adds_one : (calls : ℕ → List Item) (c : ℕ) (items : List Item) (x : Item) → items ≡ calls c ++ x ∷ [] → AddsCall calls c x (one_more calls c items)
adds_one calls c items x is = record {
  mine = ap (λ b. cond b items (calls c)) (eq-eqb c c refl) ∙ is;
  others = λ d ne. other d ne (d == c) refl;
}
  where
    other : (d : ℕ) → d ≢ c → (b : Bool) → (d == c) ≡ b → cond b items (calls d) ≡ calls d
    other d ne true e = absurd (ne (eqb-true d c e))
    other d ne false e = refl

pub bound_above : (x : Item) → x.place ≤ bound x
bound_above x = by_entry x.entry
  where
    by_entry : (b : Bool) → x.place ≤ cond b (x.place + 1) x.place
    by_entry true = omega arith
    by_entry false = omega arith

-- a call that the law allows, and that its caller's state takes in, is one that a caller is promised
pub is_called : (start : Contents) (history : List SharedEntry) (calls : ℕ → List Item) (x : Item) (cost : ℕ) (old new : CallerState) (takes : TakesIn x cost old new) → calls takes.was.number ≡ takes.was.items
    → Lawful start history calls → MayCall start history calls takes.was.number x → Begins (history_with history takes.was.number x) new.seen → Called start x.call x.reply cost old new
is_called start history calls x cost old new takes mine lawful may begins = record {
  was = takes.was;
  becomes = takes.becomes;
  item = x;
  own_old = takes.own_old;
  own_new = takes.own_new;
  number = takes.number;
  items = takes.items;
  spare = takes.spare;
  is_call = refl;
  is_reply = refl;
  is_front = takes.is_front;
  counted = takes.counted;
  time = takes.time;
  times = takes.times;
  past = takes.past;
  reached = takes.reached;
  rises = takes.rises;
  begins = takes.begins;
  from = takes.from;
  to = to;
  after = after;
  legal = (legal_apart start new.seen begins.0 (subst (IsLegal start) begins.1 next.legal)).0;
  answer = subst (IsReply x.call x.reply) place_same may.sound.reply;
  entry = may.sound.entry ∙ ap (is_entry x.call) place_same;
  marked = λ is. get_front new.seen begins.0 x.place (entry_of takes.was.number x) (let to = takes.to in let bounded = bound_is x is in omega arith) (ap (λ h. slice_get h x.place) (sym begins.1) ∙ last is);
  mine = all_mine takes.was.number takes.becomes.items new.seen begins.0 (all_marked ∙ ap (entries_by takes.was.number) begins.1) within;
}
  where
    to : x.place ≤ length new.seen
    to = let above = bound_above x in let seen = takes.to in omega arith

    after : (j : ℕ) (y : Item) → slice_get takes.was.items j ≡ Some y → bound y ≤ x.place
    after j y at =
        let earlier : slice_get (calls takes.was.number) j ≡ Some y = ap (λ xs. slice_get xs j) mine ∙ at in
        let below = slice_get_within (calls takes.was.number) j y earlier in
        let own = may.sound.own in
        may.sound.knows.within takes.was.number j y (omega arith) earlier

    within : (j : ℕ) (y : Item) → slice_get takes.becomes.items j ≡ Some y → bound y ≤ length new.seen
    within j y at = elim (get_on takes.was.items x y j (ap (λ xs. slice_get xs j) (sym takes.items) ∙ at)) [
      | inl earlier ↦ let before = after j y earlier in let place = to in omega arith
      | inr last ↦ subst (λ (z : Item). bound z ≤ length new.seen) (sym last.1) takes.to
    ]

    more : ℕ → List Item
    more = one_more calls takes.was.number takes.becomes.items

    adds : AddsCall calls takes.was.number x more
    adds = adds_one calls takes.was.number takes.becomes.items x (takes.items ∙ ap (λ xs. xs ++ x ∷ []) (sym mine))

    next : Lawful start (history_with history takes.was.number x) more
    next = lawful_more calls more takes.was.number x adds start history lawful may

    all_marked : marked_in takes.was.number takes.becomes.items ≡ entries_by takes.was.number (history_with history takes.was.number x)
    all_marked = ap (marked_in takes.was.number) (takes.items ∙ ap (λ xs. xs ++ x ∷ []) (sym mine) ∙ sym adds.mine) ∙ next.marked takes.was.number

    place_same : contents_at start history x.place ≡ contents_at start new.seen x.place
    place_same =
        sym (contents_same start history (added takes.was.number x) x.place may.sound.place)
        ∙ ap (λ h. contents_at start h x.place) (sym (added_is history takes.was.number x) ∙ begins.1)
        ∙ contents_same start new.seen begins.0 x.place to

    last : x.entry ≡ true → slice_get (history_with history takes.was.number x) x.place ≡ Some (entry_of takes.was.number x)
    last is =
        ap (λ b. slice_get (cond b (history ++ entry_of takes.was.number x ∷ []) history) x.place) is
        ∙ ap (λ n. slice_get (history ++ entry_of takes.was.number x ∷ []) n) (may.last is)
        ∙ get_last history (entry_of takes.was.number x)

same_state : (one other : CallerState) → SameState one other → one ≡ other
same_state one other same = sym (λ i. record { own = same.own i; front = same.front i; time = same.time i; seen = same.seen i })

-- a promise speaks of what contracts see alone
pub called_same : (start : Contents) (call : SharedCall) (reply : SharedReply) (cost : ℕ) (old new other_old other_new : CallerState) → SameState old other_old → SameState new other_new
    → Called start call reply cost old new → Called start call reply cost other_old other_new
called_same start call reply cost old new other_old other_new olds news called =
    subst (λ s. Called start call reply cost s other_new) (same_state old other_old olds) (subst (Called start call reply cost old) (same_state new other_new news) called)
