-- Calls at their places in a history that is played.
use Rattle.std.proofs.Common.{◌≡◌, ◌⊎◌, inl, inr, ℕ, zero, suc, ◌+◌, ◌-◌, ◌<◌, ◌≤◌, Bool, true, false, List, [], ◌∷◌, ◌++◌, length, take, drop, Some, slice_get, refl, sym, ap, ◌∙◌, subst, arith}
use Rattle.std.proofs.Math.Nat.{eq-or-lt_of_le}
use Rattle.std.proofs.Math.Dec.{leb}
use Rattle.std.proofs.lemmas.Bool.{false≢true}
use Rattle.std.proofs.lemmas.Bool.Decides.{leb_tells}
use Rattle.std.proofs.lemmas.List.{get_or_past, take_more}
use Rattle.std.proofs.lemmas.Option.{none-some, same_Some, slice_get_within, slice_get_read, get_or_from_slice_get}
use Rattle.sync_model.specs.declared.item.SharedEntry.{SharedEntry}
use Rattle.sync_model.specs.declared.item.Item.{Item}
use Rattle.sync_model.specs.SharedHistory.{Contents, is_entry, shared_after, contents_after, contents_at, entry_of}
use Rattle.sync_model.proofs.Histories.{contents_both}
use Rattle.shared_checks.specs.declared.placed.Placed.{Placed}
use Rattle.shared_checks.specs.Calls.{calls_in}
use Rattle.shared_checks.specs.Parts.{IsPlaced, ArePlaced, AreEntries}
use Rattle.shared_checks.specs.Placing.{IsOn, AreOn, Stands, IsStopped, IsCallOf, AreAllOf}
use Rattle.shared_checks.proofs.PlayLemmas.{taken, on_at}

-- the caller of a call is one of the lists
pub caller_inside : (lists : List (List Item)) (p : Placed) → IsCallOf lists p → p.caller < length lists
caller_inside lists p (x, at, place) = by (leb_tells (length lists) p.caller) where
  by : ((leb (length lists) p.caller ≡ true) × (length lists ≤ p.caller)) ⊎ ((leb (length lists) p.caller ≡ false) × (p.caller < length lists)) → p.caller < length lists
  by (inr (is, inside)) = inside
  by (inl (is, past)) = absurd (none-some x (ap (λ (xs : List Item). slice_get xs p.index) (sym (get_or_past lists p.caller [] past)) ∙ at))

-- what is contained after one entry more
pub one_entry_more : (start : Contents) (history : List SharedEntry) (n : ℕ) (entry : SharedEntry) → slice_get history n ≡ Some entry
    → contents_at start history (n + 1) ≡ shared_after entry.call (contents_at start history n)
one_entry_more start history n entry at =
    let inside = slice_get_within history n entry at in
    let more : take (n + 1) history ≡ take n history ++ entry ∷ [] = take_more history n entry inside ∙ ap (λ (e : SharedEntry). take n history ++ e ∷ []) (get_or_from_slice_get history n entry entry at) in
    ap (contents_after start) more ∙ contents_both start (take n history) (entry ∷ [])

module _ (start : Contents) (entries : List SharedEntry) (each : (k : ℕ) (entry : SharedEntry) → slice_get entries k ≡ Some entry → IsOn start entry.call)
    (n : ℕ) (entry : SharedEntry) (at : slice_get entries n ≡ Some entry) (contents : Contents) (is : contents ≡ contents_at start entries n) where
  -- there is what the next entry is on
  pub next_on : IsOn contents entry.call
  next_on = subst (λ (held : Contents). IsOn held entry.call) (sym is) (on_at start entries n entry.call each (each n entry at))

  pub stopped : (b : Bool) → b ≡ is_entry entry.call contents → b ≡ false → IsStopped start entries
  stopped b tells no_ = (n, entry, at, ap (is_entry entry.call) (sym is) ∙ sym tells ∙ no_)

  pub made : (new : Contents) → new ≡ shared_after entry.call contents → new ≡ contents_at start entries (n + 1)
  made new after = after ∙ ap (shared_after entry.call) is ∙ sym (one_entry_more start entries n entry at)

-- the history from one length to another
abbrev pub Between : List SharedEntry → ℕ → ℕ → List SharedEntry
Between history from to = take (to - from) (drop from history)

take_joined : (from k to : ℕ) (xs : List SharedEntry) → to ≡ from + k → take to xs ≡ take from xs ++ take k (drop from xs)
take_joined zero k to xs e = let same : to ≡ k = omega (arith, e) in ap (λ n. take n xs) same
take_joined (suc from) k zero xs e = absurd (omega (arith, e))
take_joined (suc from) zero (suc to) [] e = refl
take_joined (suc from) (suc k) (suc to) [] e = refl
take_joined (suc from) k (suc to) (x ∷ xs) e = ap (λ ys. x ∷ ys) (take_joined from k to xs (omega (arith, e)))

get_dropped : (n i j : ℕ) (xs : List SharedEntry) (x : SharedEntry) → j ≡ n + i → slice_get (drop n xs) i ≡ Some x → slice_get xs j ≡ Some x
get_dropped zero i j xs x e at = let same : j ≡ i = omega (arith, e) in ap (slice_get xs) same ∙ at
get_dropped (suc n) i zero xs x e at = absurd (omega (arith, e))
get_dropped (suc n) i (suc j) [] x e at = absurd (none-some x at)
get_dropped (suc n) i (suc j) (y ∷ xs) x e at = get_dropped n i j xs x (omega (arith, e)) at

take_taken : (k m : ℕ) (xs : List SharedEntry) (x : SharedEntry) → slice_get (take m xs) k ≡ Some x → take k (take m xs) ≡ take k xs
take_taken zero m xs x at = refl
take_taken (suc k) zero xs x at = absurd (none-some x at)
take_taken (suc k) (suc m) [] x at = refl
take_taken (suc k) (suc m) (y ∷ xs) x at = ap (λ ys. y ∷ ys) (take_taken k m xs x at)

module _ (start : Contents) (history : List SharedEntry) (from : ℕ) where
  get_between : (to k : ℕ) (entry : SharedEntry) → slice_get (Between history from to) k ≡ Some entry → slice_get history (from + k) ≡ Some entry
  get_between to k entry at = get_dropped from k (from + k) history entry refl (taken (to - from) (drop from history) k entry at)

  contents_on : (k to : ℕ) → to ≡ from + k → contents_at start history to ≡ contents_after (contents_at start history from) (take k (drop from history))
  contents_on k to e = ap (contents_after start) (take_joined from k to history e) ∙ contents_both start (take from history) (take k (drop from history))

  contents_between : (to : ℕ) → from ≤ to → contents_after (contents_at start history from) (Between history from to) ≡ contents_at start history to
  contents_between to order = let sum : to ≡ from + (to - from) = omega (arith, order) in sym (contents_on (to - from) to sum)

  contents_within : (to k : ℕ) (entry : SharedEntry) → slice_get (Between history from to) k ≡ Some entry → contents_at (contents_at start history from) (Between history from to) k ≡ contents_at start history (from + k)
  contents_within to k entry at = ap (contents_after (contents_at start history from)) (take_taken k (to - from) (drop from history) entry at) ∙ sym (contents_on k (from + k) refl)

module _ (start : Contents) (history : List SharedEntry) (lists : List (List Item)) (placed : List Placed) where
  -- the history is played so far, all later calls stand here or later, and the first n calls are at their places
  pub record PlayedTo (n played : ℕ) (contents : Contents) : Type 0 where
    pub contains : contents ≡ contents_at start history played
    pub inside : played ≤ length history
    pub later : (i : ℕ) (p : Placed) → n ≤ i → slice_get placed i ≡ Some p → played ≤ p.place
    pub each : (i : ℕ) (p : Placed) (x : Item) → i < n → slice_get placed i ≡ Some p → slice_get (calls_in lists p.caller) p.index ≡ Some x → IsPlaced start history x

  pub none_played : PlayedTo 0 0 start
  none_played = record { contains = refl; inside = omega arith; later = λ i p below at. omega arith; each = λ i p x below. absurd (omega (arith, below)) }

module _ (start : Contents) (history : List SharedEntry) (lists : List (List Item)) (placed : List Placed)
    (entries : AreEntries history (calls_in lists)) (all : AreAllOf lists placed) (rise : (i j : ℕ) (p q : Placed) → i ≤ j → slice_get placed i ≡ Some p → slice_get placed j ≡ Some q → p.place ≤ q.place)
    (on : AreOn start (calls_in lists)) where
  -- an entry is a call of its caller
  its_call : (n : ℕ) (entry : SharedEntry) → slice_get history n ≡ Some entry → (j : ℕ) × (x : Item) × (slice_get (calls_in lists entry.caller) j ≡ Some x) × (x.entry ≡ true) × (x.place ≡ n) × (x.call ≡ entry.call)
  its_call n entry at =
      let call = entries.called n entry at in
      let x : Item = call.1 in
      let there : slice_get history n ≡ Some (entry_of entry.caller x) = subst (λ k. slice_get history k ≡ Some (entry_of entry.caller x)) call.4 (entries.entered entry.caller call.0 x call.2 call.3) in
      (call.0, x, call.2, call.3, call.4, ap (λ (e : SharedEntry). e.call) (same_Some (entry_of entry.caller x) entry (sym there ∙ at)))

  entries_on : (n : ℕ) (entry : SharedEntry) → slice_get history n ≡ Some entry → IsOn start entry.call
  entries_on n entry at = let call = its_call n entry at in subst (IsOn start) call.5 (on entry.caller call.0 call.1 call.2)

  pub all_at_places : (n played : ℕ) (contents : Contents) → length placed ≤ n → PlayedTo start history lists placed n played contents → ArePlaced start history (calls_in lists)
  all_at_places n played contents past so_far c j x at =
      let p : Placed = record { caller = c; index = j; place = x.place } in
      let found = all.all p (x, at, refl) in
      let inside = found.1 in
      so_far.each found.0 p x (omega (arith, inside, past)) (slice_get_read placed (length placed) found.0 p refl found.1 (sym found.2)) at

  -- the next call in the order of places, and its item
  module _ (n : ℕ) (q : Placed) (there : slice_get placed n ≡ Some q) (x : Item) (at : slice_get (calls_in lists q.caller) q.index ≡ Some x)
      (played : ℕ) (contents : Contents) (so_far : PlayedTo start history lists placed n played contents) where
    place_is : q.place ≡ x.place
    place_is =
        let call = all.call q (n, slice_get_within placed n q there, get_or_from_slice_get placed n q q there) in
        call.2 ∙ ap (λ (y : Item). y.place) (same_Some call.0 x (sym call.1 ∙ at))

    pub is_past : length history < q.place → ArePlaced start history (calls_in lists) → ⊥
    is_past past are = let inside = (are q.caller q.index x at).place in let same = place_is in omega (arith, past, inside, same)

    pub goes_on : played ≤ q.place
    goes_on = so_far.later n q (omega arith) there

    pub between_on : (k : ℕ) (entry : SharedEntry) → slice_get (Between history played q.place) k ≡ Some entry → IsOn contents entry.call
    between_on k entry held = subst (λ (c : Contents). IsOn c entry.call) (sym so_far.contains)
        (on_at start history played entry.call entries_on (entries_on (played + k) entry (get_between start history played q.place k entry held)))

    pub not_played : IsStopped contents (Between history played q.place) → ArePlaced start history (calls_in lists) → ⊥
    not_played (k, entry, held, no_) are =
        let call = its_call (played + k) entry (get_between start history played q.place k entry held) in
        let is = (are entry.caller call.0 call.1 call.2).entry in
        let same : contents_at contents (Between history played q.place) k ≡ contents_at start history call.1.place =
        ap (λ (c : Contents). contents_at c (Between history played q.place) k) so_far.contains ∙ contents_within start history played q.place k entry held ∙ ap (contents_at start history) (sym call.4) in
        absurd (false≢true (sym no_ ∙ ap (is_entry entry.call) same ∙ ap (λ d. is_entry d (contents_at start history call.1.place)) (sym call.5) ∙ sym is ∙ call.3))

    module _ (new : Contents) (goes : new ≡ contents_after contents (Between history played q.place)) where
      pub contains : new ≡ contents_at start history q.place
      contains = goes ∙ ap (λ (c : Contents). contents_after c (Between history played q.place)) so_far.contains ∙ contents_between start history played q.place goes_on

      pub call_on : IsOn new x.call
      call_on = subst (λ (c : Contents). IsOn c x.call) (sym contains) (on_at start history q.place x.call entries_on (on q.caller q.index x at))

      pub placed_stands : ArePlaced start history (calls_in lists) → Stands new x
      placed_stands are =
          let is = are q.caller q.index x at in
          subst (λ (c : Contents). Stands c x) (sym (contains ∙ ap (contents_at start history) place_is)) (is.reply, is.entry)

      pub one_call_more : q.place ≤ length history → Stands new x → PlayedTo start history lists placed (n + 1) q.place new
      one_call_more inside stands = record {
        contains = contains;
        inside = inside;
        later = λ i p below at_p. rise n i q p (omega (arith, below)) there at_p;
        each = λ i p y below at_p at_y. by i p y at_p at_y (eq-or-lt_of_le {n = i} {m = n} (omega (arith, below)));
      } where
        here : IsPlaced start history x
        here =
            let both = subst (λ (c : Contents). Stands c x) (contains ∙ ap (contents_at start history) place_is) stands in
            let same = place_is in
            record { place = omega (arith, inside, same); reply = both.0; entry = both.1 }

        by : (i : ℕ) (p : Placed) (y : Item) → slice_get placed i ≡ Some p → slice_get (calls_in lists p.caller) p.index ≡ Some y → (i ≡ n) ⊎ (i < n) → IsPlaced start history y
        by i p y at_p at_y (inr before) = so_far.each i p y before at_p at_y
        by i p y at_p at_y (inl same) =
            let one : q ≡ p = same_Some q p (sym there ∙ ap (slice_get placed) (sym same) ∙ at_p) in
            subst (IsPlaced start history) (same_Some x y (sym (subst (λ (r : Placed). slice_get (calls_in lists r.caller) r.index ≡ Some x) one at) ∙ at_y)) here
