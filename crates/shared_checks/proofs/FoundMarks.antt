-- Calls that are entries, found place by place.
use Rattle.std.proofs.Common.{◌≡◌, ◌⊎◌, inl, inr, ℕ, zero, suc, ◌+◌, ◌<◌, ◌≤◌, true, false, List, [], ◌∷◌, ◌++◌, length, map, get_or, take, Some, None, slice_get, refl, sym, ap, ◌∙◌, subst, arith, length-append}
use Rattle.std.proofs.Math.Nat.{eq-or-lt_of_le}
use Rattle.std.proofs.Math.Dec.{leb}
use Rattle.std.proofs.lemmas.Bool.{false≢true}
use Rattle.std.proofs.lemmas.Bool.Decides.{leb_tells}
use Rattle.std.proofs.lemmas.List.{take-append-le, take_more}
use Rattle.std.proofs.lemmas.Option.{none-some, same_Some, slice_get_within, slice_get_cases, slice_get_read, get_or_from_slice_get}
use Rattle.sync_model.specs.declared.item.SharedCall.{SharedCall}
use Rattle.sync_model.specs.declared.item.SharedEntry.{SharedEntry}
use Rattle.sync_model.specs.declared.item.Item.{Item}
use Rattle.sync_model.specs.SharedHistory.{Contents, is_entry, shared_after, contents_at, contents_after, entry_of}
use Rattle.sync_model.proofs.Histories.{get_left, get_on, get_last}
use Rattle.shared_checks.specs.declared.placed.Placed.{Placed}
use Rattle.shared_checks.specs.Calls.{calls_in}
use Rattle.shared_checks.specs.Parts.{LawfulHistory}
use Rattle.shared_checks.specs.Placing.{AreAllOf, AreOn, IsCallOf, IsOn}
use Rattle.shared_checks.proofs.PlayLemmas.{on_at}
use Rattle.shared_checks.proofs.PlayedLemmas.{one_entry_more}
use Rattle.shared_checks.specs.Marks.{AreOwnedBy, AreSameCalls, Collides, Found, HaveNoHistory, LooksAt, unmarked}

-- the call at the same number among the same calls, but for its mark
pub twin : (xs ys : List Item) → map unmarked xs ≡ map unmarked ys → (j : ℕ) (x : Item) → slice_get xs j ≡ Some x → (y : Item) × (slice_get ys j ≡ Some y) × (unmarked x ≡ unmarked y)
twin [] ys same j x at = absurd (none-some x at)
twin (z ∷ xs) [] same j x at = absurd cc
twin (z ∷ xs) (y ∷ ys) same zero x at = let is : unmarked z ≡ unmarked y = cc in (y, refl, ap unmarked (sym (same_Some z x at)) ∙ is)
twin (z ∷ xs) (y ∷ ys) same (suc j) x at = twin xs ys (let rest : map unmarked xs ≡ map unmarked ys = cc in rest) j x at

pub same_call : (x y : Item) → unmarked x ≡ unmarked y → x.call ≡ y.call
same_call x y same = ap (λ (z : Item). z.call) same

pub same_place : (x y : Item) → unmarked x ≡ unmarked y → x.place ≡ y.place
same_place x y same = ap (λ (z : Item). z.place) same

pub same_entry : (c : ℕ) (x y : Item) → unmarked x ≡ unmarked y → entry_of c x ≡ entry_of c y
same_entry c x y same = ap (entry_of c) same

module _ (start : Contents) (lists : List (List Item)) (placed : List Placed) where
  -- of the first n calls those that these marks make entries are found, and the history so far is the beginning of theirs
  pub record Agrees (n : ℕ) (owners : List Placed) (history : List SharedEntry) (calls : ℕ → List Item) (whole : List SharedEntry) : Type 0 where
    pub begins : history ≡ take (length history) whole
    pub marked : (i : ℕ) (p : Placed) (x : Item) → i < n → slice_get placed i ≡ Some p → slice_get (calls p.caller) p.index ≡ Some x → x.entry ≡ true → slice_get owners p.place ≡ Some p
    pub owned : (k : ℕ) (p : Placed) → slice_get owners k ≡ Some p → (p.place ≡ k) × ((x : Item) × (slice_get (calls p.caller) p.index ≡ Some x) × (x.entry ≡ true) × (x.place ≡ k))

  -- the first n calls are looked at, and so many of the entries found are made
  pub record MarkedTo (n : ℕ) (owners : List Placed) (history : List SharedEntry) (made : ℕ) (contents : Contents) : Type 0 where
    pub count : length history ≡ length owners
    pub within : made ≤ length owners
    pub near : length owners ≤ made + 1
    pub contains : contents ≡ contents_at start history made
    pub next : (entry : SharedEntry) → slice_get history made ≡ Some entry → is_entry entry.call contents ≡ true
    pub on : (k : ℕ) (entry : SharedEntry) → slice_get history k ≡ Some entry → IsOn start entry.call
    pub ahead : (i : ℕ) (p : Placed) → n ≤ i → slice_get placed i ≡ Some p → made ≤ p.place
    pub lawful : (calls : ℕ → List Item) (whole : List SharedEntry) → AreSameCalls lists calls → LawfulHistory start whole calls → Agrees n owners history calls whole

  pub none_yet : MarkedTo 0 [] [] 0 start
  none_yet = record {
    count = refl;
    within = omega arith;
    near = omega arith;
    contains = refl;
    next = λ entry at. absurd (none-some entry at);
    on = λ k entry at. absurd (none-some entry at);
    ahead = λ i p behind at. omega arith;
    lawful = λ calls whole same law. record { begins = refl; marked = λ i p x below. absurd (omega (arith, below)); owned = λ k p at. absurd (none-some p at) };
  }

  module _ (are : AreAllOf lists placed) where
    stands : (p : Placed) → IsCallOf lists p → (i : ℕ) × (slice_get placed i ≡ Some p)
    stands p is = let found = are.all p is in (found.0, slice_get_read placed (length placed) found.0 p refl found.1 (sym found.2))

    -- a call with other marks stands there too
    stands_so : (calls : ℕ → List Item) → AreSameCalls lists calls → (c j : ℕ) (x : Item) → slice_get (calls c) j ≡ Some x → (i : ℕ) × (slice_get placed i ≡ Some (record { caller = c; index = j; place = x.place }))
    stands_so calls same c j x at =
        let (y, there, is) = twin (calls c) (calls_in lists c) (same c) j x at in
        stands (record { caller = c; index = j; place = x.place }) (y, there, same_place x y is)

    pub all_owned : (n : ℕ) (owners : List Placed) (history : List SharedEntry) (made : ℕ) (contents : Contents) → length placed ≤ n → MarkedTo n owners history made contents
        → (calls : ℕ → List Item) (whole : List SharedEntry) → AreSameCalls lists calls → LawfulHistory start whole calls → AreOwnedBy owners calls
    all_owned n owners history made contents all so_far calls whole same law = record { marked = marked; owned = agrees.owned } where
      agrees : Agrees n owners history calls whole
      agrees = so_far.lawful calls whole same law

      marked : (c j : ℕ) (x : Item) → slice_get (calls c) j ≡ Some x → x.entry ≡ true → slice_get owners x.place ≡ Some (record { caller = c; index = j; place = x.place })
      marked c j x at entry =
          let (i, there) = stands_so calls same c j x at in
          let inside = slice_get_within placed i (record { caller = c; index = j; place = x.place }) there in
          agrees.marked i (record { caller = c; index = j; place = x.place }) x (omega (arith, inside, all)) there at entry

    module _ (rise : (i j : ℕ) (p q : Placed) → i ≤ j → slice_get placed i ≡ Some p → slice_get placed j ≡ Some q → p.place ≤ q.place)
        (n : ℕ) (q : Placed) (at : slice_get placed n ≡ Some q) (owners : List Placed) (history : List SharedEntry) (made : ℕ) (contents : Contents) (so_far : MarkedTo n owners history made contents) where
      -- the call is one of the lists
      pub is_call : IsCallOf lists q
      is_call = are.call q (n, slice_get_within placed n q at, get_or_from_slice_get placed n q _ at)

      module _ (calls : ℕ → List Item) (whole : List SharedEntry) (same : AreSameCalls lists calls) (law : LawfulHistory start whole calls) where
        agrees_here : Agrees n owners history calls whole
        agrees_here = so_far.lawful calls whole same law

        -- the call with these marks
        pub here : (x : Item) × (slice_get (calls q.caller) q.index ≡ Some x) × (unmarked x ≡ unmarked is_call.0)
        here = let (x, there, is) = twin (calls_in lists q.caller) (calls q.caller) (sym (same q.caller)) q.index is_call.0 is_call.1 in (x, there, sym is)

        place_here : here.0.place ≡ q.place
        place_here = same_place here.0 is_call.0 here.2 ∙ sym is_call.2

        -- a place is left open
        pub not_open : length owners < q.place → ⊥
        not_open past = by (slice_get_cases whole (length owners)).1 where
          inside : q.place ≤ length whole
          inside = subst (λ k. k ≤ length whole) place_here (law.placed q.caller q.index here.0 here.1).place

          by : ((e : SharedEntry) × (length owners < length whole) × (slice_get whole (length owners) ≡ Some e) × (get_or whole (length owners) e ≡ e)) ⊎ ((length whole ≤ length owners) × (slice_get whole (length owners) ≡ None)) → ⊥
          by (inr (short, none)) = omega (arith, short, past, inside)
          by (inl (e, within, there, read)) =
              let (j, x, of, entry, place) = law.entries.called (length owners) e there in
              let (i, stood) = stands_so calls same e.caller j x of in
              by_order j x of entry place i stood (leb_tells n i)
            where
              by_order : (j : ℕ) (x : Item) → slice_get (calls e.caller) j ≡ Some x → x.entry ≡ true → x.place ≡ length owners → (i : ℕ) → slice_get placed i ≡ Some (record { caller = e.caller; index = j; place = x.place })
                  → ((leb n i ≡ true) × (n ≤ i)) ⊎ ((leb n i ≡ false) × (i < n)) → ⊥
              by_order j x of entry place i stood (inl (test, late)) = let less = rise n i q (record { caller = e.caller; index = j; place = x.place }) late at stood in omega (arith, less, place, past)
              by_order j x of entry place i stood (inr (test, before)) =
                  let found = slice_get_within owners x.place (record { caller = e.caller; index = j; place = x.place }) (agrees_here.marked i (record { caller = e.caller; index = j; place = x.place }) x before stood of entry) in
                  omega (arith, found, place)

      pub none_open : length owners < q.place → HaveNoHistory start lists
      none_open past calls whole same law = not_open calls whole same law past

      module _ (reached : q.place ≤ length owners) where
        pub there_is : q.place ≤ length history
        there_is = let count = so_far.count in omega (arith, count, reached)

        pub forward : made ≤ q.place
        forward = so_far.ahead n q (omega arith) at

        pub one_more : q.place ≤ made + 1
        one_more = let near = so_far.near in omega (arith, near, reached)

        pub next_on : AreOn start (calls_in lists) → (entry : SharedEntry) → slice_get history made ≡ Some entry → IsOn contents entry.call
        next_on on entry stood = subst (λ (held : Contents). IsOn held entry.call) (sym so_far.contains) (on_at start history made entry.call so_far.on (so_far.on made entry stood))

        -- the entries before the call's place are made
        pub contains_there : (new : Contents) → (made ≡ q.place → new ≡ contents) → ((entry : SharedEntry) → made < q.place → slice_get history made ≡ Some entry → new ≡ shared_after entry.call contents) → new ≡ contents_at start history q.place
        contains_there new unchanged more = by (eq-or-lt_of_le {n = made} {m = q.place} forward) where
          by : (made ≡ q.place) ⊎ (made < q.place) → new ≡ contents_at start history q.place
          by (inl same) = unchanged same ∙ so_far.contains ∙ ap (contents_at start history) same
          by (inr less) = by_entry (slice_get_cases history made).1 where
            by_entry : ((e : SharedEntry) × (made < length history) × (slice_get history made ≡ Some e) × (get_or history made e ≡ e)) ⊎ ((length history ≤ made) × (slice_get history made ≡ None)) → new ≡ contents_at start history q.place
            by_entry (inr (short, none)) = let long = there_is in absurd (omega (arith, short, less, long))
            by_entry (inl (e, within, stood, read)) =
                let last = one_more in
                let place : made + 1 ≡ q.place = omega (arith, less, last) in
                more e less stood ∙ ap (shared_after e.call) so_far.contains ∙ sym (one_entry_more start history made e stood) ∙ ap (contents_at start history) place

        module _ (held : Contents) (contains : held ≡ contents_at start history q.place) where
          pub call_on : AreOn start (calls_in lists) → (x : Item) → slice_get (calls_in lists q.caller) q.index ≡ Some x → IsOn held x.call
          call_on on x stood = subst (λ (c : Contents). IsOn c x.call) (sym contains) (on_at start history q.place x.call so_far.on (on q.caller q.index x stood))

          -- whether the call is an entry with these marks
          entry_here : (calls : ℕ → List Item) (whole : List SharedEntry) (same : AreSameCalls lists calls) (law : LawfulHistory start whole calls) (y : Item) → slice_get (calls_in lists q.caller) q.index ≡ Some y
              → (x : Item) × (slice_get (calls q.caller) q.index ≡ Some x) × (unmarked x ≡ unmarked y) × (x.place ≡ q.place) × (x.entry ≡ is_entry y.call held)
          entry_here calls whole same law y stood =
              let (x, there, is) = here calls whole same law in
              let agrees = agrees_here calls whole same law in
              let one : is_call.0 ≡ y = same_Some is_call.0 y (sym is_call.1 ∙ stood) in
              let alike : unmarked x ≡ unmarked y = is ∙ ap unmarked one in
              let place : x.place ≡ q.place = same_place x is_call.0 is ∙ sym is_call.2 in
              let taken : take q.place history ≡ take q.place whole = taken_alike history whole q.place there_is agrees.begins in
              let contents_here : contents_at start whole x.place ≡ held = ap (contents_at start whole) place ∙ ap (contents_after start) (sym taken) ∙ sym contains in
              (x, there, alike, place, (law.placed q.caller q.index x there).entry ∙ ap (is_entry x.call) contents_here ∙ ap (λ (d : SharedCall). is_entry d held) (same_call x y alike))
            where
              taken_alike : (xs ys : List SharedEntry) (k : ℕ) → k ≤ length xs → xs ≡ take (length xs) ys → take k xs ≡ take k ys
              taken_alike [] ys zero few begins = refl
              taken_alike [] ys (suc k) few begins = absurd (omega (arith, few))
              taken_alike (x ∷ xs) ys zero few begins = refl
              taken_alike (x ∷ xs) [] (suc k) few begins = absurd cc
              taken_alike (x ∷ xs) (y ∷ ys) (suc k) few begins =
                  let first : x ≡ y = cc in
                  let rest : xs ≡ take (length xs) ys = cc in
                  ap (λ z. z ∷ take k xs) first ∙ ap (λ zs. y ∷ zs) (taken_alike xs ys k (omega (arith, few)) rest)

          -- two calls are entries at one place
          pub none_collide : Collides held lists q owners → HaveNoHistory start lists
          none_collide collides calls whole same law = by (slice_get_cases owners q.place).1 where
            agrees : Agrees n owners history calls whole
            agrees = agrees_here calls whole same law

            one : (x : Item) × (slice_get (calls q.caller) q.index ≡ Some x) × (unmarked x ≡ unmarked collides.x) × (x.place ≡ q.place) × (x.entry ≡ is_entry collides.x.call held)
            one = entry_here calls whole same law collides.x collides.at

            entered : slice_get whole q.place ≡ Some (entry_of q.caller one.0)
            entered = subst (λ k. slice_get whole k ≡ Some (entry_of q.caller one.0)) one.3 (law.entries.entered q.caller q.index one.0 one.1 (one.4 ∙ collides.entry))

            by : ((p : Placed) × (q.place < length owners) × (slice_get owners q.place ≡ Some p) × (get_or owners q.place p ≡ p)) ⊎ ((length owners ≤ q.place) × (slice_get owners q.place ≡ None)) → ⊥
            by (inr (past, none)) = collides.not_last (omega (arith, past, reached))
            by (inl (p, below, stood, read)) =
                let (place, (x, there, entry, at_place)) = agrees.owned q.place p stood in
                let other : slice_get whole q.place ≡ Some (entry_of p.caller x) = subst (λ k. slice_get whole k ≡ Some (entry_of p.caller x)) at_place (law.entries.entered p.caller p.index x there entry) in
                let caller : p.caller ≡ q.caller = ap (λ (e : SharedEntry). e.caller) (same_Some (entry_of p.caller x) (entry_of q.caller one.0) (sym other ∙ entered)) in
                let theirs : slice_get (calls q.caller) p.index ≡ Some x = subst (λ c. slice_get (calls c) p.index ≡ Some x) caller there in
                let index : p.index ≡ q.index = law.entries.once q.caller p.index q.index x one.0 theirs one.1 entry (one.4 ∙ collides.entry) (at_place ∙ sym one.3) in
                let Caller : ℕ → Placed = λ c. record { caller = c; index = p.index; place = p.place } in
                let Index : ℕ → Placed = λ k. record { caller = q.caller; index = k; place = p.place } in
                let Place : ℕ → Placed = λ k. record { caller = q.caller; index = q.index; place = k } in
                collides.not_there (stood ∙ ap Some (ap Caller caller ∙ ap Index index ∙ ap Place place))

          -- where the call isn't the next entry, nothing is found
          passed : (((y : Item) × (slice_get (calls_in lists q.caller) q.index ≡ Some y) × (is_entry y.call held ≡ false)) ⊎ (slice_get owners q.place ≡ Some q)) → MarkedTo (n + 1) owners history q.place held
          passed why = record {
            count = so_far.count;
            within = reached;
            near = let near = so_far.near in let forward = forward in omega (arith, near, forward);
            contains = contains;
            next = next;
            on = so_far.on;
            ahead = λ i p behind stood. rise n i q p (omega (arith, behind)) at stood;
            lawful = λ calls whole same law.
                let agrees = agrees_here calls whole same law in record {
                  begins = agrees.begins;
                  marked = λ i p x below stood there entry. marked calls whole same law why i p x stood there entry (eq-or-lt_of_le {n = i} {m = n} (omega (arith, below)));
                  owned = agrees.owned;
                };
          } where
            next : (entry : SharedEntry) → slice_get history q.place ≡ Some entry → is_entry entry.call held ≡ true
            next entry stood =
                let inside = slice_get_within history q.place entry stood in
                let count = so_far.count in
                let near = so_far.near in
                let forward = forward in
                let same : q.place ≡ made = omega (arith, inside, count, near, forward) in
                ap (is_entry entry.call) (contains ∙ ap (contents_at start history) same ∙ sym so_far.contains) ∙ so_far.next entry (ap (slice_get history) (sym same) ∙ stood)

            marked : (calls : ℕ → List Item) (whole : List SharedEntry) (same : AreSameCalls lists calls) (law : LawfulHistory start whole calls)
                → (((y : Item) × (slice_get (calls_in lists q.caller) q.index ≡ Some y) × (is_entry y.call held ≡ false)) ⊎ (slice_get owners q.place ≡ Some q))
                → (i : ℕ) (p : Placed) (x : Item) → slice_get placed i ≡ Some p → slice_get (calls p.caller) p.index ≡ Some x → x.entry ≡ true → (i ≡ n) ⊎ (i < n) → slice_get owners p.place ≡ Some p
            marked calls whole same law why i p x stood there entry (inr before) = (agrees_here calls whole same law).marked i p x before stood there entry
            marked calls whole same law why i p x stood there entry (inl is) = by why (same_Some q p (sym at ∙ ap (slice_get placed) (sym is) ∙ stood)) where
              by : (((y : Item) × (slice_get (calls_in lists q.caller) q.index ≡ Some y) × (is_entry y.call held ≡ false)) ⊎ (slice_get owners q.place ≡ Some q)) → q ≡ p → slice_get owners p.place ≡ Some p
              by (inr found) one = subst (λ (r : Placed). slice_get owners r.place ≡ Some r) one found
              by (inl (y, of, none)) one =
                  let (z, of_q, alike, place, marks) = entry_here calls whole same law y of in
                  let mine : slice_get (calls q.caller) q.index ≡ Some x = subst (λ (r : Placed). slice_get (calls r.caller) r.index ≡ Some x) (sym one) there in
                  let z_is : z ≡ x = same_Some z x (sym of_q ∙ mine) in
                  absurd (false≢true (sym none ∙ sym marks ∙ ap (λ (w : Item). w.entry) z_is ∙ entry))

          -- where it is, it is found
          taken : (y : Item) → slice_get (calls_in lists q.caller) q.index ≡ Some y → is_entry y.call held ≡ true → q.place ≡ length owners → AreOn start (calls_in lists) → MarkedTo (n + 1) (owners ++ q ∷ []) (history ++ entry_of q.caller y ∷ []) q.place held
          taken y of entry last on = record {
            count = let count = so_far.count in let one = length-append history (entry_of q.caller y ∷ []) in let other = length-append owners (q ∷ []) in omega (arith, count, one, other);
            within = let other = length-append owners (q ∷ []) in omega (arith, reached, other);
            near = let other = length-append owners (q ∷ []) in omega (arith, last, other);
            contains = contains ∙ ap (contents_after start) (sym (take-append-le q.place history (entry_of q.caller y ∷ []) there_is));
            next = λ e stood. next e (get_on history (entry_of q.caller y) e q.place stood);
            on = λ k e stood. by_on k e (get_on history (entry_of q.caller y) e k stood);
            ahead = λ i p behind stood. rise n i q p (omega (arith, behind)) at stood;
            lawful = λ calls whole same law. record {
              begins = begins calls whole same law;
              marked = λ i p x below stood there is. marked calls whole same law i p x stood there is (eq-or-lt_of_le {n = i} {m = n} (omega (arith, below)));
              owned = λ k p stood. owned calls whole same law k p (get_on owners q p k stood);
            };
          } where
            place_is : q.place ≡ length history
            place_is = last ∙ sym so_far.count

            next : (e : SharedEntry) → (slice_get history q.place ≡ Some e) ⊎ ((q.place ≡ length history) × (e ≡ entry_of q.caller y)) → is_entry e.call held ≡ true
            next e (inl stood) = let inside = slice_get_within history q.place e stood in let place_is = place_is in absurd (omega (arith, inside, place_is))
            next e (inr (place, is)) = ap (λ (f : SharedEntry). is_entry f.call held) is ∙ entry

            by_on : (k : ℕ) (e : SharedEntry) → (slice_get history k ≡ Some e) ⊎ ((k ≡ length history) × (e ≡ entry_of q.caller y)) → IsOn start e.call
            by_on k e (inl stood) = so_far.on k e stood
            by_on k e (inr (place, is)) = subst (λ (f : SharedEntry). IsOn start f.call) (sym is) (on q.caller q.index y of)

            begins : (calls : ℕ → List Item) (whole : List SharedEntry) (same : AreSameCalls lists calls) (law : LawfulHistory start whole calls) → history ++ entry_of q.caller y ∷ [] ≡ take (length (history ++ entry_of q.caller y ∷ [])) whole
            begins calls whole same law =
                let (x, there, alike, place, marks) = entry_here calls whole same law y of in
                let agrees = agrees_here calls whole same law in
                let stood : slice_get whole (length history) ≡ Some (entry_of q.caller y) =
                ap (slice_get whole) (sym (place ∙ place_is)) ∙ law.entries.entered q.caller q.index x there (marks ∙ entry) ∙ ap Some (same_entry q.caller x y alike) in
                let inside = slice_get_within whole (length history) (entry_of q.caller y) stood in
                let more = take_more whole (length history) (entry_of q.caller y) inside in
                let long : length history + 1 ≡ length (history ++ entry_of q.caller y ∷ []) = sym (length-append history (entry_of q.caller y ∷ [])) in
                ap (λ (xs : List SharedEntry). xs ++ entry_of q.caller y ∷ []) agrees.begins
                ∙ ap (λ (e : SharedEntry). take (length history) whole ++ e ∷ []) (sym (get_or_from_slice_get whole (length history) (entry_of q.caller y) (entry_of q.caller y) stood))
                ∙ sym more ∙ ap (λ k. take k whole) long

            marked : (calls : ℕ → List Item) (whole : List SharedEntry) (same : AreSameCalls lists calls) (law : LawfulHistory start whole calls) (i : ℕ) (p : Placed) (x : Item)
                → slice_get placed i ≡ Some p → slice_get (calls p.caller) p.index ≡ Some x → x.entry ≡ true → (i ≡ n) ⊎ (i < n) → slice_get (owners ++ q ∷ []) p.place ≡ Some p
            marked calls whole same law i p x stood there is (inr before) = get_left owners (q ∷ []) p.place p ((agrees_here calls whole same law).marked i p x before stood there is)
            marked calls whole same law i p x stood there is (inl e) = subst (λ (r : Placed). slice_get (owners ++ q ∷ []) r.place ≡ Some r) (same_Some q p (sym at ∙ ap (slice_get placed) (sym e) ∙ stood))
                (subst (λ k. slice_get (owners ++ q ∷ []) k ≡ Some q) (sym last) (get_last owners q))

            owned : (calls : ℕ → List Item) (whole : List SharedEntry) (same : AreSameCalls lists calls) (law : LawfulHistory start whole calls) (k : ℕ) (p : Placed)
                → (slice_get owners k ≡ Some p) ⊎ ((k ≡ length owners) × (p ≡ q)) → (p.place ≡ k) × ((x : Item) × (slice_get (calls p.caller) p.index ≡ Some x) × (x.entry ≡ true) × (x.place ≡ k))
            owned calls whole same law k p (inl stood) = (agrees_here calls whole same law).owned k p stood
            owned calls whole same law k p (inr (number, is)) =
                let (x, there, alike, place, marks) = entry_here calls whole same law y of in
                let at_k : q.place ≡ k = last ∙ sym number in
                (ap (λ (r : Placed). r.place) is ∙ at_k, (x, subst (λ (r : Placed). slice_get (calls r.caller) r.index ≡ Some x) (sym is) there, marks ∙ entry, place ∙ at_k))

          pub looked : (new_owners : List Placed) (new_history : List SharedEntry) → AreOn start (calls_in lists)
              → LooksAt held lists q (record { owners = owners; history = history }) (record { owners = new_owners; history = new_history }) → MarkedTo (n + 1) new_owners new_history q.place held
          looked new_owners new_history on (y, of, inr (none, same)) = by_same (ap (λ (f : Found). f.owners) same) (ap (λ (f : Found). f.history) same) where
            by_same : new_owners ≡ owners → new_history ≡ history → MarkedTo (n + 1) new_owners new_history q.place held
            by_same one other = subst (λ (os : List Placed). MarkedTo (n + 1) os new_history q.place held) (sym one) (subst (λ (h : List SharedEntry). MarkedTo (n + 1) owners h q.place held) (sym other) (passed (inl (y, of, none))))
          looked new_owners new_history on (y, of, inl (is, inr (there, same))) = by_same (ap (λ (f : Found). f.owners) same) (ap (λ (f : Found). f.history) same) where
            by_same : new_owners ≡ owners → new_history ≡ history → MarkedTo (n + 1) new_owners new_history q.place held
            by_same one other = subst (λ (os : List Placed). MarkedTo (n + 1) os new_history q.place held) (sym one) (subst (λ (h : List SharedEntry). MarkedTo (n + 1) owners h q.place held) (sym other) (passed (inr there)))
          looked new_owners new_history on (y, of, inl (is, inl (last, one, other))) =
              subst (λ (os : List Placed). MarkedTo (n + 1) os new_history q.place held) (sym one) (subst (λ (h : List SharedEntry). MarkedTo (n + 1) (owners ++ q ∷ []) h q.place held) (sym other) (taken y of is last on))
