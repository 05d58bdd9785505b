-- One more shared call keeps the law of a history and its callers.
use Rattle.std.proofs.Common.{◌≡◌, ◌≢◌, ℕ, ◌+◌, ◌<◌, ◌≤◌, Bool, true, false, cond, List, [], ◌∷◌, ◌++◌, length, Option, Some, None, slice_get, ◌⊎◌, inl, inr, refl, sym, ap, ◌∙◌, subst, arith, append-nil, length-append}
use Rattle.std.proofs.lemmas.Option.{none-some, slice_get_within}
use Rattle.std.proofs.lemmas.Bool.{cases_eq}
use Rattle.sync_model.specs.declared.item.SharedCall.TheVariants.{Begin, Next}
use Rattle.sync_model.specs.declared.item.SharedReply.TheVariants.{Shown}
use Rattle.sync_model.specs.declared.item.SharedEntry.{SharedEntry}
use Rattle.sync_model.specs.declared.item.Item.{Item}
use Rattle.sync_model.specs.Front.{AtLeast}
use Rattle.sync_model.specs.SharedHistory.{Contents, value_at, contents_after, contents_at, IsReply, is_entry, IsLegal, entries_from, entries_by, entry_of, marked_in, history_with}
use Rattle.sync_model.specs.SharedCalls.{Knows, Grows, IsStep, WasSo, MayShow, IsSound, Lawful, MayCall, AddsCall}
use Rattle.sync_model.proofs.Histories.{get_left, get_front, get_on, contents_same, contents_all, legal_joined, entries_both, marked_both, entries_own, entries_other, added, added_is}

module _ (calls new : ℕ → List Item) (grows : Grows calls new) where
  -- an item of an earlier list is one of the later
  get_more : (c j : ℕ) (x : Item) → slice_get (calls c) j ≡ Some x → slice_get (new c) j ≡ Some x
  get_more c j x e = ap (λ xs. slice_get xs j) (grows c).1 ∙ get_left (calls c) (grows c).0 j x e

  get_less : (c j : ℕ) (x : Item) → j < length (calls c) → slice_get (new c) j ≡ Some x → slice_get (calls c) j ≡ Some x
  get_less c j x below e = get_front (calls c) (grows c).0 j x below (ap (λ xs. slice_get xs j) (sym (grows c).1) ∙ e)

  longer : (c : ℕ) → length (calls c) ≤ length (new c)
  longer c = let e : length (new c) ≡ length (calls c ++ (grows c).0) = ap length (grows c).1 in omega (arith, length-append (calls c) (grows c).0)

  pub knows_more : (front : List ℕ) (n m : ℕ) → n ≤ m → Knows calls front n → Knows new front m
  knows_more front n m up knows = record {
    made = λ c. omega (arith, knows.made c, longer c);
    within = λ c j x below e. let made = knows.made c in let inside : j < length (calls c) = omega arith in let old = knows.within c j x below (get_less c j x inside e) in omega arith;
  }

  step_more : (c b j : ℕ) (x : Item) (shown : Option (ℕ × ℕ)) → IsStep (calls c) b j x shown → IsStep (new c) b j x shown
  step_more c b j x shown step = record { at = get_more c j x step.at; call = step.call; reply = step.reply }

  step_less : (c b j : ℕ) (x : Item) (shown : Option (ℕ × ℕ)) → j < length (calls c) → IsStep (new c) b j x shown → IsStep (calls c) b j x shown
  step_less c b j x shown below step = record { at = get_less c j x below step.at; call = step.call; reply = step.reply }

  module _ (start : Contents) (history added : List SharedEntry) where
    pub was_more : (front : List ℕ) (reach m key : ℕ) (value : Option ℕ) → reach ≤ length history → WasSo start history calls front reach m key value → WasSo start (history ++ added) new front reach m key value
    was_more front reach m key value up was =
        let within = was.within in
        let inside : was.moment ≤ length history = omega arith in
        record {
          moment = was.moment;
          knows = knows_more front was.moment was.moment (omega arith) was.knows;
          within = within;
          is = ap (λ contents. value_at contents m key) (contents_same start history added was.moment inside) ∙ was.is;
        }

    show_more : (c b m : ℕ) (front : List ℕ) (i reach : ℕ) (shown : Option (ℕ × ℕ)) → i ≤ length (calls c) → reach ≤ length history
        → MayShow start history calls c b m front i reach shown → MayShow start (history ++ added) new c b m front i reach shown
    show_more c b m front i reach (Some (key, value)) below up may =
        (λ j x v before step. may.0 j x v before (step_less c b j x (Some (key, v)) (omega arith) step), was_more front reach m key (Some value) up may.1)
    show_more c b m front i reach None below up may =
        λ key small unshown. was_more front reach m key None up (may key small (λ j x v before step. unshown j x v before (step_more c b j x (Some (key, v)) step)))

    pub sound_more : (c j : ℕ) (x : Item) → IsSound start history calls c j x → IsSound start (history ++ added) new c j x
    sound_more c j x sound =
        let place = sound.place in
        let same = contents_same start history added x.place place in
        record {
          place = omega (arith, length-append history added);
          reply = subst (IsReply x.call x.reply) (sym same) sound.reply;
          entry = sound.entry ∙ ap (is_entry x.call) (sym same);
          knows = knows_more x.front x.place x.place (omega arith) sound.knows;
          own = sound.own;
          begun = λ b is. let begun = sound.begun b is in (begun.0, begun.1, begun.2, get_more c b begun.0 begun.3, begun.4);
        }

-- a cursor that wasn't begun yet made no step
pub unmade : (start : Contents) (history : List SharedEntry) (calls : ℕ → List Item) → Lawful start history calls → (c b i : ℕ) (x : Item) (shown : Option (ℕ × ℕ)) → IsStep (calls c) b i x shown → b < i
unmade start history calls lawful c b i x shown step = ((lawful.sound c i x step.at).begun b step.call).2

module _ (calls new : ℕ → List Item) (c : ℕ) (x : Item) (adds : AddsCall calls c x new) where
  pub adds_grow : Grows calls new
  adds_grow d = elim (cases_eq d c) [
    | inl e ↦ (x ∷ [], subst (λ k. new k ≡ calls k ++ x ∷ []) (sym e) adds.mine)
    | inr ne ↦ ([], adds.others d ne ∙ sym (append-nil (calls d)))
  ]

  -- an item of the new lists is one of the old, or the last call
  item_in : (d j : ℕ) (y : Item) → slice_get (new d) j ≡ Some y → (slice_get (calls d) j ≡ Some y) ⊎ ((d ≡ c) × (j ≡ length (calls c)) × (y ≡ x))
  item_in d j y e = elim (cases_eq d c) [
    | inl is ↦ mine is (get_on (calls c) x y j (ap (λ xs. slice_get xs j) (sym adds.mine) ∙ subst (λ k. slice_get (new k) j ≡ Some y) is e))
    | inr ne ↦ inl (ap (λ xs. slice_get xs j) (sym (adds.others d ne)) ∙ e)
  ]
    where
      mine : d ≡ c → (slice_get (calls c) j ≡ Some y) ⊎ ((j ≡ length (calls c)) × (y ≡ x)) → (slice_get (calls d) j ≡ Some y) ⊎ ((d ≡ c) × (j ≡ length (calls c)) × (y ≡ x))
      mine is (inl h) = inl (subst (λ k. slice_get (calls k) j ≡ Some y) (sym is) h)
      mine is (inr h) = inr (is, h.0, h.1)

  -- what holds of the last call
  at_last : (P : ℕ → ℕ → Item → Type 0) → P c (length (calls c)) x → (d j : ℕ) (y : Item) → (d ≡ c) × (j ≡ length (calls c)) × (y ≡ x) → P d j y
  at_last P held d j y last = subst (λ k. P k j y) (sym last.0) (subst (λ k. P c k y) (sym last.1) (subst (P c (length (calls c))) (sym last.2) held))

  module _ (start : Contents) (history : List SharedEntry) (lawful : Lawful start history calls) (may : MayCall start history calls c x) where
    legal_on : (b : Bool) → x.entry ≡ b → IsLegal (contents_after start history) (cond b (entry_of c x ∷ []) [])
    legal_on true e =
        let last : x.place ≡ length history = may.last e in
        let all : contents_at start history x.place ≡ contents_after start history = contents_all start history x.place (omega arith) in
        (ap (is_entry x.call) (sym all) ∙ (sym may.sound.entry ∙ e), subst (IsReply x.call x.reply) all may.sound.reply, tt)
    legal_on false e = tt

    marked_last : (b : Bool) → x.entry ≡ b → (one : List (ℕ × SharedEntry)) → one ≡ (x.place, entry_of c x) ∷ [] → cond b one [] ≡ entries_from (0 + length history) c (cond b (entry_of c x ∷ []) [])
    marked_last true e one is =
        let last : x.place ≡ length history = may.last e in
        let place : x.place ≡ 0 + length history = omega arith in
        let Pairs : ℕ → List (ℕ × SharedEntry) = λ n. (n, entry_of c x) ∷ [] in
        is ∙ ap Pairs place ∙ sym (entries_own c (0 + length history) (entry_of c x) refl)
    marked_last false e one is = refl

    marked_other : (d : ℕ) → d ≢ c → (b : Bool) → entries_from (0 + length history) d (cond b (entry_of c x ∷ []) []) ≡ []
    marked_other d ne true = entries_other d (0 + length history) (entry_of c x) (λ e. ne (sym e))
    marked_other d ne false = refl

    marked_on : (d : ℕ) → marked_in d (new d) ≡ entries_by d (history ++ added c x)
    marked_on d = elim (cases_eq d c) [
      | inl e ↦ subst (λ k. marked_in k (new k) ≡ entries_by k (history ++ added c x)) (sym e)
          (ap (marked_in c) adds.mine
          ∙ marked_both c (calls c) (x ∷ [])
          ∙ ap (λ xs. xs ++ marked_in c (x ∷ [])) (lawful.marked c)
          ∙ ap (λ xs. entries_by c history ++ xs) (marked_last x.entry refl ((x.place, entry_of c x) ∷ []) refl)
          ∙ sym (entries_both c 0 history (added c x)))
      | inr ne ↦
          ap (marked_in d) (adds.others d ne)
          ∙ lawful.marked d
          ∙ sym (append-nil (entries_by d history))
          ∙ ap (λ xs. entries_by d history ++ xs) (sym (marked_other d ne x.entry))
          ∙ sym (entries_both d 0 history (added c x))
    ]

    sound_on : (d j : ℕ) (y : Item) → slice_get (new d) j ≡ Some y → IsSound start (history ++ added c x) new d j y
    sound_on d j y e = elim (item_in d j y e) [
      | inl old ↦ sound_more calls new adds_grow start history (added c x) d j y (lawful.sound d j y old)
      | inr last ↦ at_last (λ d j y. IsSound start (history ++ added c x) new d j y) (sound_more calls new adds_grow start history (added c x) c (length (calls c)) x may.sound) d j y last
    ]

    rises_on : (d i j : ℕ) (y z : Item) → i < j → slice_get (new d) i ≡ Some y → slice_get (new d) j ≡ Some z → AtLeast z.front y.front
    rises_on d i j y z below at_i at_j = by_cases (item_in d i y at_i) (item_in d j z at_j)
      where
        by_cases : (slice_get (calls d) i ≡ Some y) ⊎ ((d ≡ c) × (i ≡ length (calls c)) × (y ≡ x)) → (slice_get (calls d) j ≡ Some z) ⊎ ((d ≡ c) × (j ≡ length (calls c)) × (z ≡ x)) → AtLeast z.front y.front
        by_cases (inl old_i) (inl old_j) = lawful.rises d i j y z below old_i old_j
        by_cases (inl old_i) (inr last) = subst (λ (w : Item). AtLeast w.front y.front) (sym last.2) (may.rises i y (subst (λ k. slice_get (calls k) i ≡ Some y) last.0 old_i))
        by_cases (inr last) (inl old_j) = let within = slice_get_within (calls d) j z old_j in let same : length (calls d) ≡ length (calls c) = ap (λ k. length (calls k)) last.0 in let is = last.1 in absurd (omega arith)
        by_cases (inr last) (inr last_j) = let is_i = last.1 in let is_j = last_j.1 in absurd (omega arith)

    ranges_on : (d b m : ℕ) (y : Item) → slice_get (new d) b ≡ Some y → y.call ≡ Begin m → (i : ℕ) (z : Item) (shown : Option (ℕ × ℕ)) → IsStep (new d) b i z shown
        → MayShow start (history ++ added c x) new d b m y.front i z.place shown
    ranges_on d b m y at_b is i z shown step = by_cases (item_in d b y at_b) (item_in d i z step.at)
      where
        more : (k j reach : ℕ) → j ≤ length (calls k) → reach ≤ length history → MayShow start history calls k b m y.front j reach shown → MayShow start (history ++ added c x) new k b m y.front j reach shown
        more k j reach = show_more calls new adds_grow start history (added c x) k b m y.front j reach shown

        by_cases : (slice_get (calls d) b ≡ Some y) ⊎ ((d ≡ c) × (b ≡ length (calls c)) × (y ≡ x)) → (slice_get (calls d) i ≡ Some z) ⊎ ((d ≡ c) × (i ≡ length (calls c)) × (z ≡ x))
            → MayShow start (history ++ added c x) new d b m y.front i z.place shown
        by_cases (inl old_b) (inl old_i) =
            let within = slice_get_within (calls d) i z old_i in
            more d i z.place (omega arith) (lawful.sound d i z old_i).place (lawful.ranges d b m y old_b is i z shown (record { at = old_i; call = step.call; reply = step.reply }))
        by_cases (inl old_b) (inr last) =
            let next : x.call ≡ Next b = ap (λ (w : Item). w.call) (sym last.2) ∙ step.call in
            let reply : x.reply ≡ Shown shown = ap (λ (w : Item). w.reply) (sym last.2) ∙ step.reply in
            let P : ℕ → ℕ → Item → Type 0 = λ k j w. MayShow start (history ++ added c x) new k b m y.front j w.place shown in
            at_last P (more c (length (calls c)) x.place (omega arith) may.sound.place (may.shows b m y shown (subst (λ k. slice_get (calls k) b ≡ Some y) last.0 old_b) is next reply)) d i z last
        by_cases (inr last) (inl old_i) =
            let within = slice_get_within (calls d) i z old_i in
            let same : length (calls d) ≡ length (calls c) = ap (λ k. length (calls k)) last.0 in
            let before : b < i = ((lawful.sound d i z old_i).begun b step.call).2 in
            let at_end = last.1 in
            absurd (omega arith)
        by_cases (inr last) (inr last_i) =
            let begin : x.call ≡ Begin m = ap (λ (w : Item). w.call) (sym last.2) ∙ is in
            let next : x.call ≡ Next b = ap (λ (w : Item). w.call) (sym last_i.2) ∙ step.call in
            absurd cc

    pub lawful_more : Lawful start (history_with history c x) new
    lawful_more = subst (λ h. Lawful start h new) (sym (added_is history c x)) (record {
      legal = legal_joined start history (added c x) lawful.legal (legal_on x.entry refl);
      marked = marked_on;
      sound = sound_on;
      rises = rises_on;
      ranges = ranges_on;
    })

-- the law holds at the start
pub lawful_start : (start : Contents) → Lawful start [] (λ c. [])
lawful_start start = record {
  legal = tt;
  marked = λ c. refl;
  sound = λ c j x at. absurd (none-some x at);
  rises = λ c i j x y below at_i at_j. absurd (none-some x at_i);
  ranges = λ c b m x at is. absurd (none-some x at);
}

-- only the lists count
pub lawful_same : (start : Contents) (history : List SharedEntry) (calls other : ℕ → List Item) → ((c : ℕ) → other c ≡ calls c) → Lawful start history calls → Lawful start history other
lawful_same start history calls other same lawful = let functions : other ≡ calls = λ i c. same c i in subst (Lawful start history) (sym functions) lawful
