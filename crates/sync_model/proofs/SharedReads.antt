-- What a load finds in a history.
use Rattle.std.proofs.Common.{◌≡◌, ℕ, ◌<◌, ◌≤◌, Bool, true, false, ◌&&◌, ◌==◌, List, [], ◌∷◌, ◌++◌, length, map, replicate, get_or, set, Option, Some, None, slice_get, inl, inr, refl, sym, ap, ◌∙◌, subst, arith, append_assoc}
use Rattle.std.specs.Ordering.{nat_cmp}
use Rattle.std.specs.Option.{option_map, option_map_or}
use Rattle.std.specs.FinMap.{FinMap, empty, get, insert, get-empty, nat_cmp-IsAntisymmetric}
use Rattle.std.proofs.lemmas.Cmp.{nat_cmp_total}
use Rattle.std.proofs.lemmas.Bool.{eqb-true, eqb-false, cases_lt}
use Rattle.std.proofs.lemmas.List.{get_or-set_same, get_or-set_other, get_or_past, get_or-replicate, length-set, length-replicate}
use Rattle.std.proofs.lemmas.Option.{slice_get-map, get_or_from_slice_get}
use Rattle.std.proofs.lemmas.List.Elements.{All-head, All-tail}
use Rattle.std.proofs.Math.Seq.{take-append_seam}
use Rattle.sync_types.specs.declared.atomic_object.AtomicKind.{AtomicKind}
use Rattle.sync_types.specs.declared.atomic_object.Number.{Number}
use Rattle.sync_types.specs.declared.atomic_object.Number.TheVariants.{Bool as Truth}
use Rattle.sync_types.specs.declared.map_object.MapCall.{MapCall}
use Rattle.sync_model.specs.declared.item.SharedCall.{SharedCall}
use Rattle.sync_model.specs.declared.item.SharedCall.TheVariants.{Map, Begin, Next, Atomic}
use Rattle.sync_model.specs.declared.item.SharedReply.TheVariants as replies
use Rattle.sync_model.specs.declared.item.SharedEntry.{SharedEntry}
use Rattle.sync_model.specs.declared.item.Item.{Item}
use Rattle.sync_types.specs.declared.map_object.MapCall.TheVariants as maps
use Rattle.sync_types.specs.declared.map_object.MapReply.TheVariants.{Found}
use Rattle.sync_types.specs.declared.atomic_object.AtomicCall.TheVariants as atomics
use Rattle.sync_types.specs.declared.atomic_object.AtomicReply.TheVariants.{Held}
use Rattle.sync_types.specs.MapLaws.{IsKeyOrder}
use Rattle.sync_types.specs.SequentialMap.{map_key, map_after}
use Rattle.sync_types.specs.SequentialAtomic.{zero_of, atomic_after}
use Rattle.sync_model.specs.SharedHistory.{Contents, first_contents, map_at, number_at, value_at, shared_after, contents_after, contents_at, IsReply}
use Rattle.sync_model.specs.SharedCalls.{Lawful}
use Rattle.sync_model.specs.SharedLaws.{is_on_key, is_on_atomic, LeaveKey, LeaveAtomic}
use Rattle.sync_types.proofs.MapLemmas.{get_inserted, get_apart}
use Rattle.sync_model.proofs.Histories.{maps_long, numbers_long, contents_both}

pub ordered : IsKeyOrder nat_cmp
ordered = (nat_cmp_total, nat_cmp-IsAntisymmetric)

-- a call on another key leaves this one
other_key : (call : MapCall ℕ) (found : Option ℕ) (key : ℕ) (m : FinMap nat_cmp ℕ) → map_key call ≡ found → option_map_or (λ k. k == key) found true ≡ false → get (map_after call m) key ≡ get m key
other_key call None key m is e = absurd cc
other_key call (Some k) key m is e = get_apart ordered m call k key is (λ same. eqb-false k key e (sym same))

module _ {A : Type 0} where
  -- a write at one place leaves the others, and a place that isn't there
  set_past : (xs : List A) (i : ℕ) (y d : A) → length xs ≤ i → get_or (set xs i y) i d ≡ get_or xs i d
  set_past xs i y d past = get_or_past (set xs i y) i d (let same = length-set xs i y in omega arith) ∙ sym (get_or_past xs i d past)

pub key_left : (m key : ℕ) (call : SharedCall) (contents : Contents) → is_on_key m key call ≡ false → value_at (shared_after call contents) m key ≡ value_at contents m key
key_left m key (Map n call) contents e = by_map (n == m) refl e
  where
    by_map : (b : Bool) → (n == m) ≡ b → (b && option_map_or (λ k. k == key) (map_key call) true) ≡ false → value_at (shared_after (Map n call) contents) m key ≡ value_at contents m key
    by_map false other e = ap (λ held. get held key) (get_or-set_other contents.maps n m (map_after call (map_at contents n)) empty (λ same. eqb-false n m other (sym same)))
    by_map true same e =
        subst (λ k. value_at (shared_after (Map k call) contents) m key ≡ value_at contents m key) (sym (eqb-true n m same))
        (elim (cases_lt m (length contents.maps)) [
          | inl there ↦ ap (λ held. get held key) (get_or-set_same contents.maps m (map_after call (map_at contents m)) empty there) ∙ other_key call (map_key call) key (map_at contents m) refl e
          | inr past ↦ ap (λ held. get held key) (set_past contents.maps m (map_after call (map_at contents m)) empty past)
        ])
key_left m key (Begin n) contents e = refl
key_left m key (Next begin) contents e = refl
key_left m key (Atomic a call) contents e = refl

pub key_stays : (m key : ℕ) (contents : Contents) (entries : List SharedEntry) → LeaveKey m key entries → value_at (contents_after contents entries) m key ≡ value_at contents m key
key_stays m key contents [] leave = refl
key_stays m key contents (entry ∷ later) leave =
    let P : SharedEntry → Type 0 = λ x. is_on_key m key x.call ≡ false in
    key_stays m key (shared_after entry.call contents) later (All-tail P entry later leave) ∙ key_left m key entry.call contents (All-head P entry later leave)

pub atomic_left : (a : ℕ) (call : SharedCall) (contents : Contents) → is_on_atomic a call ≡ false → number_at (shared_after call contents) a ≡ number_at contents a
atomic_left a (Map n call) contents e = refl
atomic_left a (Begin n) contents e = refl
atomic_left a (Next begin) contents e = refl
atomic_left a (Atomic b call) contents e = get_or-set_other contents.numbers b a (atomic_after call (number_at contents b)) (Truth false) (λ same. eqb-false b a e (sym same))

pub atomic_stays : (a : ℕ) (contents : Contents) (entries : List SharedEntry) → LeaveAtomic a entries → number_at (contents_after contents entries) a ≡ number_at contents a
atomic_stays a contents [] leave = refl
atomic_stays a contents (entry ∷ later) leave =
    let P : SharedEntry → Type 0 = λ x. is_on_atomic a x.call ≡ false in
    atomic_stays a (shared_after entry.call contents) later (All-tail P entry later leave) ∙ atomic_left a entry.call contents (All-head P entry later leave)

-- the contents after an entry and some that leave it
pub behind : (start : Contents) (earlier between : List SharedEntry) (entry : SharedEntry) → contents_after start (earlier ++ entry ∷ between) ≡ contents_after (shared_after entry.call (contents_after start earlier)) between
behind start earlier between entry = contents_both start earlier (entry ∷ between)

module _ (start : Contents) (earlier between later : List SharedEntry) (store : SharedEntry) where
  whole : (history : List SharedEntry) → history ≡ earlier ++ store ∷ (between ++ later) → (n : ℕ) → n ≡ length (earlier ++ store ∷ between) → contents_at start history n ≡ contents_after (shared_after store.call (contents_after start earlier)) between
  whole history is n at =
      let split : history ≡ (earlier ++ store ∷ between) ++ later = is ∙ sym (append_assoc earlier (store ∷ between) later) in
      ap (λ k. contents_at start history k) at
      ∙ ap (λ h. contents_at start h (length (earlier ++ store ∷ between))) split
      ∙ ap (contents_after start) (take-append_seam (earlier ++ store ∷ between) later)
      ∙ behind start earlier between store

  pub stored_value : (m key value : ℕ) → m < length start.maps → store.call ≡ Map m (maps.Store key value) → LeaveKey m key between
      → value_at (contents_after (shared_after store.call (contents_after start earlier)) between) m key ≡ Some value
  stored_value m key value there is leave =
      let contents = contents_after start earlier in
      let long = maps_long start earlier in
      let inside : m < length contents.maps = omega arith in
      key_stays m key (shared_after store.call contents) between leave
      ∙ ap (λ call. value_at (shared_after call contents) m key) is
      ∙ ap (λ held. get held key) (get_or-set_same contents.maps m (insert (map_at contents m) key value) empty inside)
      ∙ get_inserted ordered (map_at contents m) key value

  pub stored_number : (a : ℕ) (value : Number) → a < length start.numbers → store.call ≡ Atomic a (atomics.Store value) → LeaveAtomic a between
      → number_at (contents_after (shared_after store.call (contents_after start earlier)) between) a ≡ value
  stored_number a value there is leave =
      let contents = contents_after start earlier in
      let long = numbers_long start earlier in
      let inside : a < length contents.numbers = omega arith in
      atomic_stays a (shared_after store.call contents) between leave
      ∙ ap (λ call. number_at (shared_after call contents) a) is
      ∙ get_or-set_same contents.numbers a value (Truth false) inside

  module _ (history : List SharedEntry) (calls : ℕ → List Item) (lawful : Lawful start history calls) (is : history ≡ earlier ++ store ∷ (between ++ later)) (c j : ℕ) (x : Item) (at : slice_get (calls c) j ≡ Some x)
      (placed : x.place ≡ length (earlier ++ store ∷ between)) where
    pub loads_value : (m key value : ℕ) → m < length start.maps → store.call ≡ Map m (maps.Store key value) → LeaveKey m key between → x.call ≡ Map m (maps.Load key) → x.reply ≡ replies.Map (Found (Some value))
    loads_value m key value there stores leave loads =
        let reply : IsReply (Map m (maps.Load key)) x.reply (contents_at start history x.place) = subst (λ call. IsReply call x.reply (contents_at start history x.place)) loads (lawful.sound c j x at).reply in
        reply ∙ ap (λ contents. replies.Map (Found (value_at contents m key))) (whole history is x.place placed) ∙ ap (λ found. replies.Map (Found found)) (stored_value m key value there stores leave)

    pub loads_number : (a : ℕ) (value : Number) → a < length start.numbers → store.call ≡ Atomic a (atomics.Store value) → LeaveAtomic a between → x.call ≡ Atomic a atomics.Load → x.reply ≡ replies.Atomic (Held value)
    loads_number a value there stores leave loads =
        let reply : IsReply (Atomic a atomics.Load) x.reply (contents_at start history x.place) = subst (λ call. IsReply call x.reply (contents_at start history x.place)) loads (lawful.sound c j x at).reply in
        reply ∙ ap (λ contents. replies.Atomic (Held (number_at contents a))) (whole history is x.place placed) ∙ ap (λ number. replies.Atomic (Held number)) (stored_number a value there stores leave)

-- at the start no key has a value, and each atomic is its type's zero
pub no_value_first : (many : ℕ) (kinds : List AtomicKind) (m key : ℕ) → value_at (first_contents many kinds) m key ≡ None
no_value_first many kinds m key = elim (cases_lt m many) [
  | inl there ↦ ap (λ held. get held key) (get_or-replicate many m empty empty there) ∙ get-empty nat_cmp key
  | inr past ↦ ap (λ held. get held key) (get_or_past (replicate many empty) m empty (let long = length-replicate many (empty {X = ℕ} {R = nat_cmp}) in omega arith)) ∙ get-empty nat_cmp key
]

pub zero_first : (many : ℕ) (kinds : List AtomicKind) (a : ℕ) (kind : AtomicKind) → slice_get kinds a ≡ Some kind → number_at (first_contents many kinds) a ≡ zero_of kind
zero_first many kinds a kind at = get_or_from_slice_get (map zero_of kinds) a (zero_of kind) (Truth false) (slice_get-map zero_of kinds a ∙ ap (option_map zero_of) at)

module _ (many : ℕ) (kinds : List AtomicKind) (earlier later : List SharedEntry) (calls : ℕ → List Item) (lawful : Lawful (first_contents many kinds) (earlier ++ later) calls) (c j : ℕ) (x : Item) (at : slice_get (calls c) j ≡ Some x)
    (placed : x.place ≡ length earlier) where
  at_front : contents_at (first_contents many kinds) (earlier ++ later) x.place ≡ contents_after (first_contents many kinds) earlier
  at_front = ap (λ k. contents_at (first_contents many kinds) (earlier ++ later) k) placed ∙ ap (contents_after (first_contents many kinds)) (take-append_seam earlier later)

  pub loads_none : (m key : ℕ) → x.call ≡ Map m (maps.Load key) → LeaveKey m key earlier → x.reply ≡ replies.Map (Found None)
  loads_none m key loads leave =
      let reply : IsReply (Map m (maps.Load key)) x.reply (contents_at (first_contents many kinds) (earlier ++ later) x.place) =
      subst (λ call. IsReply call x.reply (contents_at (first_contents many kinds) (earlier ++ later) x.place)) loads (lawful.sound c j x at).reply in
      reply ∙ ap (λ contents. replies.Map (Found (value_at contents m key))) at_front
      ∙ ap (λ found. replies.Map (Found found)) (key_stays m key (first_contents many kinds) earlier leave ∙ no_value_first many kinds m key)

  pub loads_zero : (a : ℕ) (kind : AtomicKind) → x.call ≡ Atomic a atomics.Load → slice_get kinds a ≡ Some kind → LeaveAtomic a earlier → x.reply ≡ replies.Atomic (Held (zero_of kind))
  loads_zero a kind loads there leave =
      let reply : IsReply (Atomic a atomics.Load) x.reply (contents_at (first_contents many kinds) (earlier ++ later) x.place) =
      subst (λ call. IsReply call x.reply (contents_at (first_contents many kinds) (earlier ++ later) x.place)) loads (lawful.sound c j x at).reply in
      reply ∙ ap (λ contents. replies.Atomic (Held (number_at contents a))) at_front
      ∙ ap (λ number. replies.Atomic (Held number)) (atomic_stays a (first_contents many kinds) earlier leave ∙ zero_first many kinds a kind there)
