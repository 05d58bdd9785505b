-- A cursor shows no key but the workload's: maps have no other key at any moment.
use Rattle.std.proofs.Common.{◌≡◌, ◌≢◌, ℕ, zero, suc, ◌<◌, Bool, true, false, ◌==◌, List, [], ◌∷◌, replicate, take, get_or, set, Option, Some, None, slice_get, inl, inr, ◌⊎◌, refl, sym, ap, ◌∙◌, subst, arith}
use Rattle.std.specs.Prelude.{count_by}
use Rattle.std.specs.List.{flat_map}
use Rattle.std.specs.Ordering.{nat_cmp}
use Rattle.std.specs.FinMap.{FinMap, empty, get, get-empty}
use Rattle.std.proofs.lemmas.Bool.{cases_lt, eqb-false, eqb-true}
use Rattle.std.proofs.lemmas.List.{get_or-replicate, get_or_past, length-replicate}
use Rattle.std.proofs.lemmas.Option.{none-some}
use Rattle.sync_types.specs.declared.atomic_object.AtomicKind.{AtomicKind}
use Rattle.sync_types.specs.declared.map_object.MapCall.{MapCall}
use Rattle.sync_types.specs.declared.map_object.MapCall.TheVariants as maps
use Rattle.sync_types.specs.declared.map_object.MapReply.{MapReply}
use Rattle.sync_types.specs.declared.map_object.MapReply.TheVariants as found
use Rattle.sync_types.specs.SequentialMap.{map_after, map_key, map_reply}
use Rattle.sync_model.specs.declared.item.Item.{Item}
use Rattle.sync_model.specs.declared.item.SharedCall.{SharedCall}
use Rattle.sync_model.specs.declared.item.SharedCall.TheVariants as calls
use Rattle.sync_model.specs.declared.item.SharedEntry.{SharedEntry}
use Rattle.sync_model.specs.declared.item.SharedReply.TheVariants as replies
use Rattle.sync_model.specs.SharedCalls.{Lawful}
use Rattle.sync_model.specs.SharedHistory.{Contents, contents_after, contents_at, first_contents, map_at, shared_after, value_at}
use Rattle.workload.specs.Plan.{Plan}
use Rattle.run_record.specs.Objects.{contents_of, is_map, types_of}
use Rattle.record_text.proofs.MeantItems.{KeyBelow}

set_at : {A : Type 0} (xs : List A) (i j : ℕ) (y d : A) → ((get_or (set xs i y) j d ≡ y) × (j ≡ i)) ⊎ (get_or (set xs i y) j d ≡ get_or xs j d)
set_at [] i j y d = inr refl
set_at (x ∷ xs) zero zero y d = inl (refl, refl)
set_at (x ∷ xs) zero (suc j) y d = inr refl
set_at (x ∷ xs) (suc i) zero y d = inr refl
set_at (x ∷ xs) (suc i) (suc j) y d = elim (set_at xs i j y d) [ inl is ↦ inl (is.0, ap (λ n. suc n) is.1) | inr is ↦ inr is ]

taken_at : {A : Type 0} (xs : List A) (n i : ℕ) (x : A) → slice_get (take n xs) i ≡ Some x → slice_get xs i ≡ Some x
taken_at [] zero i x at = at
taken_at [] (suc n) i x at = at
taken_at (y ∷ xs) zero i x at = absurd (none-some x at)
taken_at (y ∷ xs) (suc n) zero x at = at
taken_at (y ∷ xs) (suc n) (suc i) x at = taken_at xs n i x at

abbrev found_in : MapReply → Option ℕ
found_in (found.Found value) = value
found_in found.Done = None
found_in (found.Settled value loaded) = None
found_in (found.Compared is) = None

-- each key that a map has is below this number
abbrev KeysBelow : ℕ → Contents → Type 0
KeysBelow count contents = (m key value : ℕ) → value_at contents m key ≡ Some value → key < count

module _ (count : ℕ) (leaves : (m : FinMap nat_cmp ℕ) (call : MapCall ℕ) (key other : ℕ) → map_key call ≡ Some key → other ≢ key → map_reply (maps.Load other) (map_after call m) ≡ map_reply (maps.Load other) m)
    (clears : (call : MapCall ℕ) → map_key call ≡ None → call ≡ maps.Clear) where
  keys_after : (m : FinMap nat_cmp ℕ) (call : MapCall ℕ) → ((k : ℕ) → map_key call ≡ Some k → k < count) → ((key value : ℕ) → get m key ≡ Some value → key < count) → (key value : ℕ) → get (map_after call m) key ≡ Some value → key < count
  keys_after m call is within key value there = by_key (map_key call) refl where
    by_key : (o : Option ℕ) → map_key call ≡ o → key < count
    by_key None none = absurd (none-some value (sym (get-empty nat_cmp key) ∙ subst (λ (c : MapCall ℕ). get (map_after c m) key ≡ Some value) (clears call none) there))
    by_key (Some k) has = by_same (k == key) refl where
      by_same : (b : Bool) → (k == key) ≡ b → key < count
      by_same true same = subst (λ (n : ℕ). n < count) (eqb-true k key same) (is k has)
      by_same false other = within key value (sym (ap found_in (leaves m call k key has (λ same. eqb-false k key other (sym same)))) ∙ there)

  keys_stay : (call : SharedCall) (contents : Contents) → KeyBelow count call → KeysBelow count contents → KeysBelow count (shared_after call contents)
  keys_stay (calls.Map n call) contents is within = λ m key value there. elim (set_at contents.maps n m (map_after call (map_at contents n)) empty) [
    | inl new ↦ keys_after (map_at contents n) call is (within n) key value (sym (ap (λ held. get held key) new.0) ∙ there)
    | inr same ↦ within m key value (sym (ap (λ held. get held key) same) ∙ there)
  ]
  keys_stay (calls.Begin n) contents is within = within
  keys_stay (calls.Next begin) contents is within = within
  keys_stay (calls.Atomic a call) contents is within = within

  after_all : (contents : Contents) (history : List SharedEntry) → ((n : ℕ) (entry : SharedEntry) → slice_get history n ≡ Some entry → KeyBelow count entry.call) → KeysBelow count contents → KeysBelow count (contents_after contents history)
  after_all contents [] all within = within
  after_all contents (entry ∷ later) all within = after_all (shared_after entry.call contents) later (λ n e at. all (suc n) e at) (keys_stay entry.call contents (all 0 entry refl) within)

  none_first : (many : ℕ) (types : List AtomicKind) (m key : ℕ) → value_at (first_contents many types) m key ≡ None
  none_first many types m key = elim (cases_lt m many) [
    | inl there ↦ ap (λ held. get held key) (get_or-replicate many m empty empty there) ∙ get-empty nat_cmp key
    | inr past ↦ ap (λ held. get held key) (get_or_past (replicate many empty) m empty (let long = length-replicate many (empty {X = ℕ} {R = nat_cmp}) in omega arith)) ∙ get-empty nat_cmp key
  ]

  module _ (plan : Plan) (history : List SharedEntry) (lists : ℕ → List Item) (lawful : Lawful (contents_of plan) history lists)
      (each : (n : ℕ) (entry : SharedEntry) → slice_get history n ≡ Some entry → KeyBelow count entry.call) where
    keys_at : (n : ℕ) → KeysBelow count (contents_at (contents_of plan) history n)
    keys_at n =
        after_all (contents_of plan) (take n history) (λ i entry at. each i entry (taken_at history n i entry at))
        (λ m key value there. absurd (none-some value (sym (none_first (count_by (λ object. is_map object.kind) plan.objects) (flat_map (λ object. types_of object.kind) plan.objects) m key) ∙ there)))

    -- a step shows a key that the map had at some moment
    pub shown_below : (c j begin : ℕ) (x : Item) (shown : ℕ × ℕ) → slice_get (lists c) j ≡ Some x → x.call ≡ calls.Next begin → x.reply ≡ replies.Shown (Some shown) → shown.0 < count
    shown_below c j begin x shown at call reply =
        let (y, m, before, begun, is) = (lawful.sound c j x at).begun begin call in
        let may = lawful.ranges c begin m y begun is j x (Some shown) (record { at = at; call = call; reply = reply }) in
        keys_at may.1.moment m shown.0 shown.1 may.1.is
