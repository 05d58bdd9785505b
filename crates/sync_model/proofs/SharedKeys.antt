-- Each key of a map and each atomic goes by itself.
use Rattle.std.proofs.Common.{◌≡◌, ℕ, ◌<◌, Bool, true, false, ◌&&◌, ◌==◌, cond, List, [], ◌∷◌, length, take, Option, Some, None, slice_get, refl, sym, ap, ◌∙◌, subst, arith}
use Rattle.std.specs.Ordering.{nat_cmp}
use Rattle.std.specs.Option.{option_map_or}
use Rattle.std.specs.FinMap.{FinMap, empty, get}
use Rattle.std.proofs.lemmas.Bool.{eqb-true}
use Rattle.std.proofs.lemmas.List.{get_or-set_same, length-map, length-replicate}
use Rattle.std.proofs.lemmas.Option.{slice_get_within}
use Rattle.sync_types.specs.declared.atomic_object.AtomicKind.{AtomicKind}
use Rattle.sync_types.specs.declared.atomic_object.AtomicCall.{AtomicCall}
use Rattle.sync_types.specs.declared.atomic_object.Number.TheVariants.{Bool as Truth}
use Rattle.sync_types.specs.declared.map_object.MapCall.{MapCall}
use Rattle.sync_types.specs.declared.map_object.MapReply.TheVariants.{Found}
use Rattle.sync_types.specs.KeyCalls.{key_reply, is_key_entry, key_after}
use Rattle.sync_types.specs.SequentialMap.{map_after, map_key}
use Rattle.sync_types.specs.SequentialAtomic.{zero_of, atomic_after, atomic_reply, is_atomic_entry}
use Rattle.sync_model.specs.declared.item.SharedCall.{SharedCall}
use Rattle.sync_model.specs.declared.item.SharedCall.TheVariants.{Map, Begin, Next, Atomic}
use Rattle.sync_model.specs.declared.item.SharedReply.TheVariants as replies
use Rattle.sync_model.specs.declared.item.SharedEntry.{SharedEntry}
use Rattle.sync_model.specs.declared.item.Item.{Item}
use Rattle.sync_model.specs.SharedHistory.{Contents, first_contents, map_at, number_at, value_at, shared_after, contents_after, contents_at, IsReply, is_entry}
use Rattle.sync_model.specs.SharedCalls.{Lawful}
use Rattle.sync_model.specs.SharedLaws.{is_on_key, is_on_atomic, value_left, number_left, value_by, number_by}
use Rattle.sync_types.proofs.MapLemmas.{found_after, cleared_at, reply_at, entry_at}
use Rattle.sync_model.proofs.Histories.{maps_after, numbers_after}
use Rattle.sync_model.proofs.SharedReads.{ordered, key_left, atomic_left, no_value_first, zero_first}

found_is : (a b : Option ℕ) → Found a ≡ Found b → a ≡ b
found_is a b e = cc

-- what a call that is on a key leaves there
on_map : (call : MapCall ℕ) (found : Option ℕ) (key : ℕ) (held : FinMap nat_cmp ℕ) → map_key call ≡ found → option_map_or (λ k. k == key) found true ≡ true → get (map_after call held) key ≡ key_after call (get held key)
on_map call None key held is e = found_is (get (map_after call held) key) (key_after call (get held key)) (cleared_at held call key (get held key) is).2
on_map call (Some k) key held is e =
    found_is (get (map_after call held) key) (key_after call (get held key)) (found_after ordered held call key (get held key) (is ∙ ap Some (eqb-true k key e)) refl)

value_next : (m key : ℕ) (call : SharedCall) (contents : Contents) → m < length contents.maps
    → value_at (shared_after call contents) m key ≡ cond (is_on_key m key call) (value_left call (value_at contents m key)) (value_at contents m key)
value_next m key (Begin n) contents there = refl
value_next m key (Next begin) contents there = refl
value_next m key (Atomic a call) contents there = refl
value_next m key (Map n call) contents there = by_map (n == m) refl
  where
    this : Bool
    this = option_map_or (λ k. k == key) (map_key call) true

    after : Option ℕ
    after = value_at (shared_after (Map n call) contents) m key

    before : Option ℕ
    before = value_at contents m key

    by_key : (n == m) ≡ true → (b : Bool) → this ≡ b → after ≡ cond b (key_after call before) before
    by_key same true on =
        subst (λ k. value_at (shared_after (Map k call) contents) m key ≡ key_after call before) (sym (eqb-true n m same))
        (ap (λ held. get held key) (get_or-set_same contents.maps m (map_after call (map_at contents m)) empty there) ∙ on_map call (map_key call) key (map_at contents m) refl on)
    by_key same false off = key_left m key (Map n call) contents (ap (λ b. b && this) same ∙ off)

    by_map : (b : Bool) → (n == m) ≡ b → after ≡ cond (b && this) (key_after call before) before
    by_map true same = by_key same this refl
    by_map false other = key_left m key (Map n call) contents (ap (λ b. b && this) other)

pub value_played : (m key : ℕ) (contents : Contents) (entries : List SharedEntry) → m < length contents.maps → value_at (contents_after contents entries) m key ≡ value_by m key (value_at contents m key) entries
value_played m key contents [] there = refl
value_played m key contents (entry ∷ later) there =
    value_played m key (shared_after entry.call contents) later (subst (λ n. m < n) (sym (maps_after entry.call contents)) there)
    ∙ ap (λ held. value_by m key held later) (value_next m key entry.call contents there)

number_next : (a : ℕ) (call : SharedCall) (contents : Contents) → a < length contents.numbers
    → number_at (shared_after call contents) a ≡ cond (is_on_atomic a call) (number_left call (number_at contents a)) (number_at contents a)
number_next a (Map m call) contents there = refl
number_next a (Begin m) contents there = refl
number_next a (Next begin) contents there = refl
number_next a (Atomic b call) contents there = by_atomic (b == a) refl
  where
    by_atomic : (t : Bool) → (b == a) ≡ t → number_at (shared_after (Atomic b call) contents) a ≡ cond t (atomic_after call (number_at contents a)) (number_at contents a)
    by_atomic true same =
        subst (λ k. number_at (shared_after (Atomic k call) contents) a ≡ atomic_after call (number_at contents a)) (sym (eqb-true b a same))
        (get_or-set_same contents.numbers a (atomic_after call (number_at contents a)) (Truth false) there)
    by_atomic false other = atomic_left a (Atomic b call) contents other

pub number_played : (a : ℕ) (contents : Contents) (entries : List SharedEntry) → a < length contents.numbers → number_at (contents_after contents entries) a ≡ number_by a (number_at contents a) entries
number_played a contents [] there = refl
number_played a contents (entry ∷ later) there =
    number_played a (shared_after entry.call contents) later (subst (λ n. a < n) (sym (numbers_after entry.call contents)) there)
    ∙ ap (λ held. number_by a held later) (number_next a entry.call contents there)

module _ (start : Contents) (history : List SharedEntry) (calls : ℕ → List Item) (lawful : Lawful start history calls) (c j : ℕ) (x : Item) (at : slice_get (calls c) j ≡ Some x) where
  -- a call's reply, and whether it is an entry, by the contents at its place
  pub reply_is : (call : SharedCall) → x.call ≡ call → IsReply call x.reply (contents_at start history x.place)
  reply_is call is = subst (λ k. IsReply k x.reply (contents_at start history x.place)) is (lawful.sound c j x at).reply

  pub entry_is : (call : SharedCall) → x.call ≡ call → x.entry ≡ is_entry call (contents_at start history x.place)
  entry_is call is = (lawful.sound c j x at).entry ∙ ap (λ k. is_entry k (contents_at start history x.place)) is

module _ (maps : ℕ) (kinds : List AtomicKind) (history : List SharedEntry) (calls : ℕ → List Item) (lawful : Lawful (first_contents maps kinds) history calls) (c j : ℕ) (x : Item) (at : slice_get (calls c) j ≡ Some x) where
  pub by_key : (m key : ℕ) (call : MapCall ℕ) → x.call ≡ Map m call → map_key call ≡ Some key → m < maps
      → (x.reply ≡ replies.Map (key_reply call (value_by m key None (take x.place history)))) × (x.entry ≡ is_key_entry call (value_by m key None (take x.place history)))
  by_key m key call is on there =
      let long = length-replicate maps (empty {X = ℕ} {R = nat_cmp}) in
      let inside : m < length (first_contents maps kinds).maps = omega arith in
      let contents = contents_at (first_contents maps kinds) history x.place in
      let held : value_at contents m key ≡ value_by m key None (take x.place history) =
      value_played m key (first_contents maps kinds) (take x.place history) inside ∙ ap (λ v. value_by m key v (take x.place history)) (no_value_first maps kinds m key) in (
        reply_is (first_contents maps kinds) history calls lawful c j x at (Map m call) is ∙ ap replies.Map (reply_at (map_at contents m) call key (value_by m key None (take x.place history)) on (ap Found held)),
        entry_is (first_contents maps kinds) history calls lawful c j x at (Map m call) is ∙ entry_at (map_at contents m) call key (value_by m key None (take x.place history)) on (ap Found held),
      )

  pub by_atomic : (a : ℕ) (kind : AtomicKind) (call : AtomicCall) → x.call ≡ Atomic a call → slice_get kinds a ≡ Some kind
      → (x.reply ≡ replies.Atomic (atomic_reply call (number_by a (zero_of kind) (take x.place history)))) × (x.entry ≡ is_atomic_entry call (number_by a (zero_of kind) (take x.place history)))
  by_atomic a kind call is there =
      let long = length-map kinds zero_of in
      let within = slice_get_within kinds a kind there in
      let inside : a < length (first_contents maps kinds).numbers = omega arith in
      let contents = contents_at (first_contents maps kinds) history x.place in
      let held : number_at contents a ≡ number_by a (zero_of kind) (take x.place history) =
      number_played a (first_contents maps kinds) (take x.place history) inside ∙ ap (λ n. number_by a n (take x.place history)) (zero_first maps kinds a kind there) in (
        reply_is (first_contents maps kinds) history calls lawful c j x at (Atomic a call) is ∙ ap (λ n. replies.Atomic (atomic_reply call n)) held,
        entry_is (first_contents maps kinds) history calls lawful c j x at (Atomic a call) is ∙ ap (is_atomic_entry call) held,
      )
