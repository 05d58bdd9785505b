-- A table's seat that knows, under a lock, that its call is an entry of the history may draft what it adds, and publish it.
use Rattle.std.proofs.Common.{◌≡◌, ◌≢◌, ◌⊎◌, inl, inr, ℕ, zero, suc, ◌+◌, ◌-◌, ◌*◌, ◌^◌, ◌<◌, ◌≤◌, List, [], ◌∷◌, ◌++◌, length, Some, None, slice_index, refl, sym, ap, ◌∙◌, subst, arith, length-append}
use Rattle.std.proofs.Math.Seq.{get_or-append_seam}
use Rattle.std.proofs.lemmas.Bool.{cases_eq}
use Rattle.std.proofs.lemmas.List.{get_or_append_left}
use Rattle.atomic_table.specs.Table.{Me}
use Rattle.sync_model.specs.declared.item.Item.{Item}
use Rattle.sync_model.specs.declared.item.SharedCall.TheVariants as calls
use Rattle.sync_model.specs.declared.item.SharedReply.TheVariants as replies
use Rattle.sync_types.specs.declared.map_object.MapCall.{MapCall}
use Rattle.sync_model.specs.Shared.{Called, cost_of}
use Rattle.table_rule.specs.declared.begin.Begin.{Begin}
use Rattle.table_rule.specs.declared.view.Leaf.{Leaf}
use Rattle.table_rule.specs.declared.view.Lock.{Lock}
use Rattle.table_rule.specs.declared.view.Own.{Own}
use Rattle.table_rule.specs.declared.view.View.{View}
use Rattle.sync_types.specs.KeyCalls.{is_key_entry, key_reply, key_after}
use Rattle.trie_nodes.specs.declared.plan.Expansion.{Expansion}
use Rattle.trie_nodes.specs.declared.slot.Slot.TheVariants.{Node, Entry}
use Rattle.trie_nodes.specs.Layout.{unit_words}
use Rattle.trie_nodes.specs.Paths.{route}
use Rattle.trie_nodes.specs.Plans.{IsExpansion}
use Rattle.trie_nodes.specs.Slots.{word_of_slot}
use Rattle.table_rule.specs.Layout.{size_of}
use Rattle.table_rule.specs.Making.{used_in, leaf_value, Sees, HasNoOther, Removes, Stores, Expands, MayPublish, bare, Publishes, IsLockAt}
use Rattle.shared_table.specs.Drafts.{IsPoised, with_draft, Drafted}
use Rattle.table_rule.specs.Shape.{start_of}
use Rattle.table_rule.specs.Units.{link_at, unit_word}
use Rattle.table_rule.specs.Views.{held_in, with_item, paid, spend, called_view, view_state}
use Rattle.table_rule.specs.Writing.{with_word, drafted, HasDraft}

-- the slot may become empty
pub may_remove : (k : Begin) (v : View) (call : MapCall ℕ) (m key node level next x : ℕ) → (p : IsPoised k v call m key node level next) → key_after call (leaf_value v.leaf key) ≡ None → HasNoOther v.leaf key → x ≡ 0
    → (l : Lock) × IsLockAt l key node level × MayPublish k v call m l x
may_remove k v call m key node level next x p after free is =
    let key_is = sym p.at.0 in (
      p.lock,
      p.at,
      record {
        own = p.own;
        owns = p.owns;
        found = p.found;
        sees = p.sees;
        on = p.on ∙ ap (λ n. Some n) key_is;
        costs = p.costs;
        is_entry = ap (λ n. is_key_entry call (leaf_value v.leaf n)) p.at.0 ∙ p.is_entry;
        values = p.values;
        writes = inl (record { is = is; after = ap (λ n. key_after call (leaf_value v.leaf n)) p.at.0 ∙ after; draft = p.draft; free = λ e e_is. free e e_is ∙ key_is });
      },
    )

-- what a draft leaves
as_empty : (own : Own) (owns : List Own) → own.draft ≡ [] → with_draft (own ∷ owns) [] ≡ own ∷ owns
as_empty own owns e = ap (λ d. record own { draft = d } ∷ owns) (sym e)

one_word_more : (owns : List Own) (words : List ℕ) (x : ℕ) → with_word (with_draft owns words) x ≡ with_draft owns (words ++ x ∷ [])
one_word_more [] words x = refl
one_word_more (own ∷ owns) words x = refl

empty_list : (xs : List ℕ) → length xs ≡ 0 → xs ≡ []
empty_list [] e = refl
empty_list (x ∷ xs) e = absurd (omega arith)

pub none_drafted : (k : Begin) (me : Me (Unit {0}) View) (word : ℕ → ℕ) (own : Own) (owns : List Own) (next : ℕ) → HasDraft k me own owns next 0 → Drafted me me 0 word
none_drafted k me word own owns next has = let is = has.owns_are in record {
  words = [];
  long = refl;
  each = λ i below. absurd (omega arith);
  is = ap (λ o. (record me.0 { owns = o }, me.1)) (is ∙ sym (as_empty own owns (empty_list own.draft has.written_is)) ∙ ap (λ o. with_draft o []) (sym is));
}

pub one_drafted : (first me after : Me (Unit {0}) View) (n x : ℕ) (word : ℕ → ℕ) → Drafted first me n word → after.1 ≡ me.1 → after.0 ≡ drafted me.0 x → x ≡ word n → Drafted first after (n + 1) word
one_drafted first me after n x word d same is x_is =
    let long = d.long in record {
      words = d.words ++ x ∷ [];
      long = length-append d.words (x ∷ []) ∙ omega arith;
      each = λ i below. elim (cases_eq i n) [
        | inl last ↦ ap (slice_index (d.words ++ x ∷ [])) (last ∙ sym long) ∙ get_or-append_seam d.words x [] 0 ∙ x_is ∙ ap word (sym last)
        | inr earlier ↦ get_or_append_left d.words (x ∷ []) 0 i (omega arith) ∙ d.each i (omega arith)
      ];
      is = (λ i. (is i, same i)) ∙ ap (λ (m : Me (Unit {0}) View). (drafted m.0 x, m.1)) d.is ∙ ap (λ o. (record first.0 { owns = o }, first.1)) (one_word_more first.0.owns d.words x);
    }

-- the room of a seat that drafts
pub may_draft_on : (k : Begin) (first me : Me (Unit {0}) View) (first_own : Own) (owns : List Own) (next n : ℕ) (word : ℕ → ℕ) → HasDraft k first first_own owns next 0 → Drafted first me n word → n < unit_words → (own : Own) × (owns : List Own) × HasDraft k me own owns next n
may_draft_on k first me first_own owns next n word has d below =
    let own : Own = record first_own { draft = d.words } in
    let room = has.room in (
      own,
      owns,
      record {
        live = ap (λ (z : Me (Unit {0}) View). z.0.live) d.is ∙ has.live;
        owns_are = ap (λ (z : Me (Unit {0}) View). z.0.owns) d.is ∙ ap (λ o. with_draft o d.words) has.owns_are;
        next_is = has.next_is;
        written_is = d.long;
        room = omega arith;
        within = has.within;
      },
    )

pub poised_room : (k : Begin) (me : Me (Unit {0}) View) (call : MapCall ℕ) (m key node level next : ℕ) (p : IsPoised k me.0 call m key node level next) → HasDraft k me p.own p.owns next 0
poised_room k me call m key node level next p = let spare = p.sees.spare in record {
  live = p.sees.live;
  owns_are = p.sees.is;
  next_is = p.next_is;
  written_is = ap length p.draft;
  room = omega arith;
  within = subst (λ i. i + unit_words * p.own.spare ≤ size_of k) p.next_is p.sees.within;
}

-- what it knows stays
sees_on : (k : Begin) (first me : Me (Unit {0}) View) (call : MapCall ℕ) (m key node level next n : ℕ) (word : ℕ → ℕ) (p : IsPoised k first.0 call m key node level next) (d : Drafted first me n word) → Sees k me.0 (record p.own { draft = d.words }) p.owns p.lock m p.found
sees_on k first me call m key node level next n word p d = subst (λ (z : Me (Unit {0}) View). Sees k z.0 (record p.own { draft = d.words }) p.owns p.lock m p.found) (sym d.is) (let s = p.sees in record {
  live = s.live;
  begin = s.begin;
  is = ap (λ o. with_draft o d.words) s.is;
  locked = s.locked;
  living = s.living;
  alone = s.alone;
  inside = s.inside;
  word = s.word;
  found_is = s.found_is;
  slot_is = s.slot_is;
  shows = s.shows;
  along = s.along;
  spare = s.spare;
  within = s.within;
})

module _ (k : Begin) (first me : Me (Unit {0}) View) (call : MapCall ℕ) (m key node level next n : ℕ) (word : ℕ → ℕ) (p : IsPoised k first.0 call m key node level next) (d : Drafted first me n word) where
  same_leaf : me.0.leaf ≡ first.0.leaf
  same_leaf = ap (λ (z : Me (Unit {0}) View). z.0.leaf) d.is

  key_is : key ≡ p.lock.key
  key_is = sym p.at.0

  held_as : leaf_value me.0.leaf p.lock.key ≡ leaf_value first.0.leaf key
  held_as = (λ i. leaf_value (same_leaf i) (p.at.0 i))

  may_with : (x : ℕ) → Removes (record p.own { draft = d.words }) me.0.leaf p.lock call x ⊎ (Stores (record p.own { draft = d.words }) me.0.leaf p.lock call x ⊎ Expands k (record p.own { draft = d.words }) me.0.leaf p.lock call x)
      → (l : Lock) × IsLockAt l key node level × MayPublish k me.0 call m l x
  may_with x writes = (
    p.lock,
    p.at,
    record {
      own = record p.own { draft = d.words };
      owns = p.owns;
      found = p.found;
      sees = sees_on k first me call m key node level next n word p d;
      on = p.on ∙ ap (λ n. Some n) key_is;
      costs = p.costs;
      is_entry = ap (is_key_entry call) held_as ∙ p.is_entry;
      values = p.values;
      writes = writes;
    },
  )

  -- an entry of two words
  pub may_show_entry : (value x : ℕ) → d.words ≡ key ∷ value ∷ [] → key_after call (leaf_value first.0.leaf key) ≡ Some value → HasNoOther first.0.leaf key → x ≡ word_of_slot (Entry next) → (l : Lock) × IsLockAt l key node level × MayPublish k me.0 call m l x
  may_show_entry value x words after free is = may_with x (inr (inl (record {
    value = value;
    is = is ∙ ap (λ i. word_of_slot (Entry i)) (sym p.next_is);
    after = ap (key_after call) held_as ∙ after;
    draft = words ∙ ap (λ i. i ∷ value ∷ []) key_is;
    free = λ e e_is. free e (sym same_leaf ∙ e_is) ∙ key_is;
  })))

  -- a chain
  pub may_show_chain : (value x : ℕ) (plan : Expansion) (other : Leaf) → n ≡ 2 + 18 * plan.nodes → ((i : ℕ) → word i ≡ unit_word k.seed key value (suc level) node other.place next plan i) → key_after call (leaf_value first.0.leaf key) ≡ Some value → first.0.leaf ≡ Some other
      → IsExpansion other.key key k.seed (suc level) plan → x ≡ word_of_slot (Node (link_at next 0)) → (l : Lock) × IsLockAt l key node level × MayPublish k me.0 call m l x
  may_show_chain value x plan other n_is word_is after other_is planned is = may_with x (inr (inr (record {
    value = value;
    plan = plan;
    other = other;
    other_is = same_leaf ∙ other_is;
    is = is ∙ ap (λ i. word_of_slot (Node (link_at i 0))) (sym p.next_is);
    after = ap (key_after call) held_as ∙ after;
    planned = subst (λ (z : ℕ × ℕ). IsExpansion other.key z.0 k.seed (suc z.1) plan) (λ j. (key_is j, sym p.at.2 j)) planned;
    sized = d.long ∙ n_is;
    draft = λ i below. d.each i (omega arith) ∙ word_is i ∙ (λ j. unit_word k.seed (key_is j) value (suc (sym p.at.2 j)) (sym p.at.1 j) other.place (sym p.next_is j) plan i);
  })))

-- the draft is no part of what contracts see
held_undrafted : (number : ℕ) (owns : List Own) (words : List ℕ) → held_in number (with_draft owns words) ≡ held_in number owns
held_undrafted number [] words = refl
held_undrafted number (own ∷ owns) words = refl

spend_undrafted : (used : ℕ) (owns : List Own) (words : List ℕ) (x : Item) (time : ℕ) → spend used (with_item (with_draft owns words) x time) ≡ spend used (with_item owns x time)
spend_undrafted used [] words x time = refl
spend_undrafted used (own ∷ owns) words x time = refl

pub undrafted : (first me after : Me (Unit {0}) View) (n used : ℕ) (word : ℕ → ℕ) (call : MapCall ℕ) (m : ℕ) → cost_of call ≡ 1 → Drafted first me n word → Publishes m call used me after → Publishes m call used first after
undrafted first me after n used word call m costs d told =
    let t = subst (λ z. Publishes m call used z after) d.is told in
    let v = first.0 in (
      t.0,
      λ l locks. let makes = t.1 l locks in record {
        item = makes.item;
        time = makes.time;
        seen = makes.seen;
        is = makes.is ∙ ap (λ o. record (called_view v o makes.seen makes.time) { walk = None; leaf = None; lock = Some (bare l) })
            (ap (λ c. paid c used (with_item (with_draft v.owns d.words) makes.item makes.time)) costs ∙ spend_undrafted used v.owns d.words makes.item makes.time ∙ sym (ap (λ c. paid c used (with_item v.owns makes.item makes.time)) costs));
        called = subst (λ own. Called (start_of v.begin) (calls.Map m call) (replies.Map (key_reply call (leaf_value v.leaf l.key))) (cost_of call) (record (view_state v) { own = own }) (view_state after.0)) (held_undrafted v.number v.owns d.words) makes.called;
        looks = makes.looks;
      },
    )

-- a write that shows what was drafted uses these words
used_drafted : (first me : Me (Unit {0}) View) (n : ℕ) (word : ℕ → ℕ) (own : Own) (owns : List Own) → first.0.owns ≡ own ∷ owns → Drafted first me n word → 2 ≤ n → used_in me.0.owns ≡ n
used_drafted first me n word own owns is d some =
    let long = d.long in
    let used : used_in me.0.owns ≡ 2 + (length d.words - 2) = ap (λ (z : Me (Unit {0}) View). used_in z.0.owns) d.is ∙ ap (λ o. used_in (with_draft o d.words)) is in
    omega arith

pub shown : (k : Begin) (me two : Me (Unit {0}) View) (call : MapCall ℕ) (m key node level next n : ℕ) (word : ℕ → ℕ) (p : IsPoised k me.0 call m key node level next) → Drafted me two n word → 2 ≤ n
    → (after : Me (Unit {0}) View) → Publishes m call (used_in two.0.owns) two after → Publishes m call n me after
shown k me two call m key node level next n word p d some after told =
    undrafted me two after n n word call m p.costs d (subst (λ u. Publishes m call u two after) (used_drafted me two n word p.own p.owns p.sees.is d some) told)

-- a write that shows nothing new uses two words
pub shown_none : (k : Begin) (me after : Me (Unit {0}) View) (call : MapCall ℕ) (m key node level next : ℕ) → IsPoised k me.0 call m key node level next → Publishes m call (used_in me.0.owns) me after → Publishes m call 2 me after
shown_none k me after call m key node level next p told =
    let none_there : length p.own.draft ≡ 0 = ap length p.draft in
    let used : used_in me.0.owns ≡ 2 + (length p.own.draft - 2) = ap used_in p.sees.is in
    let two : used_in me.0.owns ≡ 2 = omega arith in
    subst (λ u. Publishes m call u me after) two told

-- an entry's words
abbrev pub two_words : ℕ → ℕ → ℕ → ℕ
two_words key value zero = key
two_words key value (suc i) = value

two_of : (xs : List ℕ) (a b : ℕ) → length xs ≡ 2 → slice_index xs 0 ≡ a → slice_index xs 1 ≡ b → xs ≡ a ∷ b ∷ []
two_of [] a b long first second = absurd (let e : 0 ≡ 2 = long in omega arith)
two_of (x ∷ []) a b long first second = absurd (let e : 1 ≡ 2 = long in omega arith)
two_of (x ∷ y ∷ []) a b long first second = λ i. first i ∷ second i ∷ []
two_of (x ∷ y ∷ z ∷ xs) a b long first second = absurd (let e : suc (suc (suc (length xs))) ≡ 2 = long in omega arith)

-- an entry is drafted, and shown
module _ (k : Begin) (me one two : Me (Unit {0}) View) (call : MapCall ℕ) (m key node level next value : ℕ) (p : IsPoised k me.0 call m key node level next) (same_one : one.1 ≡ me.1) (first : one.0 ≡ drafted me.0 key) where
  drafted_one : Drafted me one 1 (two_words key value)
  drafted_one = let d = one_drafted me me one 0 key (two_words key value) (none_drafted k me (two_words key value) p.own p.owns next (poised_room k me call m key node level next p)) same_one first refl in
      record { words = d.words; long = d.long; each = d.each; is = d.is }

  pub second_room : (own : Own) × (owns : List Own) × HasDraft k one own owns next 1
  second_room = may_draft_on k me one p.own p.owns next 1 (two_words key value) (poised_room k me call m key node level next p) drafted_one (omega arith)

  module _ (same_two : two.1 ≡ one.1) (second : two.0 ≡ drafted one.0 value) where
    drafted_two : Drafted me two 2 (two_words key value)
    drafted_two = let d = one_drafted me one two 1 value (two_words key value) drafted_one same_two second refl in record { words = d.words; long = d.long; each = d.each; is = d.is }

    pub entry_may : (x : ℕ) → key_after call (leaf_value me.0.leaf key) ≡ Some value → HasNoOther me.0.leaf key → x ≡ word_of_slot (Entry next) → (l : Lock) × IsLockAt l key node level × MayPublish k two.0 call m l x
    entry_may x after free is =
        let d = drafted_two in
        may_show_entry k me two call m key node level next 2 (two_words key value) p d value x (two_of d.words key value d.long (d.each 0 (omega arith)) (d.each 1 (omega arith))) after free is

    pub entry_told : (after : Me (Unit {0}) View) → Publishes m call (used_in two.0.owns) two after → Publishes m call 2 me after
    entry_told after told = shown k me two call m key node level next 2 (two_words key value) p drafted_two (omega arith) after told

-- a chain is drafted, and shown
pub chain_may : (k : Begin) (me two : Me (Unit {0}) View) (call : MapCall ℕ) (m key node level next value : ℕ) (p : IsPoised k me.0 call m key node level next) (plan : Expansion) (other : Leaf) (seed x : ℕ) → seed ≡ k.seed
    → Drafted me two (2 + 18 * plan.nodes) (unit_word seed key value (level + 1) node other.place next plan) → key_after call (leaf_value me.0.leaf key) ≡ Some value → me.0.leaf ≡ Some other → IsExpansion other.key key seed (level + 1) plan → x ≡ word_of_slot (Node (next + 2))
    → (l : Lock) × IsLockAt l key node level × MayPublish k two.0 call m l x
chain_may k me two call m key node level next value p plan other seed x seed_is d after other_is planned is =
    let deeper : level + 1 ≡ suc level = omega arith in
    let at : next + 2 ≡ link_at next 0 = omega arith in
    may_show_chain k me two call m key node level next (2 + 18 * plan.nodes) (unit_word seed key value (level + 1) node other.place next plan) p d value x plan other refl
    (λ i j. unit_word (seed_is j) key value (deeper j) node other.place next plan i) after other_is
    (subst (λ (z : ℕ × ℕ). IsExpansion other.key key z.0 z.1 plan) (λ j. (seed_is j, deeper j)) planned) (is ∙ ap (λ i. word_of_slot (Node i)) at)

-- the entry of another key has room for a chain below its slot
pub entry_along : (k : Begin) (v : View) (call : MapCall ℕ) (m key node level next : ℕ) (p : IsPoised k v call m key node level next) (other : Leaf) → v.leaf ≡ Some other → (other.key < 2 ^ 32) × (route k.seed (suc level) other.key ≡ route k.seed (suc level) key)
entry_along k v call m key node level next p other is = let along = p.sees.along other is in (along.0, subst (λ (z : ℕ × ℕ). route k.seed (suc z.0) other.key ≡ route k.seed (suc z.0) z.1) (λ i. (p.at.2 i, p.at.0 i)) along.1)

-- different keys have different paths
abbrev pub OneToOne : Type 0
OneToOne = (seed key other : ℕ) → seed < 2 ^ 32 → key < 2 ^ 32 → other < 2 ^ 32 → route seed 8 key ≡ route seed 8 other → key ≡ other

pub chain_fits : (k : Begin) (v : View) (call : MapCall ℕ) (m key node level next : ℕ) (p : IsPoised k v call m key node level next) (other : Leaf) → OneToOne → k.seed < 2 ^ 32 → v.leaf ≡ Some other → other.key ≢ key → key < 2 ^ 32 → level < 8 → level + 1 < 8
chain_fits k v call m key node level next p other one_to_one seed is ne is_key below = elim (cases_eq level 7) [
  | inl last ↦ absurd (let along = entry_along k v call m key node level next p other is in
      let deepest : suc level ≡ 8 = omega arith in
      ne (one_to_one k.seed other.key key seed along.0 is_key (subst (λ n. route k.seed n other.key ≡ route k.seed n key) deepest along.1)))
  | inr higher ↦ omega arith
]
