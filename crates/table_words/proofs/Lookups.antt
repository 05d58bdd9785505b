-- The reads of a seat that looks a key up.
use Rattle.std.proofs.Common.{◌≡◌, ℕ, suc, ◌+◌, ◌^◌, ◌<◌, ◌≤◌, Bool, true, false, MatchBool, List, [], ◌∷◌, length, set, Option, Some, None, slice_get, slice_index, ◌⊎◌, inl, inr, refl, sym, ap, ◌∙◌, subst, arith, le_refl, max}
use Rattle.std.proofs.lemmas.List.{set-get_or}
use Rattle.std.proofs.lemmas.Option.{none-some, same_Some}
use mathlib.Core.Option.{some}
use lib.ListN.{get_elem?}
use Rattle.atomic_table.specs.Table.{Me, Act, keeps, Valid, stepped, carried_after, Allows}
use Rattle.sync_model.specs.declared.item.SharedCall.TheVariants as calls
use Rattle.sync_model.specs.declared.item.SharedReply.TheVariants as replies
use Rattle.sync_types.specs.declared.map_object.MapCall.{MapCall}
use Rattle.sync_model.specs.Shared.{cost_of}
use Rattle.sync_model.specs.SharedHistory.{map_at, value_at, contents_at, IsReply, is_entry}
use Rattle.table_rule.specs.declared.begin.Begin.{Begin}
use Rattle.table_rule.specs.declared.view.Gate.TheVariants.{Inside}
use Rattle.table_rule.specs.declared.view.Leaf.{Leaf}
use Rattle.table_rule.specs.declared.view.Own.{Own}
use Rattle.table_rule.specs.declared.view.View.{View}
use Rattle.table_rule.specs.declared.view.Walk.{Walk}
use Rattle.sync_types.specs.KeyCalls.{is_key_entry, key_reply}
use Rattle.table_words.specs.Laws.{HistoryLaws}
use Rattle.trie_nodes.specs.declared.slot.Slot.{Slot}
use Rattle.trie_nodes.specs.declared.slot.Slot.TheVariants.{Empty, Node, Entry}
use Rattle.trie_nodes.specs.Layout.{slot_word, dead_word}
use Rattle.trie_nodes.specs.Nodes.{Shows, entry_value}
use Rattle.trie_nodes.specs.Paths.{nibble}
use Rattle.trie_nodes.specs.Slots.{slot_in}
use Rattle.table_rule.specs.Layout.{root_word, size_of, IsBegin}
use Rattle.table_rule.specs.Order.{IsTimely}
use Rattle.table_rule.specs.Owed.{Walks, IsLeaf}
use Rattle.table_rule.specs.Rule.{TableState, Kept}
use Rattle.table_rule.specs.Shape.{start_of, held_at, till, time, IsBelow}
use Rattle.table_rule.specs.Views.{at_time, MayPay}
use Rattle.table_rule.specs.Walking.{standing, told_at, walk_at, HasWords, Enters, Answers, IsAlong, FindsIn, LooksIn, Affords, ReadsKey, KeepsValue, ReadsValue}
use Rattle.table_words.proofs.KeyCalls.{IsOn}
use Rattle.table_words.proofs.Ledgers.{longer}
use Rattle.table_words.proofs.Placed.{view_after, kept_quiet, answers}
use Rattle.table_words.proofs.Placing.{at_the_end}
use Rattle.table_words.proofs.Quiet.{kept_entering, kept_standing, timely_there}

-- the words of a table have small numbers
size_small : (k : Begin) → IsBegin k → size_of k < 2 ^ 32
size_small k b = let objects = b.objects in let units = b.units in omega arith

pub has_words : (k : Begin) (v : View) (place words : ℕ) → IsBegin k → v.begin ≡ k → place + words ≤ size_of k → 0 < words → HasWords v place words
has_words k v place words b begin within some_words = let small = size_small k b in (subst (λ (z : Begin). place + words ≤ size_of z) (sym begin) within, omega arith)

-- a seat reads a root word, and is told its caller's number. The clock is then no less, so each entry that comes is past it
pub enters : (k : Begin) (id : ℕ) (me : Me (Unit {0}) View) (m key before : ℕ) → me.0.live ≡ true → me.0.begin ≡ k → m < k.maps → key < 2 ^ 32 → me.0.leaf ≡ None
    → Allows (Kept k) 0 id me (root_word k m) (λ n. n) (Enters m key (told_at before me))
enters k id me m key before live begin below is_key no_leaf = λ s r one at_me bounded.
    let v = me.0 in
    let p = slice_index s.words (root_word k m) in
    let root = r.fine.live m [] p (r.fine.roots m below) in
    let node = r.fine.nodes p root.0 in
    let seen = longer v.seen r.log (r.fits id v at_me live).seen in
    let w = walk_at m key p 0 (length v.seen) in
    let since : length v.seen ≤ time r.shape r.log p = subst (λ o. length v.seen ≤ till o (length r.log)) (sym root.3) seen in
    let walks : Walks k r.shape r.log w = record { node = root.0; map = root.1; key = is_key; level = omega arith; path = root.2; since = since } in
    let t = r.ordered.seats id v at_me live in
    let timely : IsTimely r.shape r.log r.ordered.entry_times r.ordered.times (max r.ordered.clock before) (standing (at_time v before) (Some w) v.leaf) = record {
      owns = t.owns;
      told = λ x is. omega arith;
      since = λ x n later is from at. at_the_end k s r (at_time v before) n later (subst (λ (z : Walk). time r.shape r.log z.node ≤ n → length r.log ≤ n) (same_Some w x is) (subst (λ o. till o (length r.log) ≤ n → length r.log ≤ n) (sym root.3) (λ up. up)) from) at;
    } in (
      standing (at_time v before) (Some w) v.leaf,
      keeps,
      tt,
      subst (λ ws. Kept k record { words = ws; homes = s.homes; views = set s.views id (standing (at_time v before) (Some w) v.leaf) }) (sym (set-get_or s.words (root_word k m) 0))
          (kept_entering k s r id v at_me live (Some w) v.leaf
          (λ u e. subst (Walks k r.shape r.log) (same_Some w u e) walks)
          (λ u e inside. inl (subst (λ (x : Walk). r.shape.cut_of x.node ≡ None) (same_Some w u e) root.3))
          (λ l e. absurd (none-some l (sym no_leaf ∙ e))) before (max r.ordered.clock before) (omega arith) timely),
      (refl, refl, has_words k v p 18 r.begin begin node.within (omega arith)),
    )

-- a seat reads the slot of its key in the node where it stands
module _ (k : Begin) (laws : HistoryLaws) (id : ℕ) (me : Me (Unit {0}) View) (w : Walk) (slot : ℕ) (live : me.0.live ≡ true) (begin : me.0.begin ≡ k) (own : Own) (owns : List Own) (is : me.0.owns ≡ own ∷ owns) (walks : me.0.walk ≡ Some w)
    (no_leaf : me.0.leaf ≡ None) (slot_is : slot ≡ nibble w.key k.seed w.level) (inside : slot < 16) (seen_is : w.since ≡ length me.0.seen) (call : MapCall ℕ) (on : IsOn w.key call) (pays : MayPay (cost_of call) own) (s : TableState) (r : Kept k s)
    (at_me : get_elem? s.views id ≡ some me.0) where
  abbrev word : ℕ
  word = slice_index s.words (slot_word w.node slot)

  at : Walks k r.shape r.log w
  at = (r.suits id me.0 at_me live).walk w walks

  abbrev Told : Slot → Type 0
  Told found = (u : View) × (a : Act (Unit {0})) × Valid s.homes me.1 a × Kept k (stepped s (slot_word w.node slot) (slice_index s.words (slot_word w.node slot)) id me.1 u a) × LooksIn call me found (u, carried_after me.1 a)

  -- the same, by the seat's view alone
  abbrev pub Found : Slot → Type 0
  Found found = (u : View) × Kept k record { words = s.words; homes = s.homes; views = set s.views id u } × FindsIn call w found me.0 u

  -- no word changed
  on_words : (u : View) → Kept k record { words = s.words; homes = s.homes; views = set s.views id u } → Kept k (stepped s (slot_word w.node slot) (slice_index s.words (slot_word w.node slot)) id me.1 u keeps)
  on_words u kept = subst (λ ws. Kept k record { words = ws; homes = s.homes; views = set s.views id u }) (sym (set-get_or s.words (slot_word w.node slot) 0)) kept

  told : (found : Slot) (u : View) → FindsIn call w found me.0 u → (z : Walk) → me.0.walk ≡ Some z → FindsIn call z found me.0 u
  told found u finds z e = subst (λ x. FindsIn call x found me.0 u) (same_Some w z (sym walks ∙ e)) finds

  abbrev until : ℕ
  until = time r.shape r.log w.node

  moment : time r.shape r.log w.node ≤ length r.log
  moment = by_cut (r.shape.cut_of w.node) refl
    where
      by_cut : (o : Option ℕ) → r.shape.cut_of w.node ≡ o → till o (length r.log) ≤ length r.log
      by_cut None e = le_refl (length r.log)
      by_cut (Some t) e = r.fine.cut w.node t at.node e

  from : length me.0.seen ≤ time r.shape r.log w.node
  from = let since = at.since in omega arith

  -- each entry from there on came past the clock that the seat's caller had reached
  fresh : (n later : ℕ) → until ≤ n → slice_get r.ordered.entry_times n ≡ Some later → me.0.time + 2 ≤ later
  fresh n later = (r.ordered.seats id me.0 at_me live).since w n later walks

  abbrev held_now : Option ℕ
  held_now = held_at k r.log (time r.shape r.log w.node) (r.shape.map_of w.node) w.key

  is_held : (held : Option ℕ) → held_now ≡ held → value_at (contents_at (start_of k) r.log until) w.map w.key ≡ held
  is_held held e = ap (λ m. held_at k r.log until m w.key) (sym at.map) ∙ e

  -- a call is answered by what its key has
  reply_is : (held : Option ℕ) → held_now ≡ held → IsReply (calls.Map w.map call) (replies.Map (key_reply call held)) (contents_at (start_of k) r.log (time r.shape r.log w.node))
  reply_is held e = ap (λ x. replies.Map x) (ap (key_reply call) (sym (is_held held e)) ∙ sym (laws.keys.replies call w.key (map_at (contents_at (start_of k) r.log until) w.map) on))

  quiet : (held : Option ℕ) → held_now ≡ held → is_key_entry call held ≡ false → false ≡ is_entry (calls.Map w.map call) (contents_at (start_of k) r.log (time r.shape r.log w.node))
  quiet held e off = sym off ∙ ap (is_key_entry call) (sym (is_held held e)) ∙ sym (laws.keys.entries call w.key (map_at (contents_at (start_of k) r.log until) w.map) on)

  -- the call isn't placed yet, or is answered
  abbrev StandsOrAnswers : Option ℕ → Option Leaf → Bool → View → Type 0
  StandsOrAnswers held leaf b u = MatchBool b (u ≡ standing me.0 me.0.walk leaf) (Answers w.map call (key_reply call held) 0 leaf me.0 u)

  settled : (held : Option ℕ) (leaf : Option Leaf) → held_now ≡ held → ((l : Leaf) → leaf ≡ Some l → IsLeaf r.shape s.words l) → (b : Bool) → is_key_entry call held ≡ b
      → (u : View) × Kept k record { words = s.words; homes = s.homes; views = set s.views id u } × StandsOrAnswers held leaf b u
  settled held leaf e leaves true off = let u = r.suits id me.0 at_me live in (standing me.0 me.0.walk leaf, kept_standing k s r id me.0 at_me live me.0.walk leaf u.walk u.steady leaves (timely_there k s r id me.0 at_me live leaf), refl)
  settled held leaf e leaves false off = (
    view_after k laws s r id me.0 at_me live own owns is w.map call pays (key_reply call held) until from moment fresh (reply_is held e) (quiet held e off) leaf leaves,
    kept_quiet k laws s r id me.0 at_me live own owns is w.map call pays (key_reply call held) until from moment fresh (reply_is held e) (quiet held e off) leaf leaves,
    answers k laws s r id me.0 at_me live own owns is w.map call pays (key_reply call held) until from moment fresh (reply_is held e) (quiet held e off) leaf leaves begin,
  )

  by_slot : (found : Slot) → slot_in word ≡ found → Shows s.words k.seed (IsBelow k r.shape r.log s.words w.node w.level w.key) w.level w.key held_now found → ((place : ℕ) → found ≡ Entry place → r.shape.kind_of place ≡ 2) → Found found
  by_slot Empty e shows entry =
      let t = settled None me.0.leaf shows (λ l e. absurd (none-some l (sym no_leaf ∙ e))) (is_key_entry call None) refl in
      (t.0, t.1, t.2)
  by_slot (Node node) e shows entry =
      let v = me.0 in
      let below = shows.1 in
      let there = walk_at w.map w.key node (suc w.level) w.since in
      let lies = r.fine.nodes node below.0 in
      let since : w.since ≤ time r.shape r.log node = subst (λ o. w.since ≤ till o (length r.log)) (sym below.3) at.since in
      let on_way : Walks k r.shape r.log there = record { node = below.0; map = below.1 ∙ at.map; key = at.key; level = shows.0; path = below.2; since = since } in
      let steady : v.gate ≡ Inside w.map → (r.shape.cut_of node ≡ None) ⊎ (slice_index s.words node ≡ dead_word) = (λ gate. elim ((r.suits id v at_me live).steady w walks gate) [
        | inl reachable ↦ inl (below.3 ∙ reachable)
        | inr dead ↦ absurd (let none_there = ap slot_in (r.fine.dead w.node slot at.node dead inside) in let same : Empty ≡ Node node = sym none_there ∙ e in (cc))
      ]) in
      let t = r.ordered.seats id v at_me live in
      let timely : IsTimely r.shape r.log r.ordered.entry_times r.ordered.times r.ordered.clock (standing v (Some there) v.leaf) = record {
        owns = t.owns;
        told = λ x is. t.told w walks;
        since = λ x n later is from at_n. t.since w n later walks (subst (λ o. till o (length r.log) ≤ n) below.3 (subst (λ (z : Walk). time r.shape r.log z.node ≤ n) (sym (same_Some there x is)) from)) at_n;
      } in (
        standing v (Some there) v.leaf,
        kept_standing k s r id v at_me live (Some there) v.leaf
            (λ u e. subst (Walks k r.shape r.log) (same_Some there u e) on_way)
            (λ u e gate. subst (λ (x : Walk). (r.shape.cut_of x.node ≡ None) ⊎ (slice_index s.words x.node ≡ dead_word)) (same_Some there u e) (steady (gate ∙ ap (λ (x : Walk). Inside x.map) (sym (same_Some there u e)))))
            (λ l e. absurd (none-some l (sym no_leaf ∙ e)))
            timely,
        (refl, has_words k v node 18 r.begin begin lies.within (omega arith), shows.0),
      )
  by_slot (Entry place) e shows entry =
      let v = me.0 in
      let kind = entry place refl in
      let lies = r.fine.leaves place kind in
      let l : Leaf = record { place = place; key = slice_index s.words place; value = slice_index s.words (place + 1) } in
      let t = settled (entry_value s.words place w.key) (Some l) shows.1 (λ z e. subst (IsLeaf r.shape s.words) (same_Some l z e) record { entry = kind; key = refl; value = refl }) (is_key_entry call (entry_value s.words place w.key)) refl in
      let along : IsAlong v.begin w l = subst (λ (b : Begin). IsAlong b w l) (sym begin) (lies.is_key, shows.0) in
      (t.0, t.1, (l, refl, along, has_words k v place 2 r.begin begin lies.within (omega arith), t.2))

  pub found_in : Found (slot_in (slice_index s.words (slot_word w.node slot)))
  found_in =
      let at_slot = r.fine.slots w.node w.level w.key at.node at.level at.key at.path in
      let same : slice_index s.words (slot_word w.node (nibble w.key k.seed w.level)) ≡ word = ap (λ n. slice_index s.words (slot_word w.node n)) (sym slot_is) in
      by_slot (slot_in word) refl
      (subst (λ n. Shows s.words k.seed (IsBelow k r.shape r.log s.words w.node w.level w.key) w.level w.key (held_at k r.log (time r.shape r.log w.node) (r.shape.map_of w.node) w.key) (slot_in n)) same at_slot.shows)
      (subst (λ n. (place : ℕ) → slot_in n ≡ Entry place → r.shape.kind_of place ≡ 2) same at_slot.entry)

  pub told_in : Told (slot_in (slice_index s.words (slot_word w.node slot)))
  told_in = let t = found_in in (t.0, keeps, tt, on_words t.0 t.1, (refl, told (slot_in word) t.0 t.2))

pub looks_in : (k : Begin) → HistoryLaws → (id : ℕ) (me : Me (Unit {0}) View) (w : Walk) (slot : ℕ) (call : MapCall ℕ) → me.0.live ≡ true → me.0.begin ≡ k → 0 < length me.0.owns → me.0.walk ≡ Some w → me.0.leaf ≡ None → slot ≡ nibble w.key k.seed w.level → slot < 16
    → w.since ≡ length me.0.seen → IsOn w.key call → Affords (cost_of call) me.0.owns → Allows (Kept k) 0 id me (slot_word w.node slot) (λ n. n) (λ found. LooksIn call me (slot_in found))
looks_in k laws id me w slot call live begin stands walks no_leaf slot_is inside seen_is on affords = by_owns me.0.owns refl
  where
    by_owns : (owns : List Own) → me.0.owns ≡ owns → Allows (Kept k) 0 id me (slot_word w.node slot) (λ n. n) (λ found. LooksIn call me (slot_in found))
    by_owns [] e = let none_there = ap length e in absurd (omega arith)
    by_owns (own ∷ owns) is = λ s r one at_me bounded. told_in k laws id me w slot live begin own owns is walks no_leaf slot_is inside seen_is call on (affords own (ap (λ o. slice_get o 0) is)) s r at_me

-- a seat reads the key of the entry that it knows
pub reads_key : (k : Begin) (id : ℕ) (me : Me (Unit {0}) View) (l : Leaf) → me.0.live ≡ true → me.0.leaf ≡ Some l → Allows (Kept k) 0 id me l.place (λ n. n) (ReadsKey me)
reads_key k id me l live knows = λ s r one at_me bounded.
    let u = r.suits id me.0 at_me live in (
      me.0,
      keeps,
      tt,
      subst (λ ws. Kept k record { words = ws; homes = s.homes; views = set s.views id me.0 }) (sym (set-get_or s.words l.place 0)) (kept_standing k s r id me.0 at_me live me.0.walk me.0.leaf u.walk u.steady u.leaf (timely_there k s r id me.0 at_me live me.0.leaf)),
      (refl, λ z e. (u.leaf l knows).key ∙ ap (λ (x : Leaf). x.key) (same_Some l z (sym knows ∙ e))),
    )

-- and its value
pub reads_value : (k : Begin) (id : ℕ) (me : Me (Unit {0}) View) (l : Leaf) → me.0.live ≡ true → me.0.leaf ≡ Some l → Allows (Kept k) 0 id me (l.place + 1) (λ n. n) (ReadsValue me)
reads_value k id me l live knows = λ s r one at_me bounded.
    let u = r.suits id me.0 at_me live in (
      standing me.0 me.0.walk None,
      keeps,
      tt,
      subst (λ ws. Kept k record { words = ws; homes = s.homes; views = set s.views id (standing me.0 me.0.walk None) }) (sym (set-get_or s.words (l.place + 1) 0))
          (kept_standing k s r id me.0 at_me live me.0.walk None u.walk u.steady (λ z e. absurd (none-some z e)) (timely_there k s r id me.0 at_me live None)),
      (refl, refl, λ z e. (u.leaf l knows).value ∙ ap (λ (x : Leaf). x.value) (same_Some l z (sym knows ∙ e))),
    )

pub keeps_value : (k : Begin) (id : ℕ) (me : Me (Unit {0}) View) (l : Leaf) → me.0.live ≡ true → me.0.leaf ≡ Some l → Allows (Kept k) 0 id me (l.place + 1) (λ n. n) (KeepsValue me)
keeps_value k id me l live knows = λ s r one at_me bounded.
    let u = r.suits id me.0 at_me live in (
      me.0,
      keeps,
      tt,
      subst (λ ws. Kept k record { words = ws; homes = s.homes; views = set s.views id me.0 }) (sym (set-get_or s.words (l.place + 1) 0)) (kept_standing k s r id me.0 at_me live me.0.walk me.0.leaf u.walk u.steady u.leaf (timely_there k s r id me.0 at_me live me.0.leaf)),
      (refl, λ z e. (u.leaf l knows).value ∙ ap (λ (x : Leaf). x.value) (same_Some l z (sym knows ∙ e))),
    )
