-- What a seat sees under a lock, and what it leaves there.
use Rattle.std.proofs.Common.{◌≡◌, ℕ, suc, ◌+◌, ◌*◌, ◌^◌, ◌<◌, ◌≤◌, Bool, true, false, MatchBool, List, Option, Some, None, slice_get, refl, sym, ap, ◌∙◌, subst}
use Rattle.std.proofs.lemmas.Option.{none-some, same_Some}
use Rattle.atomic_table.specs.Table.{Me}
use Rattle.sync_model.specs.declared.item.SharedCall.TheVariants as calls
use Rattle.sync_model.specs.declared.item.SharedReply.TheVariants as replies
use Rattle.sync_types.specs.declared.map_object.MapCall.{MapCall}
use Rattle.sync_types.specs.SequentialMap.{map_key}
use Rattle.sync_model.specs.Shared.{Called, cost_of}
use Rattle.table_rule.specs.declared.begin.Begin.{Begin}
use Rattle.table_rule.specs.declared.view.Leaf.{Leaf}
use Rattle.table_rule.specs.declared.view.Lock.{Lock}
use Rattle.table_rule.specs.declared.view.Own.{Own}
use Rattle.table_rule.specs.declared.view.View.{View}
use Rattle.table_rule.specs.declared.view.Walk.{Walk}
use Rattle.sync_types.specs.KeyCalls.{is_key_entry, key_reply}
use Rattle.trie_nodes.specs.declared.slot.Slot.{Slot}
use Rattle.trie_nodes.specs.declared.slot.Slot.TheVariants.{Empty, Node, Entry}
use Rattle.trie_nodes.specs.Layout.{unit_words}
use Rattle.trie_nodes.specs.Paths.{nibble, route}
use Rattle.trie_nodes.specs.Slots.{slot_in}
use Rattle.table_rule.specs.Layout.{size_of}
use Rattle.table_rule.specs.Making.{leaf_value, HasLeaf, found_lock, Makes, bare, Publishes, StandsLocked, FindsHeld, HasUnit}
use Rattle.shared_table.specs.Drafts.{IsPoised}
use Rattle.shared_table.specs.MapCalls.{StillLocked, IsPoisedAt, MadeLocked}
use Rattle.table_rule.specs.Shape.{start_of}
use Rattle.table_rule.specs.Values.{HasSmallValues}
use Rattle.table_rule.specs.Views.{MayPay, view_state}
use Rattle.table_rule.specs.Walking.{standing, walk_at, given_by, HasWords, Answers, IsAlong, Affords, AtEntry}
use Rattle.table_rule.specs.Writing.{holding, lock_at}
use Rattle.shared_table.proofs.Seeing.{looks_still}

-- a caller with a unit of room can pay
pub unit_pays : (owns : List Own) (next cost : ℕ) → HasUnit owns next → cost ≡ 1 → Affords cost owns
unit_pays owns next cost unit one = subst (λ c. Affords c owns) (sym one) (λ own at.
    let same : unit.0 ≡ own = same_Some unit.0 own (ap (λ o. slice_get o 0) (sym unit.2) ∙ at) in
    subst (MayPay 1) same (refl, unit.5, unit.3))

module _ (k : Begin) (me after : Me (Unit {0}) View) (call : MapCall ℕ) (m key node level next since up : ℕ) (on : map_key call ≡ Some key) (costs : cost_of call ≡ 1) (small : HasSmallValues call) (unit : HasUnit me.0.owns next) (stands : StandsLocked k me (walk_at m key node level since) up) where
  abbrev w : Walk
  w = walk_at m key node level since

  abbrev lock : ℕ → Lock
  lock word = found_lock (lock_at (walk_at m key node level since) up) (nibble key me.0.begin.seed level) word

  -- the seat after its look holds the lock alone
  settled : (mid : View) (word : ℕ) → after.0 ≡ holding mid mid.gate (Some (lock word)) None → mid.upper ≡ None → after.0 ≡ record mid { lock = Some (lock word) }
  settled mid word is alone = is ∙ (λ i. record mid { lock = Some (lock word); upper = sym alone i })

  -- the slot is a node's
  pub sees_below : (below : ℕ) → FindsHeld call (walk_at m key node level since) (lock_at (walk_at m key node level since) up) (nibble key me.0.begin.seed level) (Node below) me.0 after.0 → StillLocked node me.0 after.0
  sees_below below f =
      let e = f.finds.0 in record {
        walk = Some (walk_at m key below (suc level) since);
        leaf = me.0.leaf;
        lock = lock f.word;
        node_is = refl;
        living = refl;
        is = settled f.mid f.word f.is (ap (λ (z : View). z.upper) e ∙ stands.alone) ∙ ap (λ (z : View). record z { lock = Some (lock f.word) }) e;
      }

  -- the slot is empty, or has an entry
  module _ (found : Slot) (leaf : Option Leaf) (mid : View) (word : ℕ) (is : after.0 ≡ holding mid mid.gate (Some (lock word)) None) (slot_is : found ≡ slot_in word)
      (room : (own : Own) → slice_get me.0.owns 0 ≡ Some own → own.next + unit_words * own.spare ≤ size_of me.0.begin) (has : HasLeaf found leaf) (along : (e : Leaf) → leaf ≡ Some e → IsAlong me.0.begin (walk_at m key node level since) e)
      (places : (e : Leaf) → leaf ≡ Some e → HasWords me.0 e.place 2) where
    poised : mid ≡ standing me.0 me.0.walk leaf → is_key_entry call (leaf_value leaf key) ≡ true → IsPoisedAt k call m key node level next leaf me.0 after.0
    poised e entry =
        let whole : after.0 ≡ record me.0 { leaf = leaf; lock = Some (lock word) } = settled mid word is (ap (λ (z : View). z.upper) e ∙ stands.alone) ∙ ap (λ (z : View). record z { lock = Some (lock word) }) e in
        record {
          poised = subst (λ (z : View). IsPoised k z call m key node level next) (sym whole) record {
            own = unit.0;
            owns = unit.1;
            lock = lock word;
            found = found;
            at = (refl, refl, refl);
            sees = record {
              live = stands.live;
              begin = stands.begin;
              is = unit.2;
              locked = refl;
              living = refl;
              alone = stands.alone;
              inside = stands.inside;
              word = word;
              found_is = ap (λ (b : Begin). Some (nibble key b.seed level, word)) stands.begin;
              slot_is = slot_is;
              shows = has;
              along = λ l l_is. let a = along l l_is in (a.0, subst (λ (b : Begin). route b.seed (suc level) l.key ≡ route b.seed (suc level) key) stands.begin a.1);
              spare = unit.5;
              within = subst (λ (b : Begin). unit.0.next + unit_words * unit.0.spare ≤ size_of b) stands.begin (room unit.0 (ap (λ o. slice_get o 0) unit.2));
            };
            draft = unit.3;
            next_is = unit.4;
            on = on;
            costs = costs;
            is_entry = entry;
            values = small;
          };
          leaf_is = ap (λ (z : View). z.leaf) whole;
          lock = lock word;
          node_is = refl;
          living = refl;
          is = whole;
          places = λ l l_is. subst (λ (z : View). HasWords z l.place 2) (sym whole) (places l l_is);
        }

    made : Answers m call (key_reply call (leaf_value leaf key)) 0 leaf me.0 mid → MadeLocked m call key node level (key_reply call (leaf_value leaf key)) 0 me.0 after.0
    made a = record {
      leaf = leaf;
      lock = lock word;
      at = (refl, refl, refl);
      fresh = refl;
      living = refl;
      makes = record {
        item = a.item;
        time = a.time;
        seen = a.seen;
        is = settled mid word is (ap (λ (z : View). z.upper) a.is ∙ stands.alone) ∙ ap (λ (z : View). record z { lock = Some (lock word) }) a.is;
        called = subst (λ (z : View). Called (start_of me.0.begin) (calls.Map m call) (replies.Map (key_reply call (leaf_value leaf key))) (cost_of call) (view_state me.0) (view_state z)) (sym is) a.called;
        looks = looks_still mid after.0 mid.walk mid.leaf (Some (lock word)) None mid.gate mid.spot mid.cut is a.looks;
      };
    }

    pub sees_leaf : MatchBool (is_key_entry call (leaf_value leaf key)) (mid ≡ standing me.0 me.0.walk leaf) (Answers m call (key_reply call (leaf_value leaf key)) 0 leaf me.0 mid)
        → MatchBool (is_key_entry call (leaf_value leaf key)) (IsPoisedAt k call m key node level next leaf me.0 after.0) (MadeLocked m call key node level (key_reply call (leaf_value leaf key)) 0 me.0 after.0)
    sees_leaf = by_entry (is_key_entry call (leaf_value leaf key)) refl
      where
        by_entry : (b : Bool) → is_key_entry call (leaf_value leaf key) ≡ b → MatchBool b (mid ≡ standing me.0 me.0.walk leaf) (Answers m call (key_reply call (leaf_value leaf key)) 0 leaf me.0 mid)
            → MatchBool b (IsPoisedAt k call m key node level next leaf me.0 after.0) (MadeLocked m call key node level (key_reply call (leaf_value leaf key)) 0 me.0 after.0)
        by_entry true e t = poised t e
        by_entry false e t = made t

  abbrev Finds : Slot → Type 0
  Finds found = FindsHeld call (walk_at m key node level since) (lock_at (walk_at m key node level since) up) (nibble key me.0.begin.seed level) found me.0 after.0

  abbrev pub Sight : Option Leaf → Type 0
  Sight leaf = MatchBool (is_key_entry call (leaf_value leaf key)) (IsPoisedAt k call m key node level next leaf me.0 after.0) (MadeLocked m call key node level (key_reply call (leaf_value leaf key)) 0 me.0 after.0)

  pub sees_empty : Finds Empty → Sight None
  sees_empty f = sees_leaf Empty None f.mid f.word f.is f.is_slot f.room refl (λ e is. absurd (none-some e is)) (λ e is. absurd (none-some e is))
      (subst (λ o. MatchBool (is_key_entry call None) (f.mid ≡ standing me.0 me.0.walk o) (Answers m call (key_reply call None) 0 o me.0 f.mid)) stands.leaf f.finds)

  -- an entry is there, whose words the seat knows
  pub knows_entry : (place : ℕ) → Finds (Entry place) → AtEntry after place × HasWords after.0 place 2 × (after.0.begin ≡ k)
  knows_entry place f =
      let l = f.finds.0 in
      let t = by_entry l place f.mid (is_key_entry call (given_by l key)) f.finds.4 in (
        record { live = ap (λ (z : View). z.live) f.is ∙ t.0; entry = l; is = ap (λ (z : View). z.leaf) f.is ∙ t.1; place_is = f.finds.1 },
        subst (λ (b : Begin). (place + 2 ≤ size_of b) × (place < 2 ^ 32)) (sym (ap (λ (z : View). z.begin) f.is ∙ t.2)) f.finds.3,
        ap (λ (z : View). z.begin) f.is ∙ t.2 ∙ stands.begin,
      )
    where
      by_entry : (l : Leaf) (place : ℕ) (mid : View) (b : Bool) → MatchBool b (mid ≡ standing me.0 me.0.walk (Some l)) (Answers m call (key_reply call (given_by l key)) 0 (Some l) me.0 mid) → (mid.live ≡ true) × (mid.leaf ≡ Some l) × (mid.begin ≡ me.0.begin)
      by_entry l place mid true e = (ap (λ (z : View). z.live) e ∙ stands.live, ap (λ (z : View). z.leaf) e, ap (λ (z : View). z.begin) e)
      by_entry l place mid false a = (ap (λ (z : View). z.live) a.is ∙ stands.live, ap (λ (z : View). z.leaf) a.is, ap (λ (z : View). z.begin) a.is)

  entry_leaf : (place : ℕ) (f : Finds (Entry place)) → after.0.leaf ≡ Some f.finds.0
  entry_leaf place f = ap (λ (z : View). z.leaf) f.is ∙ by_entry (is_key_entry call (given_by f.finds.0 key)) f.finds.4
    where
      by_entry : (b : Bool) → MatchBool b (f.mid ≡ standing me.0 me.0.walk (Some f.finds.0)) (Answers m call (key_reply call (given_by f.finds.0 key)) 0 (Some f.finds.0) me.0 f.mid) → f.mid.leaf ≡ Some f.finds.0
      by_entry true e = ap (λ (z : View). z.leaf) e
      by_entry false a = ap (λ (z : View). z.leaf) a.is

  pub sees_entry : (place : ℕ) (e : Leaf) → Finds (Entry place) → after.0.leaf ≡ Some e → Sight (Some e)
  sees_entry place e f e_is =
      let l = f.finds.0 in
      let same : l ≡ e = same_Some l e (sym (entry_leaf place f) ∙ e_is) in
      subst (λ z. Sight (Some z)) same (sees_leaf (Entry place) (Some l) f.mid f.word f.is f.is_slot f.room (l, refl, f.finds.1)
      (λ z is. subst (IsAlong me.0.begin (walk_at m key node level since)) (same_Some l z is) f.finds.2)
      (λ z is. subst (λ (y : Leaf). HasWords me.0 y.place 2) (same_Some l z is) (subst (λ p. HasWords me.0 p 2) (sym f.finds.1) f.finds.3))
      f.finds.4)

-- a seat that did nothing sees the same
pub sight_same : (k : Begin) (call : MapCall ℕ) (m key node level next : ℕ) (leaf : Option Leaf) (v one two : View) → one ≡ two
    → MatchBool (is_key_entry call (leaf_value leaf key)) (IsPoisedAt k call m key node level next leaf v one) (MadeLocked m call key node level (key_reply call (leaf_value leaf key)) 0 v one)
    → MatchBool (is_key_entry call (leaf_value leaf key)) (IsPoisedAt k call m key node level next leaf v two) (MadeLocked m call key node level (key_reply call (leaf_value leaf key)) 0 v two)
sight_same k call m key node level next leaf v one two same sight =
    subst (λ z. MatchBool (is_key_entry call (leaf_value leaf key)) (IsPoisedAt k call m key node level next leaf v z) (MadeLocked m call key node level (key_reply call (leaf_value leaf key)) 0 v z)) same sight

-- a seat that published made its call under the lock
pub made_locked : (k : Begin) (call : MapCall ℕ) (m key node level next words : ℕ) (leaf : Option Leaf) (v : View) (w after : Me (Unit {0}) View) → IsPoisedAt k call m key node level next leaf v w.0 → Publishes m call words w after → MadeLocked m call key node level (key_reply call (leaf_value leaf key)) words v after.0
made_locked k call m key node level next words leaf v w after p told =
    let lock = p.lock in
    let locked : w.0.lock ≡ Some lock = ap (λ (z : View). z.lock) p.is in
    let same : p.poised.lock ≡ lock = same_Some p.poised.lock lock (sym p.poised.sees.locked ∙ locked) in
    let key_is : lock.key ≡ key = ap (λ (z : Lock). z.key) (sym same) ∙ p.poised.at.0 in
    let makes = subst (λ z. Makes m call (key_reply call (leaf_value w.0.leaf lock.key)) words None (Some (bare lock)) z after.0) p.is (told.1 lock locked) in
    let reply_is : key_reply call (leaf_value w.0.leaf lock.key) ≡ key_reply call (leaf_value leaf key) = (λ i. key_reply call (leaf_value (p.leaf_is i) (key_is i))) in record {
      leaf = None;
      lock = bare lock;
      at = (key_is, p.node_is, ap (λ (z : Lock). z.level) (sym same) ∙ p.poised.at.2);
      fresh = refl;
      living = p.living;
      makes = record {
        item = makes.item;
        time = makes.time;
        seen = makes.seen;
        is = makes.is;
        called = subst (λ z. Called (start_of v.begin) (calls.Map m call) (replies.Map z) (cost_of call) (view_state v) (view_state after.0)) reply_is makes.called;
        looks = makes.looks;
      };
    }

-- what is seen, where the call is an entry of the history, and where it isn't
pub sees_entry_there : (k : Begin) (call : MapCall ℕ) (m key node level next : ℕ) (leaf : Option Leaf) (held : Option ℕ) (v w : View) → held ≡ leaf_value leaf key → is_key_entry call held ≡ true
    → MatchBool (is_key_entry call (leaf_value leaf key)) (IsPoisedAt k call m key node level next leaf v w) (MadeLocked m call key node level (key_reply call (leaf_value leaf key)) 0 v w) → IsPoisedAt k call m key node level next leaf v w
sees_entry_there k call m key node level next leaf held v w same entry sight = subst (λ b. MatchBool b (IsPoisedAt k call m key node level next leaf v w) (MadeLocked m call key node level (key_reply call (leaf_value leaf key)) 0 v w)) (ap (is_key_entry call) (sym same) ∙ entry) sight

pub sees_answer : (k : Begin) (call : MapCall ℕ) (m key node level next : ℕ) (leaf : Option Leaf) (held : Option ℕ) (v w : View) → held ≡ leaf_value leaf key → is_key_entry call held ≡ false
    → MatchBool (is_key_entry call (leaf_value leaf key)) (IsPoisedAt k call m key node level next leaf v w) (MadeLocked m call key node level (key_reply call (leaf_value leaf key)) 0 v w) → MadeLocked m call key node level (key_reply call (leaf_value leaf key)) 0 v w
sees_answer k call m key node level next leaf held v w same entry sight = subst (λ b. MatchBool b (IsPoisedAt k call m key node level next leaf v w) (MadeLocked m call key node level (key_reply call (leaf_value leaf key)) 0 v w)) (ap (is_key_entry call) (sym same) ∙ entry) sight
