-- What the steps that prune a node come to, one after the other.
use Rattle.std.proofs.Common.{◌≡◌, ◌≢◌, ℕ, suc, ◌+◌, ◌-◌, ◌<◌, ◌==◌, true, false, eq-eqb, ne_eqb, List, [], ◌∷◌, ◌++◌, length, set, Option, Some, None, slice_index, ◌⊎◌, inl, inr, refl, sym, ap, ◌∙◌, subst, arith, length-set, get_or-set_same, get_or-set_other, append_assoc}
use Rattle.std.proofs.lemmas.Bool.{cases_eq}
use Rattle.std.proofs.lemmas.Option.{same_Some}
use Rattle.atomic_table.specs.Table.{Me}
use Rattle.table_rule.specs.declared.begin.Begin.{Begin}
use Rattle.table_rule.specs.declared.view.CutNode.{CutNode}
use Rattle.table_rule.specs.declared.view.Lock.{Lock}
use Rattle.table_rule.specs.declared.view.View.{View}
use Rattle.table_rule.specs.Pruning.{having_cut, marked, upper_lock, SeesSlot, LooksAtSlot, ReadsParent, TriedUpper, HoldsBoth, Marks, CutsOff}
use Rattle.shared_table.specs.Pruning.{knowing, LooksAtSlots, HoldsAt, NowHolds, HoldsInUse, HoldsToStay}
use Rattle.trie_nodes.specs.Paths.{nibble}
use Rattle.trie_nodes.specs.Plans.{HasOnlyEmptySlots, HasAFullSlot}
use Rattle.table_rule.specs.Walking.{HasWords}
use Rattle.table_rule.specs.Writing.{holding, Holds}

-- a seat has looked at so many slots of the node whose lock it holds, all of them empty, and has these words of the node
pub record LooksOn (first me : Me (Unit {0}) View) (words : List ℕ) (slot : ℕ) : Type 0 where
  pub long : length words ≡ 18
  pub seat : (z : Lock) → first.0.lock ≡ Some z → me ≡ (holding first.0 first.0.gate (Some (knowing z slot z.found)) None, first.1)
  pub zeros : (i : ℕ) → i < slot → slice_index words (2 + i) ≡ 0
  pub parent : (z : Lock) → first.0.lock ≡ Some z → slice_index words 1 ≡ z.up
  pub above : (z : Lock) → first.0.lock ≡ Some z → 0 < z.level → (0 < slice_index words 1) × HasWords first.0 (slice_index words 1) 18

module _ (k : Begin) (first : Me (Unit {0}) View) (node : ℕ) (lock : (l : Lock) × (l.node ≡ node) × (l.empty ≡ 0) × Holds k first l) (words : List ℕ) where
  held : Holds k first lock.0
  held = lock.3

  pub looks_first : (found : ℕ) (me : Me (Unit {0}) View) → ReadsParent first found me → length words ≡ 18 → slice_index words 1 ≡ found → LooksOn first me words 0
  looks_first found me read long at = record {
    long = long;
    seat = λ z is. let same = same_Some lock.0 z (sym held.lock ∙ is) in
        read.0 ∙ (λ i. (holding first.0 first.0.gate ((held.lock ∙ ap (λ n. Some (knowing lock.0 n lock.0.found)) lock.2 ∙ ap (λ y. Some (knowing y 0 y.found)) same) i) (held.upper i), first.1));
    zeros = λ i below. absurd (omega arith);
    parent = λ z is. at ∙ (read.1 z is).0;
    above = λ z is deep. subst (λ n. (0 < n) × HasWords first.0 n 18) (sym at) ((read.1 z is).1 deep);
  }

  module _ (me : Me (Unit {0}) View) (slot : ℕ) (on : LooksOn first me words slot) where
    seat_is : me ≡ (holding first.0 first.0.gate (Some (knowing lock.0 slot lock.0.found)) None, first.1)
    seat_is = on.seat lock.0 held.lock

    -- it holds the lock still
    pub looks_lock : (l : Lock) × (l.node ≡ node) × (l.empty ≡ slot) × Holds k me l
    looks_lock = (
      knowing lock.0 slot lock.0.found,
      lock.1,
      refl,
      subst (λ m. Holds k m (knowing lock.0 slot lock.0.found)) (sym seat_is) record { live = held.live; begin = held.begin; some = held.some; lock = refl; upper = refl; living = held.living },
    )

    pub looks_words : HasWords first.0 node 18 → HasWords me.0 node 18
    looks_words has = subst (λ (m : Me (Unit {0}) View). HasWords m.0 node 18) (sym seat_is) has

    module _ (word : ℕ) (after : Me (Unit {0}) View) (looked : LooksAtSlot me word after) (below : slot < 16) where
      told : SeesSlot (knowing lock.0 slot lock.0.found) word (word == 0) me after
      told = looked (knowing lock.0 slot lock.0.found) (ap (λ (m : Me (Unit {0}) View). m.0.lock) seat_is)

      abbrev pub more : List ℕ
      more = set words (2 + slot) word

      parent_stays : slice_index (set words (2 + slot) word) 1 ≡ slice_index words 1
      parent_stays = get_or-set_other words (2 + slot) 1 word 0 (λ e. absurd (omega arith))

      -- one more slot is empty
      pub looks_next : word ≡ 0 → LooksOn first after (set words (2 + slot) word) (slot + 1)
      looks_next zero_word =
          let t = subst (λ b. SeesSlot (knowing lock.0 slot lock.0.found) word b me after) (eq-eqb word 0 zero_word) told in
          let n : suc slot ≡ slot + 1 = omega arith in
          let long = on.long in record {
            long = length-set words (2 + slot) word ∙ on.long;
            seat = λ z is. let same = same_Some lock.0 z (sym held.lock ∙ is) in
                (λ i. (t.1 i, t.0 i)) ∙ (λ i. (holding (seat_is i).0 (seat_is i).0.gate (Some (knowing lock.0 (n i) lock.0.found)) None, (seat_is i).1)) ∙ ap (λ y. (holding first.0 first.0.gate (Some (knowing y (slot + 1) y.found)) None, first.1)) same;
            zeros = λ i less. elim (cases_eq i slot) [
              | inl last ↦ ap (λ m. slice_index (set words (2 + slot) word) (2 + m)) last ∙ get_or-set_same words (2 + slot) word 0 (omega arith) ∙ zero_word
              | inr ne ↦ get_or-set_other words (2 + slot) (2 + i) word 0 (λ e. absurd (ne (omega arith))) ∙ on.zeros i (omega arith)
            ];
            parent = λ z is. parent_stays ∙ on.parent z is;
            above = λ z is deep. subst (λ n. (0 < n) × HasWords first.0 n 18) (sym parent_stays) (on.above z is deep);
          }

      -- this one isn't
      pub looks_full : word ≢ 0 → (z : Lock) → first.0.lock ≡ Some z → LooksAtSlots z (set words (2 + slot) word) first after
      looks_full full z is =
          let t = subst (λ b. SeesSlot (knowing lock.0 slot lock.0.found) word b me after) (ne_eqb word 0 full) told in
          let same = same_Some lock.0 z (sym held.lock ∙ is) in
          let there = seat_is in
          let long = on.long in record {
            slots = t.0 ∙ ap (λ (m : Me (Unit {0}) View). m.1) there;
            empty = slot;
            found = Some (slot, word);
            is = t.1 ∙ (λ i. holding (there i).0 (there i).0.gate (Some (knowing (same i) slot (Some (slot, word)))) None);
            all = λ empty. absurd (full (sym (get_or-set_same words (2 + slot) word 0 (omega arith)) ∙ empty slot below));
            full = λ has. (slot, word, refl, full);
            parent = parent_stays ∙ on.parent z is;
            above = λ deep. subst (λ n. (0 < n) × HasWords first.0 n 18) (sym parent_stays) (on.above z is deep);
          }

-- it has looked at all of them
pub looks_all : (first me : Me (Unit {0}) View) (words : List ℕ) (slot : ℕ) → LooksOn first me words slot → slot ≡ 16 → (z : Lock) → first.0.lock ≡ Some z → LooksAtSlots z words first me
looks_all first me words slot on last z is =
    let there = on.seat z is in record {
      slots = ap (λ (m : Me (Unit {0}) View). m.1) there;
      empty = slot;
      found = z.found;
      is = ap (λ (m : Me (Unit {0}) View). m.0) there;
      all = λ empty. (last, refl);
      full = λ has. absurd (has.2 (on.zeros has.0 (let below = has.1 in omega arith)));
      parent = on.parent z is;
      above = on.above z is;
    }

-- one node, from the look at its slots to the emptied slot of its parent
module _ (k : Begin) (first : Me (Unit {0}) View) (key node level : ℕ) (holds : HoldsAt k first key node level) where
  abbrev pub l : Lock
  l = holds.lock

  locked : first.0.lock ≡ Some l
  locked = holds.holds.lock

  -- the seat holds these locks, and else has what it had
  abbrev pub With : Lock → Option Lock → Me (Unit {0}) View
  With lock upper = (holding first.0 first.0.gate (Some lock) upper, first.1)

  pub holds_lock : (z : Lock) × (z.node ≡ node) × (z.empty ≡ 0) × Holds k first z
  holds_lock = (holds.lock, holds.at.1, holds.fresh, holds.holds)

  pub stays_there : (words : List ℕ) (me : Me (Unit {0}) View) → ((z : Lock) → first.0.lock ≡ Some z → LooksAtSlots z words first me) → NowHolds node [] first me
  stays_there words me looked = let t = looked l locked in record { slots = t.slots; lock = knowing l t.empty t.found; node_is = holds.at.1; living = holds.holds.living; is = t.is; words = holds.words }

  -- it stays since it isn't empty: its parent's place isn't 0
  pub in_use : (words : List ℕ) (me : Me (Unit {0}) View) → ((z : Lock) → first.0.lock ≡ Some z → LooksAtSlots z words first me) → 0 < level → HasAFullSlot words ⊎ (slice_index words 1 ≡ 0) → HoldsInUse me.0
  in_use words me looked deep why =
      let t = looked l locked in
      let level_is = holds.at.2 in (
        knowing l t.empty t.found,
        ap (λ (v : View). v.lock) t.is,
        elim why [
          | inl full ↦ t.full full
          | inr none ↦ absurd (let some = (t.above (omega arith)).0 in omega arith)
        ],
      )

  abbrev pub Looked : Me (Unit {0}) View → Type 0
  Looked me = me ≡ With (knowing holds.lock 16 holds.lock.found) None

  abbrev pub Taken : Me (Unit {0}) View → Type 0
  Taken me = (up : ℕ) × (me ≡ With (knowing holds.lock 16 holds.lock.found) (Some (upper_lock holds.lock up)))

  abbrev pub Marked : Me (Unit {0}) View → Type 0
  Marked me = (up : ℕ) × (me ≡ With (marked (knowing holds.lock 16 holds.lock.found)) (Some (upper_lock holds.lock up)))

  abbrev pub Cut : Me (Unit {0}) View → Type 0
  Cut me = (up : ℕ) × (d : CutNode) × (d.node ≡ holds.lock.node) × (me ≡ (having_cut (holding first.0 first.0.gate (Some (upper_lock holds.lock up)) None) (d ∷ []), first.1))

  module _ (words : List ℕ) (me : Me (Unit {0}) View) (looked : (z : Lock) → first.0.lock ≡ Some z → LooksAtSlots z words first me) (empty : HasOnlyEmptySlots words) where
    pub is_looked : Looked me
    is_looked = let t = looked l locked in let e = t.all empty in (λ i. (t.is i, t.slots i)) ∙ (λ i. With (knowing l (e.0 i) (e.1 i)) None)

    pub parent_is : slice_index words 1 ≡ holds.lock.up
    parent_is = (looked l locked).parent

    pub parent_words : 0 < level → HasWords first.0 (slice_index words 1) 18
    parent_words deep = let level_is = holds.at.2 in ((looked l locked).above (omega arith)).1

  module _ (deep : 0 < level) where
    same_level : holds.lock.level ≡ level
    same_level = holds.at.2

    pub may_take : (me : Me (Unit {0}) View) (parent : ℕ) → Looked me → parent ≡ holds.lock.up → (z : Lock) × (z.up ≡ parent) × (0 < z.level) × Holds k me z
    may_take me parent is up = let level_is = same_level in let h = holds.holds in (
      knowing l 16 l.found,
      sym up,
      omega arith,
      subst (λ m. Holds k m (knowing l 16 l.found)) (sym is) record { live = h.live; begin = h.begin; some = h.some; lock = refl; upper = refl; living = h.living },
    )

    pub is_taken : (me after : Me (Unit {0}) View) → Looked me → ((z : Lock) → me.0.lock ≡ Some z → TriedUpper z true me after) → Taken after
    is_taken me after is tried = let t = subst (λ m. TriedUpper (knowing l 16 l.found) true m after) is (tried (knowing l 16 l.found) (ap (λ (m : Me (Unit {0}) View). m.0.lock) is)) in (t.1.0, λ i. (t.1.1 i, t.0 i))

    both : (up : ℕ) → HoldsBoth k (With (knowing holds.lock 16 holds.lock.found) (Some (upper_lock holds.lock up))) (knowing holds.lock 16 holds.lock.found) (upper_lock holds.lock up) false
    both up = let level_is = same_level in let h = holds.holds in record {
      live = h.live;
      begin = h.begin;
      some = h.some;
      lock = refl;
      upper = refl;
      empty = refl;
      marked_is = h.living;
      living = refl;
      above = refl;
      key = refl;
      level = omega arith;
    }

    pub may_mark_it : (me : Me (Unit {0}) View) → Taken me → (a : Lock) × (b : Lock) × (a.node ≡ node) × HoldsBoth k me a b false
    may_mark_it me (up, is) = (knowing l 16 l.found, upper_lock l up, holds.at.1, subst (λ m. HoldsBoth k m (knowing l 16 l.found) (upper_lock l up) false) (sym is) (both up))

    pub is_marked : (me after : Me (Unit {0}) View) → Taken me → Marks me after → Marked after
    is_marked me after (up, is) told = let t = subst (λ m. Marks m after) is told in let e = t.1 (knowing l 16 l.found) refl in (up, λ i. (e i, t.0 i))

    pub may_cut_it : (me : Me (Unit {0}) View) (seed parent slot : ℕ) → Marked me → parent ≡ holds.lock.up → slot ≡ nibble key seed (level - 1) → (a : Lock) × (b : Lock) × (b.node ≡ parent) × (slot ≡ nibble b.key seed b.level) × HoldsBoth k me a b true
    may_cut_it me seed parent slot (up, is) parent_is slot_is = let b = both up in (
      marked (knowing l 16 l.found),
      upper_lock l up,
      sym parent_is,
      slot_is ∙ (λ i. nibble (sym holds.at.0 i) seed (sym same_level i - 1)),
      subst (λ m. HoldsBoth k m (marked (knowing l 16 l.found)) (upper_lock l up) true) (sym is) record {
        live = b.live;
        begin = b.begin;
        some = b.some;
        lock = refl;
        upper = refl;
        empty = refl;
        marked_is = refl;
        living = refl;
        above = refl;
        key = refl;
        level = b.level;
      },
    )

    pub is_cut : (me after : Me (Unit {0}) View) → Marked me → CutsOff me after → Cut after
    is_cut me after (up, is) told = let t = subst (λ m. CutsOff m after) is told in let e = t.1 (marked (knowing l 16 l.found)) (upper_lock l up) refl refl in (up, e.0, e.1.node, λ i. (e.2 i, t.0 i))

    pub comes_up : (me : Me (Unit {0}) View) (parent : ℕ) → Cut me → parent ≡ holds.lock.up → HasWords first.0 parent 18 → (d : CutNode) × (d.node ≡ node) × NowHolds parent (d ∷ []) first me × HoldsAt k me key parent (level - 1)
    comes_up me parent (up, d, node_is, is) parent_is has = let h = holds.holds in (
      d,
      node_is ∙ holds.at.1,
      record { slots = ap (λ (m : Me (Unit {0}) View). m.1) is; lock = upper_lock l up; node_is = sym parent_is; living = refl; is = ap (λ (m : Me (Unit {0}) View). m.0) is; words = has },
      subst (λ m. HoldsAt k m key parent (level - 1)) (sym is) record {
        lock = upper_lock l up;
        at = (holds.at.0, sym parent_is, ap (λ n. n - 1) same_level);
        fresh = refl;
        holds = record { live = h.live; begin = h.begin; some = h.some; lock = refl; upper = refl; living = refl };
        words = has;
      },
    )

-- a seat that goes on from where it came to
pub comes_on : (node next : ℕ) (cut more : List CutNode) (first me after : Me (Unit {0}) View) → NowHolds node cut first me → NowHolds next more me after → NowHolds next (more ++ cut) first after
comes_on node next cut more first me after one two = record {
  slots = two.slots ∙ one.slots;
  lock = two.lock;
  node_is = two.node_is;
  living = two.living;
  is = two.is ∙ ap (λ v. having_cut (holding v v.gate (Some two.lock) None) more) one.is ∙ (λ i. record (holding first.0 first.0.gate (Some two.lock) None) { cut = sym (append_assoc more cut first.0.cut) i });
  words = subst (λ v. HasWords v next 18) one.is two.words;
}

pub comes_first : (k : Begin) (first : Me (Unit {0}) View) (key node level : ℕ) → HoldsAt k first key node level → NowHolds node [] first first
comes_first k first key node level holds = record {
  slots = refl;
  lock = holds.lock;
  node_is = holds.at.1;
  living = holds.holds.living;
  is = λ i. record first.0 { lock = holds.holds.lock i; upper = holds.holds.upper i };
  words = holds.words;
}

-- it came to a root
pub stays_root : (k : Begin) (me : Me (Unit {0}) View) (key node level : ℕ) → HoldsAt k me key node level → level ≡ 0 → HoldsToStay me.0
stays_root k me key node level holds top = (holds.lock, holds.holds.lock, inl (holds.at.2 ∙ top))

pub stays_in_use : (v : View) → HoldsInUse v → HoldsToStay v
stays_in_use v (l, is, used) = (l, is, inr used)
