-- A seat looks at its key's slot under a lock: it finds what any look finds, and may rely on it.
use Rattle.std.proofs.Common.{◌≡◌, ℕ, zero, suc, ◌+◌, ◌*◌, ◌<◌, ◌≤◌, Bool, true, false, MatchBool, List, [], ◌∷◌, length, set, set-set, Option, Some, None, slice_get, slice_index, refl, sym, ap, ◌∙◌, subst, arith}
use Rattle.std.proofs.lemmas.List.{set-get_or}
use Rattle.std.proofs.lemmas.Option.{same_Some}
use mathlib.Core.Option.{some}
use lib.ListN.{get_elem?}
use Rattle.atomic_table.specs.Table.{Me, keeps, Allows}
use Rattle.sync_model.specs.declared.item.Item.{Item}
use Rattle.sync_types.specs.declared.map_object.MapCall.{MapCall}
use Rattle.sync_model.specs.Shared.{cost_of}
use Rattle.table_rule.specs.declared.begin.Begin.{Begin}
use Rattle.table_rule.specs.declared.view.Lock.{Lock}
use Rattle.table_rule.specs.declared.view.Own.{Own}
use Rattle.table_rule.specs.declared.view.View.{View}
use Rattle.table_rule.specs.declared.view.Walk.{Walk}
use Rattle.table_rule.specs.declared.view.Leaf.{Leaf}
use Rattle.sync_types.specs.KeyCalls.{is_key_entry, key_reply}
use Rattle.table_words.specs.Laws.{HistoryLaws}
use Rattle.trie_nodes.specs.declared.slot.Slot.{Slot}
use Rattle.trie_nodes.specs.declared.slot.Slot.TheVariants.{Empty, Node, Entry}
use Rattle.trie_nodes.specs.Layout.{slot_word, unit_words}
use Rattle.trie_nodes.specs.Paths.{nibble}
use Rattle.trie_nodes.specs.Slots.{slot_in}
use Rattle.table_rule.specs.Layout.{size_of}
use Rattle.table_rule.specs.Making.{found_lock, StandsLocked, FindsHeld, LooksHeld}
use Rattle.table_rule.specs.Rule.{TableState, Kept}
use Rattle.table_rule.specs.Views.{with_item, paid}
use Rattle.table_rule.specs.Walking.{standing, given_by, Answers, FindsIn, Settles, Affords}
use Rattle.table_rule.specs.Writing.{holding, lock_at, Holds}
use Rattle.table_words.proofs.KeyCalls.{IsOn}
use Rattle.table_words.proofs.Locking.{kept_found}
use Rattle.table_words.proofs.Lists.{set_here}
use Rattle.table_words.proofs.Lookups.{found_in}

-- what a look leaves to its seat
pub record Leaves (v u : View) : Type 0 where
  pub live : u.live ≡ v.live
  pub begin : u.begin ≡ v.begin
  pub lock : u.lock ≡ v.lock
  pub upper : u.upper ≡ v.upper
  pub gate : u.gate ≡ v.gate
  pub some : 0 < length v.owns → 0 < length u.owns

some_paid : (cost : ℕ) (owns : List Own) (x : Item) (time : ℕ) → 0 < length owns → 0 < length (paid cost 0 (with_item owns x time))
some_paid zero [] x time stands = stands
some_paid zero (own ∷ owns) x time stands = stands
some_paid (suc cost) [] x time stands = stands
some_paid (suc cost) (own ∷ owns) x time stands = stands

settles_leaves : (call : MapCall ℕ) (w : Walk) (held : Option ℕ) (leaf : Option Leaf) (v u : View) → Settles call w held leaf v u → Leaves v u
settles_leaves call w held leaf v u settles = by_entry (is_key_entry call held) settles
  where
    by_entry : (b : Bool) → MatchBool b (u ≡ standing v v.walk leaf) (Answers w.map call (key_reply call held) 0 leaf v u) → Leaves v u
    by_entry true e = record {
      live = ap (λ (z : View). z.live) e;
      begin = ap (λ (z : View). z.begin) e;
      lock = ap (λ (z : View). z.lock) e;
      upper = ap (λ (z : View). z.upper) e;
      gate = ap (λ (z : View). z.gate) e;
      some = λ stands. subst (λ (z : View). 0 < length z.owns) (sym e) stands;
    }
    by_entry false a = record {
      live = ap (λ (z : View). z.live) a.is;
      begin = ap (λ (z : View). z.begin) a.is;
      lock = ap (λ (z : View). z.lock) a.is;
      upper = ap (λ (z : View). z.upper) a.is;
      gate = ap (λ (z : View). z.gate) a.is;
      some = λ stands. subst (λ (z : View). 0 < length z.owns) (sym a.is) (some_paid (cost_of call) v.owns a.item a.time stands);
    }

pub leaves : (call : MapCall ℕ) (w : Walk) (found : Slot) (v u : View) → FindsIn call w found v u → Leaves v u
leaves call w Empty v u finds = settles_leaves call w None v.leaf v u finds
leaves call w (Node node) v u finds = let e = finds.0 in record {
  live = ap (λ (z : View). z.live) e;
  begin = ap (λ (z : View). z.begin) e;
  lock = ap (λ (z : View). z.lock) e;
  upper = ap (λ (z : View). z.upper) e;
  gate = ap (λ (z : View). z.gate) e;
  some = λ stands. subst (λ (z : View). 0 < length z.owns) (sym e) stands;
}
leaves call w (Entry place) v u finds = settles_leaves call w (given_by finds.0 w.key) (Some finds.0) v u finds.4

module _ (k : Begin) (laws : HistoryLaws) (id : ℕ) (me : Me (Unit {0}) View) (w : Walk) (up slot : ℕ) (call : MapCall ℕ) (stands : StandsLocked k me w up) (slot_is : slot ≡ nibble w.key k.seed w.level) (below : slot < 16) (on : IsOn w.key call) (affords : Affords (cost_of call) me.0.owns)
    (own : Own) (owns : List Own) (is : me.0.owns ≡ own ∷ owns) (s : TableState) (r : Kept k s) (at_me : get_elem? s.views id ≡ some me.0) where
  abbrev word : ℕ
  word = slice_index s.words (slot_word w.node slot)

  abbrev lock : Lock
  lock = found_lock (lock_at w up) slot word

  -- the view after the look alone
  looked : (u : View) × Kept k record { words = s.words; homes = s.homes; views = set s.views id u } × FindsIn call w (slot_in (slice_index s.words (slot_word w.node slot))) me.0 u
  looked = found_in k laws id me w slot stands.live stands.begin own owns is stands.walk stands.leaf slot_is below stands.since call on (affords own (ap (λ o. slice_get o 0) is)) s r at_me

  abbrev mid : View
  mid = looked.0

  left : Leaves me.0 mid
  left = leaves call w (slot_in word) me.0 mid looked.2

  holds : Holds k (mid, me.1) (lock_at w up)
  holds = record {
    live = left.live ∙ stands.live;
    begin = left.begin ∙ stands.begin;
    some = left.some stands.some;
    lock = left.lock ∙ stands.locked;
    upper = left.upper ∙ stands.alone;
    living = refl;
  }

  kept_after : Kept k record { words = s.words; homes = s.homes; views = set s.views id (holding mid mid.gate (Some lock) None) }
  kept_after = subst (λ vs. Kept k record { words = s.words; homes = s.homes; views = vs }) (set-set s.views id mid (holding mid mid.gate (Some lock) None))
      (kept_found k laws (record { words = s.words; homes = s.homes; views = set s.views id mid }) looked.1 id (mid, me.1) (lock_at w up) slot holds below (set_here s.views id me.0 mid at_me))

  room : (o : Own) → slice_get me.0.owns 0 ≡ Some o → o.next + unit_words * o.spare ≤ size_of me.0.begin
  room o at = subst (λ (b : Begin). o.next + unit_words * o.spare ≤ size_of b) (sym stands.begin) ((r.suits id me.0 at_me stands.live).room 0 o at).within

  pub held_now : (u : View) × Kept k record { words = s.words; homes = s.homes; views = set s.views id u } × FindsHeld call w (lock_at w up) slot (slot_in (slice_index s.words (slot_word w.node slot))) me.0 u
  held_now = (
    holding mid mid.gate (Some lock) None,
    kept_after,
    record { mid = mid; word = word; is_slot = refl; finds = looked.2; is = refl; room = room },
  )

-- the up of a lock
same_up : (w : Walk) (a b : ℕ) → Some (lock_at w a) ≡ Some (lock_at w b) → a ≡ b
same_up w a b e = ap (λ (l : Lock). l.up) (same_Some (lock_at w a) (lock_at w b) e)

pub looks_held : (k : Begin) → HistoryLaws → (id : ℕ) (me : Me (Unit {0}) View) (w : Walk) (up slot : ℕ) (call : MapCall ℕ) → StandsLocked k me w up → slot ≡ nibble w.key k.seed w.level → slot < 16 → IsOn w.key call → Affords (cost_of call) me.0.owns
    → Allows (Kept k) 0 id me (slot_word w.node slot) (λ n. n) (λ found. LooksHeld call me (slot_in found))
looks_held k laws id me w up slot call stands slot_is below on affords = by_owns me.0.owns refl
  where
    by_owns : (owns : List Own) → me.0.owns ≡ owns → Allows (Kept k) 0 id me (slot_word w.node slot) (λ n. n) (λ found. LooksHeld call me (slot_in found))
    by_owns [] e = let none_there = ap length e in let none_left = stands.some in absurd (omega arith)
    by_owns (own ∷ owns) is = λ s r one at_me bounded.
        let t = held_now k laws id me w up slot call stands slot_is below on affords own owns is s r at_me in
        let word = slice_index s.words (slot_word w.node slot) in (
          t.0,
          keeps,
          tt,
          subst (λ ws. Kept k record { words = ws; homes = s.homes; views = set s.views id t.0 }) (sym (set-get_or s.words (slot_word w.node slot) 0)) t.1,
          (
            refl,
            λ z up' walks locks.
                let same = same_Some w z (sym stands.walk ∙ walks) in
                let seed_is : slot ≡ nibble w.key me.0.begin.seed w.level = slot_is ∙ ap (λ (b : Begin). nibble w.key b.seed w.level) (sym stands.begin) in
                let up_is : up ≡ up' = same_up w up up' (sym stands.locked ∙ locks ∙ ap (λ y. Some (lock_at y up')) (sym same)) in
                subst (λ (y : Walk). FindsHeld call y (lock_at y up') (nibble y.key me.0.begin.seed y.level) (slot_in word) me.0 t.0) same
                (subst (λ (y : ℕ × ℕ). FindsHeld call w (lock_at w y.0) y.1 (slot_in word) me.0 t.0) (λ i. (up_is i, seed_is i)) t.2),
          ),
        )
