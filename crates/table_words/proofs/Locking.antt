-- The lock of a node is taken, and given back. Between the two its holder may rely on what it reads there.
use Rattle.std.proofs.Common.{◌≡◌, ◌≢◌, ℕ, zero, suc, ◌<◌, ◌==◌, Bool, true, false, cond, List, ◌∷◌, set, Some, None, slice_index, inl, inr, refl, sym, ap, ◌∙◌, subst, arith, ◌+◌}
use Rattle.std.proofs.lemmas.Bool.{eqb-true, cases_eq}
use Rattle.std.proofs.lemmas.Option.{none-some, same_Some}
use mathlib.Core.Option.{some}
use lib.ListN.{get_elem?}
use prog.Atomic.{either}
use Rattle.atomic_table.specs.Table.{Me, Act, keeps, Valid, stepped, carried_after, Allows}
use Rattle.table_rule.specs.declared.begin.Begin.{Begin}
use Rattle.table_rule.specs.declared.view.Gate.TheVariants.{Inside}
use Rattle.table_rule.specs.declared.view.Lock.{Lock}
use Rattle.table_rule.specs.declared.view.Own.{Own}
use Rattle.table_rule.specs.declared.view.View.{View}
use Rattle.table_rule.specs.declared.view.Walk.{Walk}
use Rattle.table_words.specs.Laws.{HistoryLaws}
use Rattle.trie_nodes.specs.Layout.{parent_word, slot_word, dead_word}
use Rattle.table_rule.specs.Making.{found_lock}
use Rattle.table_rule.specs.Owed.{Locks}
use Rattle.table_rule.specs.Rule.{TableState, Kept}
use Rattle.table_rule.specs.Layout.{callers_of}
use Rattle.table_rule.specs.Walking.{standing}
use Rattle.table_rule.specs.Writing.{holding, lock_at, IsWriter, TriedLock, TriesLock, Holds, Unlocks}
use Rattle.table_words.proofs.Holding.{with_holder, holder_of, other_holder}
use Rattle.table_words.proofs.LockWords.{IsReachable, not_dead, few, suits_held, kept_as, holds_taken, kept_taken, kept_knowing, kept_idle, by_first, knows_taken}
use Rattle.table_words.proofs.Still.{fits_holding, suits_nowhere, fits_nowhere, KnowsLocks, holds_none, holds_one}

-- a seat that holds no lock takes one
module _ (k : Begin) (laws : HistoryLaws) (s : TableState) (r : Kept k s) (id : ℕ) (v : View) (at_me : get_elem? s.views id ≡ some v) (live : v.live ≡ true) (own : Own) (owns : List Own) (is : v.owns ≡ own ∷ owns)
    (w : Walk) (walks : v.walk ≡ Some w) (inside : v.gate ≡ Inside w.map) (free : slice_index s.words w.node ≡ 0) (no_lock : v.lock ≡ None) (no_upper : v.upper ≡ None) where
  at : IsReachable k r.shape w.map w.node w.key w.level
  at = let u = r.suits id v at_me live in let stands = u.walk w walks in record {
    node = stands.node;
    map = stands.map;
    is_key = stands.key;
    level = stands.level;
    path = stands.path;
    live = elim (u.steady w walks inside) [ inl living ↦ living | inr dead ↦ absurd (let e : 0 ≡ dead_word = sym free ∙ dead in omega arith) ];
  }

  pub kept_locked : Kept k record { words = set s.words w.node (suc v.number); homes = s.homes; views = set s.views id (holding v v.gate (Some (lock_at w (slice_index s.words (parent_word w.node)))) None) }
  kept_locked = kept_taken k laws s r id v at_me live own owns is w.map w.node w.key w.level at free (Some (lock_at w (slice_index s.words (parent_word w.node)))) None
      (knows_taken k laws s r id v at_me live own owns is w.map w.node w.key w.level at free (Some (lock_at w (slice_index s.words (parent_word w.node)))) None
      (lock_at w (slice_index s.words (parent_word w.node)), inl refl, refl) (λ p h. absurd (holds_none v p no_lock no_upper h)))
      (holds_taken k laws s r id v at_me live own owns is w.map w.node w.key w.level at free inside) (λ z e. absurd (none-some z e))

pub tries_lock : (k : Begin) → HistoryLaws → (id : ℕ) (me : Me (Unit {0}) View) (w : Walk) → IsWriter k me w → Allows (Kept k) 0 id me w.node (λ n. either (n == 0) (suc me.0.number) n) (TriesLock w me)
tries_lock k laws id me w writer = by_first me (Allows (Kept k) 0 id me w.node (λ n. either (n == 0) (suc me.0.number) n) (TriesLock w me)) writer.some
    (λ own owns is s r one at_me bounded. by_found own owns is s r at_me (slice_index s.words w.node == 0) refl)
  where
    Told : TableState → Bool → Type 0
    Told s b = (u : View) × (a : Act (Unit {0})) × Valid s.homes me.1 a × Kept k (stepped s w.node (either b (suc me.0.number) (slice_index s.words w.node)) id me.1 u a) × TriedLock w b me (u, carried_after me.1 a)

    by_found : (own : Own) (owns : List Own) → me.0.owns ≡ own ∷ owns → (s : TableState) (r : Kept k s) → get_elem? s.views id ≡ some me.0 → (b : Bool) → (slice_index s.words w.node == 0) ≡ b → Told s b
    by_found own owns is s r at_me false e = (me.0, keeps, tt, kept_idle k laws s r id me.0 at_me writer.live own owns is w.node, (refl, refl))
    by_found own owns is s r at_me true e = (
      holding me.0 me.0.gate (Some (lock_at w (slice_index s.words (parent_word w.node)))) None,
      keeps,
      tt,
      kept_locked k laws s r id me.0 at_me writer.live own owns is w writer.walk writer.gate (eqb-true (slice_index s.words w.node) 0 e) writer.lock writer.upper,
      (refl, (slice_index s.words (parent_word w.node), refl)),
    )

-- a seat that holds a lock knows what a slot of the node has
pub kept_found : (k : Begin) → HistoryLaws → (s : TableState) (r : Kept k s) (id : ℕ) (me : Me (Unit {0}) View) (l : Lock) (slot : ℕ) → Holds k me l → slot < 16 → get_elem? s.views id ≡ some me.0
    → Kept k record { words = s.words; homes = s.homes; views = set s.views id (holding me.0 me.0.gate (Some (found_lock l slot (slice_index s.words (slot_word l.node slot)))) None) }
kept_found k laws s r id me l slot held below at_me =
    by_first me (Kept k record { words = s.words; homes = s.homes; views = set s.views id (holding me.0 me.0.gate (Some (found_lock l slot (slice_index s.words (slot_word l.node slot)))) None) }) held.some
    (λ own owns is.
    let was = (r.suits id me.0 at_me held.live).lock l held.lock in
    let word = slice_index s.words (slot_word l.node slot) in
    let lock : Lock = found_lock l slot word in
    let locks : Locks k r.shape s.words me.0.number was.0 lock = record {
      node = was.2.node;
      map = was.2.map;
      key = was.2.key;
      level = was.2.level;
      path = was.2.path;
      reachable = was.2.reachable;
      mine = was.2.mine;
      word = was.2.word;
      parent = was.2.parent;
      found = λ at found e. let same = same_Some (slot, word) (at, found) e in (subst (λ n. n < 16) (ap (λ (p : ℕ × ℕ). p.0) same) below, subst (λ (p : ℕ × ℕ). slice_index s.words (slot_word l.node p.0) ≡ p.1) same refl);
      few = was.2.few;
      empty_so_far = was.2.empty_so_far;
    } in
    kept_knowing k laws s r id me.0 at_me held.live own owns is lock (λ p h. holds_one me.0 l p held.lock held.upper h) (λ z e. (was.0, was.1, subst (Locks k r.shape s.words me.0.number was.0) (same_Some lock z e) locks)))

-- a seat gives back the lock that it holds
pub unlocks : (k : Begin) → HistoryLaws → (id : ℕ) (me : Me (Unit {0}) View) (l : Lock) → Holds k me l → Allows (Kept k) 0 id me l.node (λ n. 0) (λ found. Unlocks me 0)
unlocks k laws id me l held = by_first me (Allows (Kept k) 0 id me l.node (λ n. 0) (λ found. Unlocks me 0)) held.some
    (λ own owns is s r one at_me bounded.
    let v = me.0 in
    let was = (r.suits id v at_me held.live).lock l held.lock in
    let node = was.2.node in
    let small = few k laws s r id v at_me held.live own owns is in
    let word : slice_index s.words l.node ≡ suc v.number = was.2.word ∙ ap (λ b. cond b dead_word (suc v.number)) held.living in
    let holds : 0 ≢ dead_word → zero ≡ 0 = (λ alive. refl) in
    let empty : 0 ≡ dead_word → (i : ℕ) → i < 16 → slice_index s.words (slot_word l.node i) ≡ 0 = (λ dead i below. absurd (not_dead 0 (omega arith) dead)) in
    let alive : slice_index s.words l.node ≢ dead_word = (λ dead. not_dead (suc v.number) small (sym word ∙ dead)) in
    let alone : (d : ℕ) → d ≢ v.number → (r.shape.held_by l.node ≢ suc d) × (0 ≢ suc d) = (λ d other. (λ mine. absurd (other (let e : suc v.number ≡ suc d = sym was.2.mine ∙ mine in omega arith)), λ e. absurd (omega arith))) in
    let knows : KnowsLocks v (with_holder r.shape l.node 0) v.gate None None = (λ p i o at reach now. elim (cases_eq p l.node) [
      | inl e ↦ absurd (let z : 0 ≡ suc (v.number + i) = sym (holder_of r.shape l.node 0) ∙ ap (with_holder r.shape l.node 0).held_by (sym e) ∙ now in omega arith)
      | inr ne ↦ absurd (ne (sym (holds_one v l p held.lock held.upper ((r.suits id v at_me held.live).holder p i o at reach (sym (other_holder r.shape l.node 0 p ne) ∙ now)))))
    ]) in
    let free = suits_held k laws s r id v at_me held.live own owns is l.node 0 0 node holds empty (alive, was.2.reachable) alone None None knows (λ z e. absurd (none-some z e)) (λ z e. absurd (none-some z e)) in (
      standing (holding v v.gate None None) None None,
      keeps,
      tt,
      kept_as k laws s r id v at_me held.live own owns is l.node 0 0 node holds empty (alive, was.2.reachable) alone (standing (holding v v.gate None None) None None) held.live refl
          (fits_nowhere (callers_of k) r.log r.calls r.claim id (holding v v.gate None None) (fits_holding k laws s r id v at_me held.live own owns is v.gate None None))
          (suits_nowhere k (with_holder r.shape l.node 0) r.log r.calls (set s.words l.node 0) (holding v v.gate None None) free) refl (inl refl),
      (refl, refl),
    ))
