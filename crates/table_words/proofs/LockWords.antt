-- A writer changes the lock word of a node that nobody else holds: it takes the lock, marks the node dead, or gives the lock back.
use Rattle.std.proofs.Common.{◌≡◌, ◌≢◌, ℕ, suc, ◌+◌, ◌^◌, ◌<◌, ◌≤◌, true, false, List, [], ◌∷◌, length, set, Option, Some, None, slice_index, inl, inr, refl, sym, ap, ◌∙◌, subst, arith, ◌⊎◌, slice_get}
use Rattle.std.proofs.lemmas.Bool.{cases_eq}
use Rattle.std.proofs.lemmas.List.{set-get_or}
use Rattle.std.proofs.lemmas.Option.{none-some, same_Some}
use mathlib.Core.Option.{some}
use lib.ListN.{get_elem?}
use Rattle.atomic_table.specs.Table.{Me}
use Rattle.table_rule.specs.declared.begin.Begin.{Begin}
use Rattle.table_rule.specs.declared.view.Gate.{Gate}
use Rattle.table_rule.specs.declared.view.Gate.TheVariants.{Outside, Inside, Closed}
use Rattle.table_rule.specs.declared.view.Lock.{Lock}
use Rattle.table_rule.specs.declared.view.Own.{Own}
use Rattle.table_rule.specs.declared.view.View.{View}
use Rattle.table_words.specs.Laws.{HistoryLaws}
use Rattle.trie_nodes.specs.Layout.{parent_word, slot_word, dead_word}
use Rattle.trie_nodes.specs.Paths.{route}
use Rattle.table_rule.specs.Layout.{callers_of}
use Rattle.table_rule.specs.Ledger.{Fits}
use Rattle.table_rule.specs.Owed.{Locks, HoldsLock, AtGate, Suits}
use Rattle.table_rule.specs.Rule.{TableState, Kept}
use Rattle.table_rule.specs.Shape.{Shape}
use Rattle.table_rule.specs.Writing.{holding}
use Rattle.table_words.proofs.Frames.{Later}
use Rattle.table_words.proofs.Holding.{with_holder, holder_of, other_holder, here, behind, other_node, gates_hold, later_hold, apart_hold, fine_hold, room_hold}
use Rattle.table_words.proofs.Quiet.{later_same, apart_same, kept_standing, timely_there}
use Rattle.table_words.proofs.Unused.{node_word, no_word}
use Rattle.table_words.proofs.Still.{KnowsLocks, owned, still, fits_holding, suits_holding, own_times}

pub not_dead : (n : ℕ) → n < 2 ^ 32 → n ≢ dead_word
not_dead n below e = absurd (omega arith)

same_gate : (k : Begin) (sh : Shape) (node holder c : ℕ) (gate : Gate) → AtGate k sh c gate → AtGate k (with_holder sh node holder) c gate
same_gate k sh node holder c Outside at = at
same_gate k sh node holder c (Inside m) at = at
same_gate k sh node holder c (Closed m alone) at = at

-- a node of a map is reachable, by the path of a key
pub record IsReachable (k : Begin) (sh : Shape) (m p key d : ℕ) : Type 0 where
  pub node : sh.kind_of p ≡ 1
  pub map : sh.map_of p ≡ m
  pub is_key : key < 2 ^ 32
  pub level : d < 8
  pub path : sh.path_of p ≡ route k.seed d key
  pub live : sh.cut_of p ≡ None

-- the lock of a node of which nothing was read
abbrev pub fresh_lock : ℕ → ℕ → ℕ → ℕ → Lock
fresh_lock node up key level = record { node = node; up = up; key = key; level = level; found = None; empty = 0; dead = false }

module _ (k : Begin) (laws : HistoryLaws) (s : TableState) (r : Kept k s) (id : ℕ) (v : View) (at_me : get_elem? s.views id ≡ some v) (live : v.live ≡ true) (own : Own) (owns : List Own) (is : v.owns ≡ own ∷ owns) where
  pub few : suc v.number < 2 ^ 32
  few = let below = (owned k laws s r id v at_me live own owns is).below in let most = r.begin.callers in omega arith

  module _ (node x holder : ℕ) (is_node : r.shape.kind_of node ≡ 1) (holds : x ≢ dead_word → holder ≡ x) (empty : x ≡ dead_word → (i : ℕ) → i < 16 → slice_index s.words (slot_word node i) ≡ 0)
      (alive : (slice_index s.words node ≢ dead_word) × (r.shape.cut_of node ≡ None)) (alone : (d : ℕ) → d ≢ v.number → (r.shape.held_by node ≢ suc d) × (holder ≢ suc d)) where
    abbrev new : Shape
    new = with_holder r.shape node holder

    abbrev words : List ℕ
    words = set s.words node x

    later : Later r.shape (with_holder r.shape node holder) r.log r.log s.words (set s.words node x)
    later = later_hold k r.shape r.log s.words node x holder r.fine is_node holds empty alive.0 alive.1

    -- the lock of another node stays
    pub locks_off : (m : ℕ) (z : Lock) → z.node ≢ node → Locks k r.shape s.words v.number m z → Locks k (with_holder r.shape node holder) (set s.words node x) v.number m z
    locks_off m z ne was =
        let same : (i : ℕ) → z.node ≤ i → i < z.node + 18 → slice_index words i ≡ slice_index s.words i = λ i. other_node k r.shape r.log s.words node x holder r.fine is_node holds empty z.node i was.node ne in
        let few = was.few in record {
          node = was.node;
          map = was.map;
          key = was.key;
          level = was.level;
          path = was.path;
          reachable = was.reachable;
          mine = other_holder r.shape node holder z.node ne ∙ was.mine;
          word = same z.node (omega arith) (omega arith) ∙ was.word;
          parent = same (parent_word z.node) (omega arith) (omega arith) ∙ was.parent;
          found = λ slot word is. let f = was.found slot word is in let below = f.0 in (f.0, same (slot_word z.node slot) (omega arith) (omega arith) ∙ f.1);
          few = was.few;
          empty_so_far = λ slot below. same (slot_word z.node slot) (omega arith) (omega arith) ∙ was.empty_so_far slot below;
        }

    -- a word behind the lock word
    pub after_lock : (i : ℕ) → node < i → i < node + 18 → slice_index (set s.words node x) i ≡ slice_index s.words i
    after_lock i from to = behind k r.shape r.log s.words node x holder r.fine is_node holds empty node i is_node from to

    pub lock_word_is : slice_index (set s.words node x) node ≡ x
    lock_word_is = here k r.shape r.log s.words node x holder r.fine is_node holds empty

    pub suits_held : (lock upper : Option Lock) → KnowsLocks v (with_holder r.shape node holder) v.gate lock upper
        → ((z : Lock) → lock ≡ Some z → (m : ℕ) × (v.gate ≡ Inside m) × Locks k (with_holder r.shape node holder) (set s.words node x) v.number m z)
        → ((z : Lock) → upper ≡ Some z → (m : ℕ) × (v.gate ≡ Inside m) × Locks k (with_holder r.shape node holder) (set s.words node x) v.number m z)
        → Suits k (with_holder r.shape node holder) r.log r.calls (set s.words node x) (holding v v.gate lock upper)
    suits_held lock upper knows locks uppers = let u = r.suits id v at_me live in
        suits_holding k laws s r id v at_me live own owns is new words v.gate lock upper later
        (λ w e gate. elim (u.steady w e gate) [ inl living ↦ inl living | inr d ↦ inr (later.dead w.node (u.walk w e).node d) ])
        (λ i o e. room_hold k r.shape r.log s.words node x holder r.fine is_node holds empty (v.number + i) o (u.room i o e))
        (same_gate k r.shape node holder v.number v.gate u.gate)
        u.only knows u.closer locks uppers u.nobody

    -- the seat then knows this
    pub kept_as : (w : View) → w.live ≡ true → w.owns ≡ v.owns → Fits (callers_of k) r.log r.calls r.claim id w → Suits k (with_holder r.shape node holder) r.log r.calls (set s.words node x) w
        → w.number ≡ v.number → (w.walk ≡ None) ⊎ ((w.walk ≡ v.walk) × (w.time ≡ v.time)) → Kept k record { words = set s.words node x; homes = s.homes; views = set s.views id w }
    kept_as w alive same_owns fits suits same_number walks = still k laws s r id v at_me live own owns is new words w
        alive
        (node_word k new s.views id v w at_me alive same_owns s.words node node x is_node (omega arith) (omega arith))
        fits
        (fine_hold k r.shape r.log s.words node x holder r.fine is_node holds empty)
        (λ m below. gates_hold k r.shape r.log s.words node x holder r.fine is_node holds empty m below (r.gates m below))
        later
        (apart_hold k r.shape r.log s.words node x holder r.fine is_node holds empty v.number (λ d other. (alone d other).0) (λ d other. (alone d other).1))
        suits
        (λ i o at. ap (λ n. r.ordered.times (n + i)) same_number ∙ own_times k laws s r id v at_me live own owns is i o (ap (λ l. slice_get l i) (sym same_owns) ∙ at))
        walks

    -- its lock on this node is one of these, and those on others too
    pub knows_held : (lock upper : Option Lock) → HoldsLock (holding v v.gate lock upper) node → ((p : ℕ) → HoldsLock v p → HoldsLock (holding v v.gate lock upper) p) → KnowsLocks v (with_holder r.shape node holder) v.gate lock upper
    knows_held lock upper this others p i o at reach held = elim (cases_eq p node) [
      | inl e ↦ subst (HoldsLock (holding v v.gate lock upper)) (sym e) this
      | inr ne ↦ others p ((r.suits id v at_me live).holder p i o at reach (sym (other_holder r.shape node holder p ne) ∙ held))
    ]

    pub kept_held : (lock upper : Option Lock) → KnowsLocks v (with_holder r.shape node holder) v.gate lock upper
        → ((z : Lock) → lock ≡ Some z → (m : ℕ) × (v.gate ≡ Inside m) × Locks k (with_holder r.shape node holder) (set s.words node x) v.number m z)
        → ((z : Lock) → upper ≡ Some z → (m : ℕ) × (v.gate ≡ Inside m) × Locks k (with_holder r.shape node holder) (set s.words node x) v.number m z)
        → Kept k record { words = set s.words node x; homes = s.homes; views = set s.views id (holding v v.gate lock upper) }
    kept_held lock upper knows locks uppers = kept_as (holding v v.gate lock upper) live refl (fits_holding k laws s r id v at_me live own owns is v.gate lock upper) (suits_held lock upper knows locks uppers) refl (inr (refl, refl))

  -- the lock is free, and the seat takes it
  module _ (m node key level : ℕ) (at : IsReachable k r.shape m node key level) (free : slice_index s.words node ≡ 0) where
    not_dead_yet : slice_index s.words node ≢ dead_word
    not_dead_yet dead = absurd (let e : 0 ≡ dead_word = sym free ∙ dead in omega arith)

    living : (slice_index s.words node ≢ dead_word) × (r.shape.cut_of node ≡ None)
    living = (not_dead_yet, at.live)

    nobody_holds : (d : ℕ) → d ≢ v.number → (r.shape.held_by node ≢ suc d) × (suc v.number ≢ suc d)
    nobody_holds d other = (λ held. absurd (let e : 0 ≡ suc d = sym (r.fine.held node at.node not_dead_yet ∙ free) ∙ held in omega arith), λ e. other (omega arith))

    held_word_is : suc v.number ≢ dead_word → suc v.number ≡ suc v.number
    held_word_is alive = refl

    no_corpse : suc v.number ≡ dead_word → (i : ℕ) → i < 16 → slice_index s.words (slot_word node i) ≡ 0
    no_corpse dead i below = absurd (not_dead (suc v.number) few dead)

    locks_there : Locks k (with_holder r.shape node (suc v.number)) (set s.words node (suc v.number)) v.number m (fresh_lock node (slice_index s.words (parent_word node)) key level)
    locks_there = record {
      node = at.node;
      map = at.map;
      key = at.is_key;
      level = at.level;
      path = at.path;
      reachable = at.live;
      mine = holder_of r.shape node (suc v.number);
      word = lock_word_is node (suc v.number) (suc v.number) at.node held_word_is no_corpse living nobody_holds;
      parent = after_lock node (suc v.number) (suc v.number) at.node held_word_is no_corpse living nobody_holds (parent_word node) (omega arith) (omega arith);
      found = λ slot word e. absurd (none-some (slot, word) e);
      few = omega arith;
      empty_so_far = λ slot below. absurd (omega arith);
    }

    abbrev pub Holds : Option Lock → Type 0
    Holds lock = (z : Lock) → lock ≡ Some z → (n : ℕ) × (v.gate ≡ Inside n) × Locks k (with_holder r.shape node (suc v.number)) (set s.words node (suc v.number)) v.number n z

    -- it holds this lock, of which nothing was read
    pub holds_taken : v.gate ≡ Inside m → Holds (Some (fresh_lock node (slice_index s.words (parent_word node)) key level))
    holds_taken inside z e = (m, inside, subst (Locks k (with_holder r.shape node (suc v.number)) (set s.words node (suc v.number)) v.number m) (same_Some (fresh_lock node (slice_index s.words (parent_word node)) key level) z e) locks_there)

    -- and the lock of another node still
    pub holds_beside : (n : ℕ) (l : Lock) → v.gate ≡ Inside n → l.node ≢ node → Locks k r.shape s.words v.number n l → Holds (Some l)
    holds_beside n l inside ne was z e = (
      n,
      inside,
      subst (Locks k (with_holder r.shape node (suc v.number)) (set s.words node (suc v.number)) v.number n) (same_Some l z e)
          (locks_off node (suc v.number) (suc v.number) at.node held_word_is no_corpse living nobody_holds n l ne was),
    )

    pub knows_taken : (lock upper : Option Lock) → HoldsLock (holding v v.gate lock upper) node → ((p : ℕ) → HoldsLock v p → HoldsLock (holding v v.gate lock upper) p) → KnowsLocks v (with_holder r.shape node (suc v.number)) v.gate lock upper
    knows_taken = knows_held node (suc v.number) (suc v.number) at.node held_word_is no_corpse living nobody_holds

    pub kept_taken : (lock upper : Option Lock) → KnowsLocks v (with_holder r.shape node (suc v.number)) v.gate lock upper → Holds lock → Holds upper → Kept k record { words = set s.words node (suc v.number); homes = s.homes; views = set s.views id (holding v v.gate lock upper) }
    kept_taken = kept_held node (suc v.number) (suc v.number) at.node held_word_is no_corpse living nobody_holds

  -- the seat knows more of the node whose lock it holds, and nothing changes
  pub kept_knowing : (z : Lock) → ((p : ℕ) → HoldsLock v p → z.node ≡ p) → ((y : Lock) → Some z ≡ Some y → (m : ℕ) × (v.gate ≡ Inside m) × Locks k r.shape s.words v.number m y) → Kept k record { words = s.words; homes = s.homes; views = set s.views id (holding v v.gate (Some z) None) }
  kept_knowing z one locks = let u = r.suits id v at_me live in
      still k laws s r id v at_me live own owns is r.shape s.words (holding v v.gate (Some z) None) live (no_word k r.shape s.views id v (holding v v.gate (Some z) None) at_me live refl s.words) (fits_holding k laws s r id v at_me live own owns is v.gate (Some z) None)
      r.fine r.gates (later_same r.shape r.log s.words) (apart_same k v.number r.shape s.words)
      (suits_holding k laws s r id v at_me live own owns is r.shape s.words v.gate (Some z) None (later_same r.shape r.log s.words) u.steady u.room u.gate u.only
      (λ p i o at reach held. (z, inl refl, one p (u.holder p i o at reach held))) u.closer locks (λ y e. absurd (none-some y e)) u.nobody)
      (own_times k laws s r id v at_me live own owns is) (inr (refl, refl))

  -- nothing changes at all
  pub kept_idle : (word : ℕ) → Kept k record { words = set s.words word (slice_index s.words word); homes = s.homes; views = set s.views id v }
  kept_idle word = let u = r.suits id v at_me live in
      subst (λ ws. Kept k record { words = ws; homes = s.homes; views = set s.views id v }) (sym (set-get_or s.words word 0)) (kept_standing k s r id v at_me live v.walk v.leaf u.walk u.steady u.leaf (timely_there k s r id v at_me live v.leaf))

-- a seat that stands for a caller has a first one
pub by_first : (me : Me (Unit {0}) View) (P : Type 0) → 0 < length me.0.owns → ((own : Own) (owns : List Own) → me.0.owns ≡ own ∷ owns → P) → P
by_first me P stands each = by_owns me.0.owns refl
  where
    by_owns : (owns : List Own) → me.0.owns ≡ owns → P
    by_owns [] e = let none_there = ap length e in absurd (omega arith)
    by_owns (own ∷ owns) is = each own owns is

-- the map of a seat's gate is one
pub same_map : (m n : ℕ) → Inside m ≡ Inside n → m ≡ n
same_map m n e = ap map_in e
  where
    map_in : Gate → ℕ
    map_in Outside = 0
    map_in (Inside n) = n
    map_in (Closed n alone) = n
