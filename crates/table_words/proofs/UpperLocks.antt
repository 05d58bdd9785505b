-- A seat that holds a node's lock looks at the node's slots, takes the lock of the node's parent, and marks the node dead.
use Rattle.std.proofs.Common.{◌≡◌, ◌≢◌, ℕ, suc, ◌-◌, ◌<◌, ◌≤◌, ◌==◌, Bool, true, false, cond, Option, List, [], ◌∷◌, length, set, Some, None, slice_index, inl, inr, refl, sym, ap, ◌∙◌, subst, arith, ◌++◌, length-append}
use Rattle.std.proofs.lemmas.Bool.{cases_eq, eqb-true}
use Rattle.std.proofs.lemmas.List.{set-get_or}
use Rattle.std.proofs.lemmas.Option.{same_Some}
use mathlib.Core.Option.{some}
use lib.ListN.{get_elem?}
use prog.Atomic.{either}
use Rattle.atomic_table.specs.Table.{Me, Act, keeps, Valid, stepped, carried_after, Allows}
use Rattle.table_rule.specs.declared.begin.Begin.{Begin}
use Rattle.table_rule.specs.declared.view.Gate.TheVariants.{Inside}
use Rattle.table_rule.specs.declared.view.Lock.{Lock}
use Rattle.table_rule.specs.declared.view.Own.{Own}
use Rattle.table_rule.specs.declared.view.View.{View}
use Rattle.table_words.specs.Laws.{HistoryLaws}
use Rattle.trie_nodes.specs.Layout.{parent_word, slot_word, dead_word}
use Rattle.trie_nodes.specs.Paths.{nibble, route}
use Rattle.table_rule.specs.Owed.{Locks, Suits}
use Rattle.table_rule.specs.Making.{found_lock}
use Rattle.table_rule.specs.Pruning.{with_empty, upper_lock, marked, SeesSlot, TriedUpper, HoldsBoth}
use Rattle.table_rule.specs.Rule.{TableState, Kept}
use Rattle.table_rule.specs.Walking.{HasWords}
use Rattle.table_rule.specs.Writing.{holding, Holds}
use Rattle.table_words.proofs.Lookups.{has_words}
use Rattle.table_words.proofs.LockWords.{IsReachable, not_dead, few, locks_off, after_lock, lock_word_is, kept_held, holds_taken, holds_beside, kept_taken, kept_knowing, kept_idle, by_first, knows_taken, knows_held}
use Rattle.table_words.proofs.Holding.{with_holder, holder_of}
use Rattle.table_words.proofs.Still.{holds_one}

module _ (k : Begin) (laws : HistoryLaws) (s : TableState) (r : Kept k s) (id : ℕ) (v : View) (at_me : get_elem? s.views id ≡ some v) (live : v.live ≡ true) (own : Own) (owns : List Own) (is : v.owns ≡ own ∷ owns) where
  suits : Suits k r.shape r.log r.calls s.words v
  suits = r.suits id v at_me live

  -- the parent of a node below the root
  module _ (m : ℕ) (l : Lock) (was : Locks k r.shape s.words v.number m l) (deep : 0 < l.level) where
    level_is : l.level ≡ suc (l.level - 1)
    level_is = omega arith

    up_there : r.shape.node_at (r.shape.map_of l.node) (route k.seed (l.level - 1) l.key) ≡ Some l.up
    up_there = r.fine.parent l.node (l.level - 1) l.key was.node was.reachable was.key (was.path ∙ ap (λ n. route k.seed n l.key) level_is) ∙ ap (λ n. Some n) was.parent

    pub above : IsReachable k r.shape m l.up l.key (l.level - 1)
    above = let p = r.fine.live (r.shape.map_of l.node) (route k.seed (l.level - 1) l.key) l.up up_there in let level = was.level in record {
      node = p.0;
      map = p.1 ∙ was.map;
      is_key = was.key;
      level = omega arith;
      path = p.2;
      live = p.3;
    }

    pub above_words : v.begin ≡ k → HasWords v l.up 18
    above_words begin = let n = r.fine.nodes l.up above.node in has_words k v l.up 18 r.begin begin n.within (omega arith)

    -- place 0 is no node's
    pub above_some : 0 < l.up
    above_some = let n = r.fine.nodes l.up above.node in let lies = n.lies in omega arith

    -- it is another node
    pub above_other : l.node ≢ l.up
    above_other e =
        let same : route k.seed (l.level - 1) l.key ++ nibble l.key k.seed (l.level - 1) ∷ [] ≡ route k.seed (l.level - 1) l.key =
        ap (λ n. route k.seed n l.key) (sym level_is) ∙ sym was.path ∙ ap r.shape.path_of e ∙ above.path in
        let long = ap length same in
        omega (arith, length-append (route k.seed (l.level - 1) l.key) (nibble l.key k.seed (l.level - 1) ∷ []))

  -- it takes the parent's lock
  module _ (l : Lock) (locked : v.lock ≡ Some l) (deep : 0 < l.level) (free : slice_index s.words l.up ≡ 0) (no_upper : v.upper ≡ None) where
    was : (m : ℕ) × (v.gate ≡ Inside m) × Locks k r.shape s.words v.number m l
    was = suits.lock l locked

    at : IsReachable k r.shape was.0 l.up l.key (l.level - 1)
    at = above was.0 l was.2 deep

    abbrev pub up_of : ℕ
    up_of = slice_index s.words (parent_word l.up)

    pub kept_both : Kept k record { words = set s.words l.up (suc v.number); homes = s.homes; views = set s.views id (holding v v.gate (Some l) (Some (upper_lock l (slice_index s.words (parent_word l.up))))) }
    kept_both = kept_taken k laws s r id v at_me live own owns is was.0 l.up l.key (l.level - 1) at free (Some l) (Some (upper_lock l up_of))
        (knows_taken k laws s r id v at_me live own owns is was.0 l.up l.key (l.level - 1) at free (Some l) (Some (upper_lock l up_of))
        (upper_lock l up_of, inr refl, refl) (λ p h. (l, inl refl, holds_one v l p locked no_upper h)))
        (holds_beside k laws s r id v at_me live own owns is was.0 l.up l.key (l.level - 1) at free was.0 l was.1 (above_other was.0 l was.2 deep) was.2)
        (holds_taken k laws s r id v at_me live own owns is was.0 l.up l.key (l.level - 1) at free was.1)

  -- it marks a node dead whose slots are all empty
  module _ (l u : Lock) (locked : v.lock ≡ Some l) (upper : v.upper ≡ Some u) (empty : l.empty ≡ 16) (living : l.dead ≡ false) (other : u.node ≢ l.node) where
    held : (m : ℕ) × (v.gate ≡ Inside m) × Locks k r.shape s.words v.number m l
    held = suits.lock l locked

    above_held : (m : ℕ) × (v.gate ≡ Inside m) × Locks k r.shape s.words v.number m u
    above_held = suits.upper u upper

    pub kept_marked : Kept k record { words = set s.words l.node dead_word; homes = s.homes; views = set s.views id (holding v v.gate (Some (marked l)) v.upper) }
    kept_marked =
        let small = few k laws s r id v at_me live own owns is in
        let word : slice_index s.words l.node ≡ suc v.number = held.2.word ∙ ap (λ b. cond b dead_word (suc v.number)) living in
        let lives : slice_index s.words l.node ≢ dead_word = (λ dead. not_dead (suc v.number) small (sym word ∙ dead)) in
        let nobody : (d : ℕ) → d ≢ v.number → (r.shape.held_by l.node ≢ suc d) × (suc v.number ≢ suc d) = (λ d ne. (λ theirs. ne (let e : suc v.number ≡ suc d = sym held.2.mine ∙ theirs in omega arith), λ e. ne (omega arith))) in
        let holds : dead_word ≢ dead_word → suc v.number ≡ dead_word = (λ ne. absurd (ne refl)) in
        let corpse : dead_word ≡ dead_word → (i : ℕ) → i < 16 → slice_index s.words (slot_word l.node i) ≡ 0 = (λ dead i below. held.2.empty_so_far i (omega arith)) in
        let behind = after_lock k laws s r id v at_me live own owns is l.node dead_word (suc v.number) held.2.node holds corpse (lives, held.2.reachable) nobody in
        let was = held.2 in
        let few_slots = was.few in
        let locks : Locks k (with_holder r.shape l.node (suc v.number)) (set s.words l.node dead_word) v.number held.0 (marked l) = record {
          node = was.node;
          map = was.map;
          key = was.key;
          level = was.level;
          path = was.path;
          reachable = was.reachable;
          mine = holder_of r.shape l.node (suc v.number);
          word = lock_word_is k laws s r id v at_me live own owns is l.node dead_word (suc v.number) held.2.node holds corpse (lives, held.2.reachable) nobody;
          parent = behind (parent_word l.node) (omega arith) (omega arith) ∙ was.parent;
          found = λ slot word is. let f = was.found slot word is in let below = f.0 in (f.0, behind (slot_word l.node slot) (omega arith) (omega arith) ∙ f.1);
          few = was.few;
          empty_so_far = λ slot below. behind (slot_word l.node slot) (omega arith) (omega arith) ∙ was.empty_so_far slot below;
        } in
        kept_held k laws s r id v at_me live own owns is l.node dead_word (suc v.number) held.2.node holds corpse (lives, held.2.reachable) nobody (Some (marked l)) v.upper
        (knows_held k laws s r id v at_me live own owns is l.node dead_word (suc v.number) held.2.node holds corpse (lives, held.2.reachable) nobody (Some (marked l)) v.upper
        (marked l, inl refl, refl) (λ p h. elim h.1 [
          | inl e ↦ (marked l, inl refl, ap (λ (z : Lock). z.node) (same_Some l h.0 (sym locked ∙ e)) ∙ h.2)
          | inr e ↦ (h.0, inr e, h.2)
        ]))
        (λ z e. (held.0, held.1, subst (Locks k (with_holder r.shape l.node (suc v.number)) (set s.words l.node dead_word) v.number held.0) (same_Some (marked l) z e) locks))
        (λ z e. (
          above_held.0,
          above_held.1,
          subst (Locks k (with_holder r.shape l.node (suc v.number)) (set s.words l.node dead_word) v.number above_held.0) (same_Some u z (sym upper ∙ e))
              (locks_off k laws s r id v at_me live own owns is l.node dead_word (suc v.number) held.2.node holds corpse (lives, held.2.reachable) nobody above_held.0 u other above_held.2),
        ))

-- a seat may look at the first slot of which it doesn't know that it is empty
pub looks_at_slot : (k : Begin) → HistoryLaws → (id : ℕ) (me : Me (Unit {0}) View) (l : Lock) → Holds k me l → l.empty < 16 → Allows (Kept k) 0 id me (slot_word l.node l.empty) (λ n. n) (λ found. SeesSlot l found (found == 0) me)
looks_at_slot k laws id me l held below = by_first me (Allows (Kept k) 0 id me (slot_word l.node l.empty) (λ n. n) (λ found. SeesSlot l found (found == 0) me)) held.some
    (λ own owns is s r one at_me bounded. by_found own owns is s r at_me (slice_index s.words (slot_word l.node l.empty) == 0) refl)
  where
    Told : TableState → Bool → Type 0
    Told s b = (u : View) × (a : Act (Unit {0})) × Valid s.homes me.1 a × Kept k (stepped s (slot_word l.node l.empty) (slice_index s.words (slot_word l.node l.empty)) id me.1 u a) × SeesSlot l (slice_index s.words (slot_word l.node l.empty)) b me (u, carried_after me.1 a)

    -- it may know of the node's slots what is so
    kept_with : (own : Own) (owns : List Own) → me.0.owns ≡ own ∷ owns → (s : TableState) (r : Kept k s) → get_elem? s.views id ≡ some me.0 → (found : Option (ℕ × ℕ)) (empty : ℕ) → empty ≤ 16
        → ((slot word : ℕ) → found ≡ Some (slot, word) → (slot < 16) × (slice_index s.words (slot_word l.node slot) ≡ word)) → ((slot : ℕ) → slot < empty → slice_index s.words (slot_word l.node slot) ≡ 0)
        → Kept k record { words = set s.words (slot_word l.node l.empty) (slice_index s.words (slot_word l.node l.empty)); homes = s.homes; views = set s.views id (holding me.0 me.0.gate (Some (record l { found = found; empty = empty })) None) }
    kept_with own owns is s r at_me found empty few found_is empty_is =
        let z = record l { found = found; empty = empty } in
        let was = (r.suits id me.0 at_me held.live).lock l held.lock in
        let locks : Locks k r.shape s.words me.0.number was.0 (record l { found = found; empty = empty }) = record {
          node = was.2.node;
          map = was.2.map;
          key = was.2.key;
          level = was.2.level;
          path = was.2.path;
          reachable = was.2.reachable;
          mine = was.2.mine;
          word = was.2.word;
          parent = was.2.parent;
          found = found_is;
          few = few;
          empty_so_far = empty_is;
        } in
        subst (λ ws. Kept k record { words = ws; homes = s.homes; views = set s.views id (holding me.0 me.0.gate (Some (record l { found = found; empty = empty })) None) }) (sym (set-get_or s.words (slot_word l.node l.empty) 0))
        (kept_knowing k laws s r id me.0 at_me held.live own owns is z (λ p h. holds_one me.0 l p held.lock held.upper h)
        (λ y e. (was.0, was.1, subst (Locks k r.shape s.words me.0.number was.0) (same_Some z y e) locks)))

    by_found : (own : Own) (owns : List Own) → me.0.owns ≡ own ∷ owns → (s : TableState) (r : Kept k s) → get_elem? s.views id ≡ some me.0 → (b : Bool) → (slice_index s.words (slot_word l.node l.empty) == 0) ≡ b → Told s b
    by_found own owns is s r at_me false e =
        let was = (r.suits id me.0 at_me held.live).lock l held.lock in
        let word = slice_index s.words (slot_word l.node l.empty) in (
          holding me.0 me.0.gate (Some (found_lock l l.empty word)) None,
          keeps,
          tt,
          kept_with own owns is s r at_me (Some (l.empty, word)) l.empty (omega arith)
              (λ slot x same. let t = same_Some (l.empty, word) (slot, x) same in let at = ap (λ p. p.0) t in let there = ap (λ p. p.1) t in (omega arith, ap (λ n. slice_index s.words (slot_word l.node n)) (sym at) ∙ there)) was.2.empty_so_far,
          (refl, refl),
        )
    by_found own owns is s r at_me true e =
        let was = (r.suits id me.0 at_me held.live).lock l held.lock in
        let here : slice_index s.words (slot_word l.node l.empty) ≡ 0 = eqb-true (slice_index s.words (slot_word l.node l.empty)) 0 e in (
          holding me.0 me.0.gate (Some (with_empty l)) None,
          keeps,
          tt,
          kept_with own owns is s r at_me l.found (suc l.empty) (omega arith) was.2.found
              (λ slot less. elim (cases_eq slot l.empty) [
                | inl last ↦ ap (λ n. slice_index s.words (slot_word l.node n)) last ∙ here
                | inr ne ↦ was.2.empty_so_far slot (omega arith)
              ]),
          (refl, refl),
        )

-- a seat may read the place of the parent of the node whose lock it holds
pub reads_parent : (k : Begin) → HistoryLaws → (id : ℕ) (me : Me (Unit {0}) View) (l : Lock) → Holds k me l
    → Allows (Kept k) 0 id me (parent_word l.node) (λ n. n) (λ found after. (after ≡ me) × (found ≡ l.up) × (0 < l.level → (0 < found) × HasWords me.0 found 18))
reads_parent k laws id me l held = by_first me (Allows (Kept k) 0 id me (parent_word l.node) (λ n. n) (λ found after. (after ≡ me) × (found ≡ l.up) × (0 < l.level → (0 < found) × HasWords me.0 found 18))) held.some
    (λ own owns is s r one at_me bounded. let was = (r.suits id me.0 at_me held.live).lock l held.lock in (
      me.0,
      keeps,
      tt,
      kept_idle k laws s r id me.0 at_me held.live own owns is (parent_word l.node),
      (refl, was.2.parent, λ deep. subst (λ n. (0 < n) × HasWords me.0 n 18) (sym was.2.parent) (above_some k laws s r id me.0 at_me held.live own owns is was.0 l was.2 deep, above_words k laws s r id me.0 at_me held.live own owns is was.0 l was.2 deep held.begin)),
    ))

-- a seat may try the lock of the parent
pub tries_upper : (k : Begin) → HistoryLaws → (id : ℕ) (me : Me (Unit {0}) View) (l : Lock) → Holds k me l → 0 < l.level
    → Allows (Kept k) 0 id me l.up (λ n. either (n == 0) (suc me.0.number) n) (λ found. TriedUpper l (found == 0) me)
tries_upper k laws id me l held deep = by_first me (Allows (Kept k) 0 id me l.up (λ n. either (n == 0) (suc me.0.number) n) (λ found. TriedUpper l (found == 0) me)) held.some
    (λ own owns is s r one at_me bounded. by_found own owns is s r at_me (slice_index s.words l.up == 0) refl)
  where
    Told : TableState → Bool → Type 0
    Told s b = (u : View) × (a : Act (Unit {0})) × Valid s.homes me.1 a × Kept k (stepped s l.up (either b (suc me.0.number) (slice_index s.words l.up)) id me.1 u a) × TriedUpper l b me (u, carried_after me.1 a)

    by_found : (own : Own) (owns : List Own) → me.0.owns ≡ own ∷ owns → (s : TableState) (r : Kept k s) → get_elem? s.views id ≡ some me.0 → (b : Bool) → (slice_index s.words l.up == 0) ≡ b → Told s b
    by_found own owns is s r at_me false e = (me.0, keeps, tt, kept_idle k laws s r id me.0 at_me held.live own owns is l.up, (refl, refl))
    by_found own owns is s r at_me true e = (
      holding me.0 me.0.gate (Some l) (Some (upper_lock l (slice_index s.words (parent_word l.up)))),
      keeps,
      tt,
      kept_both k laws s r id me.0 at_me held.live own owns is l held.lock deep (eqb-true (slice_index s.words l.up) 0 e) held.upper,
      (refl, (slice_index s.words (parent_word l.up), refl)),
    )

-- a seat that holds both locks may mark the node dead, where all its slots are empty
pub marks : (k : Begin) → HistoryLaws → (id : ℕ) (me : Me (Unit {0}) View) (l u : Lock) → HoldsBoth k me l u false
    → Allows (Kept k) 0 id me l.node (λ n. dead_word) (λ found after. (after.1 ≡ me.1) × (after.0 ≡ holding me.0 me.0.gate (Some (marked l)) me.0.upper))
marks k laws id me l u both = by_first me (Allows (Kept k) 0 id me l.node (λ n. dead_word) (λ found after. (after.1 ≡ me.1) × (after.0 ≡ holding me.0 me.0.gate (Some (marked l)) me.0.upper))) both.some
    (λ own owns is s r one at_me bounded.
    let was = (r.suits id me.0 at_me both.live).lock l both.lock in
    let level = both.level in
    let above = both.above in
    let other : l.node ≢ l.up = above_other k laws s r id me.0 at_me both.live own owns is was.0 l was.2 (omega arith) in (
      holding me.0 me.0.gate (Some (marked l)) me.0.upper,
      keeps,
      tt,
      kept_marked k laws s r id me.0 at_me both.live own owns is l u both.lock both.upper both.empty both.marked_is (λ e. other (sym e ∙ above)),
      (refl, refl),
    ))
