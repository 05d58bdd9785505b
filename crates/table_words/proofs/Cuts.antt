-- A seat that holds the locks of a dead node and of its parent empties the parent's slot.
use Rattle.std.proofs.Common.{◌≡◌, ℕ, zero, suc, ◌+◌, ◌<◌, true, cond, List, [], ◌∷◌, length, set, Some, None, slice_index, replicate, ◌⊎◌, inl, inr, refl, sym, ap, ◌∙◌, subst, arith}
use Rattle.std.proofs.lemmas.List.{append-nil}
use Rattle.std.proofs.lemmas.Option.{none-some, same_Some}
use mathlib.Core.Option.{some}
use lib.ListN.{get_elem?}
use Rattle.atomic_table.specs.Table.{Me, keeps, Allows}
use Rattle.table_rule.specs.declared.begin.Begin.{Begin}
use Rattle.table_rule.specs.declared.view.Gate.{Gate}
use Rattle.table_rule.specs.declared.view.Gate.TheVariants.{Outside, Inside, Closed}
use Rattle.table_rule.specs.declared.view.CutNode.{CutNode}
use Rattle.table_rule.specs.declared.view.Lock.{Lock}
use Rattle.table_rule.specs.declared.view.Own.{Own}
use Rattle.table_rule.specs.declared.view.View.{View}
use Rattle.table_words.specs.Laws.{HistoryLaws}
use Rattle.trie_nodes.specs.Layout.{slot_word, dead_word}
use Rattle.trie_nodes.specs.Paths.{nibble, route}
use Rattle.table_rule.specs.Making.{bare}
use Rattle.table_rule.specs.Layout.{callers_of}
use Rattle.table_rule.specs.Ledger.{Fits}
use Rattle.table_rule.specs.Owed.{IsCutOff, Locks, AtGate, Suits}
use Rattle.table_rule.specs.Pruning.{dead_words, having_cut, HoldsBoth, IsPruned}
use Rattle.table_rule.specs.Rule.{TableState, Kept}
use Rattle.table_rule.specs.Shape.{Shape, Fine}
use Rattle.table_words.specs.TrieLaws.{TrieLaws}
use Rattle.table_rule.specs.Writing.{holding}
use Rattle.table_words.proofs.Cutting.{with_cut, Stub, fine_cut, gates_cut, later_cut, steady_cut, apart_cut, room_cut, cut_off, lock_same, parent_same, cut_here, other_reachable, was_reachable}
use Rattle.table_words.proofs.Frames.{Later}
use Rattle.table_words.proofs.Lists.{in_more, zeros}
use Rattle.table_words.proofs.LockWords.{by_first, same_map}
use Rattle.table_words.proofs.Outside.{nibble_below}
use Rattle.table_words.proofs.Unused.{node_word}
use Rattle.table_words.proofs.Still.{still, fits_holding, suits_holding, own_times}
use Rattle.table_words.proofs.UpperLocks.{above_other}

same_gate : (k : Begin) (sh : Shape) (child now c : ℕ) (gate : Gate) → AtGate k sh c gate → AtGate k (with_cut sh child now) c gate
same_gate k sh child now c Outside at = at
same_gate k sh child now c (Inside m) at = at
same_gate k sh child now c (Closed m alone) at = at

module _ (k : Begin) (laws : HistoryLaws) (tries : TrieLaws) (s : TableState) (r : Kept k s) (id : ℕ) (me : Me (Unit {0}) View) (at_me : get_elem? s.views id ≡ some me.0) (l u : Lock) (both : HoldsBoth k me l u true) (own : Own) (owns : List Own) (is : me.0.owns ≡ own ∷ owns) where
  suits : Suits k r.shape r.log r.calls s.words me.0
  suits = r.suits id me.0 at_me both.live

  pub lower : (m : ℕ) × (me.0.gate ≡ Inside m) × Locks k r.shape s.words me.0.number m l
  lower = suits.lock l both.lock

  upper : (m : ℕ) × (me.0.gate ≡ Inside m) × Locks k r.shape s.words me.0.number m u
  upper = suits.upper u both.upper

  maps : lower.0 ≡ upper.0
  maps = same_map lower.0 upper.0 (sym lower.1 ∙ upper.1)

  stub : Stub k r.shape r.log s.words u.node u.level u.key l.node
  stub = let deep = lower.2.level in let level = both.level in record {
    fine = r.fine;
    node = upper.2.node;
    path = upper.2.path;
    reachable = upper.2.reachable;
    is_key = upper.2.key;
    level = omega arith;
    below = lower.2.node;
    map = lower.2.map ∙ maps ∙ sym upper.2.map;
    way = lower.2.path ∙ (λ i. route k.seed (both.level i) (sym both.key i));
    live = lower.2.reachable;
    dead = lower.2.word ∙ ap (λ b. cond b dead_word (suc me.0.number)) both.marked_is;
  }

  abbrev shape : Shape
  shape = with_cut r.shape l.node (length r.log)

  abbrev words : List ℕ
  words = set s.words (slot_word u.node (nibble u.key k.seed u.level)) 0

  locks : Locks k shape words me.0.number upper.0 (bare u)
  locks =
      let was = upper.2 in
      let level = both.level in
      let above = both.above in
      let other = above_other k laws s r id me.0 at_me both.live own owns is lower.0 l lower.2 (omega arith) in record {
        node = was.node;
        map = was.map;
        key = was.key;
        level = was.level;
        path = was.path;
        reachable = cut_off k r.shape r.log s.words u.node u.level u.key l.node tries stub u.node (λ e. other (sym e ∙ above)) ∙ was.reachable;
        mine = was.mine;
        word = lock_same k r.shape r.log s.words u.node u.level u.key l.node tries stub u.node was.node ∙ was.word;
        parent = parent_same k r.shape r.log s.words u.node u.level u.key l.node tries stub u.node was.node ∙ was.parent;
        found = λ slot word e. absurd (none-some (slot, word) e);
        few = omega arith;
        empty_so_far = λ slot below. absurd (omega arith);
      }

  later : Later r.shape shape r.log r.log s.words words
  later = later_cut k r.shape r.log s.words u.node u.level u.key l.node tries stub

  -- the seat holds the parent's lock alone
  suits_bare : Suits k shape r.log r.calls words (holding me.0 me.0.gate (Some (bare u)) None)
  suits_bare = suits_holding k laws s r id me.0 at_me both.live own owns is shape words me.0.gate (Some (bare u)) None later
      (λ w e gate. elim (suits.steady w e gate) [ inl living ↦ steady_cut k r.shape r.log s.words u.node u.level u.key l.node tries stub w.node living | inr dead ↦ inr (later.dead w.node (suits.walk w e).node dead) ])
      (λ i o e. room_cut k r.shape r.log s.words u.node u.level u.key l.node tries stub (me.0.number + i) o (suits.room i o e))
      (same_gate k r.shape l.node (length r.log) me.0.number me.0.gate suits.gate)
      suits.only
      (λ p i o at reach held.
      let was = suits.holder p i o at (was_reachable k r.shape r.log s.words u.node u.level u.key l.node tries stub p reach) held in
      elim was.1 [
        | inl e ↦ absurd (other_reachable k r.shape r.log s.words u.node u.level u.key l.node tries stub p reach (sym was.2 ∙ ap (λ (z : Lock). z.node) (sym (same_Some l was.0 (sym both.lock ∙ e)))))
        | inr e ↦ (bare u, inl refl, ap (λ (z : Lock). z.node) (same_Some u was.0 (sym both.upper ∙ e)) ∙ was.2)
      ])
      suits.closer
      (λ z e. (upper.0, upper.1, subst (Locks k shape words me.0.number upper.0) (same_Some (bare u) z e) locks))
      (λ z e. absurd (none-some z e))
      suits.nobody

  fine_after : Fine k shape r.log words
  fine_after = fine_cut k r.shape r.log s.words u.node u.level u.key l.node tries stub

  -- the node is cut off now, and dead
  abbrev pub node_cut : CutNode
  node_cut = record { node = l.node; map = lower.0; level = l.level; key = l.key; before = r.log; words = dead_words l.up }

  lock_now : slice_index words l.node ≡ dead_word
  lock_now = lock_same k r.shape r.log s.words u.node u.level u.key l.node tries stub l.node lower.2.node ∙ stub.dead

  words_now : (n : ℕ) → n < 18 → slice_index words (l.node + n) ≡ slice_index (dead_words l.up) n
  words_now zero below = let at : l.node + 0 ≡ l.node = omega arith in ap (slice_index words) at ∙ lock_now
  words_now (suc zero) below = parent_same k r.shape r.log s.words u.node u.level u.key l.node tries stub l.node lower.2.node ∙ lower.2.parent
  words_now (suc (suc slot)) below =
      let at : l.node + suc (suc slot) ≡ slot_word l.node slot = omega arith in
      ap (slice_index words) at ∙ fine_after.dead l.node slot lower.2.node lock_now (omega arith) ∙ sym (zeros 16 slot)

  is_cut_off : IsCutOff k shape r.log words node_cut
  is_cut_off = record {
    node = lower.2.node;
    map = lower.2.map;
    key = lower.2.key;
    level = lower.2.level;
    path = lower.2.path;
    history = ([], sym (append-nil r.log));
    cut = cut_here k r.shape r.log s.words u.node u.level u.key l.node tries stub;
    words = words_now;
  }

  pub is_pruned : IsPruned me.0 l node_cut
  is_pruned = record { node = refl; map = lower.1; level = refl; key = refl; seen = (r.fits id me.0 at_me both.live).seen; words = refl }

  abbrev pub view_after : View
  view_after = having_cut (holding me.0 me.0.gate (Some (bare u)) None) (node_cut ∷ [])

  suits_after : Suits k shape r.log r.calls words view_after
  suits_after = let w = suits_bare in record {
    begin = w.begin;
    walk = w.walk;
    steady = w.steady;
    leaf = w.leaf;
    spot = w.spot;
    cut = λ d has. elim (in_more node_cut me.0.cut d has) [ inl it ↦ subst (IsCutOff k shape r.log words) it is_cut_off | inr before ↦ w.cut d before ];
    room = w.room;
    gate = w.gate;
    only = w.only;
    holder = w.holder;
    closer = w.closer;
    lock = w.lock;
    upper = w.upper;
    nobody = w.nobody;
  }

  fits_after : Fits (callers_of k) r.log r.calls r.claim id view_after
  fits_after = let f = fits_holding k laws s r id me.0 at_me both.live own owns is me.0.gate (Some (bare u)) None in record { seen = f.seen; heard = f.heard; long = f.long; front = f.front; owns = f.owns }

  pub kept_cut : Kept k record { words = set s.words (slot_word u.node (nibble u.key k.seed u.level)) 0; homes = s.homes; views = set s.views id view_after }
  kept_cut = still k laws s r id me.0 at_me both.live own owns is shape words view_after
      both.live
      (node_word k shape s.views id me.0 view_after at_me both.live refl s.words u.node (slot_word u.node (nibble u.key k.seed u.level)) 0 upper.2.node (omega arith) (let small = nibble_below u.key k.seed u.level in omega arith))
      fits_after
      fine_after
      (λ m below. gates_cut k r.shape r.log s.words u.node u.level u.key l.node tries stub m below (r.gates m below))
      later
      (apart_cut k r.shape r.log s.words u.node u.level u.key l.node tries stub me.0.number upper.2.mine lower.2.mine)
      suits_after
      (own_times k laws s r id me.0 at_me both.live own owns is)
      (inr (refl, refl))

-- a seat that holds both locks may empty the parent's slot, where the node is dead
pub cuts_off : (k : Begin) → HistoryLaws → TrieLaws → (id : ℕ) (me : Me (Unit {0}) View) (l u : Lock) → HoldsBoth k me l u true
    → Allows (Kept k) 0 id me (slot_word u.node (nibble u.key k.seed u.level)) (λ n. 0) (λ found after. (after.1 ≡ me.1) × ((d : CutNode) × IsPruned me.0 l d × (after.0 ≡ having_cut (holding me.0 me.0.gate (Some (bare u)) None) (d ∷ []))))
cuts_off k laws tries id me l u both =
    by_first me (Allows (Kept k) 0 id me (slot_word u.node (nibble u.key k.seed u.level)) (λ n. 0) (λ found after. (after.1 ≡ me.1) × ((d : CutNode) × IsPruned me.0 l d × (after.0 ≡ having_cut (holding me.0 me.0.gate (Some (bare u)) None) (d ∷ []))))) both.some
    (λ own owns is s r one at_me bounded. (
      view_after k laws tries s r id me at_me l u both own owns is,
      keeps,
      tt,
      kept_cut k laws tries s r id me at_me l u both own owns is,
      (refl, (node_cut k laws tries s r id me at_me l u both own owns is, is_pruned k laws tries s r id me at_me l u both own owns is, refl)),
    ))
