-- What one caller's step leaves to all other seats.
use Rattle.std.proofs.Common.{◌≡◌, ◌≢◌, ℕ, suc, ◌+◌, ◌<◌, ◌≤◌, true, false, List, [], ◌∷◌, ◌++◌, length, Option, Some, None, slice_get, slice_index, ◌⊎◌, inl, inr, refl, sym, ap, ◌∙◌, subst, arith, length-append, append_assoc}
use Rattle.std.proofs.lemmas.Option.{none-some, same_Some}
use Rattle.sync_model.specs.declared.item.SharedEntry.{SharedEntry}
use Rattle.sync_model.specs.declared.item.Item.{Item}
use Rattle.sync_model.specs.Journal.{Begins}
use Rattle.sync_model.specs.SharedHistory.{value_at}
use Rattle.sync_model.specs.SharedCalls.{Grows}
use Rattle.table_rule.specs.declared.begin.Begin.{Begin}
use Rattle.table_rule.specs.declared.view.Own.{Own}
use Rattle.table_rule.specs.declared.view.Walk.{Walk}
use Rattle.table_rule.specs.declared.view.Leaf.{Leaf}
use Rattle.table_rule.specs.declared.view.CutNode.{CutNode}
use Rattle.table_rule.specs.declared.view.Lock.{Lock}
use Rattle.table_rule.specs.declared.view.Spot.{Spot}
use Rattle.table_rule.specs.declared.view.Gate.{Gate}
use Rattle.table_rule.specs.declared.view.Gate.TheVariants.{Outside, Inside, Closed}
use Rattle.table_rule.specs.declared.view.View.{View}
use Rattle.table_words.specs.Laws.{HistoryLaws}
use Rattle.trie_nodes.specs.Layout.{parent_word, slot_word, dead_word}
use Rattle.table_rule.specs.Layout.{heads}
use Rattle.table_rule.specs.Ledger.{Fits}
use Rattle.table_rule.specs.Owed.{Walks, IsLeaf, IsCutOff, Locks, HasRoom, Stands, AtGate, Suits}
use Rattle.table_rule.specs.Shape.{Shape, start_of, held_at, till, time}

-- The history and the shape go on: nodes and entries stay what they are, a node that was cut off stays so, and one that is cut off now is cut off no earlier than now.
pub record Later (sh new : Shape) (log log' : List SharedEntry) (ws ws' : List ℕ) : Type 0 where
  pub history : Begins log' log
  pub node : (p : ℕ) → sh.kind_of p ≡ 1 → new.kind_of p ≡ 1
  pub map : (p : ℕ) → sh.kind_of p ≡ 1 → new.map_of p ≡ sh.map_of p
  pub path : (p : ℕ) → sh.kind_of p ≡ 1 → new.path_of p ≡ sh.path_of p
  pub cut : (p moment : ℕ) → sh.kind_of p ≡ 1 → sh.cut_of p ≡ Some moment → new.cut_of p ≡ Some moment
  pub fresh : (p moment : ℕ) → sh.kind_of p ≡ 1 → sh.cut_of p ≡ None → new.cut_of p ≡ Some moment → length log ≤ moment
  -- each word of a node that was cut off stays
  pub cut_word : (p moment n : ℕ) → sh.kind_of p ≡ 1 → sh.cut_of p ≡ Some moment → n < 18 → slice_index ws' (p + n) ≡ slice_index ws (p + n)
  pub parent : (p : ℕ) → sh.kind_of p ≡ 1 → slice_index ws' (parent_word p) ≡ slice_index ws (parent_word p)
  pub dead : (p : ℕ) → sh.kind_of p ≡ 1 → slice_index ws p ≡ dead_word → slice_index ws' p ≡ dead_word
  pub entry : (p : ℕ) → sh.kind_of p ≡ 2 → new.kind_of p ≡ 2
  pub key : (p : ℕ) → sh.kind_of p ≡ 2 → slice_index ws' p ≡ slice_index ws p
  pub value : (p : ℕ) → sh.kind_of p ≡ 2 → slice_index ws' (p + 1) ≡ slice_index ws (p + 1)

-- Of all other callers the locks, rooms and gates stay.
pub record Apart (k : Begin) (c : ℕ) (sh new : Shape) (ws ws' : List ℕ) : Type 0 where
  pub held : (d p : ℕ) → d ≢ c → sh.kind_of p ≡ 1 → sh.inside (sh.map_of p) d ≡ true → sh.held_by p ≡ suc d → new.held_by p ≡ suc d
  pub words : (d p i : ℕ) → d ≢ c → sh.kind_of p ≡ 1 → sh.inside (sh.map_of p) d ≡ true → sh.held_by p ≡ suc d → p ≤ i → i < p + 18 → slice_index ws' i ≡ slice_index ws i
  pub reachable : (d p : ℕ) → d ≢ c → sh.kind_of p ≡ 1 → sh.inside (sh.map_of p) d ≡ true → sh.held_by p ≡ suc d → sh.cut_of p ≡ None → new.cut_of p ≡ None
  pub steady : (d p : ℕ) → d ≢ c → sh.kind_of p ≡ 1 → sh.inside (sh.map_of p) d ≡ true → sh.cut_of p ≡ None → (new.cut_of p ≡ None) ⊎ (slice_index ws' p ≡ dead_word)
  pub area : (d i : ℕ) → d ≢ c → sh.area_of i ≡ suc d → new.area_of i ≡ suc d
  pub unused : (d i : ℕ) → d ≢ c → heads k ≤ i → sh.area_of i ≡ suc d → sh.part_of i ≡ 0 → new.part_of i ≡ 0
  pub room : (d i : ℕ) → d ≢ c → heads k ≤ i → sh.area_of i ≡ suc d → sh.part_of i ≡ 0 → slice_index ws' i ≡ slice_index ws i
  pub inside : (d m : ℕ) → d ≢ c → new.inside m d ≡ sh.inside m d
  pub closed : (d m : ℕ) → d ≢ c → sh.closed_by m ≡ suc d → new.closed_by m ≡ suc d
  pub alone : (d m : ℕ) → d ≢ c → sh.closed_by m ≡ suc d → ((e : ℕ) → sh.inside m e ≡ false) → (e : ℕ) → new.inside m e ≡ false
  -- and they take no lock, and close no gate
  pub unheld : (d p : ℕ) → d ≢ c → new.cut_of p ≡ None → new.held_by p ≡ suc d → (sh.cut_of p ≡ None) × (sh.held_by p ≡ suc d)
  pub unclosed : (d m : ℕ) → d ≢ c → new.closed_by m ≡ suc d → sh.closed_by m ≡ suc d

-- a seat stands for nobody, or its first caller isn't c
pub first_apart : (owns : List Own) (n c : ℕ) → ((i : ℕ) (own : Own) → slice_get owns i ≡ Some own → n + i ≢ c) → (length owns ≡ 0) ⊎ (n ≢ c)
first_apart [] n c away = inl refl
first_apart (own ∷ owns) n c away = inr (λ e. away 0 own refl (omega arith))

module _ (k : Begin) (sh new : Shape) (log log' : List SharedEntry) (ws ws' : List ℕ) (later : Later sh new log log' ws ws') where
  longer : length log ≤ length log'
  longer = let e : length log' ≡ length (log ++ later.history.0) = ap length later.history.1 in omega (arith, length-append log later.history.0)

  -- a node stands for no less than before
  pub time_on : (p : ℕ) → sh.kind_of p ≡ 1 → time sh log p ≤ time new log' p
  time_on p is = by_cut (sh.cut_of p) (new.cut_of p) refl refl
    where
      by_cut : (a b : Option ℕ) → sh.cut_of p ≡ a → new.cut_of p ≡ b → till a (length log) ≤ till b (length log')
      by_cut None None e f = longer
      by_cut None (Some u) e f = later.fresh p u is e f
      by_cut (Some t) None e f = absurd (none-some t (sym f ∙ later.cut p t is e))
      by_cut (Some t) (Some u) e f = let same : t ≡ u = same_Some t u (sym (later.cut p t is e) ∙ f) in omega arith

  pub walks_on : (w : Walk) → Walks k sh log w → Walks k new log' w
  walks_on w r = let up = time_on w.node r.node in let since = r.since in record {
    node = later.node w.node r.node;
    map = later.map w.node r.node ∙ r.map;
    key = r.key;
    level = r.level;
    path = later.path w.node r.node ∙ r.path;
    since = omega arith;
  }

  pub leaf_on : (l : Leaf) → IsLeaf sh ws l → IsLeaf new ws' l
  leaf_on l r = record { entry = later.entry l.place r.entry; key = later.key l.place r.entry ∙ r.key; value = later.value l.place r.entry ∙ r.value }

  pub begins_on : (xs : List SharedEntry) → Begins log xs → Begins log' xs
  begins_on xs b = (b.0 ++ later.history.0, later.history.1 ∙ ap (λ h. h ++ later.history.0) b.1 ∙ append_assoc xs b.0 later.history.0)

  -- a node that was cut off stays as it was then
  pub cut_on : (d : CutNode) → IsCutOff k sh log ws d → IsCutOff k new log' ws' d
  cut_on d r = record {
    node = later.node d.node r.node;
    map = later.map d.node r.node ∙ r.map;
    key = r.key;
    level = r.level;
    path = later.path d.node r.node ∙ r.path;
    history = begins_on d.before r.history;
    cut = later.cut d.node (length d.before) r.node r.cut;
    words = λ n below. later.cut_word d.node (length d.before) n r.node r.cut below ∙ r.words n below;
  }

  module _ (laws : HistoryLaws) (calls calls' : ℕ → List Item) (grows : Grows calls calls') where
    -- what was so at a moment is so
    pub held_on : (n m key : ℕ) → n ≤ length log → held_at k log' n m key ≡ held_at k log n m key
    held_on n m key within = let same = laws.contents_same (start_of k) log later.history.0 n within in
        ap (λ h. held_at k h n m key) later.history.1 ∙ ap (λ contents. value_at contents m key) same

    pub stands_on : (s : Spot) → Stands k sh log calls s → Stands k new log' calls' s
    stands_on s r = let since = r.since in let up = longer in record {
      since = omega arith;
      knows = laws.known calls calls' s.front s.since s.since grows (omega arith) r.knows;
      sized = r.sized;
      some = r.some;
      nodes = λ i p at. let node = r.nodes i p at in let is = node.0 in let lasts = node.3 in let t = time_on p is in (later.node p is, later.map p is ∙ node.1, later.path p is ∙ node.2, omega arith);
      slots = r.slots;
      entered = r.entered;
      shown = r.shown;
      passed = λ key below has. elim (r.passed key below has) [
        | inl shown ↦ inl shown
        | inr was ↦ let within = was.2 in inr (was.0, was.1, omega arith, held_on was.0 s.map key within ∙ was.3)
      ];
    }

    module _ (c : ℕ) (apart : Apart k c sh new ws ws') where
      pub room_on : (d : ℕ) → d ≢ c → (own : Own) → HasRoom k sh ws d own → HasRoom k new ws' d own
      room_on d other own r = let lies = r.lies in record {
        lies = r.lies;
        within = r.within;
        mine = λ i below. apart.area d (own.next + i) other (r.mine i below);
        unused = λ i below. apart.unused d (own.next + i) other (omega arith) (r.mine i below) (r.unused i below);
        words = λ i below. apart.room d (own.next + i) other (omega arith) (r.mine i below) (r.unused i below) ∙ r.words i below;
      }

      pub locks_on : (d m : ℕ) → d ≢ c → sh.inside m d ≡ true → (l : Lock) → Locks k sh ws d m l → Locks k new ws' d m l
      locks_on d m other inside l r =
          let here : sh.inside (sh.map_of l.node) d ≡ true = ap (λ n. sh.inside n d) r.map ∙ inside in
          let same : (i : ℕ) → l.node ≤ i → i < l.node + 18 → slice_index ws' i ≡ slice_index ws i = λ i. apart.words d l.node i other r.node here r.mine in
          let few = r.few in record {
            node = later.node l.node r.node;
            map = later.map l.node r.node ∙ r.map;
            key = r.key;
            level = r.level;
            path = later.path l.node r.node ∙ r.path;
            reachable = apart.reachable d l.node other r.node here r.mine r.reachable;
            mine = apart.held d l.node other r.node here r.mine;
            word = same l.node (omega arith) (omega arith) ∙ r.word;
            parent = same (l.node + 1) (omega arith) (omega arith) ∙ r.parent;
            found = λ slot word is. let was = r.found slot word is in let below = was.0 in (below, same (slot_word l.node slot) (omega arith) (omega arith) ∙ was.1);
            few = r.few;
            empty_so_far = λ slot below. same (slot_word l.node slot) (omega arith) (omega arith) ∙ r.empty_so_far slot below;
          }

      pub gate_on : (d : ℕ) (g : Gate) → (g ≡ Outside) ⊎ (d ≢ c) → AtGate k sh d g → AtGate k new d g
      gate_on d Outside other at = tt
      gate_on d (Inside m) (inl e) at = absurd cc
      gate_on d (Inside m) (inr other) at = (at.0, apart.inside d m other ∙ at.1)
      gate_on d (Closed m alone) (inl e) at = absurd cc
      gate_on d (Closed m alone) (inr other) at = (at.0, apart.closed d m other at.1, λ is. apart.alone d m other at.1 (at.2 is))

      pub suits_on : (v : View) → ((i : ℕ) (own : Own) → slice_get v.owns i ≡ Some own → v.number + i ≢ c) → Suits k sh log calls ws v → Suits k new log' calls' ws' v
      suits_on v away r = record {
        begin = r.begin;
        walk = λ w is. walks_on w (r.walk w is);
        steady = λ w is inside. stays w inside (r.walk w is) (r.steady w is inside);
        leaf = λ l is. leaf_on l (r.leaf l is);
        spot = λ s is. stands_on s (r.spot s is);
        cut = λ d has. cut_on d (r.cut d has);
        room = λ i own at. room_on (v.number + i) (away i own at) own (r.room i own at);
        gate = gate_on v.number v.gate standing r.gate;
        only = λ m i own at inside. r.only m i own at (sym (apart.inside (v.number + i) m (away i own at)) ∙ inside);
        holder = λ p i own at reach held. let was = apart.unheld (v.number + i) p (away i own at) reach held in r.holder p i own at was.0 was.1;
        closer = λ m i own at closed. r.closer m i own at (apart.unclosed (v.number + i) m (away i own at) closed);
        lock = λ l is. locked l (r.lock l is);
        upper = λ l is. locked l (r.upper l is);
        nobody = r.nobody;
      }
        where
          standing : (v.gate ≡ Outside) ⊎ (v.number ≢ c)
          standing = elim (first_apart v.owns v.number c away) [ inl none_there ↦ inl (r.nobody none_there) | inr other ↦ inr other ]

          -- a seat inside stands for another caller
          writer : (m : ℕ) → v.gate ≡ Inside m → (v.number ≢ c) × (sh.inside m v.number ≡ true)
          writer m is = (elim standing [ inl out ↦ absurd (let e : Outside ≡ Inside m = sym out ∙ is in (cc)) | inr other ↦ other ], (subst (AtGate k sh v.number) is r.gate).1)

          locked : (l : Lock) → (m : ℕ) × (v.gate ≡ Inside m) × Locks k sh ws v.number m l → (m : ℕ) × (v.gate ≡ Inside m) × Locks k new ws' v.number m l
          locked l h = let w = writer h.0 h.1 in (h.0, h.1, locks_on v.number h.0 w.0 w.1 l h.2)

          stays : (w : Walk) → v.gate ≡ Inside w.map → Walks k sh log w → (sh.cut_of w.node ≡ None) ⊎ (slice_index ws w.node ≡ dead_word) → (new.cut_of w.node ≡ None) ⊎ (slice_index ws' w.node ≡ dead_word)
          stays w inside at (inl live) = let h = writer w.map inside in apart.steady v.number w.node h.0 at.node (ap (λ n. sh.inside n v.number) at.map ∙ h.1) live
          stays w inside at (inr gone) = inr (later.dead w.node at.node gone)

    -- what a seat that stands for other callers knows stays so
    pub fits_on : (callers c : ℕ) (claim claim' : ℕ → ℕ) (j : ℕ) (v : View) → ((d : ℕ) → claim d ≡ j → (claim' d ≡ j) × (calls' d ≡ calls d)) → Fits callers log calls claim j v → Fits callers log' calls' claim' j v
    fits_on callers c claim claim' j v same f = record {
      seen = begins_on v.seen f.seen;
      heard = λ i xs at. begins_on xs (f.heard i xs at);
      long = f.long;
      front = laws.known calls calls' v.front (length v.seen) (length v.seen) grows (omega arith) f.front;
      owns = λ i own at. let o = f.owns i own at in let s = same (v.number + i) o.claimed in record { below = o.below; claimed = s.0; items = s.1 ∙ o.items; counted = o.counted; knew = o.knew };
    }
