-- A step that changes no word: a seat goes elsewhere.
use Rattle.std.proofs.Common.{◌≡◌, ℕ, true, List, [], set, set-set, Option, Some, None, slice_index, ◌⊎◌, inl, refl, sym, ◌∙◌, ◌≤◌, subst, le_refl}
use Rattle.std.proofs.lemmas.List.{append-nil}
use Rattle.std.proofs.lemmas.Option.{none-some}
use mathlib.Core.Option.{some}
use lib.ListN.{get_elem?}
use Rattle.atomic_table.specs.Table.{Me, Allows, stepped}
use Rattle.sync_model.specs.declared.item.SharedEntry.{SharedEntry}
use Rattle.table_rule.specs.declared.begin.Begin.{Begin}
use Rattle.table_rule.specs.declared.view.Gate.TheVariants.{Inside}
use Rattle.table_rule.specs.declared.view.Leaf.{Leaf}
use Rattle.table_rule.specs.declared.view.View.{View}
use Rattle.table_rule.specs.declared.view.Walk.{Walk}
use Rattle.trie_nodes.specs.Layout.{dead_word}
use Rattle.table_rule.specs.Layout.{callers_of}
use Rattle.table_rule.specs.Ledger.{Fits}
use Rattle.table_rule.specs.Order.{IsTimely}
use Rattle.table_rule.specs.Owed.{Walks, IsLeaf, Suits}
use Rattle.table_rule.specs.Rule.{TableState, Kept}
use Rattle.table_rule.specs.Shape.{Shape}
use Rattle.table_rule.specs.Views.{at_time}
use Rattle.table_rule.specs.Walking.{standing, told_at}
use Rattle.table_words.proofs.Frames.{Later, Apart}
use Rattle.table_words.proofs.Lists.{set_here}
use Rattle.table_words.proofs.Moves.{with_view}
use Rattle.table_words.proofs.Timing.{timely_nowhere}

-- nothing changes
pub later_same : (sh : Shape) (log : List SharedEntry) (ws : List ℕ) → Later sh sh log log ws ws
later_same sh log ws = record {
  history = ([], sym (append-nil log));
  node = λ p is. is;
  map = λ p is. refl;
  path = λ p is. refl;
  cut = λ p moment is cut. cut;
  fresh = λ p moment is live cut. absurd (none-some moment (sym live ∙ cut));
  cut_word = λ p moment n is cut below. refl;
  parent = λ p is. refl;
  dead = λ p is dead. dead;
  entry = λ p is. is;
  key = λ p is. refl;
  value = λ p is. refl;
}

pub apart_same : (k : Begin) (c : ℕ) (sh : Shape) (ws : List ℕ) → Apart k c sh sh ws ws
apart_same k c sh ws = record {
  held = λ d p other is inside held. held;
  words = λ d p i other is inside held from to. refl;
  reachable = λ d p other is inside held live. live;
  steady = λ d p other is inside live. inl live;
  area = λ d i other mine. mine;
  unused = λ d i other lies mine none_there. none_there;
  room = λ d i other lies mine none_there. refl;
  inside = λ d m other. refl;
  closed = λ d m other closed. closed;
  alone = λ d m other closed alone. alone;
  unheld = λ d p other reach held. (reach, held);
  unclosed = λ d m other closed. closed;
}

-- a seat stands elsewhere
module _ (k : Begin) (s : TableState) (r : Kept k s) (id : ℕ) (v : View) (at_me : get_elem? s.views id ≡ some v) (live : v.live ≡ true) (walk : Option Walk) (leaf : Option Leaf)
    (walks : (w : Walk) → walk ≡ Some w → Walks k r.shape r.log w)
    (steady : (w : Walk) → walk ≡ Some w → v.gate ≡ Inside w.map → (r.shape.cut_of w.node ≡ None) ⊎ (slice_index s.words w.node ≡ dead_word))
    (leaves : (l : Leaf) → leaf ≡ Some l → IsLeaf r.shape s.words l) (before clock : ℕ) (more : r.ordered.clock ≤ clock) (timely : IsTimely r.shape r.log r.ordered.entry_times r.ordered.times clock (standing (at_time v before) walk leaf)) where
  fits_there : Fits (callers_of k) r.log r.calls r.claim id (standing (at_time v before) walk leaf)
  fits_there = let f = r.fits id v at_me live in record { seen = f.seen; heard = f.heard; long = f.long; front = f.front; owns = f.owns }

  suits_there : Suits k r.shape r.log r.calls s.words (standing (at_time v before) walk leaf)
  suits_there = let u = r.suits id v at_me live in record {
    begin = u.begin;
    walk = walks;
    steady = steady;
    leaf = leaves;
    spot = u.spot;
    cut = u.cut;
    room = u.room;
    gate = u.gate;
    only = u.only;
    holder = u.holder;
    closer = u.closer;
    lock = u.lock;
    upper = u.upper;
    nobody = u.nobody;
  }

  -- it was told the number of its caller's last event, and the clock goes on
  pub kept_entering : Kept k record { words = s.words; homes = s.homes; views = set s.views id (standing (at_time v before) walk leaf) }
  kept_entering = with_view k s r clock more id v (standing (at_time v before) walk leaf) at_me live refl fits_there timely suits_there

-- a seat stands elsewhere, and the clock stays
pub kept_standing : (k : Begin) (s : TableState) (r : Kept k s) (id : ℕ) (v : View) (at_me : get_elem? s.views id ≡ some v) (live : v.live ≡ true) (walk : Option Walk) (leaf : Option Leaf)
    → ((w : Walk) → walk ≡ Some w → Walks k r.shape r.log w) → ((w : Walk) → walk ≡ Some w → v.gate ≡ Inside w.map → (r.shape.cut_of w.node ≡ None) ⊎ (slice_index s.words w.node ≡ dead_word)) → ((l : Leaf) → leaf ≡ Some l → IsLeaf r.shape s.words l)
    → IsTimely r.shape r.log r.ordered.entry_times r.ordered.times r.ordered.clock (standing v walk leaf) → Kept k record { words = s.words; homes = s.homes; views = set s.views id (standing v walk leaf) }
kept_standing k s r id v at_me live walk leaf walks steady leaves timely = kept_entering k s r id v at_me live walk leaf walks steady leaves v.time r.ordered.clock (le_refl r.ordered.clock) timely

-- a seat stands where it stood, and may know another entry
pub timely_there : (k : Begin) (s : TableState) (r : Kept k s) (id : ℕ) (v : View) → get_elem? s.views id ≡ some v → v.live ≡ true → (leaf : Option Leaf) → IsTimely r.shape r.log r.ordered.entry_times r.ordered.times r.ordered.clock (standing v v.walk leaf)
timely_there k s r id v at_me live leaf = let t = r.ordered.seats id v at_me live in record { owns = t.owns; told = t.told; since = t.since }

-- a seat that stands nowhere is told the number of its caller's last event
pub kept_told : (k : Begin) (s : TableState) (r : Kept k s) (id : ℕ) (v : View) → get_elem? s.views id ≡ some v → v.live ≡ true → v.walk ≡ None → (before : ℕ) → Kept k record { words = s.words; homes = s.homes; views = set s.views id (at_time v before) }
kept_told k s r id v at_me live nowhere before =
    let u = r.suits id v at_me live in
    kept_entering k s r id v at_me live v.walk v.leaf u.walk u.steady u.leaf before r.ordered.clock (le_refl r.ordered.clock)
    (timely_nowhere r.shape r.log r.ordered.entry_times r.ordered.times r.ordered.clock (at_time v before) (r.ordered.seats id v at_me live).owns nowhere)

-- a step that a seat may make where it was told a number, it may make at once
pub allows_told : (k : Begin) (id : ℕ) (me : Me (Unit {0}) View) (i : ℕ) (f : ℕ → ℕ) (then : ℕ → Me (Unit {0}) View → Type 0) (before : ℕ) → me.0.live ≡ true → me.0.walk ≡ None → Allows (Kept k) 0 id (told_at before me) i f then → Allows (Kept k) 0 id me i f then
allows_told k id me i f then before live nowhere allows = λ s r one at_me bounded.
    let v = at_time me.0 before in
    let t = allows (record { words = s.words; homes = s.homes; views = set s.views id v }) (kept_told k s r id me.0 at_me live nowhere before) one (set_here s.views id me.0 v at_me) bounded in (
      t.0,
      t.1,
      t.2,
      subst (λ vs. Kept k record { words = set s.words i (f (slice_index s.words i)); homes = (stepped s i (f (slice_index s.words i)) id me.1 t.0 t.1).homes; views = vs }) (set-set s.views id v t.0) t.3,
      t.4,
    )
