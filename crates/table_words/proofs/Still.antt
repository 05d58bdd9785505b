-- A step that makes no call: the history stays.
use Rattle.std.proofs.Common.{◌≡◌, ℕ, suc, ◌+◌, ◌<◌, Bool, true, List, [], ◌∷◌, length, set, Option, Some, None, slice_get, slice_index, ◌⊎◌, inl, inr, refl, sym, ap, ◌∙◌, ◌≤◌, arith}
use Rattle.std.proofs.lemmas.List.{append-nil}
use Rattle.std.proofs.lemmas.Option.{none-some, same_Some}
use mathlib.Core.Option.{some}
use lib.ListN.{get_elem?}
use Rattle.sync_model.specs.declared.item.Item.{Item}
use Rattle.sync_model.specs.declared.item.SharedEntry.{SharedEntry}
use Rattle.table_rule.specs.declared.begin.Begin.{Begin}
use Rattle.table_rule.specs.declared.view.Gate.{Gate}
use Rattle.table_rule.specs.declared.view.Gate.TheVariants.{Outside, Inside, Closed}
use Rattle.table_rule.specs.declared.view.Lock.{Lock}
use Rattle.table_rule.specs.declared.view.Own.{Own}
use Rattle.table_rule.specs.declared.view.View.{View}
use Rattle.table_rule.specs.declared.view.Walk.{Walk}
use Rattle.table_rule.specs.Gates.{Gated}
use Rattle.table_words.specs.Laws.{HistoryLaws}
use Rattle.table_rule.specs.Layout.{callers_of}
use Rattle.table_rule.specs.Ledger.{Owned, Fits}
use Rattle.trie_nodes.specs.Layout.{dead_word}
use Rattle.table_rule.specs.Owed.{HasRoom, Locks, HoldsLock, AtGate, Suits}
use Rattle.table_rule.specs.Walking.{standing}
use Rattle.table_rule.specs.Writing.{holding}
use Rattle.table_rule.specs.Rule.{TableState, Kept}
use Rattle.table_rule.specs.Shape.{Shape, Fine}
use Rattle.table_words.proofs.Frames.{Later, Apart, time_on, walks_on, leaf_on, cut_on, stands_on}
use Rattle.table_words.proofs.Ledgers.{first}
use Rattle.table_words.proofs.Moves.{moves}
use Rattle.table_words.proofs.Timing.{goes_still, timely_nowhere}
use Rattle.table_words.proofs.Unused.{LeavesUnused}

-- a seat that stands to a gate so, and holds these locks, holds those of all reachable nodes that its callers hold
abbrev pub KnowsLocks : View → Shape → Gate → Option Lock → Option Lock → Type 0
KnowsLocks v sh gate lock upper = (p i : ℕ) (o : Own) → slice_get v.owns i ≡ Some o → sh.cut_of p ≡ None → sh.held_by p ≡ suc (v.number + i) → HoldsLock (holding v gate lock upper) p

-- a seat without a lock holds none
pub holds_none : (v : View) (p : ℕ) → v.lock ≡ None → v.upper ≡ None → HoldsLock v p → ⊥
holds_none v p lock upper h = elim h.1 [ inl e ↦ none-some h.0 (sym lock ∙ e) | inr e ↦ none-some h.0 (sym upper ∙ e) ]

-- and one with one lock no other
pub holds_one : (v : View) (l : Lock) (p : ℕ) → v.lock ≡ Some l → v.upper ≡ None → HoldsLock v p → l.node ≡ p
holds_one v l p lock upper h = elim h.1 [ inl e ↦ ap (λ (z : Lock). z.node) (same_Some l h.0 (sym lock ∙ e)) ∙ h.2 | inr e ↦ absurd (none-some h.0 (sym upper ∙ e)) ]

module _ (k : Begin) (laws : HistoryLaws) (s : TableState) (r : Kept k s) (id : ℕ) (v : View) (at_me : get_elem? s.views id ≡ some v) (live : v.live ≡ true) (own : Own) (owns : List Own) (is : v.owns ≡ own ∷ owns) where
  fits : Fits (callers_of k) r.log r.calls r.claim id v
  fits = r.fits id v at_me live

  pub owned : Owned (callers_of k) r.calls r.claim id v.front v.number own
  owned = first k laws r.log r.calls (callers_of k) r.claim id r.lawful v own owns is fits

  pub still : (new : Shape) (words : List ℕ) (w : View) → w.live ≡ true → LeavesUnused k new s.views id v.owns w s.words words → Fits (callers_of k) r.log r.calls r.claim id w → Fine k new r.log words → ((m : ℕ) → m < k.maps → Gated k new words m) → Later r.shape new r.log r.log s.words words → Apart k v.number r.shape new s.words words
      → Suits k new r.log r.calls words w → ((i : ℕ) (o : Own) → slice_get w.owns i ≡ Some o → r.ordered.times (w.number + i) ≡ o.times) → (w.walk ≡ None) ⊎ ((w.walk ≡ v.walk) × (w.time ≡ v.time))
      → Kept k record { words = words; homes = s.homes; views = set s.views id w }
  still new words w alive leaves fits_now fine gates later apart suits mine walks = moves k laws s r id v.number words w record {
    log = r.log;
    calls = r.calls;
    shape = new;
    mine = owned.claimed;
    lawful = r.lawful;
    none_else = r.none_else;
    keys = r.keys;
    values = r.values;
    fine = fine;
    gates = gates;
    later = later;
    apart = apart;
    grows = λ c. ([], sym (append-nil (r.calls c)));
    others = λ d other. refl;
    fits = fits_now;
    goes = goes_still r.shape r.log r.calls s.views r.ordered new v.number w (elim walks [
      | inl none_there ↦ timely_nowhere new r.log r.ordered.entry_times r.ordered.times r.ordered.clock w mine none_there
      | inr same ↦ let t = r.ordered.seats id v at_me live in let e = same.1 in record {
        owns = mine;
        told = λ x is. let told = t.told x (sym same.0 ∙ is) in omega arith;
        since = λ x n last is from at.
            let up = time_on k r.shape new r.log r.log s.words words later x.node ((r.suits id v at_me live).walk x (sym same.0 ∙ is)).node in
            let was = t.since x n last (sym same.0 ∙ is) (omega arith) at in
            omega arith;
      }
    ]);
    suits = suits;
    old = v;
    at_old = at_me;
    live = alive;
    leaves = leaves;
  }

  -- the numbers of its callers' calls
  pub own_times : (i : ℕ) (o : Own) → slice_get v.owns i ≡ Some o → r.ordered.times (v.number + i) ≡ o.times
  own_times = (r.ordered.seats id v at_me live).owns

  pub fits_holding : (gate : Gate) (lock upper : Option Lock) → Fits (callers_of k) r.log r.calls r.claim id (holding v gate lock upper)
  fits_holding gate lock upper = record { seen = fits.seen; heard = fits.heard; long = fits.long; front = fits.front; owns = fits.owns }

  -- the seat's own things, where it holds other locks, or stands to a gate otherwise
  pub suits_holding : (new : Shape) (words : List ℕ) (gate : Gate) (lock upper : Option Lock) → Later r.shape new r.log r.log s.words words
      → ((w : Walk) → v.walk ≡ Some w → gate ≡ Inside w.map → (new.cut_of w.node ≡ None) ⊎ (slice_index words w.node ≡ dead_word))
      → ((i : ℕ) (o : Own) → slice_get v.owns i ≡ Some o → HasRoom k new words (v.number + i) o)
      → AtGate k new v.number gate
      → ((m i : ℕ) (o : Own) → slice_get v.owns i ≡ Some o → new.inside m (v.number + i) ≡ true → gate ≡ Inside m)
      → KnowsLocks v new gate lock upper
      → ((m i : ℕ) (o : Own) → slice_get v.owns i ≡ Some o → new.closed_by m ≡ suc (v.number + i) → (alone : Bool) × (gate ≡ Closed m alone))
      → ((l : Lock) → lock ≡ Some l → (m : ℕ) × (gate ≡ Inside m) × Locks k new words v.number m l)
      → ((l : Lock) → upper ≡ Some l → (m : ℕ) × (gate ≡ Inside m) × Locks k new words v.number m l)
      → (length v.owns ≡ 0 → gate ≡ Outside)
      → Suits k new r.log r.calls words (holding v gate lock upper)
  suits_holding new words gate lock upper later steady room at_gate only holder closer locks uppers nobody = let u = r.suits id v at_me live in record {
    begin = u.begin;
    walk = λ w is. walks_on k r.shape new r.log r.log s.words words later w (u.walk w is);
    steady = steady;
    leaf = λ l is. leaf_on k r.shape new r.log r.log s.words words later l (u.leaf l is);
    spot = λ z is. stands_on k r.shape new r.log r.log s.words words later laws r.calls r.calls (λ c. ([], sym (append-nil (r.calls c)))) z (u.spot z is);
    cut = λ d has. cut_on k r.shape new r.log r.log s.words words later d (u.cut d has);
    room = room;
    gate = at_gate;
    only = only;
    holder = holder;
    closer = closer;
    lock = locks;
    upper = uppers;
    nobody = nobody;
  }

-- a seat may stand nowhere, and know no entry
pub suits_nowhere : (k : Begin) (sh : Shape) (log : List SharedEntry) (calls : ℕ → List Item) (ws : List ℕ) (v : View) → Suits k sh log calls ws v → Suits k sh log calls ws (standing v None None)
suits_nowhere k sh log calls ws v u = record {
  begin = u.begin;
  walk = λ w e. absurd (none-some w e);
  steady = λ w e inside. absurd (none-some w e);
  leaf = λ l e. absurd (none-some l e);
  spot = u.spot;
  cut = u.cut;
  room = u.room;
  gate = u.gate;
  only = u.only;
  holder = u.holder;
  closer = u.closer;
  lock = u.lock;
  upper = u.upper;
  nobody = u.nobody;
}

pub fits_nowhere : (callers : ℕ) (log : List SharedEntry) (calls : ℕ → List Item) (claim : ℕ → ℕ) (seat : ℕ) (v : View) → Fits callers log calls claim seat v → Fits callers log calls claim seat (standing v None None)
fits_nowhere callers log calls claim seat v f = record { seen = f.seen; heard = f.heard; long = f.long; front = f.front; owns = f.owns }
