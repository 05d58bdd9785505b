-- A seat looks at the whole history. No word changes.
use Rattle.std.proofs.Common.{◌≡◌, ℕ, ◌+◌, ◌<◌, ◌≤◌, true, List, [], length, set, Some, slice_get, refl, sym, subst, le_refl}
use Rattle.std.proofs.lemmas.List.{append-nil, set-get_or}
use mathlib.Core.Option.{some}
use lib.ListN.{get_elem?}
use Rattle.atomic_table.specs.Table.{Me, keeps, Allows}
use Rattle.sync_model.specs.declared.item.Item.{Item}
use Rattle.sync_model.specs.declared.item.SharedEntry.{SharedEntry}
use Rattle.sync_model.specs.SharedCalls.{Lawful}
use Rattle.sync_model.specs.SharedOrder.{InOrder}
use Rattle.table_rule.specs.declared.begin.Begin.{Begin}
use Rattle.table_rule.specs.declared.view.Own.{Own}
use Rattle.table_rule.specs.declared.view.View.{View}
use Rattle.table_words.specs.Laws.{HistoryLaws}
use Rattle.table_rule.specs.Layout.{callers_of}
use Rattle.table_rule.specs.Ledger.{Fits}
use Rattle.table_rule.specs.Order.{IsTimely}
use Rattle.table_rule.specs.Owed.{Suits}
use Rattle.table_rule.specs.Rule.{TableState, Kept}
use Rattle.table_rule.specs.Shape.{start_of}
use Rattle.table_rule.specs.Values.{AreInRange}
use Rattle.table_rule.specs.Views.{Looks}
use Rattle.table_words.proofs.Ledgers.{longer}
use Rattle.table_words.proofs.Moves.{with_view}

-- the seat has seen all of the history
module _ (k : Begin) (laws : HistoryLaws) (s : TableState) (r : Kept k s) (id : ℕ) (v : View) (at_me : get_elem? s.views id ≡ some v) (live : v.live ≡ true) where
  fits_seen : Fits (callers_of k) r.log r.calls r.claim id (record v { seen = r.log })
  fits_seen = let f = r.fits id v at_me live in record {
    seen = ([], sym (append-nil r.log));
    heard = f.heard;
    long = f.long;
    front = laws.known r.calls r.calls v.front (length v.seen) (length r.log) (λ d. ([], sym (append-nil (r.calls d)))) (longer v.seen r.log f.seen) f.front;
    owns = f.owns;
  }

  suits_seen : Suits k r.shape r.log r.calls s.words (record v { seen = r.log })
  suits_seen = let u = r.suits id v at_me live in record {
    begin = u.begin;
    walk = u.walk;
    steady = u.steady;
    leaf = u.leaf;
    spot = u.spot;
    cut = u.cut;
    room = u.room;
    gate = u.gate;
    only = u.only;
    holder = u.holder;
    closer = u.closer;
    lock = u.lock;
    upper = u.upper;
    nobody = u.nobody;
  }

  timely_seen : IsTimely r.shape r.log r.ordered.entry_times r.ordered.times r.ordered.clock (record v { seen = r.log })
  timely_seen = let t = r.ordered.seats id v at_me live in record { owns = t.owns; told = t.told; since = t.since }

  pub kept_seen : Kept k record { words = s.words; homes = s.homes; views = set s.views id (record v { seen = r.log }) }
  kept_seen = with_view k s r r.ordered.clock (le_refl r.ordered.clock) id v (record v { seen = r.log }) at_me live refl fits_seen timely_seen suits_seen

-- what it then knows
pub looks_so : (k : Begin) (log : List SharedEntry) (calls : ℕ → List Item) (claim : ℕ → ℕ) (id : ℕ) (v : View) → Lawful (start_of k) log calls → ((c : ℕ) → callers_of k ≤ c → calls c ≡ []) → Fits (callers_of k) log calls claim id v → AreInRange log → (entry_times : List ℕ) (times : ℕ → List ℕ) → InOrder log calls entry_times times
    → ((i : ℕ) (own : Own) → slice_get v.owns i ≡ Some own → times (v.number + i) ≡ own.times) → v.begin ≡ k → Looks v (record v { seen = log })
looks_so k log calls claim id v lawful none_else f values entry_times times order mine begin = record {
  log = log;
  calls = calls;
  is = refl;
  seen = f.seen;
  heard = f.heard;
  lawful = subst (λ b. Lawful (start_of b) log calls) (sym begin) lawful;
  entry_times = entry_times;
  times = times;
  order = order;
  none_else = subst (λ (b : Begin). (c : ℕ) → callers_of b ≤ c → calls c ≡ []) (sym begin) none_else;
  owned = λ i own at. let o = f.owns i own at in (subst (λ (b : Begin). v.number + i < callers_of b) (sym begin) o.below, o.items, mine i own at);
  made = f.front.made;
  long = subst (λ (b : Begin). length v.front ≡ callers_of b) (sym begin) f.long;
  values = values;
}

pub looked : (k : Begin) (s : TableState) (r : Kept k s) (id : ℕ) (v : View) → get_elem? s.views id ≡ some v → v.live ≡ true → v.begin ≡ k → Looks v (record v { seen = r.log })
looked k s r id v at_me live begin = looks_so k r.log r.calls r.claim id v r.lawful r.none_else (r.fits id v at_me live) r.values r.ordered.entry_times r.ordered.times r.ordered.order (r.ordered.seats id v at_me live).owns begin

pub looks : (k : Begin) → HistoryLaws → (id : ℕ) (me : Me (Unit {0}) View) (word : ℕ) → me.0.live ≡ true → me.0.begin ≡ k → Allows (Kept k) 0 id me word (λ n. n) (λ found after. (after.1 ≡ me.1) × Looks me.0 after.0)
looks k laws id me word live begin s r one at_me bounded =
    let v = me.0 in (
      record v { seen = r.log },
      keeps,
      tt,
      subst (λ ws. Kept k record { words = ws; homes = s.homes; views = set s.views id (record v { seen = r.log }) }) (sym (set-get_or s.words word 0)) (kept_seen k laws s r id v at_me live),
      (refl, looked k s r id v at_me live begin),
    )
