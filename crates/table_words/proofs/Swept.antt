-- A step of a seat with a cursor changes no word: the cursor goes elsewhere, or a call of it is placed.
use Rattle.std.proofs.Common.{◌≡◌, ℕ, ◌≤◌, ◌<◌, true, false, List, ◌∷◌, length, set, Option, Some, slice_get, refl, sym, ap, arith, le_refl, None, ◌+◌}
use mathlib.Core.Option.{some}
use lib.ListN.{get_elem?}
use Rattle.sync_model.specs.declared.item.Item.{Item}
use Rattle.sync_model.specs.declared.item.SharedCall.{SharedCall}
use Rattle.sync_model.specs.declared.item.SharedCall.TheVariants as calls
use Rattle.sync_model.specs.declared.item.SharedReply.{SharedReply}
use Rattle.sync_model.specs.declared.item.SharedReply.TheVariants as replies
use Rattle.sync_model.specs.SharedCalls.{MayShow}
use Rattle.sync_model.specs.SharedHistory.{contents_at, IsReply, is_entry}
use Rattle.table_rule.specs.declared.begin.Begin.{Begin}
use Rattle.table_rule.specs.declared.view.Leaf.{Leaf}
use Rattle.table_rule.specs.declared.view.Own.{Own}
use Rattle.table_rule.specs.declared.view.Spot.{Spot}
use Rattle.table_rule.specs.declared.view.View.{View}
use Rattle.table_rule.specs.Cursors.{at_spot, Sweeps}
use Rattle.table_words.specs.Laws.{HistoryLaws}
use Rattle.table_rule.specs.Layout.{callers_of}
use Rattle.table_rule.specs.Ledger.{Fits}
use Rattle.table_rule.specs.Owed.{IsLeaf, Stands, Suits}
use Rattle.table_rule.specs.Rule.{TableState, Kept}
use Rattle.table_rule.specs.Shape.{start_of}
use Rattle.table_rule.specs.Views.{called_view, with_item}
use Rattle.table_words.proofs.Ledgers.{MayPlace}
use Rattle.table_words.proofs.Moves.{with_view}
use Rattle.table_words.proofs.Placing.{placed_item, call_number, at_the_end}
use Rattle.table_words.proofs.Placing as placing

-- the cursor goes elsewhere
module _ (k : Begin) (s : TableState) (r : Kept k s) (id : ℕ) (v : View) (at_me : get_elem? s.views id ≡ some v) (live : v.live ≡ true) (spot : Option Spot) (stands : (z : Spot) → spot ≡ Some z → Stands k r.shape r.log r.calls z) where
  fits_there : Fits (callers_of k) r.log r.calls r.claim id (at_spot v spot v.leaf)
  fits_there = let f = r.fits id v at_me live in record { seen = f.seen; heard = f.heard; long = f.long; front = f.front; owns = f.owns }

  suits_there : Suits k r.shape r.log r.calls s.words (at_spot v spot v.leaf)
  suits_there = let u = r.suits id v at_me live in record {
    begin = u.begin;
    walk = u.walk;
    steady = u.steady;
    leaf = u.leaf;
    spot = stands;
    cut = u.cut;
    room = u.room;
    gate = u.gate;
    only = u.only;
    holder = u.holder;
    closer = u.closer;
    lock = u.lock;
    upper = u.upper;
    nobody = u.nobody;
  }

  pub kept_there : Kept k record { words = s.words; homes = s.homes; views = set s.views id (at_spot v spot v.leaf) }
  kept_there = with_view k s r r.ordered.clock (le_refl r.ordered.clock) id v (at_spot v spot v.leaf) at_me live refl fits_there (let t = r.ordered.seats id v at_me live in record { owns = t.owns; told = t.told; since = t.since }) suits_there

-- a call of a cursor is placed
module _ (k : Begin) (laws : HistoryLaws) (s : TableState) (r : Kept k s) (id : ℕ) (v : View) (at_me : get_elem? s.views id ≡ some v) (live : v.live ≡ true) (own : Own) (owns : List Own) (is : v.owns ≡ own ∷ owns) (nowhere : v.walk ≡ None)
    (call : SharedCall) (reply : SharedReply) (is_reply : IsReply call reply (contents_at (start_of k) r.log (length r.log))) (quiet : false ≡ is_entry call (contents_at (start_of k) r.log (length r.log)))
    (from : length v.seen ≤ length r.log)
    (begun : (b : ℕ) → call ≡ calls.Next b → (y : Item) × (m : ℕ) × (b < length own.items) × (slice_get own.items b ≡ Some y) × (y.call ≡ calls.Begin m))
    (shows : (b m : ℕ) (y : Item) (shown : Option (ℕ × ℕ)) → slice_get own.items b ≡ Some y → y.call ≡ calls.Begin m → call ≡ calls.Next b → reply ≡ replies.Shown shown → MayShow (start_of k) r.log r.calls v.number b m y.front (length own.items) (length r.log) shown)
    (leaf : Option Leaf) (leaves : (l : Leaf) → leaf ≡ Some l → IsLeaf r.shape s.words l) (spot : Option Spot) (stands : (z : Spot) → spot ≡ Some z → Stands k r.shape r.log r.calls z) where
  abbrev pub item : Item
  item = placed_item call reply (length r.log) v.front

  pub may : MayPlace k laws r.log r.calls v own item
  may = record {
    from = from;
    to = omega arith;
    last = λ entry. refl;
    front = refl;
    reply = is_reply;
    entry = quiet;
    begun = begun;
    shows = shows;
  }

  -- no entry has come since
  pub fresh : (n later : ℕ) → length r.log ≤ n → slice_get r.ordered.entry_times n ≡ Some later → v.time + 2 ≤ later
  fresh = at_the_end k s r v

  abbrev pub view_after : View
  view_after = placing.view_after k laws s r id v at_me live own owns is call reply (length r.log) may fresh 0 tt v.walk nowhere (r.suits id v at_me live).walk (r.suits id v at_me live).steady leaf leaves spot stands

  pub kept_swept : Kept k record { words = s.words; homes = s.homes; views = set s.views id view_after }
  kept_swept = placing.kept_placed k laws s r id v at_me live own owns is call reply (length r.log) may fresh 0 tt v.walk nowhere (r.suits id v at_me live).walk (r.suits id v at_me live).steady leaf leaves spot stands

  pub sweeps : v.begin ≡ k → Sweeps call reply spot leaf v view_after
  sweeps begin = record {
    item = item;
    time = call_number k s r v (length r.log);
    seen = r.log;
    is = ap (λ l. at_spot (called_view v (with_item l item (call_number k s r v (length r.log))) r.log (call_number k s r v (length r.log))) spot leaf) (sym is);
    called = placing.is_called k laws s r id v at_me live own owns is call reply (length r.log) may fresh 0 tt v.walk nowhere (r.suits id v at_me live).walk (r.suits id v at_me live).steady leaf leaves spot stands begin;
    looks = placing.looks_then k laws s r id v at_me live own owns is call reply (length r.log) may fresh 0 tt v.walk nowhere (r.suits id v at_me live).walk (r.suits id v at_me live).steady leaf leaves spot stands begin;
  }
