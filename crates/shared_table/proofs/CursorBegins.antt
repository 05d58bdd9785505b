-- A caller's seat begins a cursor.
use Rattle.std.proofs.Common.{◌≡◌, ℕ, zero, suc, List, [], ◌∷◌, ◌++◌, length, Some, None, slice_get, refl, sym, ap, ◌∙◌, subst, arith}
use Rattle.std.proofs.lemmas.Option.{none-some, same_Some}
use Rattle.atomic_table.specs.Table.{Me}
use Rattle.sync_model.specs.declared.item.Item.{Item}
use Rattle.sync_model.specs.declared.item.SharedCall.TheVariants as calls
use Rattle.sync_model.specs.declared.item.SharedReply.TheVariants as replies
use Rattle.sync_model.specs.Shared.{items_of}
use Rattle.table_rule.specs.declared.begin.Begin.{Begin}
use Rattle.shared_table.specs.declared.cursor.TableCursor.{TableCursor}
use Rattle.table_words.specs.declared.words.TableWords.{TableWords}
use Rattle.table_rule.specs.declared.view.Own.{Own}
use Rattle.table_rule.specs.declared.view.Spot.{Spot}
use Rattle.table_rule.specs.declared.view.View.{View}
use Rattle.trie_nodes.specs.PlaceLists.{nodes_of, slots_of}
use Rattle.table_rule.specs.Cursors.{first_spot, Sweeps, BeginsCursor, IsCursorOf, unmounted, cursor_seat}
use Rattle.shared_table.specs.Ranging.{RangesOn}
use Rattle.table_rule.specs.Shape.{start_of}
use Rattle.table_words.specs.Seats.{begin_of, IsSeatOf}
use Rattle.table_rule.specs.Views.{held_in, view_state, made_by}
use Rattle.table_rule.specs.Walking.{HasWords, IsFree}
use Rattle.shared_table.proofs.Ranged.{let_go, one_more, at_end, not_yet}

-- a caller's seat has begun a cursor
module _ (words : TableWords) (old mid new : Me (Unit {0}) View) (root m : ℕ) (cursor : TableCursor) (free : IsFree (begin_of words) old) (begun : BeginsCursor m old.0.time old root mid)
    (new_is : new ≡ (unmounted mid.0, mid.1)) (seat_is : cursor.seat.me ≡ (cursor_seat mid.0, [])) (table_is : IsSeatOf words cursor.seat) (nodes : nodes_of cursor.place ≡ root ∷ []) (slots : slots_of cursor.place ≡ 0 ∷ []) where
  abbrev v : View
  v = old.0

  abbrev w : View
  w = mid.0

  spot : Spot
  spot = first_spot (made_by v.owns) m begun.2.0 v.front root

  sweeps : Sweeps (calls.Begin m) replies.Begun (Some (first_spot (made_by v.owns) m begun.2.0 v.front root)) None v w
  sweeps = subst (λ l. Sweeps (calls.Begin m) replies.Begun (Some (first_spot (made_by v.owns) m begun.2.0 v.front root)) l v w) free.idle.leaf begun.2.1

  made : made_by v.owns ≡ length (items_of (view_state v).own)
  made = by_owns v.owns
    where
      by_owns : (owns : List Own) → made_by owns ≡ length (items_of (held_in v.number owns))
      by_owns [] = refl
      by_owns (own ∷ owns) = refl

  abbrev item : Item
  item = sweeps.called.item

  more : items_of (view_state w).own ≡ items_of (view_state v).own ++ sweeps.called.item ∷ []
  more = one_more (start_of v.begin) (calls.Begin m) replies.Begun (view_state v) (view_state w) sweeps.called

  cursor_of : IsCursorOf (items_of (view_state v).own ++ sweeps.called.item ∷ []) (first_spot (length (items_of (view_state v).own)) m begun.2.0 v.front root)
  cursor_of = record {
    begin = sweeps.called.item;
    at = at_end (items_of (view_state v).own) sweeps.called.item;
    call = sweeps.called.is_call;
    front = sweeps.called.is_front;
    steps = λ j y key value step. absurd (not_yet w (items_of (view_state v).own) sweeps.called.item sweeps.looks more j y step.at step.call);
    shown = λ key there. absurd (let below = there.1 in omega arith);
  }

  pub begins : (new.1 ≡ old.1) × RangesOn words cursor m (made_by old.0.owns) (calls.Begin m) replies.Begun old.0 new.0
  begins = (
    ap (λ (x : Me (Unit {0}) View). x.1) new_is ∙ begun.0,
    subst (λ (u : View). RangesOn words cursor m (made_by v.owns) (calls.Begin m) replies.Begun v u) (sym (ap (λ (x : Me (Unit {0}) View). x.0) new_is)) record {
      placed = let_go (calls.Begin m) replies.Begun v w v.spot (Some (first_spot (made_by v.owns) m begun.2.0 v.front root)) free.idle.spot free.idle.leaf sweeps;
      stands = record {
        table_is = table_is;
        empty = ap (λ (x : Me (Unit {0}) View). x.1) seat_is;
        live = ap (λ (x : Me (Unit {0}) View). x.0.live) seat_is ∙ ap (λ (u : View). u.live) sweeps.is ∙ free.live;
        begin = ap (λ (x : Me (Unit {0}) View). x.0.begin) seat_is ∙ ap (λ (u : View). u.begin) sweeps.is ∙ free.begin;
        nobody = ap (λ (x : Me (Unit {0}) View). length x.0.owns) seat_is;
        spot = first_spot (made_by v.owns) m begun.2.0 v.front root;
        is = ap (λ (x : Me (Unit {0}) View). x.0.spot) seat_is ∙ ap (λ (u : View). u.spot) sweeps.is;
        nodes = sym nodes;
        slots = sym slots;
        within = λ i node at. subst (λ (x : Begin × ℕ). HasWords (record v { begin = x.0 }) x.1 18) (λ d. ((sym (ap (λ (y : Me (Unit {0}) View). y.0.begin) seat_is ∙ ap (λ (u : View). u.begin) sweeps.is)) d, only_root i node (ap (λ l. slice_get l i) (sym nodes) ∙ at) d)) begun.1;
        is_map = refl;
        is_begin = refl;
        of = subst (λ (x : List Item × ℕ). IsCursorOf x.0 (first_spot x.1 m begun.2.0 v.front root)) (λ d. (sym more d, sym made d)) cursor_of;
      };
    },
  )
    where
      only_root : (i node : ℕ) → slice_get (root ∷ []) i ≡ Some node → root ≡ node
      only_root zero node at = same_Some root node at
      only_root (suc i) node at = absurd (none-some node at)
