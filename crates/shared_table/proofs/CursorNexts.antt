-- A caller's seat makes a step of a cursor, whose seat it takes in for the step.
use Rattle.std.proofs.Common.{◌≡◌, ℕ, true, List, [], ◌∷◌, ◌++◌, length, Option, Some, None, slice_get, refl, sym, ap, ◌∙◌, subst, arith}
use Rattle.atomic_table.specs.Table.{Me}
use Rattle.atomic_table.specs.declared.shared.Seat.{Seat}
use Rattle.sync_model.specs.declared.item.SharedCall.TheVariants as calls
use Rattle.sync_model.specs.declared.item.SharedReply.TheVariants as replies
use Rattle.sync_model.specs.Shared.{items_of}
use Rattle.table_rule.specs.declared.begin.Begin.{Begin}
use Rattle.shared_table.specs.declared.cursor.TableCursor.{TableCursor}
use Rattle.table_words.specs.declared.words.TableWords.{TableWords}
use Rattle.table_rule.specs.declared.view.Gate.TheVariants.{Outside}
use Rattle.table_rule.specs.declared.view.Own.{Own}
use Rattle.table_rule.specs.declared.view.Spot.{Spot}
use Rattle.table_rule.specs.declared.view.View.{View}
use Rattle.trie_nodes.specs.declared.place.Place.{Place}
use Rattle.trie_nodes.specs.PlaceLists.{nodes_of, slots_of}
use Rattle.table_rule.specs.Cursors.{Sweeps, IsCursorOf, mounted, unmounted, cursor_seat}
use Rattle.table_rule.specs.Operations.{PlacesCall}
use Rattle.shared_table.specs.Ranging.{moved, showing, ShowsNext, AreWithin, IsRanging, IsCursor, RangesOn}
use Rattle.table_rule.specs.Shape.{start_of}
use Rattle.table_words.specs.Seats.{begin_of, IsSeatOf}
use Rattle.table_rule.specs.Views.{held_in, view_state}
use Rattle.table_rule.specs.Walking.{HasWords, IsFree}
use Rattle.shared_table.proofs.Ranged.{let_go, one_more, one_step}

-- its seat took in the cursor's
pub taken_in : (first mid me : Me (Unit {0}) View) (cursor held : Seat (Unit {0}) View) (time : ℕ) → mid ≡ (unmounted first.0, first.1) → held ≡ cursor → me ≡ (mounted time mid.0 held.me.0, mid.1) → me ≡ (mounted time (unmounted first.0) cursor.me.0, first.1)
taken_in first mid me cursor held time mid_is held_is is = is ∙ (λ i. (mounted time (mid_is i).0 (held_is i).me.0, (mid_is i).1))

-- a caller's seat has taken in its cursor's, made a step, and let it go
module _ (words : TableWords) (first : Me (Unit {0}) View) (free : IsFree (begin_of words) first) (cursor : TableCursor) (m b : ℕ) (is : IsCursor words cursor m b (items_of (view_state first.0).own)) where
  abbrev v : View
  v = first.0

  pub ranging : (me : Me (Unit {0}) View) → me ≡ (mounted first.0.time (unmounted first.0) cursor.seat.me.0, first.1) → IsRanging (begin_of words) me is.spot cursor.place
  ranging me me_is = by_owns v.owns refl
    where
      by_owns : (owns : List Own) → v.owns ≡ owns → IsRanging (begin_of words) me is.spot cursor.place
      by_owns [] e = absurd (let none_there = ap length e in let some_there = free.some in omega arith)
      by_owns (own ∷ owns) e = subst (λ (x : Me (Unit {0}) View). IsRanging (begin_of words) x is.spot cursor.place) (sym me_is) record {
        cursor = record { live = free.live; walk = free.idle.walk; begin = free.begin; own = own; owns = owns; is = e; spot = is.is; of = subst (λ l. IsCursorOf (items_of (held_in v.number l)) is.spot) e is.of };
        leaf = free.idle.leaf;
        nodes = is.nodes;
        slots = is.slots;
        words = λ i node at. subst (λ (k : Begin). HasWords (record v { begin = k }) node 18) (is.begin ∙ sym free.begin) (is.within i node at);
      }

  module _ (me mid : Me (Unit {0}) View) (place : Place) (shown : Option (ℕ × ℕ)) (me_is : me ≡ (mounted first.0.time (unmounted first.0) cursor.seat.me.0, first.1)) (same : mid.1 ≡ me.1)
      (stepped : (z : Spot) → me.0.spot ≡ Some z → ShowsNext z shown place me.0 mid.0) where
    sweeps : Sweeps (calls.Next is.spot.begin) (replies.Shown shown) (Some (showing (moved is.spot place) shown)) None (record v { spot = cursor.seat.me.0.spot }) mid.0
    sweeps = subst (λ (u : View). ShowsNext is.spot shown place u mid.0) (ap (λ (x : Me (Unit {0}) View). x.0) me_is) (stepped is.spot (ap (λ (x : Me (Unit {0}) View). x.0.spot) me_is ∙ is.is))

    -- it is outside of all gates
    pub outside : (mid.0.live ≡ true) × (mid.0.gate ≡ Outside)
    outside = (ap (λ (u : View). u.live) sweeps.is ∙ free.live, ap (λ (u : View). u.gate) sweeps.is ∙ free.idle.gate)

    more : items_of (view_state mid.0).own ≡ items_of (view_state v).own ++ sweeps.called.item ∷ []
    more = one_more (start_of v.begin) (calls.Next is.spot.begin) (replies.Shown shown) (view_state v) (view_state mid.0) sweeps.called

    abbrev At : Spot → Type 0
    At z = (z.nodes ≡ nodes_of place) × (z.slots ≡ slots_of place) × (z.map ≡ m) × (z.begin ≡ b)

    here : (pair : Option (ℕ × ℕ)) → At (showing (moved is.spot place) pair)
    here None = (refl, refl, is.is_map, is.is_begin)
    here (Some pair) = (refl, refl, is.is_map, is.is_begin)

    of : IsCursorOf (items_of (view_state v).own ++ sweeps.called.item ∷ []) (showing (moved is.spot place) shown)
    of = one_step (items_of (view_state v).own) sweeps.called.item (moved is.spot place) shown sweeps.called.is_call sweeps.called.is_reply
        (let o = is.of in record { begin = o.begin; at = o.at; call = o.call; front = o.front; steps = o.steps; shown = o.shown })

    module _ (new : Me (Unit {0}) View) (after : TableCursor) (within : AreWithin me.0 place) (at_place : after.place ≡ place)
        (new_is : new ≡ (unmounted mid.0, mid.1)) (seat_is : after.seat.me ≡ (cursor_seat mid.0, [])) (table_is : IsSeatOf words after.seat) where
      pub slots_stay : new.1 ≡ first.1
      slots_stay = ap (λ (x : Me (Unit {0}) View). x.1) new_is ∙ same ∙ ap (λ (x : Me (Unit {0}) View). x.1) me_is

      pub steps : RangesOn words after m b (calls.Next b) (replies.Shown shown) first.0 new.0
      steps = subst (λ (u : View). RangesOn words after m b (calls.Next b) (replies.Shown shown) v u) (sym (ap (λ (x : Me (Unit {0}) View). x.0) new_is)) record {
        placed = subst (λ n. PlacesCall (calls.Next n) (replies.Shown shown) v (unmounted mid.0)) is.is_begin
            (let_go (calls.Next is.spot.begin) (replies.Shown shown) v mid.0 cursor.seat.me.0.spot (Some (showing (moved is.spot place) shown)) free.idle.spot free.idle.leaf sweeps);
        stands = record {
          table_is = table_is;
          empty = ap (λ (x : Me (Unit {0}) View). x.1) seat_is;
          live = ap (λ (x : Me (Unit {0}) View). x.0.live) seat_is ∙ outside.0;
          begin = ap (λ (x : Me (Unit {0}) View). x.0.begin) seat_is ∙ ap (λ (u : View). u.begin) sweeps.is ∙ free.begin;
          nobody = ap (λ (x : Me (Unit {0}) View). length x.0.owns) seat_is;
          spot = showing (moved is.spot place) shown;
          is = ap (λ (x : Me (Unit {0}) View). x.0.spot) seat_is ∙ ap (λ (u : View). u.spot) sweeps.is;
          nodes = (here shown).0 ∙ ap nodes_of (sym at_place);
          slots = (here shown).1 ∙ ap slots_of (sym at_place);
          within = λ i node at. subst (λ (k : Begin). HasWords (record v { begin = k }) node 18) (ap (λ (x : Me (Unit {0}) View). x.0.begin) me_is ∙ sym (ap (λ (x : Me (Unit {0}) View). x.0.begin) seat_is ∙ ap (λ (u : View). u.begin) sweeps.is))
              (within i node (ap (λ p. slice_get (nodes_of p) i) (sym at_place) ∙ at));
          is_map = (here shown).2;
          is_begin = (here shown).3;
          of = subst (λ l. IsCursorOf l (showing (moved is.spot place) shown)) (sym more) of;
        };
      }
