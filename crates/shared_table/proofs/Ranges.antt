-- A seat's cursor moves from place to place, and makes its step.
use Rattle.std.proofs.Common.{◌≡◌, ◌≢◌, ℕ, zero, suc, ◌<◌, ◌≤◌, List, [], ◌∷◌, ◌++◌, length, take, Option, Some, slice_get, inl, inr, refl, sym, ap, ◌∙◌, subst, arith, append_assoc}
use Rattle.std.proofs.lemmas.Bool.{cases_eq}
use Rattle.std.proofs.lemmas.Option.{none-some, same_Some}
use Rattle.atomic_table.specs.Table.{Me}
use Rattle.table_rule.specs.declared.begin.Begin.{Begin}
use Rattle.shared_table.specs.declared.cursor.Move.TheVariants.{On}
use Rattle.table_rule.specs.declared.view.Spot.{Spot}
use Rattle.table_rule.specs.declared.view.View.{View}
use Rattle.trie_nodes.specs.declared.place.Place.{Place}
use Rattle.trie_nodes.specs.declared.slot.Slot.TheVariants.{Node}
use Rattle.trie_nodes.specs.PlaceLists.{nodes_of, slots_of}
use Rattle.trie_nodes.specs.Places.{but_last, last_of}
use Rattle.table_rule.specs.Cursors.{at_spot, SweepsIn, StandsIn}
use Rattle.shared_table.specs.CursorStays.{old_or_last}
use Rattle.shared_table.specs.Ranging.{moved, ShowsNext, MovesTo, AreWithin, IsRanging}
use Rattle.table_rule.specs.Walking.{HasWords}

-- a list is its front and its last
apart : (l : List ℕ) → 0 < length l → l ≡ but_last l ++ last_of l ∷ []
apart [] some_there = absurd (omega arith)
apart (x ∷ []) some_there = refl
apart (x ∷ y ∷ l) some_there = ap (λ m. x ∷ m) (apart (y ∷ l) (omega arith))

front_long : (l : List ℕ) → 0 < length l → suc (length (but_last l)) ≡ length l
front_long [] some_there = absurd (omega arith)
front_long (x ∷ []) some_there = refl
front_long (x ∷ y ∷ l) some_there = ap suc (front_long (y ∷ l) (omega arith))

last_there : (l : List ℕ) → 0 < length l → slice_get l (length (but_last l)) ≡ Some (last_of l)
last_there [] some_there = absurd (omega arith)
last_there (x ∷ []) some_there = refl
last_there (x ∷ y ∷ l) some_there = last_there (y ∷ l) (omega arith)

in_front : (l : List ℕ) (i x : ℕ) → slice_get (but_last l) i ≡ Some x → slice_get l i ≡ Some x
in_front [] i x at = at
in_front (y ∷ []) i x at = absurd (none-some x at)
in_front (y ∷ z ∷ l) zero x at = at
in_front (y ∷ z ∷ l) (suc i) x at = in_front (z ∷ l) i x at

taken : (n : ℕ) (l : List ℕ) → n ≤ length l → length (take n l) ≡ n
taken zero l le = refl
taken (suc n) [] le = absurd (omega arith)
taken (suc n) (x ∷ l) le = ap suc (taken n l (omega arith))

deep : (place : Place) → (length (nodes_of place) ≡ place.depth) × (length (slots_of place) ≡ place.depth) × (0 < place.depth)
deep place =
    let few = place.few in
    let wide = place.wide in
    let nodes_long = wide.0 in
    let slots_long = wide.1 in
    (taken place.depth place.nodes (omega arith), taken place.depth place.slots (omega arith), place.some)

module _ (k : Begin) (me : Me (Unit {0}) View) (z : Spot) (place : Place) (ranging : IsRanging k me z place) where
  nodes_some : 0 < length (nodes_of place)
  nodes_some = let d = deep place in let long = d.0 in let some_there = d.2 in omega arith

  slots_some : 0 < length (slots_of place)
  slots_some = let d = deep place in let long = d.1 in let some_there = d.2 in omega arith

  pub stands_in : (node slot : ℕ) → node ≡ last_of (nodes_of place) → slot ≡ last_of (slots_of place) → StandsIn z node slot
  stands_in node slot node_is slot_is = record {
    above = but_last (nodes_of place);
    front = but_last (slots_of place);
    nodes = ranging.nodes ∙ apart (nodes_of place) nodes_some ∙ ap (λ n. but_last (nodes_of place) ++ n ∷ []) (sym node_is);
    slots = ranging.slots ∙ apart (slots_of place) slots_some ∙ ap (λ n. but_last (slots_of place) ++ n ∷ []) (sym slot_is);
  }

  pub words_in : (node : ℕ) → node ≡ last_of (nodes_of place) → HasWords me.0 node 18
  words_in node node_is = subst (λ n. HasWords me.0 n 18) (sym node_is) (ranging.words (length (but_last (nodes_of place))) (last_of (nodes_of place)) (last_there (nodes_of place) nodes_some))

  -- it may go up where it has passed all slots of a node below the root
  pub below_root : last_of (slots_of place) ≡ 16 → length (slots_of place) ≢ 1 → (slot : ℕ) × (front : List ℕ) × (above : List ℕ) × (node : ℕ) × (z.slots ≡ front ++ slot ∷ 16 ∷ []) × (z.nodes ≡ above ++ node ∷ [])
  below_root ended ne =
      let l = slots_of place in
      let some_there = slots_some in
      let many : 1 < length l = elim (cases_eq (length l) 1) [ inl one ↦ absurd (ne one) | inr other ↦ omega arith ] in
      let front = but_last l in
      let long = front_long l slots_some in
      let is : l ≡ front ++ 16 ∷ [] = apart l slots_some ∙ ap (λ n. front ++ n ∷ []) ended in
      let front_is = apart front (omega arith) in (
        last_of front,
        but_last front,
        but_last (nodes_of place),
        last_of (nodes_of place),
        ranging.slots ∙ is ∙ ap (λ m. m ++ 16 ∷ []) front_is ∙ append_assoc (but_last front) (last_of front ∷ []) (16 ∷ []),
        ranging.nodes ∙ apart (nodes_of place) nodes_some,
      )

  pub at_root : last_of (slots_of place) ≡ 16 → length (slots_of place) ≡ 1 → slots_of place ≡ 16 ∷ []
  at_root ended one = by_list (slots_of place) ended one
    where
      by_list : (l : List ℕ) → last_of l ≡ 16 → length l ≡ 1 → l ≡ 16 ∷ []
      by_list [] last one = absurd (omega arith)
      by_list (x ∷ []) last one = ap (λ n. n ∷ []) last
      by_list (x ∷ y ∷ l) last one = absurd (omega arith)

  pub words_up : (after : Place) → nodes_of after ≡ but_last (nodes_of place) → AreWithin me.0 after
  words_up after same i node at = ranging.words i node (in_front (nodes_of place) i node (ap (λ l. slice_get l i) (sym same) ∙ at))

  pub words_down : (new : Place) (after : View) (below : ℕ) → nodes_of new ≡ nodes_of place ++ below ∷ [] → SweepsIn z (Node below) me.0 after → AreWithin me.0 new
  words_down new after below nodes swept i node at = elim (old_or_last (nodes_of place) below node i (ap (λ l. slice_get l i) (sym nodes) ∙ at)) [
    | inl there ↦ ranging.words i node there
    | inr last ↦ subst (λ n. HasWords me.0 n 18) last.1 swept.1
  ]

-- a seat has moved its cursor to this place, from where it stood
pub record IsOn (first : Me (Unit {0}) View) (start : Place) (me : Me (Unit {0}) View) (place : Place) : Type 0 where
  pub slots : me.1 ≡ first.1
  pub view : (z : Spot) → first.0.spot ≡ Some z → me.0 ≡ at_spot first.0 (Some (moved z place)) first.0.leaf
  pub words : AreWithin first.0 place
  pub ended : slots_of start ≡ 16 ∷ [] → slots_of place ≡ 16 ∷ []

module _ (k : Begin) (first : Me (Unit {0}) View) (z : Spot) (start : Place) (ranging : IsRanging k first z start) where
  pub on_start : IsOn first start first start
  on_start = record {
    slots = refl;
    view = λ y at. ap (λ x. at_spot first.0 x first.0.leaf) (ranging.cursor.spot ∙ ap Some (λ i. record z { nodes = ranging.nodes i; slots = ranging.slots i }) ∙ ap (λ x. Some (moved x start)) (same_Some z y (sym ranging.cursor.spot ∙ at)));
    words = ranging.words;
    ended = λ e. e;
  }

  module _ (me : Me (Unit {0}) View) (place : Place) (on : IsOn first start me place) where
    here : me.0 ≡ at_spot first.0 (Some (moved z place)) first.0.leaf
    here = on.view z ranging.cursor.spot

    pub ranging_on : IsRanging k me (moved z place) place
    ranging_on =
        let c = ranging.cursor in
        let of = c.of in
        subst (λ u. IsRanging k (u, me.1) (moved z place) place) (sym here) record {
          cursor = record { live = c.live; walk = c.walk; begin = c.begin; own = c.own; owns = c.owns; is = c.is; spot = refl; of = record { begin = of.begin; at = of.at; call = of.call; front = of.front; steps = of.steps; shown = of.shown } };
          leaf = ranging.leaf;
          nodes = refl;
          slots = refl;
          words = on.words;
        }

    module _ (after : Me (Unit {0}) View) (new : Place) (same : after.1 ≡ me.1) where
      pub goes_on : ((y : Spot) → me.0.spot ≡ Some y → MovesTo y On new me.0 after.0) → AreWithin me.0 new → (slots_of place ≡ 16 ∷ [] → slots_of new ≡ 16 ∷ []) → IsOn first start after new
      goes_on moves words ended = record {
        slots = same ∙ on.slots;
        view = λ y at. moves (moved z place) ranging_on.cursor.spot ∙ ap (λ u. at_spot u (Some (moved z new)) u.leaf) here ∙ ap (λ x. at_spot first.0 (Some (moved x new)) first.0.leaf) (same_Some z y (sym ranging.cursor.spot ∙ at));
        words = subst (λ u. AreWithin u new) here words;
        ended = λ e. ended (on.ended e);
      }

      pub steps : (shown : Option (ℕ × ℕ)) → ((y : Spot) → me.0.spot ≡ Some y → ShowsNext y shown new me.0 after.0) → (y : Spot) → first.0.spot ≡ Some y → ShowsNext y shown new first.0 after.0
      steps shown moves y at =
          let s : ShowsNext (moved z place) shown new (at_spot first.0 (Some (moved z place)) first.0.leaf) after.0 = subst (λ u. ShowsNext (moved z place) shown new u after.0) here (moves (moved z place) ranging_on.cursor.spot) in
          subst (λ x. ShowsNext x shown new first.0 after.0) (same_Some z y (sym ranging.cursor.spot ∙ at)) record { item = s.item; time = s.time; seen = s.seen; is = s.is; called = s.called; looks = s.looks }
