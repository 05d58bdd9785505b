-- A seat on its way to a key, from its call on.
use Rattle.std.proofs.Common.{◌≡◌, ℕ, suc, ◌<◌, length, Option, Some, None, IsSome, refl, sym, ap, ◌∙◌, subst}
use Rattle.atomic_table.specs.Table.{Me}
use Rattle.sync_model.specs.declared.item.SharedCall.TheVariants as calls
use Rattle.sync_model.specs.declared.item.SharedReply.TheVariants as replies
use Rattle.sync_types.specs.declared.map_object.MapCall.TheVariants.{Load}
use Rattle.sync_types.specs.declared.map_object.MapReply.{MapReply}
use Rattle.sync_types.specs.declared.map_object.MapReply.TheVariants.{Found}
use Rattle.sync_model.specs.Shared.{Called}
use Rattle.table_rule.specs.declared.begin.Begin.{Begin}
use Rattle.shared_table.specs.declared.table.SharedTable.{SharedTable}
use Rattle.shared_table.specs.declared.note.SharedNote.{SharedNote}
use Rattle.table_rule.specs.declared.view.Leaf.{Leaf}
use Rattle.table_rule.specs.declared.view.View.{View}
use Rattle.table_rule.specs.declared.view.Walk.{Walk}
use Rattle.trie_nodes.specs.declared.slot.Slot.TheVariants.{Empty, Node, Entry}
use Rattle.table_rule.specs.Operations.{PlacesCall}
use Rattle.table_rule.specs.Shape.{start_of}
use Rattle.table_rule.specs.Views.{with_item, called_view, view_state}
use Rattle.table_rule.specs.Walking.{standing, walk_at, given_by, HasWords, Answers, FindsIn, IsFree, OnWay, AtEntry, told_at}
use Rattle.shared_table.specs.Notes.{own_by, IsNoteOf}
use Rattle.table_words.specs.Seats.{begin_of}
use Rattle.shared_table.proofs.Calling.{some_own}
use Rattle.shared_table.proofs.Seeing.{looks_still}

-- a note's seat may begin a walk
pub free_seat : (table : SharedTable) (note : SharedNote) → IsNoteOf table note → IsSome (own_by note) → IsFree (begin_of table.words) note.seat.me
free_seat table note is owned = record { live = is.live; begin = is.begin; idle = is.idle; some = some_own note.seat.me.0.number note.seat.me.0.owns owned }

-- a seat that was told a number is as free as before
pub free_told : (k : Begin) (me : Me (Unit {0}) View) (time : ℕ) → IsFree k me → IsFree k (told_at time me)
free_told k me time f = let i = f.idle in record { live = f.live; begin = f.begin; idle = record { walk = i.walk; leaf = i.leaf; lock = i.lock; upper = i.upper; gate = i.gate; spot = i.spot }; some = f.some }

-- a seat that was free stands at the node of this level on the key's path
pub record IsAt (first : Me (Unit {0}) View) (m key : ℕ) (me : Me (Unit {0}) View) (node level : ℕ) : Type 0 where
  pub slots : me.1 ≡ first.1
  pub view : me.0 ≡ standing first.0 (Some (walk_at m key node level (length first.0.seen))) first.0.leaf
  pub words : HasWords first.0 node 18

module _ (k : Begin) (first : Me (Unit {0}) View) (free : IsFree k first) (m key : ℕ) where
  pub on_way : (me : Me (Unit {0}) View) (node level : ℕ) → IsAt first m key me node level → OnWay k me (walk_at m key node level (length me.0.seen))
  on_way me node level at = subst (λ (u : View). OnWay k (u, me.1) (walk_at m key node level (length u.seen))) (sym at.view)
      record { live = free.live; begin = free.begin; some = free.some; walk = refl; leaf = free.idle.leaf; since = refl }

  pub words_there : (me : Me (Unit {0}) View) (node level : ℕ) → IsAt first m key me node level → HasWords me.0 node 18
  words_there me node level at = subst (λ (u : View). HasWords u node 18) (sym at.view) at.words

  -- the call was placed on the way
  placed : (walk : Option Walk) (leaf : Option Leaf) (reply : MapReply) (mid last : View) → Answers m (Load key) reply 0 leaf (standing first.0 walk first.0.leaf) mid → last ≡ standing mid None None → PlacesCall (calls.Map m (Load key)) (replies.Map reply) first.0 last
  placed walk leaf reply mid last a is = record {
    item = a.item;
    time = a.time;
    seen = a.seen;
    is = is ∙ ap (λ u. standing u None None) a.is ∙ (λ i. standing (called_view first.0 (with_item first.0.owns a.item a.time) a.seen a.time) (sym free.idle.walk i) (sym free.idle.leaf i));
    called = subst (λ u. Called (start_of first.0.begin) (calls.Map m (Load key)) (replies.Map reply) 0 (view_state first.0) (view_state u)) (sym is) a.called;
    looks = looks_still mid last None None mid.lock mid.upper mid.gate mid.spot mid.cut is a.looks;
  }

  module _ (me after : Me (Unit {0}) View) (node level : ℕ) (at : IsAt first m key me node level) (same : after.1 ≡ me.1) where
    abbrev walk : View → Walk
    walk u = walk_at m key node level (length u.seen)

    abbrev here : View
    here = standing first.0 (Some (walk_at m key node level (length first.0.seen))) first.0.leaf

    pub goes_on : (below : ℕ) → FindsIn (Load key) (walk_at m key node level (length me.0.seen)) (Node below) me.0 after.0 → IsAt first m key after below (suc level) × (suc level < 8)
    goes_on below found = let f : FindsIn (Load key) (walk here) (Node below) here after.0 = subst (λ (u : View). FindsIn (Load key) (walk u) (Node below) u after.0) at.view found in (record { slots = same ∙ at.slots; view = f.0; words = f.1 }, f.2)

    pub finds_none : FindsIn (Load key) (walk_at m key node level (length me.0.seen)) Empty me.0 after.0 → (after.1 ≡ first.1) × PlacesCall (calls.Map m (Load key)) (replies.Map (Found None)) first.0 after.0
    finds_none found =
        let f : FindsIn (Load key) (walk here) Empty here after.0 = subst (λ (u : View). FindsIn (Load key) (walk u) Empty u after.0) at.view found in
        let whole : after.0 ≡ standing after.0 None None = f.is ∙ (λ i. standing (called_view here (with_item here.owns f.item f.time) f.seen f.time) None (free.idle.leaf i)) ∙ ap (λ u. standing u None None) (sym f.is) in
        (same ∙ at.slots, placed (Some (walk here)) first.0.leaf (Found None) after.0 after.0 f whole)

    -- an entry is there, whose words the seat knows
    abbrev pub Knows : ℕ → Type 0
    Knows place = FindsIn (Load key) (walk_at m key node level (length me.0.seen)) (Entry place) me.0 after.0

    pub at_entry : (place : ℕ) → Knows place → AtEntry after place × HasWords after.0 place 2 × (after.0.begin ≡ k)
    at_entry place found =
        let f : FindsIn (Load key) (walk here) (Entry place) here after.0 = subst (λ (u : View). FindsIn (Load key) (walk u) (Entry place) u after.0) at.view found in (
          record { live = ap (λ (u : View). u.live) f.4.is ∙ free.live; entry = f.0; is = ap (λ (u : View). u.leaf) f.4.is; place_is = f.1 },
          subst (λ (u : View). HasWords u place 2) (sym f.4.is) f.3,
          ap (λ (u : View). u.begin) f.4.is ∙ free.begin,
        )

    pub finds : (place : ℕ) (value : Option ℕ) (last : Me (Unit {0}) View) → Knows place → (last.1 ≡ after.1) × (last.0 ≡ standing after.0 after.0.walk None) → ((l : Leaf) → after.0.leaf ≡ Some l → value ≡ given_by l key)
        → (last.1 ≡ first.1) × PlacesCall (calls.Map m (Load key)) (replies.Map (Found value)) first.0 last.0
    finds place value last found left gives =
        let f : FindsIn (Load key) (walk here) (Entry place) here after.0 = subst (λ (u : View). FindsIn (Load key) (walk u) (Entry place) u after.0) at.view found in
        let whole : last.0 ≡ standing after.0 None None = left.1 ∙ ap (λ w. standing after.0 w None) (ap (λ (u : View). u.walk) f.4.is) in
        let is_value = gives f.0 (ap (λ (u : View). u.leaf) f.4.is) in (
          left.0 ∙ same ∙ at.slots,
          subst (λ o. PlacesCall (calls.Map m (Load key)) (replies.Map (Found o)) first.0 last.0) (sym is_value) (placed (Some (walk here)) (Some f.0) (Found (given_by f.0 key)) after.0 last.0 f.4 whole),
        )
