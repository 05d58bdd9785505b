-- Cursors: where they stand between two steps, and what a step is.
use Rattle.std.specs.Prelude.{◌≡◌, ℕ, true, List, [], ◌∷◌, ◌++◌, length, Option, Some, None, slice_get}
use Rattle.atomic_table.specs.Table.{Me}
use Rattle.sync_model.specs.declared.item.Item.{Item}
use Rattle.sync_model.specs.declared.item.SharedCall.{SharedCall}
use Rattle.sync_model.specs.declared.item.SharedCall.TheVariants as calls
use Rattle.sync_model.specs.declared.item.SharedReply.{SharedReply}
use Rattle.sync_model.specs.declared.item.SharedReply.TheVariants as replies
use Rattle.sync_model.specs.Shared.{items_of}
use Rattle.table_rule.specs.declared.begin.Begin.{Begin}
use Rattle.shared_table.specs.declared.cursor.TableCursor.{TableCursor}
use Rattle.shared_table.specs.declared.cursor.Move.{Move}
use Rattle.shared_table.specs.declared.cursor.Move.TheVariants.{On, Shown}
use Rattle.table_words.specs.declared.words.TableWords.{TableWords}
use Rattle.table_rule.specs.declared.view.Spot.{Spot}
use Rattle.table_rule.specs.declared.view.View.{View}
use Rattle.trie_nodes.specs.declared.place.Place.{Place}
use Rattle.trie_nodes.specs.PlaceLists.{nodes_of, slots_of}
use Rattle.table_rule.specs.Cursors.{at_spot, Sweeps, Sweeping, IsCursorOf}
use Rattle.table_rule.specs.Operations.{PlacesCall}
use Rattle.table_words.specs.Seats.{begin_of, IsSeatOf}
use Rattle.table_rule.specs.Views.{view_state}
use Rattle.table_rule.specs.Walking.{HasWords}

-- where a cursor stands that has come to this place
abbrev pub moved : Spot → Place → Spot
moved z place = record z { nodes = nodes_of place; slots = slots_of place }

-- and where it has shown this
abbrev pub showing : Spot → Option (ℕ × ℕ) → Spot
showing z None = z
showing z (Some pair) = record z { shown = z.shown ++ pair.0 ∷ [] }

-- a seat's cursor made a step, which showed this, and has come to this place
abbrev pub ShowsNext : Spot → Option (ℕ × ℕ) → Place → View → View → Type 0
ShowsNext z shown place v w = Sweeps (calls.Next z.begin) (replies.Shown shown) (Some (showing (moved z place) shown)) None v w

-- a seat's cursor made one move, and has come to this place
abbrev pub MovesTo : Spot → Move → Place → View → View → Type 0
MovesTo z On place v w = w ≡ at_spot v (Some (moved z place)) v.leaf
MovesTo z (Shown shown) place v w = ShowsNext z shown place v w

-- all nodes of this place lie within the table
abbrev pub AreWithin : View → Place → Type 0
AreWithin v place = (i node : ℕ) → slice_get (nodes_of place) i ≡ Some node → HasWords v node 18

-- a caller's seat with a cursor, which stands at this place
pub record IsRanging (k : Begin) (me : Me (Unit {0}) View) (z : Spot) (place : Place) : Type 0 where
  pub cursor : Sweeping k me z
  pub leaf : me.0.leaf ≡ None
  pub nodes : z.nodes ≡ nodes_of place
  pub slots : z.slots ≡ slots_of place
  pub words : AreWithin me.0 place

-- the cursor stands behind the last slot of the root that it began at
abbrev pub HasPassedAll : TableCursor → Type 0
HasPassedAll cursor = slots_of cursor.place ≡ 16 ∷ []

-- the cursor walks over map m for a caller who made these calls, of which number b began it
pub record IsCursor (words : TableWords) (cursor : TableCursor) (m b : ℕ) (items : List Item) : Type 0 where
  pub table_is : IsSeatOf words cursor.seat
  pub empty : cursor.seat.me.1 ≡ []
  pub live : cursor.seat.me.0.live ≡ true
  pub begin : cursor.seat.me.0.begin ≡ (begin_of words)
  pub nobody : length cursor.seat.me.0.owns ≡ 0
  pub spot : Spot
  pub is : cursor.seat.me.0.spot ≡ Some spot
  pub nodes : spot.nodes ≡ nodes_of cursor.place
  pub slots : spot.slots ≡ slots_of cursor.place
  pub within : AreWithin cursor.seat.me.0 cursor.place
  pub is_map : spot.map ≡ m
  pub is_begin : spot.begin ≡ b
  pub of : IsCursorOf items spot

-- a caller's seat made a call of its cursor, which then walks over map m, and call number b of the caller began it
pub record RangesOn (words : TableWords) (cursor : TableCursor) (m b : ℕ) (call : SharedCall) (reply : SharedReply) (v w : View) : Type 0 where
  pub placed : PlacesCall call reply v w
  pub stands : IsCursor words cursor m b (items_of (view_state w).own)
