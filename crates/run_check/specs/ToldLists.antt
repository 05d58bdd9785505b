-- What is kept of the items of a worker's list.
use Rattle.std.specs.Prelude.{◌≡◌, ℕ, Bool, true, false, cond, List, [], ◌∷◌, ◌++◌, map, Option, Some, None}
use Rattle.std.specs.List.{flat_map}
use Rattle.sync_model.specs.declared.item.Item.{Item}
use Rattle.sync_model.specs.declared.journal.Deed.{Deed}
use Rattle.sync_model.specs.declared.journal.Deed.TheVariants.{Event, Refused, Halt}
use Rattle.run_record.specs.declared.entered.ObjectEvent.{ObjectEvent}
use Rattle.run_record.specs.declared.entered.ObjectReply.{ObjectReply}
use Rattle.run_record.specs.declared.made.Made.{Made}
use Rattle.run_record.specs.declared.made.Made.TheVariants.{Shared, Entered}
use Rattle.object_checks.specs.declared.journals.item.JournalItem.{JournalItem}
use Rattle.run_check.specs.declared.told.lists.ToldList.{ToldList}
use Rattle.run_check.specs.declared.told.sketch.Sketch.{Sketch}
use Rattle.run_check.specs.declared.told.sketch.Sketch.TheVariants as sketches
use Rattle.run_check.specs.ToldItems.{Sketched}

abbrev pub halts : Deed ObjectEvent ObjectReply → Bool
halts (Event event reply) = false
halts (Refused event misuse) = false
halts (Halt misuse) = true

-- whether an item is a halt
abbrev pub is_halt : Sketch → Bool
is_halt (sketches.Shared call reply place) = false
is_halt (sketches.Entered object number deed) = halts deed

-- an item with nothing but what spells a call: what was called or done, and what was answered
abbrev pub bare : Sketch → Made
bare (sketches.Shared call reply place) = Shared (record { call = call; reply = reply; place = 0; entry = false; front = [] })
bare (sketches.Entered object number deed) = Entered object (record { caller = 0; deed = deed; front = []; knew = 0; time = 0 })

-- ---- what one item adds to each of the lists

-- of which call it is, unless it is a halt
abbrev pub call_in : Sketched → List (Option ℕ)
call_in s = cond (is_halt s.sketch) [] (s.index ∷ [])

abbrev pub spelt_in : Sketched → List Made
spelt_in s = cond (is_halt s.sketch) [] (bare s.sketch ∷ [])

abbrev pub shared_at : (front : List ℕ) → Sketch → List Item
shared_at front (sketches.Shared call reply place) = record { call = call; reply = reply; place = place; entry = false; front = front } ∷ []
shared_at front (sketches.Entered object number deed) = []

abbrev pub entry_at : (front : List ℕ) → Sketch → List JournalItem
entry_at front (sketches.Shared call reply place) = []
entry_at front (sketches.Entered object number deed) = record { object = object; number = number; deed = deed; front = front } ∷ []

-- the parts of a list with these items
pub record AreParts (items : List Sketched) (told : ToldList) : Type 0 where
  pub calls : told.calls ≡ flat_map call_in items
  pub spelt : told.spelt ≡ flat_map spelt_in items
  pub all : told.all ≡ map (λ (s : Sketched). bare s.sketch) items
  pub shared : told.shared ≡ flat_map (λ (s : Sketched). shared_at s.front s.sketch) items
  pub entries : told.entries ≡ flat_map (λ (s : Sketched). entry_at s.front s.sketch) items

-- the parts behind one more item
abbrev pub parts_with : ToldList → Sketched → ToldList
parts_with told s = record {
  calls = told.calls ++ call_in s;
  spelt = told.spelt ++ spelt_in s;
  all = told.all ++ bare s.sketch ∷ [];
  shared = told.shared ++ shared_at s.front s.sketch;
  entries = told.entries ++ entry_at s.front s.sketch;
}

-- these items, and then those
abbrev pub behind_items : List Sketched → Option (List Sketched) → Option (List Sketched)
behind_items items None = None
behind_items items (Some more) = Some (items ++ more)
