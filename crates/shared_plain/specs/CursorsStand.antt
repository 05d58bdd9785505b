-- What contracts see of a cursor.
use Rattle.std.specs.Prelude.{◌≡◌, ℕ, ◌<◌, List}
use Rattle.sync_model.specs.declared.item.Item.{Item}
use Rattle.shared_plain.specs.declared.cursor.Cursor.{Cursor}
use Rattle.shared_plain.specs.declared.plain.Plain.{Plain}
use Rattle.shared_plain.specs.Plains.{maps_of}
use Rattle.shared_plain.specs.Walks.{StandsAt}

-- the cursor walks over map m for a caller who made these calls, of which number b began it
pub record Stands (plain : Plain) (cursor : Cursor) (m b : ℕ) (items : List Item) : Type 0 where
  pub is_map : cursor.map ≡ m
  pub is_begin : cursor.begin ≡ b
  pub there : m < maps_of plain
  pub at : StandsAt items m b cursor.from
