-- The first part of the rule: the history, the callers' own lists of calls, and what each seat knows of both. Nothing here speaks of words.
use Rattle.std.specs.Prelude.{◌≡◌, ℕ, ◌+◌, ◌<◌, List, Some, length, slice_get, slice_index}
use Rattle.sync_model.specs.declared.item.SharedEntry.{SharedEntry}
use Rattle.sync_model.specs.declared.item.Item.{Item}
use Rattle.sync_model.specs.Front.{AtLeast}
use Rattle.sync_model.specs.Journal.{Begins}
use Rattle.sync_model.specs.SharedCalls.{Knows}
use Rattle.table_rule.specs.declared.view.Own.{Own}
use Rattle.table_rule.specs.declared.view.View.{View}

-- the seat stands for the caller: it has all calls of the caller, and its front counts them, and forgets nothing that the caller knew
pub record Owned (callers : ℕ) (calls : ℕ → List Item) (claim : ℕ → ℕ) (seat : ℕ) (front : List ℕ) (caller : ℕ) (own : Own) : Type 0 where
  pub below : caller < callers
  pub claimed : claim caller ≡ seat
  pub items : calls caller ≡ own.items
  pub counted : slice_index front caller ≡ length own.items
  pub knew : (i : ℕ) (x : Item) → slice_get own.items i ≡ Some x → AtLeast front x.front

-- what a seat knows is so: all that it has seen and heard are beginnings of the history, and all that its front counts lies within what it has seen
pub record Fits (callers : ℕ) (log : List SharedEntry) (calls : ℕ → List Item) (claim : ℕ → ℕ) (seat : ℕ) (v : View) : Type 0 where
  pub seen : Begins log v.seen
  pub heard : (i : ℕ) (xs : List SharedEntry) → slice_get v.heard i ≡ Some xs → Begins log xs
  pub long : length v.front ≡ callers
  pub front : Knows calls v.front (length v.seen)
  pub owns : (i : ℕ) (own : Own) → slice_get v.owns i ≡ Some own → Owned callers calls claim seat v.front (v.number + i) own
