-- The rule of a shared table: whatever its seats do, there is one history, which is lawful and in order with all callers' calls, and of which the words are the outcome.
use Rattle.std.specs.Prelude.{◌≡◌, ℕ, ◌<◌, ◌≤◌, ◌^◌, true, List, [], slice_index}
use mathlib.Core.Option.{some}
use lib.ListN.{get_elem?}
use Rattle.atomic_table.specs.Table.{State}
use Rattle.sync_model.specs.declared.item.SharedEntry.{SharedEntry}
use Rattle.sync_model.specs.declared.item.Item.{Item}
use Rattle.sync_model.specs.SharedCalls.{Lawful}
use Rattle.sync_model.specs.SharedHistory.{contents_after}
use Rattle.table_rule.specs.declared.begin.Begin.{Begin}
use Rattle.table_rule.specs.declared.view.View.{View}
use Rattle.sync_model.specs.EndsOfHistory.{HasKeysBelow}
use Rattle.table_rule.specs.Layout.{callers_of, IsBegin}
use Rattle.table_rule.specs.Ledger.{Fits}
use Rattle.table_rule.specs.Shape.{Shape, start_of, Fine}
use Rattle.table_rule.specs.Gates.{Gated}
use Rattle.table_rule.specs.Order.{Ordered}
use Rattle.table_rule.specs.Owed.{Suits}
use Rattle.table_rule.specs.Unused.{IsUnused}
use Rattle.table_rule.specs.Values.{AreInRange}

-- a table without slots
abbrev pub TableState : Type 0
TableState = State (Unit {0}) View

pub record Kept (k : Begin) (s : TableState) : Type 0 where
  pub log : List SharedEntry
  pub calls : ℕ → List Item
  -- which seat stands for a caller
  pub claim : ℕ → ℕ
  pub shape : Shape
  pub begin : IsBegin k
  pub lawful : Lawful (start_of k) log calls
  pub none_else : (c : ℕ) → callers_of k ≤ c → calls c ≡ []
  pub keys : HasKeysBelow (2 ^ 32) (contents_after (start_of k) log)
  pub values : AreInRange log
  pub fine : Fine k shape log s.words
  pub gates : (m : ℕ) → m < k.maps → Gated k shape s.words m
  pub unused : (i : ℕ) → IsUnused k shape s.views i → slice_index s.words i ≡ 0
  pub fits : (j : ℕ) (v : View) → get_elem? s.views j ≡ some v → v.live ≡ true → Fits (callers_of k) log calls claim j v
  pub ordered : Ordered shape log calls s.views
  pub suits : (j : ℕ) (v : View) → get_elem? s.views j ≡ some v → v.live ≡ true → Suits k shape log calls s.words v
