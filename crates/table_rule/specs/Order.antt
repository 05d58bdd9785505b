-- The fourth part of the rule: the numbers of all calls in the one order of all events.
use Rattle.std.specs.Prelude.{◌≡◌, ℕ, ◌+◌, ◌<◌, ◌≤◌, true, List, Some, slice_get}
use mathlib.Core.Option.{some}
use lib.ListN.{get_elem?}
use Rattle.sync_model.specs.declared.item.SharedEntry.{SharedEntry}
use Rattle.sync_model.specs.declared.item.Item.{Item}
use Rattle.sync_model.specs.SharedOrder.{InOrder}
use Rattle.table_rule.specs.declared.view.Own.{Own}
use Rattle.table_rule.specs.declared.view.View.{View}
use Rattle.table_rule.specs.declared.view.Walk.{Walk}
use Rattle.table_rule.specs.Shape.{Shape, time}

-- a seat knows the numbers of its callers' calls. While it stands at a node, each entry after the moment that the node stands for is at least 2 past its caller's last event: a call that is placed at the moment finds a number between
pub record IsTimely (sh : Shape) (log : List SharedEntry) (entry_times : List ℕ) (times : ℕ → List ℕ) (clock : ℕ) (v : View) : Type 0 where
  pub owns : (i : ℕ) (own : Own) → slice_get v.owns i ≡ Some own → times (v.number + i) ≡ own.times
  pub told : (w : Walk) → v.walk ≡ Some w → v.time ≤ clock
  pub since : (w : Walk) (n later : ℕ) → v.walk ≡ Some w → time sh log w.node ≤ n → slice_get entry_times n ≡ Some later → v.time + 2 ≤ later

-- the calls have numbers that are in order with the history. No number is past the clock. Two entries are at least 2 apart, so that a call between them finds a number of its own
pub record Ordered (sh : Shape) (log : List SharedEntry) (calls : ℕ → List Item) (views : List View) : Type 0 where
  pub entry_times : List ℕ
  pub times : ℕ → List ℕ
  pub clock : ℕ
  pub order : InOrder log calls entry_times times
  pub apart : (n i earlier later : ℕ) → n < i → slice_get entry_times n ≡ Some earlier → slice_get entry_times i ≡ Some later → earlier + 2 ≤ later
  pub entered : (n time : ℕ) → slice_get entry_times n ≡ Some time → time ≤ clock
  pub called : (c j time : ℕ) → slice_get (times c) j ≡ Some time → time ≤ clock
  pub seats : (j : ℕ) (v : View) → get_elem? views j ≡ some v → v.live ≡ true → IsTimely sh log entry_times times clock v
