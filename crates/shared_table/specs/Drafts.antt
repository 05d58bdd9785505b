-- What a call that changes a map drafts before it shows it.
use Rattle.std.specs.Prelude.{◌≡◌, ℕ, ◌<◌, true, List, [], ◌∷◌, slice_index, length, Some}
use Rattle.atomic_table.specs.Table.{Me}
use Rattle.sync_types.specs.declared.map_object.MapCall.{MapCall}
use Rattle.sync_types.specs.SequentialMap.{map_key}
use Rattle.sync_model.specs.Shared.{cost_of}
use Rattle.table_rule.specs.declared.begin.Begin.{Begin}
use Rattle.table_rule.specs.declared.view.Lock.{Lock}
use Rattle.table_rule.specs.declared.view.Own.{Own}
use Rattle.table_rule.specs.declared.view.View.{View}
use Rattle.trie_nodes.specs.declared.slot.Slot.{Slot}
use Rattle.sync_types.specs.KeyCalls.{is_key_entry}
use Rattle.table_rule.specs.Making.{leaf_value, IsLockAt, Sees}
use Rattle.table_rule.specs.Values.{HasSmallValues}

-- a seat that has drafted nothing knows, under the lock of a node, that its call is an entry of the history
pub record IsPoised (k : Begin) (v : View) (call : MapCall ℕ) (m key node level next : ℕ) : Type 0 where
  pub own : Own
  pub owns : List Own
  pub lock : Lock
  pub found : Slot
  pub at : IsLockAt lock key node level
  pub sees : Sees k v own owns lock m found
  pub draft : own.draft ≡ []
  pub next_is : own.next ≡ next
  pub on : map_key call ≡ Some key
  pub costs : cost_of call ≡ 1
  pub is_entry : is_key_entry call (leaf_value v.leaf key) ≡ true
  pub values : HasSmallValues call

-- the first caller's room holds this
abbrev pub with_draft : List Own → List ℕ → List Own
with_draft [] words = []
with_draft (own ∷ owns) words = record own { draft = words } ∷ owns

-- a seat drafted so many words, which are these
pub record Drafted (first me : Me (Unit {0}) View) (n : ℕ) (word : ℕ → ℕ) : Type 0 where
  pub words : List ℕ
  pub long : length words ≡ n
  pub each : (i : ℕ) → i < n → slice_index words i ≡ word i
  pub is : me ≡ (record first.0 { owns = with_draft first.0.owns words }, first.1)
