-- A writer that looks at a slot stays inside of its gate.
use Rattle.std.proofs.Common.{◌≡◌, ℕ, Bool, true, false, MatchBool, Some, ap, ◌∙◌}
use Rattle.sync_types.specs.declared.map_object.MapCall.{MapCall}
use Rattle.sync_types.specs.KeyCalls.{is_key_entry, key_reply}
use Rattle.table_rule.specs.declared.view.Leaf.{Leaf}
use Rattle.table_rule.specs.declared.view.Lock.{Lock}
use Rattle.table_rule.specs.declared.view.View.{View}
use Rattle.table_rule.specs.declared.view.Walk.{Walk}
use Rattle.trie_nodes.specs.declared.slot.Slot.TheVariants.{Entry}
use Rattle.table_rule.specs.Making.{FindsHeld}
use Rattle.table_rule.specs.Walking.{standing, given_by, Answers, FindsIn}

-- it found an entry
pub found_gate : (call : MapCall ℕ) (w : Walk) (place : ℕ) (v u : View) → FindsIn call w (Entry place) v u → u.gate ≡ v.gate
found_gate call w place v u f = by_entry f.0 (is_key_entry call (given_by f.0 w.key)) f.4
  where
    by_entry : (l : Leaf) (b : Bool) → MatchBool b (u ≡ standing v v.walk (Some l)) (Answers w.map call (key_reply call (given_by l w.key)) 0 (Some l) v u) → u.gate ≡ v.gate
    by_entry l true e = ap (λ (z : View). z.gate) e
    by_entry l false a = ap (λ (z : View). z.gate) a.is

-- and it holds the lock of the node
pub held_gate : (call : MapCall ℕ) (w : Walk) (l : Lock) (slot place : ℕ) (v u : View) → FindsHeld call w l slot (Entry place) v u → u.gate ≡ v.gate
held_gate call w l slot place v u f = ap (λ (z : View). z.gate) f.is ∙ found_gate call w place v f.mid f.finds
