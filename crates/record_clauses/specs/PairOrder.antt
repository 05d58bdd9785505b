-- When a range replies in one order.
use Rattle.std.specs.Prelude.{◌≡◌, ℕ, ◌<◌, List, [], ◌∷◌, length, Some, slice_get}
use Rattle.std.specs.List.{IsDistinct}
use Rattle.std.specs.Str.{bytes_eq}
use Rattle.script_calls.specs.declared.call.Operation.TheVariants as operations
use Rattle.script_calls.specs.declared.call.Reply.TheVariants as replies
use Rattle.sync_model.specs.declared.item.Item.{Item}
use Rattle.sync_model.specs.declared.item.SharedReply.TheVariants as answers
use Rattle.workload.specs.Keys.{key_name}
use Rattle.run_record.specs.Lines.{SpeltCall}

-- no two of these pairs have keys of one name
abbrev pub AreApart : List (List ℕ) → List (ℕ × ℕ) → Type 0
AreApart keys pairs = IsDistinct (λ a b. bytes_eq (key_name keys a.0) (key_name keys b.0)) pairs

-- so it is of the pairs that each range replies
abbrev pub RepliesApart : List (List ℕ) → List SpeltCall → Type 0
RepliesApart keys [] = Unit {0}
RepliesApart keys (spelt ∷ later) = ((pairs : List (ℕ × ℕ)) → spelt.call.operation ≡ operations.Range → spelt.reply ≡ replies.Pairs pairs → AreApart keys pairs) × RepliesApart keys later

-- the keys that these calls showed are the workload's
abbrev pub ShowKeys : List (List ℕ) → List Item → Type 0
ShowKeys keys calls = (i : ℕ) (x : Item) (pair : ℕ × ℕ) → slice_get calls i ≡ Some x → x.reply ≡ answers.Shown (Some pair) → pair.0 < length keys
