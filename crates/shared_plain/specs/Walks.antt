-- Where a caller's cursors stand, by the caller's own calls; and what a caller adds to a journal.
use Rattle.std.specs.Prelude.{◌≡◌, ℕ, ◌+◌, ◌==◌, cond, List, [], ◌∷◌, ◌++◌, take, Option, Some, None, slice_get}
use Rattle.sync_model.specs.declared.item.SharedCall.{SharedCall}
use Rattle.sync_model.specs.declared.item.SharedCall.TheVariants as calls
use Rattle.sync_model.specs.declared.item.SharedReply.{SharedReply}
use Rattle.sync_model.specs.declared.item.SharedReply.TheVariants as replies
use Rattle.sync_model.specs.declared.item.Item.{Item}
use Rattle.sync_model.specs.declared.journal.Deed.TheVariants as deeds
use Rattle.shared_plain.specs.declared.event.Event.TheVariants.{Next}
use Rattle.shared_plain.specs.declared.event.Answered.{Answered}
use Rattle.shared_plain.specs.PlainHistory.{Step, calls_counted, items_by}

-- a cursor that showed a pair stands behind its key; one that showed none stays
abbrev pub spot_behind : Option (ℕ × ℕ) → ℕ → ℕ
spot_behind None spot = spot
spot_behind (Some pair) spot = pair.0 + 1

abbrev pub spot_shown : SharedReply → ℕ → ℕ
spot_shown (replies.Map reply) spot = spot
spot_shown replies.Begun spot = spot
spot_shown (replies.Shown pair) spot = spot_behind pair spot
spot_shown (replies.Atomic reply) spot = spot

-- where the cursor that call number b began stands after one more call: only its own steps move it
abbrev pub spot_next : ℕ → SharedCall → SharedReply → ℕ → ℕ
spot_next b (calls.Map m call) reply spot = spot
spot_next b (calls.Begin m) reply spot = spot
spot_next b (calls.Next begin) reply spot = cond (begin == b) (spot_shown reply spot) spot
spot_next b (calls.Atomic a call) reply spot = spot

abbrev pub spot_from : ℕ → ℕ → List Item → ℕ
spot_from b spot [] = spot
spot_from b spot (x ∷ xs) = spot_from b (spot_next b x.call x.reply spot) xs

-- where it stands after these calls of its caller: it has passed the keys below
abbrev pub spot_of : ℕ → List Item → ℕ
spot_of b items = spot_from b 0 items

-- call number b of these began a cursor over map m, which now stands at this key
pub record StandsAt (items : List Item) (m b key : ℕ) : Type 0 where
  pub begin : Item
  pub at : slice_get items b ≡ Some begin
  pub call : begin.call ≡ calls.Begin m
  pub spot : spot_of b items ≡ key

-- a caller's entry behind these: the caller knew all its own earlier calls, and a cursor's step asks from where the cursor stands
pub record IsInOrder (n : ℕ) (before : List Step) (x : Step) : Type 0 where
  pub knew : calls_counted x.caller (take x.knew before) ≡ calls_counted x.caller before
  pub steps : (m b from : ℕ) (reply : Option Answered) → x.deed ≡ deeds.Event (Next m b from) reply → StandsAt (items_by n x.caller before) m b from

-- so are all of a caller's entries in a journal that goes on behind these
abbrev pub AreInOrder : ℕ → ℕ → List Step → List Step → Type 0
AreInOrder n c before [] = Unit {0}
AreInOrder n c before (x ∷ xs) = (x.caller ≡ c → IsInOrder n before x) × AreInOrder n c (before ++ x ∷ []) xs
