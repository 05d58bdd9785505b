-- The views of seats.
use Rattle.std.specs.Prelude.{◌≡◌, ℕ, zero, suc, ◌+◌, ◌-◌, ◌*◌, ◌<◌, ◌≤◌, true, false, cond, nat_le, max, List, [], ◌∷◌, ◌++◌, length, replicate, Option, Some, None, slice_get, slice_index, slice_set}
use Rattle.sync_model.specs.declared.item.SharedEntry.{SharedEntry}
use Rattle.sync_model.specs.declared.item.Item.{Item}
use Rattle.sync_model.specs.Journal.{Begins}
use Rattle.sync_model.specs.Note.{Holding}
use Rattle.sync_model.specs.SharedCalls.{Lawful}
use Rattle.sync_model.specs.SharedOrder.{InOrder}
use Rattle.sync_model.specs.Shared.{CallerState}
use Rattle.table_rule.specs.declared.begin.Begin.{Begin}
use Rattle.table_rule.specs.declared.view.Own.{Own}
use Rattle.table_rule.specs.declared.view.Gate.TheVariants.{Outside}
use Rattle.table_rule.specs.declared.view.View.{View}
use Rattle.trie_nodes.specs.Layout.{unit_words}
use Rattle.table_rule.specs.Layout.{first_room, callers_of}
use Rattle.table_rule.specs.Shape.{start_of}
use Rattle.table_rule.specs.Values.{AreInRange}

-- callers that made no call, each with its room behind the one before
abbrev pub new_owns : ℕ → List ℕ → List Own
new_owns next [] = []
new_owns next (spare ∷ spares) = record { items = []; times = []; next = next; spare = spare; draft = [] } ∷ new_owns (next + unit_words * spare) spares

-- the first seat stands for all callers
abbrev pub first_view : Begin → View
first_view k = record {
  live = true;
  begin = k;
  seen = [];
  heard = [];
  front = replicate (callers_of k) 0;
  time = 0;
  number = 0;
  owns = new_owns (first_room k) k.spares;
  walk = None;
  leaf = None;
  lock = None;
  upper = None;
  gate = Outside;
  spot = None;
  cut = [];
}

-- what contracts see of the first caller that a seat stands for
abbrev pub held_in : ℕ → List Own → Option Holding
held_in number [] = None
held_in number (own ∷ owns) = Some (record { number = number; items = own.items; times = own.times; spare = own.spare })

-- what contracts see of a view
abbrev pub view_state : View → CallerState
view_state v = record { own = held_in v.number v.owns; front = v.front; time = v.time; seen = v.seen }

-- how many calls the first caller made
abbrev pub made_by : List Own → ℕ
made_by [] = 0
made_by (own ∷ owns) = length own.items

-- a seat was told the number of its caller's last event
abbrev pub at_time : View → ℕ → View
at_time v time = record v { time = time }

-- one more call of the first caller, which has this number
abbrev pub with_item : List Own → Item → ℕ → List Own
with_item [] x time = []
with_item (own ∷ owns) x time = record own { items = own.items ++ x ∷ []; times = own.times ++ time ∷ [] } ∷ owns

-- a caller used up one unit of its room. It goes on behind the words that it used
abbrev pub spend_own : ℕ → Own → Own
spend_own words own = record own { next = own.next + words; spare = own.spare - 1; draft = [] }

abbrev pub spend : ℕ → List Own → List Own
spend words [] = []
spend words (own ∷ owns) = spend_own words own ∷ owns

-- a call costs a unit of its caller's room, of which it used so many words, or nothing
abbrev pub paid_own : ℕ → ℕ → Own → Own
paid_own zero words own = own
paid_own (suc cost) words own = spend_own words own

abbrev pub paid : ℕ → ℕ → List Own → List Own
paid zero words owns = owns
paid (suc cost) words owns = spend words owns

-- it can be paid, and nothing is drafted
abbrev pub MayPay : ℕ → Own → Type 0
MayPay zero own = Unit {0}
MayPay (suc cost) own = (cost ≡ 0) × (0 < own.spare) × (own.draft ≡ [])

-- the view after a call of the first caller, who has then seen this, and whose call has this number
abbrev pub called_view : View → List Own → List SharedEntry → ℕ → View
called_view v owns seen time = record v { seen = seen; front = slice_set v.front v.number (made_by owns); owns = owns; time = time }

-- a seat stands nowhere, holds no lock and is outside of all gates: so it is between two calls
pub record IsIdle (v : View) : Type 0 where
  pub walk : v.walk ≡ None
  pub leaf : v.leaf ≡ None
  pub lock : v.lock ≡ None
  pub upper : v.upper ≡ None
  pub gate : v.gate ≡ Outside
  pub spot : v.spot ≡ None

-- the first of the callers, and all but the first
abbrev pub first_of : List Own → List Own
first_of [] = []
first_of (own ∷ owns) = own ∷ []

abbrev pub others_of : List Own → List Own
others_of [] = []
others_of (own ∷ owns) = owns

-- a new seat that knows what another knows, and stands for nobody
abbrev pub copied : View → View
copied v = record v { heard = []; owns = [] }

-- a new seat for the first caller of another, which keeps the other callers
abbrev pub dealt : View → View
dealt v = record v { heard = []; owns = first_of v.owns }

abbrev pub kept : View → View
kept v = record v { number = v.number + 1; owns = others_of v.owns }

-- for each caller the larger number
abbrev pub most : List ℕ → List ℕ → List ℕ
most [] others = others
most (x ∷ xs) [] = x ∷ xs
most (x ∷ xs) (y ∷ ys) = max x y ∷ most xs ys

-- the longer of two lists
abbrev pub longest : {A : Type 0} → List A → List A → List A
longest xs ys = cond (nat_le (length xs) (length ys)) ys xs

-- a seat that took in another: it knows what both knew, and stands for the callers of both
abbrev pub joined : View → View → View
joined v w = record v { seen = longest v.seen w.seen; heard = v.seen ∷ w.seen ∷ (v.heard ++ w.heard); front = most v.front w.front; owns = v.owns ++ w.owns; cut = v.cut ++ w.cut }

-- a seat that was taken in
abbrev pub spent : View
spent = record {
  live = false;
  begin = record { kinds = []; maps = 0; seed = 0; spares = [] };
  seen = [];
  heard = [];
  front = [];
  time = 0;
  number = 0;
  owns = [];
  walk = None;
  leaf = None;
  lock = None;
  upper = None;
  gate = Outside;
  spot = None;
  cut = [];
}

-- a seat looked at the whole history: what it had seen and heard are beginnings of it, and it is lawful and in order with all callers' calls
pub record Looks (v w : View) : Type 0 where
  pub log : List SharedEntry
  pub calls : ℕ → List Item
  pub is : w ≡ record v { seen = log }
  pub seen : Begins log v.seen
  pub heard : (i : ℕ) (xs : List SharedEntry) → slice_get v.heard i ≡ Some xs → Begins log xs
  pub lawful : Lawful (start_of v.begin) log calls
  pub entry_times : List ℕ
  pub times : ℕ → List ℕ
  pub order : InOrder log calls entry_times times
  pub none_else : (c : ℕ) → callers_of v.begin ≤ c → calls c ≡ []
  pub owned : (i : ℕ) (own : Own) → slice_get v.owns i ≡ Some own → (v.number + i < callers_of v.begin) × (calls (v.number + i) ≡ own.items) × (times (v.number + i) ≡ own.times)
  pub made : (c : ℕ) → slice_index v.front c ≤ length (calls c)
  pub long : length v.front ≡ callers_of v.begin
  pub values : AreInRange log

-- how many units of room the first caller has, and where the room begins; this number, where there is no caller
abbrev pub spare_in : ℕ → List Own → ℕ
spare_in else_spare [] = else_spare
spare_in else_spare (own ∷ owns) = own.spare

abbrev pub next_in : ℕ → List Own → ℕ
next_in else_next [] = else_next
next_in else_next (own ∷ owns) = own.next
