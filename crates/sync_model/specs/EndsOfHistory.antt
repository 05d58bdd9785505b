-- What maps and atomics contain when all calls have returned, and what a report shows of it as a list.
use Rattle.std.specs.Prelude.{◌≡◌, ℕ, ◌<◌, List, ◌++◌, map, Option, Some, slice_get, zip, filter_map, flat_map}
use Rattle.std.specs.Option.{option_map}
use Rattle.std.specs.Ordering.{nat_cmp}
use Rattle.std.specs.FinMap.{FinMap, get}
use Rattle.sync_types.specs.declared.end.End.{End}
use Rattle.sync_types.specs.declared.end.End.TheVariants as ends
use Rattle.sync_types.specs.Ends.{number_end}
use Rattle.sync_model.specs.declared.caller.Caller.{Caller}
use Rattle.sync_model.specs.declared.item.SharedEntry.{SharedEntry}
use Rattle.sync_model.specs.Journal.{Begins}
use Rattle.sync_model.specs.Note.{Holding}
use Rattle.sync_model.specs.Shared.{calls_of}
use Rattle.sync_model.specs.SharedCalls.{Lawful}
use Rattle.sync_model.specs.SharedHistory.{Contents, contents_after, value_at}

module _ {N : Type 0} (own : N → Option Holding) (seen : N → List SharedEntry) where
  -- what is there after the whole history: one that begins with what each caller has seen, and is lawful with all their calls
  pub record AreEnds (start : Contents) (callers : List (Caller N)) (ends : Contents) : Type 0 where
    pub history : List SharedEntry
    pub begins : (i : ℕ) (caller : Caller N) → slice_get callers i ≡ Some caller → Begins history (seen caller.note)
    pub lawful : Lawful start history (calls_of own callers)
    pub is : ends ≡ contents_after start history

-- each key that a map has is below this number
abbrev pub HasKeysBelow : ℕ → Contents → Type 0
HasKeysBelow keys contents = (m key value : ℕ) → value_at contents m key ≡ Some value → key < keys

-- the end that a key of a map is, if the map has it; the map's object has this place
abbrev pub pair_end : ℕ → FinMap nat_cmp ℕ → ℕ → Option End
pair_end place m key = option_map (λ value. ends.Pair place key value) (get m key)

-- those of these keys that a map has, in this order
abbrev pub pair_ends_by : List ℕ → ℕ × FinMap nat_cmp ℕ → List End
pair_ends_by order held = filter_map (pair_end held.0 held.1) order

-- first the atomics, whose objects have these places, and then the maps, whose objects have those, each by the same order of the keys
abbrev pub ends_by : List ℕ → List ℕ → List ℕ → Contents → List End
ends_by order atomics maps contents = map number_end (zip atomics contents.numbers) ++ flat_map (pair_ends_by order) (zip maps contents.maps)
