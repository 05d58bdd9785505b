-- What cursors show, by lengths of the history.
use Rattle.std.specs.Prelude.{◌≡◌, ℕ, ◌^◌, ◌<◌, ◌==◌, cond, List, Option, Some, None, slice_get}
use Rattle.sync_types.specs.SequentialMap.{map_key}
use Rattle.sync_model.specs.declared.item.SharedCall.{SharedCall}
use Rattle.sync_model.specs.declared.item.SharedCall.TheVariants.{Map, Begin, Next, Atomic}
use Rattle.sync_model.specs.declared.item.SharedReply.TheVariants.{Shown}
use Rattle.sync_model.specs.declared.item.SharedEntry.{SharedEntry}
use Rattle.sync_model.specs.declared.item.Item.{Item}
use Rattle.sync_model.specs.SharedHistory.{Contents}
use Rattle.sync_model.specs.SharedCalls.{IsUnshown}
use Rattle.shared_checks.specs.Fronts.{known}
use Rattle.shared_checks.specs.Parts.{StoodBetween}

-- the call is a step of the cursor that call number b began, and it showed this key
abbrev pub Shows : Item → ℕ → ℕ → Type 0
Shows x b key = (value : ℕ) × (x.call ≡ Next b) × (x.reply ≡ Shown (Some (key, value)))

-- the steps of the cursor that call number b began stand behind it
abbrev pub IsBegunBy : List Item → ℕ → Type 0
IsBegunBy items b = (j : ℕ) (x : Item) → slice_get items j ≡ Some x → x.call ≡ Next b → b < j

-- the key of this map that a call names, if it names one
abbrev pub key_on : ℕ → SharedCall → Option ℕ
key_on m (Map n call) = cond (n == m) (map_key call) None
key_on m (Begin n) = None
key_on m (Next begin) = None
key_on m (Atomic a call) = None

-- the key of this map that an entry names, if it names one, is below this number
abbrev pub IsAbove : ℕ → ℕ → SharedEntry → Type 0
IsAbove m bound entry = (key : ℕ) → key_on m entry.call ≡ Some key → key < bound

module _ (start : Contents) (history : List SharedEntry) (items : List Item) (b m from i reach : ℕ) where
  -- a key that the cursor didn't show was absent at a length
  abbrev pub MayMiss : ℕ → Type 0
  MayMiss key = key < 2 ^ 32 → IsUnshown items b i key → StoodBetween start history from reach m key None

  -- so much as step number i of the cursor that call number b began may show, where the front of the begin knows of a length
  abbrev pub MayShowBetween : Option (ℕ × ℕ) → Type 0
  MayShowBetween (Some (key, value)) = IsUnshown items b i key × StoodBetween start history from reach m key (Some value)
  MayShowBetween None = (key : ℕ) → MayMiss key

-- call number i, where it is a step of a cursor, shows what it may
abbrev pub KeepsStep : Contents → List SharedEntry → List (List Item) → List Item → ℕ → Item → Type 0
KeepsStep start history lists items i x = (b m : ℕ) (y : Item) (shown : Option (ℕ × ℕ)) → slice_get items b ≡ Some y → y.call ≡ Begin m → x.call ≡ Next b → x.reply ≡ Shown shown
    → MayShowBetween start history items b m (known lists y.front) i x.place shown
