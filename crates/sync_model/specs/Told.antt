-- What a load finds behind a store, and what one caller tells another.
use Rattle.std.specs.Prelude.{◌≡◌, ℕ, ◌<◌, ◌≤◌, true, List, [], ◌∷◌, ◌++◌, length, Some}
use Rattle.std.specs.Option.{ForSome}
use Rattle.sync_types.specs.declared.map_object.MapCall.TheVariants.{Load, Store}
use Rattle.sync_types.specs.declared.map_object.MapReply.{MapReply}
use Rattle.sync_types.specs.declared.map_object.MapReply.TheVariants.{Found}
use Rattle.sync_model.specs.declared.item.Item.{Item}
use Rattle.sync_model.specs.declared.item.SharedCall.TheVariants.{Map}
use Rattle.sync_model.specs.declared.item.SharedEntry.{SharedEntry}
use Rattle.sync_model.specs.declared.item.SharedReply.TheVariants as replies
use Rattle.sync_model.specs.Journal.{Begins}
use Rattle.sync_model.specs.Shared.{CallerState, items_of}
use Rattle.sync_model.specs.SharedCalls.{Lawful}
use Rattle.sync_model.specs.SharedHistory.{Contents}
use Rattle.sync_model.specs.SharedLaws.{is_on_key, LeaveKey}

-- The load of a key finds the store of it, or a later entry: the last entry on the key that lies before the load isn't older than the store. Where that is a store, the load finds its value.
pub record FindsItOrALater (history : List SharedEntry) (m key : ℕ) (store load : Item) : Type 0 where
  pub earlier : List SharedEntry
  pub last : SharedEntry
  pub between : List SharedEntry
  pub later : List SharedEntry
  pub parts : history ≡ earlier ++ last ∷ (between ++ later)
  pub before : load.place ≡ length (earlier ++ last ∷ between)
  pub on_key : is_on_key m key last.call ≡ true
  pub leave : LeaveKey m key between
  pub not_older : store.place ≤ length earlier
  -- the store is itself the last one where it stands at that place
  pub same : store.place ≡ length earlier → last.call ≡ store.call
  pub finds : (value : ℕ) → last.call ≡ Map m (Store key value) → load.reply ≡ replies.Map (Found (Some value))

-- the calls that a caller has made are the first of those that it has among the calls of all
abbrev pub AreIn : CallerState → (ℕ → List Item) → Type 0
AreIn state calls = ForSome state.own (λ holding. Begins (calls holding.number) holding.items)

-- One caller stored a value and told another one, who then loaded the key. In each lawful history with the calls of both, the load lies behind the store, and finds it or a later entry.
pub record HearsOfAStore (start : Contents) (m key value : ℕ) (reply : MapReply) (giver gave taker took : CallerState) : Type 0 where
  pub store : Item
  pub load : Item
  pub stored : items_of gave.own ≡ items_of giver.own ++ store ∷ []
  pub loaded : items_of took.own ≡ items_of taker.own ++ load ∷ []
  pub stores : store.call ≡ Map m (Store key value)
  pub loads : load.call ≡ Map m (Load key)
  pub replies : load.reply ≡ replies.Map reply
  pub behind : (history : List SharedEntry) (calls : ℕ → List Item) → Lawful start history calls → AreIn gave calls → AreIn took calls → store.place < load.place
  pub finds : (history : List SharedEntry) (calls : ℕ → List Item) → Lawful start history calls → AreIn gave calls → AreIn took calls → FindsItOrALater history m key store load
