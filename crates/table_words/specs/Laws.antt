-- The laws of shared histories, together, as the lemmas of this crate take them.
use Rattle.std.specs.Prelude.{◌≡◌, ◌≢◌, ℕ, ◌≤◌, false, List, [], ◌++◌, length, Some}
use Rattle.std.specs.FinMap.{FinMap, get}
use Rattle.std.specs.Ordering.{nat_cmp}
use Rattle.sync_types.specs.declared.map_object.MapCall.{MapCall}
use Rattle.sync_types.specs.KeyCalls.{key_reply, is_key_entry, key_after}
use Rattle.sync_types.specs.SequentialMap.{map_reply, map_after, map_key, is_map_entry}
use Rattle.sync_model.specs.declared.item.Item.{Item}
use Rattle.sync_model.specs.declared.item.SharedCall.{SharedCall}
use Rattle.sync_model.specs.declared.item.SharedEntry.{SharedEntry}
use Rattle.sync_model.specs.Journal.{Begins}
use Rattle.sync_model.specs.SharedHistory.{Contents, contents_after, contents_at, shared_after, is_entry, history_with}
use Rattle.sync_model.specs.SharedCalls.{Knows, Grows, Lawful, MayCall, AddsCall}
use Rattle.sync_model.specs.Shared.{CallerState, Called}
use Rattle.sync_model.specs.SharedLaws.{IsWithinBoth, TakesIn}

-- what a call does at its key, and at another one
pub record KeyLaws : Type 0 where
  pub replies : (call : MapCall ℕ) (key : ℕ) (m : FinMap nat_cmp ℕ) → map_key call ≡ Some key → map_reply call m ≡ key_reply call (get m key)
  pub entries : (call : MapCall ℕ) (key : ℕ) (m : FinMap nat_cmp ℕ) → map_key call ≡ Some key → is_map_entry call m ≡ is_key_entry call (get m key)
  pub left : (call : MapCall ℕ) (key : ℕ) (m : FinMap nat_cmp ℕ) → map_key call ≡ Some key → get (map_after call m) key ≡ key_after call (get m key)
  pub others : (call : MapCall ℕ) (key other : ℕ) (m : FinMap nat_cmp ℕ) → map_key call ≡ Some key → other ≢ key → get (map_after call m) other ≡ get m other

pub record HistoryLaws : Type 0 where
  pub keys : KeyLaws
  pub start : (start : Contents) → Lawful start [] (λ caller. [])
  pub more : (start : Contents) (history : List SharedEntry) (calls new : ℕ → List Item) (c : ℕ) (x : Item)
      → AddsCall calls c x new → Lawful start history calls → MayCall start history calls c x → Lawful start (history_with history c x) new
  pub same_calls : (start : Contents) (history : List SharedEntry) (calls other : ℕ → List Item) → ((c : ℕ) → other c ≡ calls c) → Lawful start history calls → Lawful start history other
  pub promised : (start : Contents) (history : List SharedEntry) (calls : ℕ → List Item) (x : Item) (cost : ℕ) (old new : CallerState) (takes : TakesIn x cost old new)
      → calls takes.was.number ≡ takes.was.items → Lawful start history calls → MayCall start history calls takes.was.number x
      → Begins (history_with history takes.was.number x) new.seen → Called start x.call x.reply cost old new
  pub grows : (calls new : ℕ → List Item) (c : ℕ) (x : Item) → AddsCall calls c x new → Grows calls new
  pub known : (calls new : ℕ → List Item) (front : List ℕ) (n m : ℕ) → Grows calls new → n ≤ m → Knows calls front n → Knows new front m
  pub known_both : (calls : ℕ → List Item) (both first second : List ℕ) (n : ℕ) → IsWithinBoth both first second → Knows calls first n → Knows calls second n → Knows calls both n
  pub contents_same : (start : Contents) (earlier later : List SharedEntry) (n : ℕ) → n ≤ length earlier → contents_at start (earlier ++ later) n ≡ contents_at start earlier n
  pub contents_all : (start : Contents) (history : List SharedEntry) (n : ℕ) → length history ≤ n → contents_at start history n ≡ contents_after start history
  pub contents_both : (start : Contents) (earlier later : List SharedEntry) → contents_after start (earlier ++ later) ≡ contents_after (contents_after start earlier) later
  pub maps_long : (start : Contents) (history : List SharedEntry) → length (contents_after start history).maps ≡ length start.maps
  pub numbers_long : (start : Contents) (history : List SharedEntry) → length (contents_after start history).numbers ≡ length start.numbers
  pub unchanged : (call : SharedCall) (contents : Contents) → is_entry call contents ≡ false → shared_after call contents ≡ contents
