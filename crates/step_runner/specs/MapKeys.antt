-- The keys of maps and of flights.
use Rattle.std.specs.Prelude.{◌≡◌, ℕ, Bool, true, List, []}
use Rattle.std.specs.List.{list_any}
use Rattle.std.specs.Str.{bytes_eq}
use Rattle.std.specs.Ordering.{nat_cmp}
use Rattle.std.specs.Cmp.Lexicographic.{slice_cmp}
use Rattle.std.specs.FinMap.{FinMap, contains_key}
use Rattle.workload.specs.Keys.{with_names}
use Rattle.step_runner.specs.declared.turns.object_state.ObjectState.{ObjectState}
use Rattle.step_runner.specs.declared.turns.object_state.ObjectState.TheVariants as states

-- whether a name is among others
abbrev pub is_among : List (List ℕ) → List ℕ → Bool
is_among names name = list_any (bytes_eq name) names

-- each of these names is among the others
abbrev pub AreAmong : List (List ℕ) → List (List ℕ) → Type 0
AreAmong names some = (name : List ℕ) → is_among some name ≡ true → is_among names name ≡ true

-- each key that is there in a map is among the names
abbrev pub HasKeysIn : List (List ℕ) → FinMap (slice_cmp nat_cmp) ℕ → Type 0
HasKeysIn names m = (key : List ℕ) → contains_key m key ≡ true → is_among names key ≡ true

-- the same of an object: only a map has keys, and a group of flights numbers the names in order
abbrev pub HasObjectKeysIn : List (List ℕ) → ObjectState → Type 0
HasObjectKeysIn names (states.Map m) = HasKeysIn names m
HasObjectKeysIn names (states.Flight f keys place delta) = keys ≡ with_names [] names
HasObjectKeysIn names object = Unit {0}
