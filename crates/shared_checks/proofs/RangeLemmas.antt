-- What a cursor may show, by lengths of the history.
use Rattle.std.proofs.Common.{◌≡◌, ℕ, ◌^◌, ◌<◌, ◌≤◌, Bool, true, false, List, take, Option, Some, None, slice_get, refl, ◌∙◌, arith}
use Rattle.std.proofs.lemmas.List.Elements.{All-take}
use Rattle.sync_model.specs.declared.item.SharedEntry.{SharedEntry}
use Rattle.sync_model.specs.declared.item.Item.{Item}
use Rattle.sync_model.specs.SharedHistory.{Contents, value_at, contents_at}
use Rattle.sync_model.specs.SharedCalls.{IsStep, IsUnshown, WasSo, MayShow}
use Rattle.sync_model.specs.SharedLaws.{is_on_key, LeaveKey}
use Rattle.sync_model.proofs.SharedCallers.{bound_above}
use Rattle.sync_model.proofs.SharedReads.{key_stays}
use Rattle.shared_checks.specs.Calls.{calls_in}
use Rattle.shared_checks.specs.Fronts.{CountsMade, LawfulFronts, known}
use Rattle.shared_checks.specs.Parts.{LawfulBegins, StoodBetween}
use Rattle.shared_checks.proofs.Orders.{order_of}
use Rattle.shared_checks.proofs.KnownLemmas.{known_within, within_known}

module _ (start : Contents) (history : List SharedEntry) (lists : List (List Item)) (front : List ℕ) (made : CountsMade (calls_in lists) front) (reach m key : ℕ) (value : Option ℕ) where
  pub between : WasSo start history (calls_in lists) front reach m key value → StoodBetween start history (known lists front) reach m key value
  between was = (was.moment, known_within front was.moment lists was.knows, was.within, was.is)

  pub was_between : StoodBetween start history (known lists front) reach m key value → WasSo start history (calls_in lists) front reach m key value
  was_between (n, behind, within, is) = record { moment = n; knows = within_known front n lists made behind; within = within; is = is }

module _ (start : Contents) (history : List SharedEntry) (calls : ℕ → List Item) (fronts : LawfulFronts calls) (begins : LawfulBegins calls)
    (c b m i : ℕ) (x y : Item) (at : slice_get (calls c) b ≡ Some x) (step : IsStep (calls c) b i y None)
    (named : ℕ → Bool) (absent : (key : ℕ) → named key ≡ false → (n : ℕ) → value_at (contents_at start history n) m key ≡ None)
    (each : (key : ℕ) → named key ≡ true → key < 2 ^ 32 → IsUnshown (calls c) b i key → WasSo start history calls x.front y.place m key None) where
  -- the cursor's step lies behind its begin
  behind : x.place ≤ y.place
  behind =
      let found = (begins c i y step.at).begun b step.call in
      let before : b < i = found.2 in
      let own = (order_of calls fronts c).behind b i x y before at step.at in
      let above = bound_above x in
      omega (arith, own, above)

  pub only_named : MayShow start history calls c b m x.front i y.place None
  only_named key small unshown = by (named key) refl where
    by : (test : Bool) → named key ≡ test → WasSo start history calls x.front y.place m key None
    by true is = each key is small unshown
    by false is = record { moment = x.place; knows = fronts.knows c b x at; within = behind; is = absent key is x.place }

-- a key that is absent at the start, and on which no entry is, is absent at each length
pub stays_absent : (start : Contents) (history : List SharedEntry) (m key n : ℕ) → value_at start m key ≡ None → LeaveKey m key history → value_at (contents_at start history n) m key ≡ None
stays_absent start history m key n none leave = key_stays m key start (take n history) (All-take (λ entry. is_on_key m key entry.call ≡ false) n history leave) ∙ none
