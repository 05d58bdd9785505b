-- Where a cursor stands when it begins, and after a step.
use Rattle.std.proofs.Common.{◌≡◌, ◌≢◌, ℕ, ◌-◌, ◌<◌, ◌≤◌, ◌^◌, Bool, cond, eq-eqb, List, [], ◌∷◌, ◌++◌, length, slice_get, Option, Some, refl, sym, ap, ◌∙◌, subst, le_refl}
use Rattle.std.proofs.lemmas.Option.{same_Some}
use Rattle.sync_model.specs.declared.item.SharedCall.{SharedCall}
use Rattle.sync_model.specs.declared.item.SharedCall.TheVariants as calls
use Rattle.sync_model.specs.declared.item.SharedReply.{SharedReply}
use Rattle.sync_model.specs.declared.item.SharedReply.TheVariants as replies
use Rattle.sync_model.specs.declared.item.Item.{Item}
use Rattle.sync_model.specs.Note.{Holding}
use Rattle.sync_model.specs.Shared.{CallerState, Called, items_of}
use Rattle.sync_model.specs.SharedHistory.{Contents}
use Rattle.ruled_object.specs.Notes.{held_by}
use Rattle.ruled_object.specs.Passes.{number_of, seen_by}
use Rattle.shared_plain.specs.declared.cursor.Cursor.{Cursor}
use Rattle.shared_plain.specs.declared.event.Event.{Event}
use Rattle.shared_plain.specs.declared.event.Event.TheVariants.{Next}
use Rattle.shared_plain.specs.declared.mark.Mark.{Mark}
use Rattle.shared_plain.specs.declared.plain.Plain.{Plain}
use Rattle.shared_plain.specs.Counting.{length-items}
use Rattle.shared_plain.specs.CursorsStand.{Stands}
use Rattle.shared_plain.specs.Marks.{holding, own_by, KeepsOwn}
use Rattle.shared_plain.specs.PlainHistory.{Step, items_by}
use Rattle.shared_plain.specs.Plains.{maps_of}
use Rattle.shared_plain.specs.Staying.{spot_one_more}
use Rattle.shared_plain.specs.Walks.{spot_behind, spot_next, spot_of, StandsAt}
use Rattle.shared_plain.proofs.FirstCallers.{within, at_last}
use Rattle.shared_plain.proofs.Orders.{unmade}

-- what a caller's note says that it made
pub owned : (mark : Mark) (own : List Step) (was : Holding) → held_by mark.pass ≡ Some own → own_by mark ≡ Some was → was.items ≡ items_by mark.callers (number_of mark.pass) (seen_by mark.pass)
owned mark own was held had = let same : Some was ≡ holding mark (Some own) = sym had ∙ ap (holding mark) held in ap (λ o. items_of o) same

module _ (start : Contents) (call : SharedCall) (reply : SharedReply) (cost : ℕ) (old new : CallerState) (was becomes : Holding) (had : old.own ≡ Some was) (has : new.own ≡ Some becomes) (called : Called start call reply cost old new) where
  -- a call is the last of its caller's
  pub last_made : becomes.items ≡ was.items ++ called.item ∷ []
  last_made =
      let a : called.was ≡ was = same_Some called.was was (sym called.own_old ∙ had) in
      let b : called.becomes ≡ becomes = same_Some called.becomes becomes (sym called.own_new ∙ has) in
      ap (λ (h : Holding). h.items) (sym b) ∙ (called.items ∙ ap (λ (h : Holding). h.items ++ called.item ∷ []) a)

  -- it moves a cursor on
  pub moved : (b : ℕ) → spot_of b becomes.items ≡ spot_next b call reply (spot_of b was.items)
  moved b = ap (spot_of b) last_made ∙ (spot_one_more b 0 was.items called.item ∙ (λ i. spot_next b (called.is_call i) (called.is_reply i) (spot_of b was.items)))

pub begun_stands : (plain : Plain) (old : Mark) (m done : ℕ) (own : List Step) (start : Contents) (reply : SharedReply) (was becomes : Holding) (front front_new : List ℕ) (time time_new : ℕ) (seen seen_new : List _) (own_new : Option Holding)
    → held_by old.pass ≡ Some own → KeepsOwn old own → own_by old ≡ Some was → own_new ≡ Some becomes → done ≡ old.done → done ≢ 2 ^ 64 - 1 → m < maps_of plain
    → Called start (calls.Begin m) reply 0 (record { own = own_by old; front = front; time = time; seen = seen }) (record { own = own_new; front = front_new; time = time_new; seen = seen_new })
    → Stands plain (record { map = m; begin = done; from = 0 }) m (length was.items) becomes.items
begun_stands plain old m done own start reply was becomes front front_new time time_new seen seen_new own_new held keeps had has is_done below there called =
    let c = number_of old.pass in
    let n = old.callers in
    let mine : was.items ≡ items_by n c (seen_by old.pass) = owned old own was held had in
    let count : length (items_by n c (seen_by old.pass)) ≡ length was.items = ap (λ (l : List Item). length l) (sym mine) in
    let last = last_made start (calls.Begin m) reply 0 _ _ was becomes had has called in
    let b = length was.items in
    let none : spot_of b (items_by n c (seen_by old.pass)) ≡ 0 = unmade n c [] (seen_by old.pass) b 0 keeps.order (subst (λ k. k ≤ b) (sym count) (le_refl b)) in
    record {
      is_map = refl;
      is_begin = is_done ∙ (keeps.done (λ e. below (is_done ∙ e)) ∙ (sym (length-items n c [] (seen_by old.pass)) ∙ count));
      there = there;
      at = record {
        begin = called.item;
        at = ap (λ l. slice_get l b) last ∙ at_last was.items called.item;
        call = called.is_call;
        spot = moved start (calls.Begin m) reply 0 _ _ was becomes had has called b ∙ (ap (spot_of b) mine ∙ none);
      };
    }

-- the step that a cursor asks for is the one of the place where it stands
pub step_stands : (plain : Plain) (cursor : Cursor) (map begin : ℕ) (items : List Item) (event : Event) → event ≡ Next cursor.map cursor.begin cursor.from → Stands plain cursor map begin items
    → (m b from : ℕ) → event ≡ Next m b from → StandsAt items m b from
step_stands plain cursor map begin items event is stands m b from e =
    let same : Next cursor.map cursor.begin cursor.from ≡ Next m b from = sym is ∙ e in
    let first : cursor.map ≡ m = (cc) in
    let second : cursor.begin ≡ b = (cc) in
    let third : cursor.from ≡ from = (cc) in
    subst (λ k. StandsAt items m b k) third (subst (λ k. StandsAt items m k cursor.from) (sym stands.is_begin ∙ second) (subst (λ k. StandsAt items k begin cursor.from) (sym stands.is_map ∙ first) stands.at))

-- a cursor stands behind what its step showed
pub stepped_stands : (plain : Plain) (cursor : Cursor) (map begin from : ℕ) (shown : Option (ℕ × ℕ)) (start : Contents) (old new : CallerState) (was becomes : Holding)
    → old.own ≡ Some was → new.own ≡ Some becomes → Called start (calls.Next begin) (replies.Shown shown) 0 old new → from ≡ spot_behind shown cursor.from
    → Stands plain cursor map begin was.items → Stands plain (record { map = cursor.map; begin = cursor.begin; from = from }) map begin becomes.items
stepped_stands plain cursor map begin from shown start old new was becomes had has called is stands =
    let last = last_made start (calls.Next begin) (replies.Shown shown) 0 old new was becomes had has called in
    record {
      is_map = stands.is_map;
      is_begin = stands.is_begin;
      there = stands.there;
      at = record {
        begin = stands.at.begin;
        at = ap (λ l. slice_get l begin) last ∙ within was.items (called.item ∷ []) begin stands.at.begin stands.at.at;
        call = stands.at.call;
        spot = moved start (calls.Next begin) (replies.Shown shown) 0 old new was becomes had has called begin
            ∙ (ap (λ (b : Bool). cond b (spot_behind shown (spot_of begin was.items)) (spot_of begin was.items)) (eq-eqb begin begin refl) ∙ (ap (spot_behind shown) stands.at.spot ∙ sym is));
      };
    }
