-- What one caller's calls have to do with each other, by its own states alone.
use Rattle.std.proofs.Common.{◌≡◌, ◌≢◌, ℕ, zero, suc, ◌+◌, ◌-◌, ◌<◌, ◌≤◌, true, List, [], ◌∷◌, ◌++◌, length, take, drop, Option, Some, slice_get, refl, sym, ap, ◌∙◌, subst, arith, append_assoc}
use Rattle.std.proofs.lemmas.List.{take-append-drop}
use Rattle.std.proofs.lemmas.Option.{same_Some}
use Rattle.std.proofs.Math.Seq.{take-append-add}
use Rattle.sync_model.specs.declared.item.SharedCall.{SharedCall}
use Rattle.sync_model.specs.declared.item.SharedCall.TheVariants.{Map, Begin, Next}
use Rattle.sync_model.specs.declared.item.SharedReply.{SharedReply}
use Rattle.sync_model.specs.declared.item.SharedReply.TheVariants as replies
use Rattle.sync_model.specs.declared.item.SharedEntry.{SharedEntry}
use Rattle.sync_model.specs.declared.item.Item.{Item}
use Rattle.sync_types.specs.declared.map_object.MapCall.TheVariants.{Load, Store}
use Rattle.sync_types.specs.declared.map_object.MapReply.{MapReply}
use Rattle.sync_types.specs.declared.map_object.MapReply.TheVariants.{Found}
use Rattle.sync_model.specs.Note.{Holding}
use Rattle.sync_model.specs.SharedHistory.{Contents, value_at, shared_after, contents_after, contents_at, IsReply, IsLegal, entry_of, marked_in}
use Rattle.sync_model.specs.SharedCalls.{bound}
use Rattle.sync_model.specs.Shared.{CallerState, Called, items_of}
use Rattle.sync_model.specs.SharedLaws.{LeaveKey, FindsItsStore, StepsOn}
use Rattle.sync_model.proofs.Histories.{get_mid, get_last, legal_apart}
use Rattle.sync_model.proofs.SharedCallers.{bound_is, bound_above}
use Rattle.sync_model.proofs.SharedEntries.{IsIn, mark_in, entry_is}
use Rattle.sync_model.proofs.SharedReads.{behind, stored_value}

module _ {A : Type 0} where
  -- the first part of a list that begins so, up to a place behind its beginning
  take_on : (xs front rest : List A) (n : ℕ) → xs ≡ front ++ rest → length front ≤ n → take n xs ≡ front ++ take (n - length front) rest
  take_on xs front rest n begins from =
      let on : n ≡ length front + (n - length front) = omega arith in
      ap (take n) begins ∙ ap (λ k. take k (front ++ rest)) on ∙ take-append-add front rest (n - length front)

-- what a caller was told at its call's place is what it had seen before, and a part of what it saw since
module _ (start : Contents) {call : SharedCall} {reply : SharedReply} {cost : ℕ} {old new : CallerState} (called : Called start call reply cost old new) where
  pub at_place : take called.item.place new.seen ≡ old.seen ++ take (called.item.place - length old.seen) called.begins.0
  at_place = take_on new.seen old.seen called.begins.0 called.item.place called.begins.1 called.from

  pub on_then : (rest : List SharedEntry) × (new.seen ≡ (old.seen ++ take (called.item.place - length old.seen) called.begins.0) ++ rest)
  on_then = (drop called.item.place new.seen, sym (take-append-drop called.item.place new.seen) ∙ ap (λ xs. xs ++ drop called.item.place new.seen) at_place)

  pub legal_then : IsLegal start (old.seen ++ take (called.item.place - length old.seen) called.begins.0)
  legal_then = (legal_apart start (old.seen ++ take (called.item.place - length old.seen) called.begins.0) on_then.0 (subst (IsLegal start) on_then.1 called.legal)).0

  pub answered_then : IsReply call reply (contents_after start (old.seen ++ take (called.item.place - length old.seen) called.begins.0))
  answered_then = subst (λ xs. IsReply call reply (contents_after start xs)) at_place called.answer

get_take : {A : Type 0} (xs : List A) (n i : ℕ) → i < n → slice_get (take n xs) i ≡ slice_get xs i
get_take [] zero i below = absurd (omega arith)
get_take [] (suc n) i below = refl
get_take (x ∷ xs) zero i below = absurd (omega arith)
get_take (x ∷ xs) (suc n) zero below = refl
get_take (x ∷ xs) (suc n) (suc i) below = get_take xs n i (omega arith)

module _ (start : Contents) {call next : SharedCall} {answer reply : SharedReply} {cost price : ℕ} {old mid later new : CallerState} (first : Called start call answer cost old mid) (same : later.own ≡ mid.own)
    (second : Called start next reply price later new) where
  -- the state before the second call is the one after the first
  pub follows_on : second.was ≡ first.becomes
  follows_on = same_Some second.was first.becomes (sym second.own_old ∙ same ∙ first.own_new)

  pub items_on : second.becomes.items ≡ first.was.items ++ first.item ∷ second.item ∷ []
  items_on = second.items ∙ ap (λ (h : Holding). h.items ++ second.item ∷ []) follows_on ∙ ap (λ xs. xs ++ second.item ∷ []) first.items ∙ append_assoc first.was.items (first.item ∷ []) (second.item ∷ [])

  -- the second call lies behind the first
  pub bound_on : bound first.item ≤ second.item.place
  bound_on = second.after (length first.was.items) first.item (ap (λ (h : Holding). slice_get h.items (length first.was.items)) follows_on ∙ ap (λ xs. slice_get xs (length first.was.items)) first.items ∙ get_last first.was.items first.item)

  -- a cursor that stood after the first call stands after the second, where that is none of its steps
  pub stands_on : (b : ℕ) (Stands : List Item → Type 0) → ((items : List Item) (item : Item) → item.call ≢ Next b → Stands items → Stands (items ++ item ∷ [])) → next ≢ Next b
      → Stands first.becomes.items → (holding : Holding) → new.own ≡ Some holding → Stands holding.items
  stands_on b Stands stays other stood holding is =
      subst Stands
      (ap (λ (h : Holding). h.items ++ second.item ∷ []) (sym follows_on)
      ∙ sym second.items
      ∙ ap (λ (h : Holding). h.items) (same_Some second.becomes holding (sym second.own_new ∙ is)))
      (stays first.becomes.items second.item (λ e. other (sym second.is_call ∙ e)) stood)

module _ (start : Contents) {answer : SharedReply} {cost price : ℕ} (m key value : ℕ) (reply : MapReply) (there : m < length start.maps) {old mid later new : CallerState}
    (first : Called start (Map m (Store key value)) answer cost old mid) (same : later.own ≡ mid.own) (second : Called start (Map m (Load key)) (replies.Map reply) price later new) where
  stored : first.item.entry ≡ true
  stored = first.entry

  below : first.item.place < second.item.place
  below = let on = bound_on start first same second in let bounded = bound_is first.item stored in omega arith

  -- the store stands in what the caller has seen, at its place
  store_seen : slice_get new.seen first.item.place ≡ Some (entry_of second.was.number first.item)
  store_seen =
      let c = second.was.number in
      let p : ℕ × SharedEntry = (first.item.place, entry_of c first.item) in
      let here : slice_get second.becomes.items (length first.was.items) ≡ Some first.item =
      ap (λ xs. slice_get xs (length first.was.items)) (items_on start first same second) ∙ get_mid first.was.items (second.item ∷ []) first.item in
      let marked : IsIn p (marked_in c second.becomes.items) = mark_in c second.becomes.items (length first.was.items) first.item p refl here stored in
      let found = entry_is c 0 new.seen p (subst (λ ps. IsIn p ps) second.mine marked) in
      let number = found.2 in
      let place : found.0 ≡ first.item.place = omega arith in
      subst (λ n. slice_get new.seen n ≡ Some (entry_of c first.item)) place found.1

  finds : (earlier between : List SharedEntry) (entry : SharedEntry) → take second.item.place new.seen ≡ earlier ++ entry ∷ between → length earlier ≡ first.item.place → LeaveKey m key between → reply ≡ Found (Some value)
  finds earlier between entry split at leave =
      let mine : entry ≡ entry_of second.was.number first.item =
      same_Some entry (entry_of second.was.number first.item)
      (sym (get_mid earlier between entry)
      ∙ ap (λ xs. slice_get xs (length earlier)) (sym split)
      ∙ ap (λ n. slice_get (take second.item.place new.seen) n) at
      ∙ get_take new.seen second.item.place first.item.place below
      ∙ store_seen) in
      let call : entry.call ≡ Map m (Store key value) = ap (λ (e : SharedEntry). e.call) mine ∙ first.is_call in
      let contents : contents_at start new.seen second.item.place ≡ contents_after (shared_after entry.call (contents_after start earlier)) between = ap (contents_after start) split ∙ behind start earlier between entry in
      let found : value_at (contents_at start new.seen second.item.place) m key ≡ Some value = ap (λ held. value_at held m key) contents ∙ stored_value start earlier between [] entry m key value there call leave in
      let loaded : replies.Map reply ≡ replies.Map (Found (Some value)) = second.answer ∙ ap (λ v. replies.Map (Found v)) found in
      cc

  pub finds_its_store : FindsItsStore m key value reply old new
  finds_its_store = record {
    store = first.item;
    load = second.item;
    items = ap items_of second.own_new ∙ items_on start first same second ∙ ap (λ own. items_of own ++ first.item ∷ second.item ∷ []) (sym first.own_old);
    stores = first.is_call;
    loads = second.is_call;
    replies = second.is_reply;
    behind = below;
    finds = finds;
  }

module _ (start : Contents) (m b : ℕ) (shown : Option (ℕ × ℕ)) {call : SharedCall} {answer : SharedReply} {cost : ℕ} {old one two new : CallerState}
    (first : Called start (Begin m) replies.Begun 0 old one) (second : Called start call answer cost one two) (third : Called start (Next b) (replies.Shown shown) 0 two new) where
  pub steps_on : b ≡ length first.was.items → StepsOn m shown old new
  steps_on is =
      let front = first.own_old in
      record {
        begin = first.item;
        other = second.item;
        step = third.item;
        items =
            ap items_of third.own_new
            ∙ third.items
            ∙ ap (λ (h : Holding). h.items ++ third.item ∷ []) (follows_on start second refl third)
            ∙ ap (λ xs. xs ++ third.item ∷ []) (items_on start first refl second)
            ∙ append_assoc first.was.items (first.item ∷ second.item ∷ []) (third.item ∷ [])
            ∙ ap (λ own. items_of own ++ first.item ∷ second.item ∷ third.item ∷ []) (sym first.own_old);
        begins = first.is_call;
        steps = third.is_call ∙ ap Next (is ∙ ap (λ own. length (items_of own)) (sym first.own_old));
        replies = third.is_reply;
        behind = let early = bound_on start first refl second in let late = bound_on start second refl third in let above = bound_above first.item in let over = bound_above second.item in omega arith;
      }
