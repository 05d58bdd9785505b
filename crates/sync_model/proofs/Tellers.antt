-- Callers' own calls among the calls of all.
use Rattle.std.proofs.Common.{◌≡◌, ℕ, ◌<◌, List, [], ◌∷◌, ◌++◌, length, Option, Some, None, slice_get, slice_index, refl, sym, ap, ◌∙◌, subst, arith}
use Rattle.std.proofs.lemmas.Option.{slice_get_within, none-some}
use Rattle.sync_model.specs.declared.item.Item.{Item}
use Rattle.sync_model.specs.declared.item.SharedCall.{SharedCall}
use Rattle.sync_model.specs.declared.item.SharedReply.{SharedReply}
use Rattle.sync_model.specs.Front.{AtLeast}
use Rattle.sync_model.specs.Note.{Holding, IsCounted}
use Rattle.sync_model.specs.Shared.{CallerState, Called, items_of}
use Rattle.sync_model.specs.SharedHistory.{Contents}
use Rattle.sync_model.specs.Told.{AreIn}
use Rattle.sync_model.proofs.LastEntry.{get_left, get_mid}

-- a call of a holder is one of its calls among all
pub own_at : (calls : ℕ → List Item) (state : CallerState) (holding : Holding) (i : ℕ) (x : Item) → state.own ≡ Some holding → AreIn state calls → slice_get holding.items i ≡ Some x → slice_get (calls holding.number) i ≡ Some x
own_at calls state holding i x own are at =
    let begins = are holding own in
    subst (λ xs. slice_get xs i ≡ Some x) (sym begins.1) (get_left holding.items begins.0 i x at)

module _ (start : Contents) {call : SharedCall} {reply : SharedReply} {cost : ℕ} {old new : CallerState} (called : Called start call reply cost old new) where
  -- the call is the last of its caller's own
  pub called_at : (calls : ℕ → List Item) → AreIn new calls → slice_get (calls called.becomes.number) (length called.was.items) ≡ Some called.item
  called_at calls are =
      own_at calls new called.becomes (length called.was.items) called.item called.own_new are
      (ap (λ xs. slice_get xs (length called.was.items)) called.items ∙ get_mid called.was.items [] called.item)

  -- its front counts each call of which its caller was told
  pub counts : (teller : CallerState) (holding : Holding) (i : ℕ) (x : Item) → teller.own ≡ Some holding → IsCounted teller.own teller.front → AtLeast old.front teller.front → slice_get holding.items i ≡ Some x → i < slice_index called.item.front holding.number
  counts teller holding i x own counted least at =
      let all : slice_index teller.front holding.number ≡ length holding.items = subst (λ o. IsCounted o teller.front) own counted in
      let within = slice_get_within holding.items i x at in
      let more = least holding.number in
      let front : slice_index called.item.front holding.number ≡ slice_index old.front holding.number = ap (λ f. slice_index f holding.number) called.is_front in
      omega (arith, all, within, more, front)

-- who has made a call is a holder
pub holder_of : (own : Option Holding) (i : ℕ) (x : Item) → slice_get (items_of own) i ≡ Some x → (holding : Holding) × (own ≡ Some holding) × (slice_get holding.items i ≡ Some x)
holder_of None i x at = absurd (none-some x at)
holder_of (Some holding) i x at = (holding, refl, at)

module _ (start : Contents) {call : SharedCall} {reply : SharedReply} {cost : ℕ} {old new : CallerState} (called : Called start call reply cost old new) (gave : CallerState) (own : gave.own ≡ new.own) (front : gave.front ≡ new.front) where
  -- what a caller has made after a call of which it then tells
  pub made : items_of gave.own ≡ items_of old.own ++ called.item ∷ []
  made = ap items_of own ∙ ap items_of called.own_new ∙ called.items ∙ ap (λ o. items_of o ++ called.item ∷ []) (sym called.own_old)

  pub made_at : slice_get (items_of gave.own) (length called.was.items) ≡ Some called.item
  made_at =
      ap (λ o. slice_get (items_of o) (length called.was.items)) (own ∙ called.own_new)
      ∙ ap (λ xs. slice_get xs (length called.was.items)) called.items
      ∙ get_mid called.was.items [] called.item

  counted_by : IsCounted (Some called.becomes) new.front
  counted_by = ap (λ n. slice_index new.front n) called.number ∙ called.counted

  pub still_counted : IsCounted gave.own gave.front
  still_counted = subst (λ o. IsCounted o gave.front) (sym (own ∙ called.own_new)) (subst (λ f. IsCounted (Some called.becomes) f) (sym front) counted_by)
