-- What a caller's calls leave of its spare entries.
use Rattle.std.proofs.Common.{◌≡◌, ℕ, ◌+◌, List, Option, Some, None, refl, sym, ap, ◌∙◌, arith}
use Rattle.std.specs.Prelude.{IsSome, is_some}
use Rattle.std.proofs.lemmas.Bool.{false≢true}
use Rattle.std.proofs.lemmas.Option.{same_Some}
use Rattle.sync_model.specs.declared.item.SharedCall.{SharedCall}
use Rattle.sync_model.specs.declared.item.SharedReply.{SharedReply}
use Rattle.sync_model.specs.declared.item.SharedEntry.{SharedEntry}
use Rattle.sync_model.specs.Front.{Front}
use Rattle.sync_model.specs.Note.{Holding}
use Rattle.sync_model.specs.Shared.{Called, state_of}
use Rattle.sync_model.specs.SharedHistory.{Contents}
use Rattle.thread_objects.specs.Spending.{Spends}

holding_of : (o : Option Holding) → IsSome o → (holding : Holding) × (o ≡ Some holding)
holding_of None some = absurd (false≢true some)
holding_of (Some holding) some = (holding, refl)

module _ {N : Type 0} (own : N → Option Holding) where
  -- a note that stays as it was, as its caller sees it
  pub kept_spends : (old new : N) → own new ≡ own old → IsSome (own old) → Spends own 0 old new
  kept_spends old new kept some =
      let held = holding_of (own old) some in
      record { was = held.0; becomes = held.0; own_old = held.1; own_new = kept ∙ held.1; number = refl; spare = omega arith }

  pub called_spends : (front : N → Front) (seen : N → List SharedEntry) (start : Contents) (call : SharedCall) (reply : SharedReply) (cost : ℕ) (old new : N) → Called start call reply cost (state_of own front seen old) (state_of own front seen new) → Spends own cost old new
  called_spends front seen start call reply cost old new called = record { was = called.was; becomes = called.becomes; own_old = called.own_old; own_new = called.own_new; number = called.number; spare = omega (arith, called.spare) }

  -- one after the other
  pub spends_on : (cost more : ℕ) (old between new : N) → Spends own cost old between → Spends own more between new → Spends own (cost + more) old new
  spends_on cost more old between new first later =
      let same : later.was ≡ first.becomes = same_Some later.was first.becomes (sym later.own_old ∙ first.own_new) in
      record {
        was = first.was;
        becomes = later.becomes;
        own_old = first.own_old;
        own_new = later.own_new;
        number = later.number ∙ ap (λ (h : Holding). h.number) same ∙ first.number;
        spare = omega (arith, first.spare, later.spare, ap (λ (h : Holding). h.spare) same);
      }

  pub still_some : (cost : ℕ) (old new : N) → Spends own cost old new → IsSome (own new)
  still_some cost old new spends = ap (λ (o : Option Holding). is_some o) spends.own_new
