-- A load that lies at the end of what its caller has seen.
use Rattle.std.proofs.Common.{◌≡◌, ℕ, ◌+◌, ◌≤◌, cond, List, length, sym, ap, ◌∙◌, le_refl}
use Rattle.std.proofs.lemmas.List.{same_from_push}
use Rattle.std.proofs.lemmas.Option.{same_Some}
use Rattle.sync_types.specs.declared.atomic_object.AtomicCall.TheVariants.{Load}
use Rattle.sync_types.specs.declared.atomic_object.AtomicReply.TheVariants.{Held}
use Rattle.sync_types.specs.declared.atomic_object.Number.{Number}
use Rattle.sync_model.specs.declared.item.SharedCall.TheVariants.{Atomic}
use Rattle.sync_model.specs.declared.item.SharedEntry.{SharedEntry}
use Rattle.sync_model.specs.declared.item.SharedReply.{SharedReply}
use Rattle.sync_model.specs.declared.item.SharedReply.TheVariants as replies
use Rattle.sync_model.specs.Note.{Holding}
use Rattle.sync_model.specs.SharedCalls.{bound}
use Rattle.sync_model.specs.SharedHistory.{Contents, number_at, contents_after, contents_at}
use Rattle.sync_model.specs.Shared.{CallerState, Called}
use Rattle.table_rule.specs.Operations.{IsAtEnd}

-- the number in the reply of a load
abbrev number_held : Number → SharedReply → Number
number_held else_number (replies.Atomic (Held number)) = number
number_held else_number reply = else_number

module _ (start : Contents) (atomic : ℕ) (number : Number) (old new : CallerState) (called : Called start (Atomic atomic Load) (replies.Atomic (Held number)) 0 old new) (at : IsAtEnd new)
    (all : (history : List SharedEntry) (n : ℕ) → length history ≤ n → contents_at start history n ≡ contents_after start history) where
  one : at.item ≡ called.item
  one = (same_from_push at.earlier called.was.items at.item called.item (sym at.items ∙ ap (λ (h : Holding). h.items) (same_Some at.holding called.becomes (sym at.own ∙ called.own_new)) ∙ called.items)).1

  place : called.item.place ≡ length new.seen
  place = sym (ap (λ b. cond b (called.item.place + 1) called.item.place) called.entry) ∙ ap bound (sym one) ∙ at.last

  pub found : number ≡ number_at (contents_after start new.seen) atomic
  found = ap (number_held number) called.answer ∙ ap (λ n. number_at (contents_at start new.seen n) atomic) place ∙ ap (λ c. number_at c atomic) (all new.seen (length new.seen) (le_refl (length new.seen)))
