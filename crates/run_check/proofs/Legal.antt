-- Each entry of a legal history is one at its place.
use Rattle.std.proofs.Common.{◌≡◌, ℕ, zero, suc, true, List, [], ◌∷◌, Some, slice_get, sym, subst}
use Rattle.std.proofs.lemmas.Option.{none-some, same_Some}
use Rattle.sync_model.specs.declared.item.SharedEntry.{SharedEntry}
use Rattle.sync_model.specs.SharedHistory.{Contents, IsLegal, is_entry, shared_after, contents_at}

pub legal_at : (start : Contents) (history : List SharedEntry) (n : ℕ) (entry : SharedEntry) → IsLegal start history → slice_get history n ≡ Some entry → is_entry entry.call (contents_at start history n) ≡ true
legal_at start [] n entry legal at = absurd (none-some entry at)
legal_at start (first ∷ later) zero entry legal at = subst (λ (e : SharedEntry). is_entry e.call start ≡ true) (same_Some first entry at) legal.0
legal_at start (first ∷ later) (suc n) entry legal at = legal_at (shared_after first.call start) later n entry legal.2 at

pub legal_here : (start contents : Contents) (history : List SharedEntry) (n : ℕ) (entry : SharedEntry) → IsLegal start history → slice_get history n ≡ Some entry → contents ≡ contents_at start history n → is_entry entry.call contents ≡ true
legal_here start contents history n entry legal at is = subst (λ (held : Contents). is_entry entry.call held ≡ true) (sym is) (legal_at start history n entry legal at)
