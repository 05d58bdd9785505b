-- A front as counts of 64 workers, and what the edge law asks of the entries of rows.
use Rattle.std.proofs.Common.{◌≡◌, ◌⊎◌, inl, inr, ℕ, ◌+◌, ◌<◌, ◌≤◌, List, length, set, get_or, replicate, refl, sym, ◌∙◌, subst, arith}
use Rattle.std.proofs.Math.Nat.{eq-or-lt_of_le}
use Rattle.std.proofs.lemmas.Bool.Decides.{leb_tells}
use Rattle.std.proofs.lemmas.List.{get_or-set_same, get_or-set_other, length-set, get_or_past}
use Rattle.object_checks.proofs.RowLemmas.{all_one}

-- the first n counts of the front are copied
pub record Copies (front counts : List ℕ) (n : ℕ) : Type 0 where
  pub size : length counts ≡ 64
  pub below : (c : ℕ) → c < n → get_or counts c 0 ≡ get_or front c 0
  pub above : (c : ℕ) → n ≤ c → get_or counts c 0 ≡ 0

pub no_copies : (front : List ℕ) → Copies front (replicate 64 0) 0
no_copies front = record { size = refl; below = λ c before. absurd (omega (arith, before)); above = λ c past. all_one 64 c 0 }

pub copies_more : (front counts : List ℕ) (n x : ℕ) → n < 64 → get_or front n 0 ≡ x → Copies front counts n → Copies front (set counts n x) (n + 1)
copies_more front counts n x few is copies = record {
  size = length-set counts n x ∙ copies.size;
  below = λ c before. below c (eq-or-lt_of_le {n = c} {m = n} (omega (arith, before)));
  above = λ c past. get_or-set_other counts n c x 0 (λ same. absurd (omega (arith, past, same))) ∙ copies.above c (omega (arith, past));
} where
  below : (c : ℕ) → (c ≡ n) ⊎ (c < n) → get_or (set counts n x) c 0 ≡ get_or front c 0
  below c (inl same) = subst (λ m. get_or (set counts n x) m 0 ≡ get_or front m 0) (sym same) (get_or-set_same counts n x 0 (let size = copies.size in omega (arith, few, size)) ∙ sym is)
  below c (inr before) = get_or-set_other counts n c x 0 (λ same. absurd (omega (arith, before, same))) ∙ copies.below c before

pub copies_all : (front counts : List ℕ) (n : ℕ) → length front ≤ n → Copies front counts n → (c : ℕ) → get_or front c 0 ≡ get_or counts c 0
copies_all front counts n all copies c = elim (leb_tells n c) [
  | inl past ↦ (let beyond = past.1 in get_or_past front c 0 (omega (arith, all, beyond)) ∙ sym (copies.above c beyond))
  | inr before ↦ sym (copies.below c before.1)
]
