-- The looks of a get go to each place.
use Rattle.std.proofs.Common.{◌≡◌, ◌≢◌, ◌⊎◌, inl, inr, ℕ, zero, suc, ◌+◌, ◌-◌, ◌*◌, ◌<◌, ◌≤◌, refl, ap, ◌∙◌, arith}
use Rattle.std.specs.Prelude.{◌%◌}
use Rattle.std.proofs.lemmas.Bool.{lt-ltb, le-ltb}
use Rattle.std.proofs.lemmas.Bool.Decides.{nat_tests}
use Rattle.std.proofs.lemmas.Nat.{mod-mul-add}
use Rattle.pool_core.specs.declared.pool_event.PoolEvent.TheVariants.{LookOther, LookVictim}
use Rattle.pool_core.specs.Looks.{look}

look_other : (n c k : ℕ) → 0 < k → k < n → look n c k ≡ LookOther ((c + k) % n)
look_other n c zero above below = absurd (omega (arith, above))
look_other n c (suc k) above below = rw (lt-ltb (suc k) n below) refl

look_victim : (n c k : ℕ) → 0 < k → n ≤ k → look n c k ≡ LookVictim ((c + k) % n)
look_victim n c zero above beyond = absurd (omega (arith, above))
look_victim n c (suc k) above beyond = rw (le-ltb (suc k) n beyond) refl

-- a number that is so many rounds and a part on names that part
names : (rounds n part at : ℕ) → part < n → at ≡ rounds * n + part → at % n ≡ part
names rounds n part at below is = ap (λ (k : ℕ). k % n) is ∙ mod-mul-add rounds n part below

before_or_on : (part c : ℕ) → (part < c) ⊎ (c ≤ part)
before_or_on part c = grind (arith, nat_tests)

pub looks-at_others : (n c part : ℕ) → c < n → part < n → part ≢ c → (k : ℕ) × (k < n) × (look n c k ≡ LookOther part)
looks-at_others n c part caller below other = by_side (before_or_on part c) where
  by_side : (part < c) ⊎ (c ≤ part) → (k : ℕ) × (k < n) × (look n c k ≡ LookOther part)
  by_side (inl before) =
      let k : ℕ = part + n - c in
      (k, omega (arith, before, caller), look_other n c k (omega (arith, caller)) (omega (arith, before, caller)) ∙ ap LookOther (names 1 n part (c + k) below (omega (arith, caller))))
  by_side (inr after) =
      let k : ℕ = part - c in
      (k, omega (arith, below), look_other n c k (omega (arith, after, other)) (omega (arith, below)) ∙ ap LookOther (names 0 n part (c + k) below (omega (arith, after))))

pub looks-at_victims : (n c part : ℕ) → c < n → part < n → (k : ℕ) × (n ≤ k) × (k < 2 * n) × (look n c k ≡ LookVictim part)
looks-at_victims n c part caller below = by_side (before_or_on part c) where
  by_side : (part < c) ⊎ (c ≤ part) → (k : ℕ) × (n ≤ k) × (k < 2 * n) × (look n c k ≡ LookVictim part)
  by_side (inl before) =
      let k : ℕ = n + (part + n - c) in
      (k, omega arith, omega (arith, before, caller), look_victim n c k (omega (arith, caller)) (omega arith) ∙ ap LookVictim (names 2 n part (c + k) below (omega (arith, caller))))
  by_side (inr after) =
      let k : ℕ = n + (part - c) in
      (k, omega arith, omega (arith, below), look_victim n c k (omega (arith, caller)) (omega arith) ∙ ap LookVictim (names 1 n part (c + k) below (omega (arith, after))))
