-- The gate of a map's writers. Whoever closed it waits until no writer is inside, and may then replace the map's root.
use Rattle.std.specs.Prelude.{◌≡◌, ℕ, zero, suc, ◌+◌, ◌^◌, ◌<◌, Bool, true, cond, nat_lt, List, slice_index}
use Rattle.table_rule.specs.declared.begin.Begin.{Begin}
use Rattle.table_rule.specs.Layout.{gate_word, callers_of}
use Rattle.table_rule.specs.Shape.{Shape}

-- how many numbers below n pass the test
abbrev pub count_below : (ℕ → Bool) → ℕ → ℕ
count_below test zero = 0
count_below test (suc n) = cond (test n) (suc (count_below test n)) (count_below test n)

-- what a gate's word has beyond the number of writers, where it is closed
abbrev pub closed_bit : ℕ → ℕ
closed_bit closer = cond (nat_lt 0 closer) (2 ^ 32) 0

-- the gate word of a map counts its writers, and says whether the gate is closed
pub record Gated (k : Begin) (sh : Shape) (ws : List ℕ) (m : ℕ) : Type 0 where
  pub word : slice_index ws (gate_word k m) ≡ count_below (sh.inside m) (callers_of k) + closed_bit (sh.closed_by m)
  pub callers : (c : ℕ) → sh.inside m c ≡ true → c < callers_of k
  pub closers : (c : ℕ) → sh.closed_by m ≡ suc c → c < callers_of k
