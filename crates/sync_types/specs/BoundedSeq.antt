-- Lists in memory that was taken before.
use Rattle.std.specs.Prelude.{ℕ, List, refl}
use Rattle.std.specs.Coded.{Coded, code_by, coded×, coded_ℕ, coded_list}

-- the items, and how many there may be
pub record Bounded (T : Type 0) : Type 0 where
  pub items : List T
  pub room : ℕ

-- it is stored as the pair of its fields
abbrev pub bounded_code : {T : Type 0} → Coded T → Coded (Bounded T)
bounded_code {T} item = code_by (List T × ℕ) (coded× (coded_list item) coded_ℕ) (λ b. (b.items, b.room)) (λ p. record { items = p.0; room = p.1 }) (λ _. refl)
