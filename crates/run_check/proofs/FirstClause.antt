-- That a text comes to one verdict.
use Rattle.std.proofs.Common.{◌≡◌, ⊎_elim, ℕ, zero, suc, ◌+◌, ◌<◌, ◌≤◌, refl, sym, ap, ◌∙◌, subst, arith}
use Rattle.std.proofs.Common.{◌⊎◌, inl, inr}
use Rattle.record_clauses.specs.declared.clause.Clause.{Clause}
use Rattle.record_clauses.specs.declared.clause.Clause.TheVariants.{Spell, Legal, Front, Range, Machine, Edge, End, Stop, Report}
use Rattle.record_clauses.specs.declared.clause.Verdict.{Verdict}
use Rattle.record_clauses.specs.declared.clause.Verdict.TheVariants.{Yes, No}
use Rattle.record_clauses.specs.Verdicts.{place_of}
use Rattle.record_text.specs.Told.{Told}
use Rattle.run_check.specs.Tells.{Before, ComesTo, UpTo}

abbrev clause_at : ℕ → Clause
clause_at zero = Spell
clause_at (suc zero) = Legal
clause_at (suc (suc zero)) = Front
clause_at (suc (suc (suc zero))) = Range
clause_at (suc (suc (suc (suc zero)))) = Machine
clause_at (suc (suc (suc (suc (suc zero))))) = Edge
clause_at (suc (suc (suc (suc (suc (suc zero)))))) = End
clause_at (suc (suc (suc (suc (suc (suc (suc zero))))))) = Stop
clause_at (suc (suc (suc (suc (suc (suc (suc (suc n)))))))) = Report

at_place : (c : Clause) → clause_at (place_of c) ≡ c
at_place Spell = refl
at_place Legal = refl
at_place Front = refl
at_place Range = refl
at_place Machine = refl
at_place Edge = refl
at_place End = refl
at_place Stop = refl
at_place Report = refl

pub same_place : (c d : Clause) → place_of c ≡ place_of d → c ≡ d
same_place c d same = sym (at_place c) ∙ ap clause_at same ∙ at_place d

pub up_to_last : (c : Clause) → place_of c ≤ 8
up_to_last Spell = omega arith
up_to_last Legal = omega arith
up_to_last Front = omega arith
up_to_last Range = omega arith
up_to_last Machine = omega arith
up_to_last Edge = omega arith
up_to_last End = omega arith
up_to_last Stop = omega arith
up_to_last Report = omega arith

compared : (m n : ℕ) → (m < n) ⊎ ((m ≡ n) ⊎ (n < m))
compared zero zero = inr (inl refl)
compared zero (suc n) = inl (omega arith)
compared (suc m) zero = inr (inr (omega arith))
compared (suc m) (suc n) = ⊎_elim (λ less. inl (omega (arith, less))) (⊎_elim (λ same. inr (inl (ap suc same))) (λ more. inr (inr (omega (arith, more))))) (compared m n)

-- the clause before one that isn't the first
earlier_than : (m : ℕ) (d : Clause) → m < place_of d → (e : Clause) × (place_of e + 1 ≡ place_of d)
earlier_than m Spell less = absurd (omega (arith, less))
earlier_than m Legal less = (Spell, refl)
earlier_than m Front less = (Legal, refl)
earlier_than m Range less = (Front, refl)
earlier_than m Machine less = (Range, refl)
earlier_than m Edge less = (Machine, refl)
earlier_than m End less = (Edge, refl)
earlier_than m Stop less = (End, refl)
earlier_than m Report less = (Stop, refl)

module _ (told : Told) where
  -- of two first clauses that fail neither comes before the other
  earlier_fails : (c d : Clause) → place_of c < place_of d → (UpTo told c → ⊥) → Before told d → ⊥
  earlier_fails c d less fails before =
      let e = earlier_than (place_of c) d less in
      let next = e.1 in
      let (claim, tells, (account, holds)) = before e.0 next in
      fails (claim, tells, (account, λ f within. holds f (omega (arith, less, next, within))))

  all_up : (c : Clause) → ComesTo told Yes → UpTo told c
  all_up c (claim, tells, (account, holds)) = (claim, tells, (account, λ e within. holds e))

  pub one_verdict : (first second : Verdict) → ComesTo told first → ComesTo told second → first ≡ second
  one_verdict Yes Yes one two = refl
  one_verdict Yes (No d) one two = absurd (two.1 (all_up d one))
  one_verdict (No c) Yes one two = absurd (one.1 (all_up c two))
  one_verdict (No c) (No d) one two = by_order (compared (place_of c) (place_of d)) where
    by_order : (place_of c < place_of d) ⊎ ((place_of c ≡ place_of d) ⊎ (place_of d < place_of c)) → No c ≡ No d
    by_order (inl less) = absurd (earlier_fails c d less one.1 two.0)
    by_order (inr (inl same)) = ap No (same_place c d same)
    by_order (inr (inr more)) = absurd (earlier_fails d c more two.1 one.0)

  module _ (none : (verdict : Verdict) → ComesTo told verdict → ⊥) where
    -- where a clause doesn't hold together with those before it, neither do those before it
    back : (c d : Clause) → place_of d ≡ place_of c + 1 → (UpTo told d → ⊥) → UpTo told c → ⊥
    back c d next fails up = none (No d) ((λ e is. subst (λ (f : Clause). UpTo told f) (same_place c e (omega (arith, next, is))) up), fails)

    last : UpTo told Report → ⊥
    last (claim, tells, (account, holds)) = none Yes (claim, tells, (account, λ c. holds c (up_to_last c)))

    first : UpTo told Spell → ⊥
    first = back Spell Legal refl (back Legal Front refl (back Front Range refl (back Range Machine refl (back Machine Edge refl (back Edge End refl (back End Stop refl (back Stop Report refl last)))))))

    pub some_verdict : ⊥
    some_verdict = none (No Spell) ((λ e is. absurd (omega (arith, is))), first)
