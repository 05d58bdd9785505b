-- Which events are answered `Still`.
use Rattle.std.proofs.Common.{◌≡◌, ℕ, ◌==◌, Bool, true, false, cond, length, Option, refl, sym, ap, ◌∙◌}
use Rattle.std.specs.Prelude.{nat_lt, ◌&&◌}
use Rattle.std.specs.Option.{option_map}
use Rattle.std.proofs.lemmas.Bool.{both_ways, false≢true, ltb-false}
use Rattle.std.proofs.lemmas.Option.{slice_get_past}
use Rattle.pool_core.specs.declared.pool_event.PoolEvent.{PoolEvent}
use Rattle.pool_core.specs.declared.pool_event.PoolEvent.TheVariants.{Put, LookOwn, LookOther, LookVictim, Sweep}
use Rattle.pool_core.specs.declared.pool_event.PoolReply.{PoolReply}
use Rattle.pool_core.specs.declared.pool_event.PoolReply.TheVariants.{Still}
use Rattle.pool_core.specs.PoolParts.{PoolPart, take_tail, take_victim}
use Rattle.pool_core.specs.PoolMachine.{PoolState, next, made, with_primary, with_victims, callers_of}
use Rattle.pool_core.specs.PoolLaws.{answers, has_part, may_make}
use Rattle.pool_core.proofs.PoolAnswers.{answers-made}

module _ {X : Type 0} where
  -- no event that is made is answered so
  no_answer : (event : PoolEvent X) → answers event Still ≡ false
  no_answer (Put item) = refl
  no_answer LookOwn = refl
  no_answer (LookOther part) = refl
  no_answer (LookVictim part) = refl
  no_answer Sweep = refl

  pub pool-made : (s : PoolState X) (c : ℕ) (event : PoolEvent X) → may_make s c event ≡ true → (next s c event).1 ≡ Still → ⊥
  pool-made s c event may is = both_ways (answers event (next s c event).1) (ap (answers event) is ∙ no_answer event) (answers-made s c event may)

  no_part : (s : PoolState X) (c : ℕ) (event : PoolEvent X) → has_part s event ≡ false → made s c event ≡ (s, Still)
  no_part s c (Put item) has = absurd (false≢true (sym has))
  no_part s c LookOwn has = absurd (false≢true (sym has))
  no_part s c (LookOther part) has =
      ap (λ (o : Option (PoolPart X)). with_primary (option_map take_tail o) s part) (slice_get_past s.primary part (ltb-false part (length s.primary) has))
  no_part s c (LookVictim part) has =
      ap (λ (o : Option (PoolPart X)). with_victims (option_map (cond {A = PoolPart X → PoolPart X × PoolReply X} (part == c) take_victim take_tail) o) s part)
      (slice_get_past s.victims part (ltb-false part (length s.victims) has))
  no_part s c Sweep has = absurd (false≢true (sym has))

  pub pool-unmade : (s : PoolState X) (c : ℕ) (event : PoolEvent X) → may_make s c event ≡ false → next s c event ≡ (s, Still)
  pool-unmade s c event = by_test (nat_lt c (callers_of s)) where
    by_test : (b : Bool) → (b && has_part s event) ≡ false → cond b (made s c event) (s, Still) ≡ (s, Still)
    by_test true has = no_part s c event has
    by_test false has = refl
