-- What an event of a pool does at each part.
use Rattle.std.proofs.Common.{◌≡◌, ◌≢◌, ℕ, zero, suc, ◌==◌, ◌<◌, Bool, true, false, cond, List, [], ◌∷◌, set, Option, Some, None, refl, sym, ap, ◌∙◌, subst}
use Rattle.std.specs.Prelude.{nat_lt}
use Rattle.std.specs.List.{slice_get}
use Rattle.std.specs.Option.{option_map}
use Rattle.std.proofs.lemmas.Bool.{lt-ltb}
use Rattle.std.proofs.lemmas.Option.{slice_get-map}
use Rattle.pool_core.specs.declared.pool_event.PoolEvent.{PoolEvent}
use Rattle.pool_core.specs.declared.pool_event.PoolEvent.TheVariants.{Put, LookOwn, LookOther, LookVictim, Sweep}
use Rattle.pool_core.specs.declared.pool_event.PoolReply.{PoolReply}
use Rattle.pool_core.specs.declared.pool_event.PoolReply.TheVariants.{Still}
use Rattle.pool_core.specs.PoolParts.{PoolPart, emptied, put_in, take_own, take_tail, take_victim}
use Rattle.pool_core.specs.PoolMachine.{PoolState, next, made, with_primary, with_victims, callers_of}
use Rattle.pool_core.specs.PartMachine.{PartState, part_next, in_primary, in_victims}
use Rattle.pool_core.specs.PartLaws.{about, HasPart}

module _ {A : Type 0} where
  get_set : (xs : List A) (i : ℕ) (x y : A) → slice_get xs i ≡ Some x → slice_get (set xs i y) i ≡ Some y
  get_set [] i x y is = cc
  get_set (z ∷ xs) zero x y is = refl
  get_set (z ∷ xs) (suc i) x y is = get_set xs i x y is

  get_other : (xs : List A) (i j : ℕ) (y : A) → j ≢ i → slice_get (set xs i y) j ≡ slice_get xs j
  get_other [] i j y ne = refl
  get_other (z ∷ xs) zero zero y ne = absurd (ne refl)
  get_other (z ∷ xs) zero (suc j) y ne = refl
  get_other (z ∷ xs) (suc i) zero y ne = refl
  get_other (z ∷ xs) (suc i) (suc j) y ne = get_other xs i j y (λ same. ne (ap suc same))

module _ {X : Type 0} where
  -- the pool's step is the part's, and leaves the part's state at its place
  abbrev Agrees : ℕ → PoolState X × PoolReply X → PartState X × PoolReply X → Type 0
  Agrees part whole own = (whole.1 ≡ own.1) × HasPart whole.0 part own.0

  primary_agrees : (change : PoolPart X → PoolPart X × PoolReply X) (pool : PoolState X) (part : ℕ) (own : PartState X) (o : Option (PoolPart X)) → o ≡ Some own.primary → HasPart pool part own → Agrees part (with_primary (option_map change o) pool part) (in_primary (change own.primary) own)
  primary_agrees change pool part own None is has = cc
  primary_agrees change pool part own (Some found) is has =
      let same : found ≡ own.primary = cc in
      subst (λ (p : PoolPart X). Agrees part (with_primary (Some (change p)) pool part) (in_primary (change own.primary) own)) (sym same) (refl, (get_set pool.primary part own.primary (change own.primary).0 has.0, has.1))

  victims_agree : (change : PoolPart X → PoolPart X × PoolReply X) (pool : PoolState X) (part : ℕ) (own : PartState X) (o : Option (PoolPart X)) → o ≡ Some own.victims → HasPart pool part own → Agrees part (with_victims (option_map change o) pool part) (in_victims (change own.victims) own)
  victims_agree change pool part own None is has = cc
  victims_agree change pool part own (Some found) is has =
      let same : found ≡ own.victims = cc in
      subst (λ (p : PoolPart X). Agrees part (with_victims (Some (change p)) pool part) (in_victims (change own.victims) own)) (sym same) (refl, (has.0, get_set pool.victims part own.victims (change own.victims).0 has.1))

  made_agrees : (pool : PoolState X) (caller part : ℕ) (event : PoolEvent X) (own : PartState X) → about caller event ≡ Some part → HasPart pool part own → Agrees part (made pool caller event) (part_next own caller event)
  made_agrees pool caller part (Put item) own is has =
      let same : part ≡ caller = cc in
      subst (λ (p : ℕ). HasPart pool p own → Agrees p (made pool caller (Put item)) (part_next own caller (Put item))) (sym same) (λ here. primary_agrees (λ p. put_in p item) pool caller own (slice_get pool.primary caller) here.0 here) has
  made_agrees pool caller part LookOwn own is has =
      let same : part ≡ caller = cc in
      subst (λ (p : ℕ). HasPart pool p own → Agrees p (made pool caller LookOwn) (part_next own caller LookOwn)) (sym same) (λ here. primary_agrees take_own pool caller own (slice_get pool.primary caller) here.0 here) has
  made_agrees pool caller part (LookOther at) own is has =
      let same : part ≡ at = cc in
      subst (λ (p : ℕ). HasPart pool p own → Agrees p (made pool caller (LookOther at)) (part_next own caller (LookOther at))) (sym same) (λ here. primary_agrees take_tail pool at own (slice_get pool.primary at) here.0 here) has
  made_agrees pool caller part (LookVictim at) own is has =
      let same : part ≡ at = cc in
      subst (λ (p : ℕ). HasPart pool p own → Agrees p (made pool caller (LookVictim at)) (part_next own caller (LookVictim at))) (sym same)
      (λ here. victims_agree (cond {A = PoolPart X → PoolPart X × PoolReply X} (at == caller) take_victim take_tail) pool at own (slice_get pool.victims at) here.1 here) has
  made_agrees pool caller part Sweep own is has = cc

  within : (pool : PoolState X) (caller : ℕ) (event : PoolEvent X) → caller < callers_of pool → next pool caller event ≡ made pool caller event
  within pool caller event below = ap (λ (b : Bool). cond b (made pool caller event) (pool, Still)) (lt-ltb caller (callers_of pool) below)

  pub one_part : (pool : PoolState X) (caller part : ℕ) (event : PoolEvent X) (own : PartState X) → caller < callers_of pool → about caller event ≡ Some part → HasPart pool part own → Agrees part (next pool caller event) (part_next own caller event)
  one_part pool caller part event own below is has =
      subst (λ (z : PoolState X × PoolReply X). Agrees part z (part_next own caller event)) (sym (within pool caller event below)) (made_agrees pool caller part event own is has)

  pub swept_part : (pool : PoolState X) (caller part : ℕ) (own : PartState X) → caller < callers_of pool → HasPart pool part own → Agrees part (next pool caller Sweep) (part_next own caller Sweep)
  swept_part pool caller part own below has =
      subst (λ (z : PoolState X × PoolReply X). Agrees part z (part_next own caller Sweep)) (sym (within pool caller Sweep below))
      (refl, (slice_get-map emptied pool.victims part ∙ ap (option_map emptied) has.1, has.0))

  primary_leaves : (o : Option (PoolPart X × PoolReply X)) (pool : PoolState X) (part other : ℕ) (own : PartState X) → other ≢ part → HasPart pool other own → HasPart (with_primary o pool part).0 other own
  primary_leaves None pool part other own apart has = has
  primary_leaves (Some changed) pool part other own apart has = (get_other pool.primary part other changed.0 apart ∙ has.0, has.1)

  victims_leave : (o : Option (PoolPart X × PoolReply X)) (pool : PoolState X) (part other : ℕ) (own : PartState X) → other ≢ part → HasPart pool other own → HasPart (with_victims o pool part).0 other own
  victims_leave None pool part other own apart has = has
  victims_leave (Some changed) pool part other own apart has = (has.0, get_other pool.victims part other changed.0 apart ∙ has.1)

  made_leaves : (pool : PoolState X) (caller part other : ℕ) (event : PoolEvent X) (own : PartState X) → about caller event ≡ Some part → other ≢ part → HasPart pool other own → HasPart (made pool caller event).0 other own
  made_leaves pool caller part other (Put item) own is apart has = primary_leaves (option_map (λ p. put_in p item) (slice_get pool.primary caller)) pool caller other own (λ same. apart (cc)) has
  made_leaves pool caller part other LookOwn own is apart has = primary_leaves (option_map take_own (slice_get pool.primary caller)) pool caller other own (λ same. apart (cc)) has
  made_leaves pool caller part other (LookOther at) own is apart has = primary_leaves (option_map take_tail (slice_get pool.primary at)) pool at other own (λ same. apart (cc)) has
  made_leaves pool caller part other (LookVictim at) own is apart has =
      victims_leave (option_map (cond {A = PoolPart X → PoolPart X × PoolReply X} (at == caller) take_victim take_tail) (slice_get pool.victims at)) pool at other own (λ same. apart (cc)) has
  made_leaves pool caller part other Sweep own is apart has = cc

  pub other_parts : (pool : PoolState X) (caller part other : ℕ) (event : PoolEvent X) (own : PartState X) → about caller event ≡ Some part → other ≢ part → HasPart pool other own → HasPart (next pool caller event).0 other own
  other_parts pool caller part other event own is apart has = by_test (nat_lt caller (callers_of pool)) where
    by_test : (b : Bool) → HasPart (cond b (made pool caller event) (pool, Still)).0 other own
    by_test true = made_leaves pool caller part other event own is apart has
    by_test false = has
