-- How each event that its caller may make is answered.
use Rattle.std.proofs.Common.{◌≡◌, ℕ, zero, suc, ◌==◌, ◌-◌, ◌<◌, Bool, true, false, cond, List, [], ◌∷◌, length, Option, Some, None, refl, arith}
use Rattle.std.specs.Prelude.{nat_lt, ◌&&◌}
use Rattle.std.specs.List.{slice_get}
use Rattle.std.specs.Option.{option_map}
use Rattle.std.proofs.lemmas.Bool.{ltb-true}
use Rattle.pool_core.specs.declared.pool_event.PoolEvent.{PoolEvent}
use Rattle.pool_core.specs.declared.pool_event.PoolEvent.TheVariants.{Put, LookOwn, LookOther, LookVictim, Sweep}
use Rattle.pool_core.specs.declared.pool_event.PoolReply.{PoolReply}
use Rattle.pool_core.specs.declared.pool_event.PoolReply.TheVariants.{Kept, Dropped, Still}
use Rattle.pool_core.specs.PoolParts.{PoolPart, put_in, put_beside, take_own, take_tail, take_victim, head_of, tail_of, private_or}
use Rattle.pool_core.specs.PoolMachine.{PoolState, next, made, with_primary, with_victims, callers_of}
use Rattle.pool_core.specs.PoolLaws.{answers, answers_put, answers_look, has_part, may_make}

module _ {X : Type 0} where
  pub part_there : (parts : List (PoolPart X)) (i : ℕ) → i < length parts → (part : PoolPart X) × (slice_get parts i ≡ Some part)
  part_there [] i h = absurd (omega arith)
  part_there (part ∷ parts) zero h = (part, refl)
  part_there (part ∷ parts) (suc i) h = part_there parts i (omega arith)

  pub put_answer : (private : Option X) (part : PoolPart X) (item : X) → answers_put (put_beside private part item).1 ≡ true
  put_answer None part item = refl
  put_answer (Some held) part item = by_test (nat_lt (length part.shared) part.room) where
    by_test : (b : Bool) → answers_put (cond {A = PoolPart X × PoolReply X} b (record part { shared = item ∷ part.shared }, Kept) (part, Dropped item)).1 ≡ true
    by_test true = refl
    by_test false = refl

  pub head_answer : (shared : List X) (part : PoolPart X) → answers_look (head_of shared part).1 ≡ true
  head_answer [] part = refl
  head_answer (item ∷ rest) part = refl

  tail_answer : (tail : Option X) (part : PoolPart X) → answers_look (tail_of tail part).1 ≡ true
  tail_answer (Some item) part = refl
  tail_answer None part = refl

  pub take_tail_answer : (part : PoolPart X) → answers_look (take_tail part).1 ≡ true
  take_tail_answer part = tail_answer (slice_get part.shared (length part.shared - 1)) part

  pub private_answer : (private : Option X) (other : PoolPart X → PoolPart X × PoolReply X) (part : PoolPart X) → answers_look (other part).1 ≡ true → answers_look (private_or private other part).1 ≡ true
  private_answer (Some item) other part is = refl
  private_answer None other part is = is

  primary_answer : (test : PoolReply X → Bool) (change : PoolPart X → PoolPart X × PoolReply X) (s : PoolState X) (at : ℕ) (o : Option (PoolPart X)) (part : PoolPart X)
      → o ≡ Some part → ((p : PoolPart X) → test (change p).1 ≡ true) → test (with_primary (option_map change o) s at).1 ≡ true
  primary_answer test change s at (Some found) part is each = each found
  primary_answer test change s at None part is each = cc

  victims_answer : (test : PoolReply X → Bool) (change : PoolPart X → PoolPart X × PoolReply X) (s : PoolState X) (at : ℕ) (o : Option (PoolPart X)) (part : PoolPart X)
      → o ≡ Some part → ((p : PoolPart X) → test (change p).1 ≡ true) → test (with_victims (option_map change o) s at).1 ≡ true
  victims_answer test change s at (Some found) part is each = each found
  victims_answer test change s at None part is each = cc

  pub victim_answer : (b : Bool) (p : PoolPart X) → answers_look ((cond {A = PoolPart X → PoolPart X × PoolReply X} b take_victim take_tail) p).1 ≡ true
  victim_answer true p = private_answer p.private take_tail p (take_tail_answer p)
  victim_answer false p = take_tail_answer p

  made_answer : (s : PoolState X) (c : ℕ) (event : PoolEvent X) → c < length s.primary → has_part s event ≡ true → answers event (made s c event).1 ≡ true
  made_answer s c (Put item) below has =
      let there = part_there s.primary c below in
      primary_answer answers_put (λ p. put_in p item) s c (slice_get s.primary c) there.0 there.1 (λ p. put_answer p.private p item)
  made_answer s c LookOwn below has =
      let there = part_there s.primary c below in
      primary_answer answers_look take_own s c (slice_get s.primary c) there.0 there.1 (λ p. private_answer p.private (λ q. head_of q.shared q) p (head_answer p.shared p))
  made_answer s c (LookOther part) below has =
      let there = part_there s.primary part (ltb-true part (length s.primary) has) in
      primary_answer answers_look take_tail s part (slice_get s.primary part) there.0 there.1 take_tail_answer
  made_answer s c (LookVictim part) below has =
      let there = part_there s.victims part (ltb-true part (length s.victims) has) in
      victims_answer answers_look (cond {A = PoolPart X → PoolPart X × PoolReply X} (part == c) take_victim take_tail) s part (slice_get s.victims part) there.0 there.1 (victim_answer (part == c))
  made_answer s c Sweep below has = refl

  pub answers-made : (s : PoolState X) (c : ℕ) (event : PoolEvent X) → may_make s c event ≡ true → answers event (next s c event).1 ≡ true
  answers-made s c event = by_test (nat_lt c (callers_of s)) (ltb-true c (length s.primary)) where
    by_test : (b : Bool) → (b ≡ true → c < length s.primary) → (b && has_part s event) ≡ true → answers event (cond b (made s c event) (s, Still)).1 ≡ true
    by_test true below has = made_answer s c event (below refl) has
    by_test false below has = cc
