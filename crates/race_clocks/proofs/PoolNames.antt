-- The machine of a pool is the same whatever its items are named.
use Rattle.std.proofs.Common.{◌≡◌, ℕ, zero, suc, ◌-◌, ◌==◌, Bool, true, false, List, [], ◌∷◌, length, replicate, Option, Some, None, slice_get, refl, sym, ap, ◌∙◌, take}
use Rattle.std.specs.Prelude.{cond, nat_lt, map, option_map}
use Rattle.std.proofs.lemmas.List.{length-map, map-set, take-map}
use Rattle.std.proofs.lemmas.Option.{slice_get-map}
use Rattle.pool_core.specs.PoolMachine.{PoolState, start, callers_of, with_primary, with_victims, made, next}
use Rattle.pool_core.specs.PoolParts.{PoolPart, empty, emptied, put_beside, put_in, head_of, tail_of, take_tail, private_or, take_own, take_victim}
use Rattle.pool_core.specs.declared.pool_event.PoolEvent.{PoolEvent}
use Rattle.pool_core.specs.declared.pool_event.PoolEvent.TheVariants.{Put, LookOwn, LookOther, LookVictim, Sweep}
use Rattle.pool_core.specs.declared.pool_event.PoolReply.{PoolReply}
use Rattle.pool_core.specs.declared.pool_event.PoolReply.TheVariants.{Kept, Dropped, Item, Nothing, Swept, Still}

module _ {X Y : Type 0} (f : X → Y) where
  abbrev pub part_with : PoolPart X → PoolPart Y
  part_with part = record { room = part.room; private = option_map f part.private; shared = map f part.shared }

  abbrev pub pool_with : PoolState X → PoolState Y
  pool_with s = record { primary = map part_with s.primary; victims = map part_with s.victims }

  abbrev pub event_with : PoolEvent X → PoolEvent Y
  event_with (Put item) = Put (f item)
  event_with LookOwn = LookOwn
  event_with (LookOther part) = LookOther part
  event_with (LookVictim part) = LookVictim part
  event_with Sweep = Sweep

  abbrev pub reply_with : PoolReply X → PoolReply Y
  reply_with Kept = Kept
  reply_with (Dropped item) = Dropped (f item)
  reply_with (Item item) = Item (f item)
  reply_with Nothing = Nothing
  reply_with Swept = Swept
  reply_with Still = Still

  abbrev of_part : PoolPart X × PoolReply X → PoolPart Y × PoolReply Y
  of_part r = (part_with r.0, reply_with r.1)

  abbrev pub of_pool : PoolState X × PoolReply X → PoolState Y × PoolReply Y
  of_pool r = (pool_with r.0, reply_with r.1)

  -- ---- a part

  putting : (o : Option X) (part : PoolPart X) (item : X) → put_beside (option_map f o) (part_with part) (f item) ≡ of_part (put_beside o part item)
  putting None part item = refl
  putting (Some private) part item = ap (λ n. by_room (nat_lt n part.room)) (length-map part.shared f) ∙ by (nat_lt (length part.shared) part.room) where
    by_room : Bool → PoolPart Y × PoolReply Y
    by_room b = cond b (record (part_with part) { shared = f item ∷ map f part.shared }, Kept) (part_with part, Dropped (f item))

    by : (b : Bool) → by_room b ≡ of_part (cond b (record part { shared = item ∷ part.shared }, Kept) (part, Dropped item))
    by true = refl
    by false = refl

  heading : (xs : List X) (part : PoolPart X) → head_of (map f xs) (part_with part) ≡ of_part (head_of xs part)
  heading [] part = refl
  heading (x ∷ xs) part = refl

  tailing_of : (o : Option X) (part : PoolPart X) → tail_of (option_map f o) (part_with part) ≡ of_part (tail_of o part)
  tailing_of None part = refl
  tailing_of (Some item) part = ap (λ (xs : List Y). let p : PoolPart Y × PoolReply Y = (record (part_with part) { shared = xs }, Item (f item)) in p)
      (ap (λ n. take (n - 1) (map f part.shared)) (length-map part.shared f) ∙ take-map f (length part.shared - 1) part.shared)

  tailing : (part : PoolPart X) → take_tail (part_with part) ≡ of_part (take_tail part)
  tailing part = ap (λ o. tail_of o (part_with part)) (ap (λ n. slice_get (map f part.shared) (n - 1)) (length-map part.shared f) ∙ slice_get-map f part.shared (length part.shared - 1)) ∙ tailing_of (slice_get part.shared (length part.shared - 1)) part

  own_of : (o : Option X) (part : PoolPart X) → private_or (option_map f o) (λ p. head_of p.shared p) (part_with part) ≡ of_part (private_or o (λ p. head_of p.shared p) part)
  own_of None part = heading part.shared part
  own_of (Some item) part = refl

  owning : (part : PoolPart X) → take_own (part_with part) ≡ of_part (take_own part)
  owning part = own_of part.private part

  victim_of : (o : Option X) (part : PoolPart X) → private_or (option_map f o) take_tail (part_with part) ≡ of_part (private_or o take_tail part)
  victim_of None part = tailing part
  victim_of (Some item) part = refl

  looking : (b : Bool) (part : PoolPart X) → (cond b take_victim take_tail) (part_with part) ≡ of_part ((cond b take_victim take_tail) part)
  looking true part = victim_of part.private part
  looking false part = tailing part

  -- ---- the pool

  module _ (g : PoolPart X → PoolPart X × PoolReply X) (h : PoolPart Y → PoolPart Y × PoolReply Y) (same : (part : PoolPart X) → h (part_with part) ≡ of_part (g part)) where
    through : (o : Option (PoolPart X)) → option_map h (option_map part_with o) ≡ option_map of_part (option_map g o)
    through None = refl
    through (Some part) = ap Some (same part)

    found : (parts : List (PoolPart X)) (n : ℕ) → option_map h (slice_get (map part_with parts) n) ≡ option_map of_part (option_map g (slice_get parts n))
    found parts n = ap (option_map h) (slice_get-map part_with parts n) ∙ through (slice_get parts n)

  in_primary : (o : Option (PoolPart X × PoolReply X)) (s : PoolState X) (part : ℕ) → with_primary (option_map of_part o) (pool_with s) part ≡ of_pool (with_primary o s part)
  in_primary None s part = refl
  in_primary (Some changed) s part = ap (λ (parts : List (PoolPart Y)). let r : PoolState Y × PoolReply Y = (record { primary = parts; victims = map part_with s.victims }, reply_with changed.1) in r) (sym (map-set part_with s.primary part changed.0))

  in_victims : (o : Option (PoolPart X × PoolReply X)) (s : PoolState X) (part : ℕ) → with_victims (option_map of_part o) (pool_with s) part ≡ of_pool (with_victims o s part)
  in_victims None s part = refl
  in_victims (Some changed) s part = ap (λ (parts : List (PoolPart Y)). let r : PoolState Y × PoolReply Y = (record { primary = map part_with s.primary; victims = parts }, reply_with changed.1) in r) (sym (map-set part_with s.victims part changed.0))

  all_emptied : (parts : List (PoolPart X)) → map emptied (map part_with parts) ≡ map part_with (map emptied parts)
  all_emptied [] = refl
  all_emptied (part ∷ parts) = ap (λ ps. empty part.room ∷ ps) (all_emptied parts)

  making : (s : PoolState X) (caller : ℕ) (event : PoolEvent X) → made (pool_with s) caller (event_with event) ≡ of_pool (made s caller event)
  making s caller (Put item) = ap (λ o. with_primary o (pool_with s) caller) (found (λ own. put_in own item) (λ own. put_in own (f item)) (λ own. putting own.private own item) s.primary caller) ∙ in_primary (option_map (λ own. put_in own item) (slice_get s.primary caller)) s caller
  making s caller LookOwn = ap (λ o. with_primary o (pool_with s) caller) (found take_own take_own owning s.primary caller) ∙ in_primary (option_map take_own (slice_get s.primary caller)) s caller
  making s caller (LookOther part) = ap (λ o. with_primary o (pool_with s) part) (found take_tail take_tail tailing s.primary part) ∙ in_primary (option_map take_tail (slice_get s.primary part)) s part
  making s caller (LookVictim part) = ap (λ o. with_victims o (pool_with s) part) (found (cond (part == caller) take_victim take_tail) (cond (part == caller) take_victim take_tail) (looking (part == caller)) s.victims part) ∙ in_victims (option_map (cond (part == caller) take_victim take_tail) (slice_get s.victims part)) s part
  making s caller Sweep = ap (λ (parts : List (PoolPart Y)). let r : PoolState Y × PoolReply Y = (record { primary = parts; victims = map part_with s.primary }, Swept) in r) (all_emptied s.victims)

  by_caller : (b : Bool) (s : PoolState X) (caller : ℕ) (event : PoolEvent X) → cond b (made (pool_with s) caller (event_with event)) (pool_with s, Still) ≡ of_pool (cond b (made s caller event) (s, Still))
  by_caller true s caller event = making s caller event
  by_caller false s caller event = refl

  pub renamed : (s : PoolState X) (caller : ℕ) (event : PoolEvent X) → next (pool_with s) caller (event_with event) ≡ of_pool (next s caller event)
  renamed s caller event = ap (λ n. cond (nat_lt caller n) (made (pool_with s) caller (event_with event)) (pool_with s, Still)) (length-map s.primary part_with) ∙ by_caller (nat_lt caller (callers_of s)) s caller event

  all_empty : (n : ℕ) (part : PoolPart X) → map part_with (replicate n part) ≡ replicate n (part_with part)
  all_empty zero part = refl
  all_empty (suc n) part = ap (λ ps. part_with part ∷ ps) (all_empty n part)

  pub started_empty : (callers room : ℕ) → pool_with (start callers room) ≡ start callers room
  started_empty callers room = ap (λ (parts : List (PoolPart Y)). let s : PoolState Y = record { primary = parts; victims = parts } in s) (all_empty callers (empty room))
