-- The pool does not look at its items: to change each item of a pool by a function, and each item that is put, changes what
-- comes of it in the same way.
use Rattle.std.proofs.Common.{◌≡◌, ℕ, zero, suc, ◌==◌, ◌-◌, Bool, true, false, cond, List, [], ◌∷◌, length, set, take, map, replicate, Option, Some, None, refl, sym, ap, ◌∙◌}
use Rattle.std.specs.Prelude.{nat_lt}
use Rattle.std.specs.List.{slice_get}
use Rattle.std.specs.Option.{option_map}
use Rattle.std.proofs.lemmas.List.{length-map, map-set, take-map}
use Rattle.std.proofs.lemmas.Option.{slice_get-map}
use Rattle.pool_core.specs.declared.pool_event.PoolEvent.{PoolEvent}
use Rattle.pool_core.specs.declared.pool_event.PoolEvent.TheVariants.{Put, LookOwn, LookOther, LookVictim, Sweep}
use Rattle.pool_core.specs.declared.pool_event.PoolReply.{PoolReply}
use Rattle.pool_core.specs.declared.pool_event.PoolReply.TheVariants.{Kept, Dropped, Item, Nothing, Swept, Still}
use Rattle.pool_core.specs.PoolParts.{PoolPart, empty, emptied, put_in, put_beside, take_own, take_tail, take_victim, head_of, tail_of, private_or}
use Rattle.pool_core.specs.PoolMachine.{PoolState, start, next, made, with_primary, with_victims, callers_of}

module _ {X Y : Type 0} (f : X → Y) where
  abbrev pub map_part : PoolPart X → PoolPart Y
  map_part part = record { room = part.room; private = option_map f part.private; shared = map f part.shared }

  abbrev pub map_state : PoolState X → PoolState Y
  map_state s = record { primary = map map_part s.primary; victims = map map_part s.victims }

  abbrev pub map_event : PoolEvent X → PoolEvent Y
  map_event (Put item) = Put (f item)
  map_event LookOwn = LookOwn
  map_event (LookOther part) = LookOther part
  map_event (LookVictim part) = LookVictim part
  map_event Sweep = Sweep

  abbrev pub map_reply : PoolReply X → PoolReply Y
  map_reply Kept = Kept
  map_reply (Dropped item) = Dropped (f item)
  map_reply (Item item) = Item (f item)
  map_reply Nothing = Nothing
  map_reply Swept = Swept
  map_reply Still = Still

  abbrev map_changed : PoolPart X × PoolReply X → PoolPart Y × PoolReply Y
  map_changed r = (map_part r.0, map_reply r.1)

  abbrev pub map_result : PoolState X × PoolReply X → PoolState Y × PoolReply Y
  map_result r = (map_state r.0, map_reply r.1)

  put_room : (b : Bool) (part : PoolPart X) (item : X)
      → map_changed (cond {A = PoolPart X × PoolReply X} b (record part { shared = item ∷ part.shared }, Kept) (part, Dropped item))
      ≡ cond {A = PoolPart Y × PoolReply Y} b (record (map_part part) { shared = f item ∷ map f part.shared }, Kept) (map_part part, Dropped (f item))
  put_room true part item = refl
  put_room false part item = refl

  put_maps : (private : Option X) (part : PoolPart X) (item : X) → map_changed (put_beside private part item) ≡ put_beside (option_map f private) (map_part part) (f item)
  put_maps None part item = refl
  put_maps (Some held) part item =
      put_room (nat_lt (length part.shared) part.room) part item
      ∙ ap (λ (n : ℕ). cond {A = PoolPart Y × PoolReply Y} (nat_lt n part.room) (record (map_part part) { shared = f item ∷ map f part.shared }, Kept) (map_part part, Dropped (f item)))
      (sym (length-map part.shared f))

  head_maps : (shared : List X) (part : PoolPart X) → map_changed (head_of shared part) ≡ head_of (map f shared) (map_part part)
  head_maps (item ∷ rest) part = refl
  head_maps [] part = refl

  tail_maps : (tail : Option X) (part : PoolPart X) → map_changed (tail_of tail part) ≡ tail_of (option_map f tail) (map_part part)
  tail_maps (Some item) part =
      ap (λ (xs : List Y). (record (map_part part) { shared = xs }, Item (f item)))
      (sym (take-map f (length part.shared - 1) part.shared) ∙ ap (λ (n : ℕ). take (n - 1) (map f part.shared)) (sym (length-map part.shared f)))
  tail_maps None part = refl

  take_tail_maps : (part : PoolPart X) → map_changed (take_tail part) ≡ take_tail (map_part part)
  take_tail_maps part =
      tail_maps (slice_get part.shared (length part.shared - 1)) part
      ∙ ap (λ (o : Option Y). tail_of o (map_part part))
      (sym (slice_get-map f part.shared (length part.shared - 1)) ∙ ap (λ (n : ℕ). slice_get (map f part.shared) (n - 1)) (sym (length-map part.shared f)))

  private_maps : (private : Option X) (other : PoolPart X → PoolPart X × PoolReply X) (other' : PoolPart Y → PoolPart Y × PoolReply Y) (part : PoolPart X)
      → map_changed (other part) ≡ other' (map_part part) → map_changed (private_or private other part) ≡ private_or (option_map f private) other' (map_part part)
  private_maps (Some item) other other' part h = refl
  private_maps None other other' part h = h

  primary_maps : (s : PoolState X) (at : ℕ) (change : PoolPart X → PoolPart X × PoolReply X) (change' : PoolPart Y → PoolPart Y × PoolReply Y)
      → ((part : PoolPart X) → map_changed (change part) ≡ change' (map_part part)) → (o : Option (PoolPart X))
      → map_result (with_primary (option_map change o) s at) ≡ with_primary (option_map change' (option_map map_part o)) (map_state s) at
  primary_maps s at change change' h (Some part) =
      ap (λ (ps : List (PoolPart Y)). (record { primary = ps; victims = map map_part s.victims }, map_reply (change part).1)) (map-set map_part s.primary at (change part).0)
      ∙ ap (λ (r : PoolPart Y × PoolReply Y). (record { primary = set (map map_part s.primary) at r.0; victims = map map_part s.victims }, r.1)) (h part)
  primary_maps s at change change' h None = refl

  victims_maps : (s : PoolState X) (at : ℕ) (change : PoolPart X → PoolPart X × PoolReply X) (change' : PoolPart Y → PoolPart Y × PoolReply Y)
      → ((part : PoolPart X) → map_changed (change part) ≡ change' (map_part part)) → (o : Option (PoolPart X))
      → map_result (with_victims (option_map change o) s at) ≡ with_victims (option_map change' (option_map map_part o)) (map_state s) at
  victims_maps s at change change' h (Some part) =
      ap (λ (ps : List (PoolPart Y)). (record { primary = map map_part s.primary; victims = ps }, map_reply (change part).1)) (map-set map_part s.victims at (change part).0)
      ∙ ap (λ (r : PoolPart Y × PoolReply Y). (record { primary = map map_part s.primary; victims = set (map map_part s.victims) at r.0 }, r.1)) (h part)
  victims_maps s at change change' h None = refl

  -- the same, where the part is looked up
  at_primary : (s : PoolState X) (at : ℕ) (change : PoolPart X → PoolPart X × PoolReply X) (change' : PoolPart Y → PoolPart Y × PoolReply Y)
      → ((part : PoolPart X) → map_changed (change part) ≡ change' (map_part part))
      → map_result (with_primary (option_map change (slice_get s.primary at)) s at)
      ≡ with_primary (option_map change' (slice_get (map map_part s.primary) at)) (map_state s) at
  at_primary s at change change' h =
      primary_maps s at change change' h (slice_get s.primary at)
      ∙ ap (λ (o : Option (PoolPart Y)). with_primary (option_map change' o) (map_state s) at) (sym (slice_get-map map_part s.primary at))

  at_victims : (s : PoolState X) (at : ℕ) (change : PoolPart X → PoolPart X × PoolReply X) (change' : PoolPart Y → PoolPart Y × PoolReply Y)
      → ((part : PoolPart X) → map_changed (change part) ≡ change' (map_part part))
      → map_result (with_victims (option_map change (slice_get s.victims at)) s at)
      ≡ with_victims (option_map change' (slice_get (map map_part s.victims) at)) (map_state s) at
  at_victims s at change change' h =
      victims_maps s at change change' h (slice_get s.victims at)
      ∙ ap (λ (o : Option (PoolPart Y)). with_victims (option_map change' o) (map_state s) at) (sym (slice_get-map map_part s.victims at))

  emptied_maps : (parts : List (PoolPart X)) → map map_part (map emptied parts) ≡ map emptied (map map_part parts)
  emptied_maps [] = refl
  emptied_maps (part ∷ parts) = ap (λ (ps : List (PoolPart Y)). map_part (emptied part) ∷ ps) (emptied_maps parts)

  look_victim_maps : (b : Bool) (s : PoolState X) (at : ℕ)
      → map_result (with_victims (option_map (cond {A = PoolPart X → PoolPart X × PoolReply X} b take_victim take_tail) (slice_get s.victims at)) s at)
      ≡ with_victims (option_map (cond {A = PoolPart Y → PoolPart Y × PoolReply Y} b take_victim take_tail) (slice_get (map map_part s.victims) at)) (map_state s) at
  look_victim_maps true s at = at_victims s at take_victim take_victim (λ part. private_maps part.private take_tail take_tail part (take_tail_maps part))
  look_victim_maps false s at = at_victims s at take_tail take_tail take_tail_maps

  made_maps : (s : PoolState X) (d : ℕ) (event : PoolEvent X) → map_result (made s d event) ≡ made (map_state s) d (map_event event)
  made_maps s d (Put item) = at_primary s d (λ own. put_in own item) (λ own. put_in own (f item)) (λ part. put_maps part.private part item)
  made_maps s d LookOwn =
      at_primary s d take_own take_own (λ part. private_maps part.private (λ p. head_of p.shared p) (λ p. head_of p.shared p) part (head_maps part.shared part))
  made_maps s d (LookOther part) = at_primary s part take_tail take_tail take_tail_maps
  made_maps s d (LookVictim part) = look_victim_maps (part == d) s part
  made_maps s d Sweep = ap (λ (ps : List (PoolPart Y)). (record { primary = ps; victims = map map_part s.primary }, Swept)) (emptied_maps s.victims)

  maps_if : (b : Bool) (s : PoolState X) (d : ℕ) (event : PoolEvent X)
      → map_result (cond b (made s d event) (s, Still)) ≡ cond b (made (map_state s) d (map_event event)) (map_state s, Still)
  maps_if true s d event = made_maps s d event
  maps_if false s d event = refl

  -- each event
  pub next_maps : (s : PoolState X) (d : ℕ) (event : PoolEvent X) → map_result (next s d event) ≡ next (map_state s) d (map_event event)
  next_maps s d event =
      maps_if (nat_lt d (callers_of s)) s d event
      ∙ ap (λ (n : ℕ). cond (nat_lt d n) (made (map_state s) d (map_event event)) (map_state s, Still)) (sym (length-map s.primary map_part))

  map_empty : (n room : ℕ) → map map_part (replicate n (empty room)) ≡ replicate n (empty room)
  map_empty zero room = refl
  map_empty (suc n) room = ap (λ (ps : List (PoolPart Y)). empty room ∷ ps) (map_empty n room)

  pub start_maps : (callers room : ℕ) → map_state (start callers room) ≡ start callers room
  start_maps callers room = ap (λ (ps : List (PoolPart Y)). record { primary = ps; victims = ps }) (map_empty callers room)
