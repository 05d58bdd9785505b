-- A pool keeps as many parts as it has callers, each part keeps its room, and none holds more shared items.
use Rattle.std.proofs.Common.{◌≡◌, ◌⊎◌, inl, inr, ℕ, ◌==◌, ◌-◌, ◌≤◌, ◌<◌, Bool, true, false, cond, List, [], ◌∷◌, length, map, replicate, Option, Some, None, refl, sym, ap, ◌∙◌, subst, arith, length-set}
use Rattle.std.specs.Prelude.{nat_lt, ◌&&◌, is_some}
use Rattle.std.specs.List.{All, slice_get}
use Rattle.std.specs.Option.{option_map}
use Rattle.std.proofs.lemmas.Bool.{and_from, ltb-true, lt-ltb}
use Rattle.std.proofs.lemmas.Bool.Decides.{nat_tests}
use Rattle.std.proofs.lemmas.List.{length-map, length-take, length-replicate}
use Rattle.std.proofs.lemmas.List.Elements.{All-map, All-replicate, All-set, All-weaker}
use Rattle.std.proofs.lemmas.Option.{get_or_from_slice_get, slice_get_within}
use Rattle.pool_core.specs.declared.pool_event.PoolEvent.{PoolEvent}
use Rattle.pool_core.specs.declared.pool_event.PoolEvent.TheVariants.{Put, LookOwn, LookOther, LookVictim, Sweep}
use Rattle.pool_core.specs.declared.pool_event.PoolReply.{PoolReply}
use Rattle.pool_core.specs.declared.pool_event.PoolReply.TheVariants.{Kept, Dropped, Still}
use Rattle.sync_model.specs.Log.{after}
use Rattle.pool_core.specs.PoolParts.{PoolPart, empty, emptied, put_in, put_beside, take_own, take_tail, take_victim, head_of, tail_of, private_or}
use Rattle.pool_core.specs.PoolMachine.{PoolState, start, next, made, with_primary, with_victims, callers_of}
use Rattle.pool_core.specs.PoolLaws.{Log, is_full, answers, NamesPart, has_part}
use Rattle.pool_core.proofs.PoolAnswers.{part_there, answers-made}

full_or_not : (m n room : ℕ) → n ≡ room → m ≤ room → ((nat_lt m n ≡ true) × ((m == room) ≡ false)) ⊎ ((nat_lt m n ≡ false) × ((m == room) ≡ true))
full_or_not m n room same h = grind (arith, nat_tests)

module _ {X : Type 0} where
  record HasRoom (room : ℕ) (part : PoolPart X) : Type 0 where
    room_is : part.room ≡ room
    within : length part.shared ≤ room

  abbrev AllHaveRoom : ℕ → List (PoolPart X) → Type 0
  AllHaveRoom room parts = All (HasRoom room) parts

  record IsRoomy (callers room : ℕ) (s : PoolState X) : Type 0 where
    primary : AllHaveRoom room s.primary
    victims : AllHaveRoom room s.victims
    primary_parts : length s.primary ≡ callers
    victim_parts : length s.victims ≡ callers

  put_room : (room : ℕ) (private : Option X) (part : PoolPart X) (item : X) → HasRoom room part → HasRoom room (put_beside private part item).0
  put_room room None part item is = record { room_is = is.room_is; within = is.within }
  put_room room (Some held) part item is = by_test (nat_lt (length part.shared) part.room) (ltb-true (length part.shared) part.room) where
    by_test : (b : Bool) → (b ≡ true → length part.shared < part.room)
        → HasRoom room (cond {A = PoolPart X × PoolReply X} b (record part { shared = item ∷ part.shared }, Kept) (part, Dropped item)).0
    by_test true below = let b = below refl in let r = is.room_is in record { room_is = is.room_is; within = omega arith }
    by_test false below = is

  head_room : (room : ℕ) (shared : List X) (part : PoolPart X) → part.shared ≡ shared → HasRoom room part → HasRoom room (head_of shared part).0
  head_room room (item ∷ rest) part same is =
      record { room_is = is.room_is; within = (let w : length (item ∷ rest) ≤ room = (rw same at is.within) in omega arith) }
  head_room room [] part same is = is

  tail_room : (room : ℕ) (tail : Option X) (part : PoolPart X) → HasRoom room part → HasRoom room (tail_of tail part).0
  tail_room room (Some item) part is =
      let w = is.within in record { room_is = is.room_is; within = rw (length-take (length part.shared - 1) part.shared) (omega arith) }
  tail_room room None part is = is

  private_room : (room : ℕ) (private : Option X) (other : PoolPart X → PoolPart X × PoolReply X) (part : PoolPart X) → HasRoom room part → HasRoom room (other part).0
      → HasRoom room (private_or private other part).0
  private_room room (Some item) other part is rest = record { room_is = is.room_is; within = is.within }
  private_room room None other part is rest = rest

  take_tail_room : (room : ℕ) (part : PoolPart X) → HasRoom room part → HasRoom room (take_tail part).0
  take_tail_room room part is = tail_room room (slice_get part.shared (length part.shared - 1)) part is

  room_at : (room : ℕ) (parts : List (PoolPart X)) (at : ℕ) (part : PoolPart X) → AllHaveRoom room parts → slice_get parts at ≡ Some part → HasRoom room part
  room_at room parts at part all found = subst (HasRoom room) (get_or_from_slice_get parts at part part found) (all at part (slice_get_within parts at part found))

  primary_room : (callers room : ℕ) (s : PoolState X) (at : ℕ) (change : PoolPart X → PoolPart X × PoolReply X) (o : Option (PoolPart X)) → slice_get s.primary at ≡ o
      → ((part : PoolPart X) → HasRoom room part → HasRoom room (change part).0) → IsRoomy callers room s → IsRoomy callers room (with_primary (option_map change o) s at).0
  primary_room callers room s at change (Some part) found keeps is = record {
    primary = All-set (HasRoom room) s.primary at (change part).0 (keeps part (room_at room s.primary at part is.primary found)) is.primary;
    victims = is.victims;
    primary_parts = length-set s.primary at (change part).0 ∙ is.primary_parts;
    victim_parts = is.victim_parts;
  }
  primary_room callers room s at change None found keeps is = is

  victims_room : (callers room : ℕ) (s : PoolState X) (at : ℕ) (change : PoolPart X → PoolPart X × PoolReply X) (o : Option (PoolPart X)) → slice_get s.victims at ≡ o
      → ((part : PoolPart X) → HasRoom room part → HasRoom room (change part).0) → IsRoomy callers room s → IsRoomy callers room (with_victims (option_map change o) s at).0
  victims_room callers room s at change (Some part) found keeps is = record {
    primary = is.primary;
    victims = All-set (HasRoom room) s.victims at (change part).0 (keeps part (room_at room s.victims at part is.victims found)) is.victims;
    primary_parts = is.primary_parts;
    victim_parts = length-set s.victims at (change part).0 ∙ is.victim_parts;
  }
  victims_room callers room s at change None found keeps is = is

  emptied_room : (room : ℕ) (parts : List (PoolPart X)) → AllHaveRoom room parts → AllHaveRoom room (map emptied parts)
  emptied_room room parts all =
      All-map (HasRoom room) emptied parts (All-weaker (HasRoom room) (λ part. HasRoom room (emptied part)) (λ part is. record { room_is = is.room_is; within = omega arith }) parts all)

  look_victim_room : (b : Bool) (callers room : ℕ) (s : PoolState X) (at : ℕ) → IsRoomy callers room s
      → IsRoomy callers room (with_victims (option_map (cond {A = PoolPart X → PoolPart X × PoolReply X} b take_victim take_tail) (slice_get s.victims at)) s at).0
  look_victim_room true callers room s at is =
      victims_room callers room s at take_victim (slice_get s.victims at) refl (λ part h. private_room room part.private take_tail part h (take_tail_room room part h)) is
  look_victim_room false callers room s at is = victims_room callers room s at take_tail (slice_get s.victims at) refl (take_tail_room room) is

  made_room : (callers room : ℕ) (s : PoolState X) (d : ℕ) (event : PoolEvent X) → IsRoomy callers room s → IsRoomy callers room (made s d event).0
  made_room callers room s d (Put item) is =
      primary_room callers room s d (λ own. put_in own item) (slice_get s.primary d) refl (λ part h. put_room room part.private part item h) is
  made_room callers room s d LookOwn is =
      primary_room callers room s d take_own (slice_get s.primary d) refl
      (λ part h. private_room room part.private (λ p. head_of p.shared p) part h (head_room room part.shared part refl h)) is
  made_room callers room s d (LookOther part) is = primary_room callers room s part take_tail (slice_get s.primary part) refl (take_tail_room room) is
  made_room callers room s d (LookVictim part) is = look_victim_room (part == d) callers room s part is
  made_room callers room s d Sweep is = record {
    primary = emptied_room room s.victims is.victims;
    victims = is.primary;
    primary_parts = length-map s.victims emptied ∙ is.victim_parts;
    victim_parts = is.primary_parts;
  }

  room_if : (b : Bool) (callers room : ℕ) (s : PoolState X) (d : ℕ) (event : PoolEvent X) → IsRoomy callers room s
      → IsRoomy callers room (cond b (made s d event) (s, Still)).0
  room_if true callers room s d event is = made_room callers room s d event is
  room_if false callers room s d event is = is

  room_after : (callers room : ℕ) (s : PoolState X) (log : Log X) → IsRoomy callers room s → IsRoomy callers room (after next s log)
  room_after callers room s [] is = is
  room_after callers room s (e ∷ log) is =
      let s' : PoolState X = (next s e.caller e.event).0 in
      room_after callers room s' log (room_if (nat_lt e.caller (callers_of s)) callers room s e.caller e.event is)

  start_room : (callers room : ℕ) → AllHaveRoom room (replicate callers (empty room))
  start_room callers room = All-replicate (HasRoom room) callers (empty room) (record { room_is = refl; within = omega arith })

  start_roomy : (callers room : ℕ) → IsRoomy callers room (start callers room)
  start_roomy callers room = record {
    primary = start_room callers room;
    victims = start_room callers room;
    primary_parts = length-replicate callers (empty room);
    victim_parts = length-replicate callers (empty room);
  }

  -- a put is dropped where there is no room
  put_reply : (room : ℕ) (private : Option X) (own : PoolPart X) (item : X) → own.private ≡ private → HasRoom room own
      → (put_beside private own item).1 ≡ cond (is_full room own) (Dropped item) Kept
  put_reply room None own item same is = rw same refl
  put_reply room (Some held) own item same is =
      by_tests (nat_lt (length own.shared) own.room) (length own.shared == room) (full_or_not (length own.shared) own.room room is.room_is is.within)
      ∙ ap (λ (p : Option X). cond (is_some p && (length own.shared == room)) (Dropped item) Kept) (sym same) where
        by_tests : (b c : Bool) → ((b ≡ true) × (c ≡ false)) ⊎ ((b ≡ false) × (c ≡ true))
            → (cond {A = PoolPart X × PoolReply X} b (record own { shared = item ∷ own.shared }, Kept) (own, Dropped item)).1 ≡ cond c (Dropped item) Kept
        by_tests true false h = refl
        by_tests false true h = refl
        by_tests true true (inl h) = let g = h.1 in cc
        by_tests true true (inr h) = let g = h.0 in cc
        by_tests false false (inl h) = let g = h.0 in cc
        by_tests false false (inr h) = let g = h.1 in cc

  put_at_part : (b : Bool) (s : PoolState X) (caller : ℕ) (item : X) (o : Option (PoolPart X)) (own : PoolPart X) → b ≡ true → o ≡ Some own
      → (cond b (with_primary (option_map (λ p. put_in p item) o) s caller) (s, Still)).1 ≡ (put_in own item).1
  put_at_part true s caller item (Some part) own h is = let same : part ≡ own = cc in ap (λ (p : PoolPart X). (put_in p item).1) same
  put_at_part true s caller item None own h is = cc
  put_at_part false s caller item o own h is = cc

  -- after any events from the start on
  pub drops_where_full : (callers room : ℕ) (before : Log X) (caller : ℕ) (item : X) (reply : PoolReply X) → caller < callers
      → reply ≡ (next (after next (start callers room) before) caller (Put item)).1
      → (own : PoolPart X) × (slice_get (after next (start callers room) before).primary caller ≡ Some own) × (reply ≡ cond (is_full room own) (Dropped item) Kept)
  drops_where_full callers room before caller item reply below answered =
      let s : PoolState X = after next (start callers room) before in
      let is : IsRoomy callers room s = room_after callers room (start callers room) before (start_roomy callers room) in
      let parts : length s.primary ≡ callers = is.primary_parts in
      let there : (part : PoolPart X) × (slice_get s.primary caller ≡ Some part) = part_there s.primary caller (omega arith) in (
        there.0,
        there.1,
        answered
            ∙ put_at_part (nat_lt caller (length s.primary)) s caller item (slice_get s.primary caller) there.0 (lt-ltb caller (length s.primary) (omega arith)) there.1
            ∙ put_reply room there.0.private there.0 item refl (room_at room s.primary caller there.0 is.primary there.1),
      )

  has_named : (callers : ℕ) (s : PoolState X) (event : PoolEvent X) → length s.primary ≡ callers → length s.victims ≡ callers → NamesPart callers event → has_part s event ≡ true
  has_named callers s (Put item) primary victims names = refl
  has_named callers s LookOwn primary victims names = refl
  has_named callers s (LookOther part) primary victims names = lt-ltb part (length s.primary) (omega (arith, names, primary))
  has_named callers s (LookVictim part) primary victims names = lt-ltb part (length s.victims) (omega (arith, names, victims))
  has_named callers s Sweep primary victims names = refl

  pub knows-answers : (callers room : ℕ) (log : Log X) (c : ℕ) (event : PoolEvent X) → c < callers → NamesPart callers event → answers event (next (after next (start callers room) log) c event).1 ≡ true
  knows-answers callers room log c event below names =
      let s : PoolState X = after next (start callers room) log in
      let is : IsRoomy callers room s = room_after callers room (start callers room) log (start_roomy callers room) in
      let parts : length s.primary ≡ callers = is.primary_parts in
      answers-made s c event
      (and_from (nat_lt c (callers_of s)) (has_part s event) (lt-ltb c (length s.primary) (omega arith)) (has_named callers s event parts is.victim_parts names))
